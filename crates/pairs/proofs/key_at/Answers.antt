-- `pairs::key_at` meets its contract: the two numbers of a pair. Assumes nothing.
use Rattle.pairs.proofs.Flat.{key_here}
use Rattle.pairs.proofs.key_at.Goals as goal

pub returns : goal.returns
returns c = key_here _ _ c.requires
