-- `pairs::time_at` meets its contract: the second of the pair's two numbers. Assumes nothing.
use Rattle.pairs.proofs.Flat.{time-here}
use Rattle.pairs.proofs.time_at.Goals as goal

pub returns : goal.returns
returns c = time-here _ _ c.requires
