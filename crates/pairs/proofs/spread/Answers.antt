-- `pairs::spread` meets its contract, form by form. Assumes nothing.
use Rattle.pairs.proofs.Spreading.{spread-single}
use Rattle.pairs.proofs.spread.Goals as goal

pub returns-in-Single : goal.returns-in-Single
returns-in-Single c = rw c.in-Single.is (spread-single _ _)
