-- `pairs::move_down` meets its contract: the first i places are done, and the rest is as it was. Assumes nothing.
use native.Mathlib.Omega.{arith}
use Rattle.pairs.proofs.Moving.{moving-more}
use Rattle.pairs.proofs.move_down.Goals as goal

pub loop-i-preserved : goal.loop-i-preserved
loop-i-preserved c = moving-more _ c.loop-i.invariant (omega arith)
