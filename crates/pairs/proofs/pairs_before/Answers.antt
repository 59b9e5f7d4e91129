-- `pairs::pairs_before` meets its contract: the search by halves, whose gap falls at each turn. Assumes nothing.
use native.Mathlib.Omega.{arith}
use Rattle.pairs.proofs.Flat.{pairs-length}
use Rattle.pairs.proofs.pairs_before.Goals as goal

pub loop-low-init : goal.loop-low-init
loop-low-init c =
    (omega (arith, c.requires.1.within, pairs-length c.args.pairs.now), c.requires.1)
