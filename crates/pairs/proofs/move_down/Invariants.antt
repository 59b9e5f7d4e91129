-- `pairs::move_down` meets its contract: the first i places are done, and the rest is as it was. Assumes nothing.
use lib.ListN.{drop}
use Rattle.lent.proofs.Filling.{Filled}
use Rattle.pairs.proofs.move_down.Given as goal

abbrev pub invariant-loop-i : goal.invariant-loop-i
invariant-loop-i l = Filled (drop l.from l.initial.table) l.initial.table l.table l.i
