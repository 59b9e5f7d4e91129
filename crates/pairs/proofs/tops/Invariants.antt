-- `pairs::tops` meets its contract: the nodes before gate i have their tops, and what is after all nodes is zeroed.
-- Assumes nothing.
use Rattle.netlist.specs.Netlist.{slopes_of}
use Rattle.pairs.proofs.Topping.{Topping}
use Rattle.pairs.proofs.tops.Given as goal

abbrev pub invariant-loop-i : goal.invariant-loop-i
invariant-loop-i l =
    Topping l.accepted.file.now l.accepted.shape l.accepted.arrivals.now (slopes_of l.accepted.form) l.tops l.i
