-- `pairs::last_ready` meets its contract: the latest so far, with what is left, is when the last pin is ready.
-- Assumes nothing.
use Rattle.netlist.specs.Netlist.{slopes_of}
use Rattle.pairs.proofs.Topping.{Readying}
use Rattle.pairs.proofs.last_ready.Given as goal

abbrev pub invariant-loop-k : goal.invariant-loop-k
invariant-loop-k l =
    Readying l.accepted.file.now l.accepted.shape (slopes_of l.accepted.form) l.number l.tops l.latest l.k
