-- `netlist::Layout::check_gates` meets its contract: no gate before `gate` is wrong, and `before` is the sum of their
-- pin counts. Assumes nothing.
use Rattle.netlist.specs.Open.{gate_wrong}
use Rattle.netlist.proofs.FirstWrong as First
use Rattle.netlist.proofs.Sums as Sums
use Rattle.netlist.proofs.layout.Layout.check_gates.Given as goal

abbrev pub invariant-loop-gate : goal.invariant-loop-gate
invariant-loop-gate l =
    Sums.Summing l.self.file.now l.self.shape l.before l.gate
    × First.Searching (gate_wrong l.self.file.now l.self.shape) 0 l.self.shape.gates l.gate
