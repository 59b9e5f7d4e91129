-- `netlist::Layout::check_outputs` meets its contract: no output before `position` is wrong. Assumes nothing.
use Rattle.netlist.specs.Open.{output_wrong}
use Rattle.netlist.proofs.FirstWrong as First
use Rattle.netlist.proofs.layout.Layout.check_outputs.Given as goal

abbrev pub invariant-loop-position : goal.invariant-loop-position
invariant-loop-position l =
    First.Searching (output_wrong l.self.file.now l.self.shape) 0 l.self.shape.outputs l.position
