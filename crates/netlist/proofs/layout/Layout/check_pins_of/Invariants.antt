-- `netlist::Layout::check_pins_of` meets its contract: no pin of the gate before `pin` is wrong. Assumes nothing.
use Rattle.netlist.proofs.PinSearch as Pins
use Rattle.netlist.proofs.layout.Layout.check_pins_of.Given as goal

abbrev pub invariant-loop-pin : goal.invariant-loop-pin
invariant-loop-pin l =
    Pins.GateSearching l.self.file.now l.self.shape l.gate l.from l.node l.end l.pin
