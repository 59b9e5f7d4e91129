-- `netlist::Layout::check_pins` meets its contract: no pin of a gate before `gate` is wrong, and `from` is the sum of
-- their pin counts. Assumes nothing.
use Rattle.netlist.proofs.PinSearch as Pins
use Rattle.netlist.proofs.layout.Layout.check_pins.Given as goal

abbrev pub invariant-loop-gate : goal.invariant-loop-gate
invariant-loop-gate l =
    Pins.PinSearching l.self.file.now l.self.shape l.from l.gate
