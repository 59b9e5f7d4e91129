-- `netlist::Layout::check_pins_of` meets its contract: no pin of the gate before `pin` is wrong. Assumes nothing.
use Rattle.netlist.proofs.PinSearch as Pins
use Rattle.netlist.proofs.Tables as Tables
use Rattle.netlist.proofs.layout.Layout.check_pins_of.Goals as goal

pub returns-then-pin_wrong : goal.returns-then-pin_wrong
returns-then-pin_wrong c =
    Tables.gate-pin-refuses c.loop-pin.invariant c.loop-pin-test.true c.pin_wrong.ensures c.if-pin_wrong.true

pub loop-pin-preserved : goal.loop-pin-preserved
loop-pin-preserved c =
    Pins.gate-searching-more c.loop-pin.invariant c.loop-pin-test.true c.pin_wrong.ensures c.if-pin_wrong.false

pub returns : goal.returns
returns c = Tables.gate-pins-pass c.loop-pin.invariant c.loop-pin-test.false
