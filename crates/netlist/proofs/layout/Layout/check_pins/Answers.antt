-- `netlist::Layout::check_pins` meets its contract: no pin of a gate before `gate` is wrong, and `from` is the sum of
-- their pin counts. Assumes nothing.
use Rattle.std.proofs.Common.{rules, arith}
use mathlib.Core.Path.{sym, ◌∙◌}
use Rattle.netlist.proofs.PinSearch as Pins
use Rattle.netlist.proofs.Tables as Tables
use Rattle.netlist.proofs.layout.Layout.check_pins.Goals as goal

pub loop-gate-init : goal.loop-gate-init
loop-gate-init c = Pins.pin-searching-starts _ _

pub check_pins_of-requires-clause-from_value : goal.check_pins_of-requires-clause-from_value
check_pins_of-requires-clause-from_value c =
    (search rules, Pins.pin-searching-end c.loop-gate.invariant c.loop-gate-test.true c.requires)

pub returns-in_err-check_pins_of : goal.returns-in_err-check_pins_of
returns-in_err-check_pins_of c =
    search rules
    ∙ Tables.pin-refuses c.loop-gate.invariant c.in_err-check_pins_of.field-0.0 c.loop-gate-test.true c.requires
    (sym c.check_pins_of.ensures ∙ search rules)

pub overflow_add-from : goal.overflow_add-from
overflow_add-from c =
    let within = Pins.pin-searching-end c.loop-gate.invariant c.loop-gate-test.true c.requires in
    omega arith

pub loop-gate-preserved : goal.loop-gate-preserved
loop-gate-preserved c =
    Tables.pins-more c.loop-gate.invariant c.loop-gate-test.true c.count-from.ensures.0
    (sym c.check_pins_of.ensures ∙ search rules)

pub returns : goal.returns
returns c = Tables.pins-pass c.loop-gate.invariant c.loop-gate-test.false c.requires
