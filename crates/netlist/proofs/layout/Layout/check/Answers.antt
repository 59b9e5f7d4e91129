-- `netlist::Layout::check` meets its contract: each answer is that of the row that stops, the rows before it having
-- passed. Assumes nothing.
use Rattle.std.proofs.Common.{rules}
use mathlib.Core.Path.{sym, ◌∙◌}
use Rattle.netlist.proofs.TableOrder as Order
use Rattle.netlist.proofs.layout.Layout.check.Goals as goal

pub returns-in_err-check_gates : goal.returns-in_err-check_gates
returns-in_err-check_gates c =
    search rules
    ∙ Order.gates-refuse c.args.self.now.framed c.in_err-check_gates.field-0.0
    (sym c.check_gates.ensures ∙ search rules)

pub check_pins-requires : goal.check_pins-requires
check_pins-requires c = Order.sum-right _ _ (sym c.check_gates.ensures ∙ search rules)

pub returns-in_err-check_pins : goal.returns-in_err-check_pins
returns-in_err-check_pins c =
    search rules
    ∙ Order.pins-refuse c.args.self.now.framed (sym c.check_gates.ensures ∙ search rules)
    c.in_err-check_pins.field-0.0 (sym c.check_pins.ensures ∙ search rules)

pub returns-in_err-check_outputs : goal.returns-in_err-check_outputs
returns-in_err-check_outputs c =
    search rules
    ∙ Order.outputs-refuse c.args.self.now.framed (sym c.check_gates.ensures ∙ search rules)
    (sym c.check_pins.ensures ∙ search rules) c.in_err-check_outputs.field-0.0
    (sym c.check_outputs.ensures ∙ search rules)

pub returns : goal.returns
returns c =
    Order.all-pass c.args.self.now.framed (sym c.check_gates.ensures ∙ search rules)
    (sym c.check_pins.ensures ∙ search rules) (sym c.check_outputs.ensures ∙ search rules)
