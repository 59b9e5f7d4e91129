-- `netlist::Layout::gate_wrong` meets its contract: the tests of row 5. Assumes nothing.
use Rattle.std.proofs.Common.{rules}
use Rattle.netlist.proofs.Rows as Rows
use Rattle.netlist.proofs.layout.Layout.gate_wrong.Goals as goal

pub returns-then-not-pins_fit : goal.returns-then-not-pins_fit
returns-then-not-pins_fit c =
    Rows.gate-pins-wrong _ _ _ (search rules) c.count-count.ensures.0
    c.pins_fit.ensures c.if-not-pins_fit.true

pub returns : goal.returns
returns c =
    Rows.gate-pins-right _ _ _ (search rules)
    c.count-count.ensures.0 c.pins_fit.ensures c.if-not-pins_fit.false c.two_bytes.ensures.value
    c.requires.1
