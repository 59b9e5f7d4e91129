-- `netlist::Layout::pin_wrong` meets its contract: the tests of row 6. Assumes nothing.
use Rattle.netlist.proofs.Rows as Rows
use Rattle.netlist.proofs.layout.Layout.pin_wrong.Goals as goal

pub returns-then-node-driver_at : goal.returns-then-node-driver_at
returns-then-node-driver_at c = Rows.driver-wrong _ _ _ _ c.driver_at.ensures.0 c.if-node-driver_at.true

pub returns : goal.returns
returns c =
    Rows.driver-right _ _ _ _ c.driver_at.ensures.0 c.delay_at.ensures.0
    c.if-node-driver_at.false
