-- `netlist::open` meets its contract: each answer is that of the row that stops, the rows before it having passed.
-- Assumes nothing.
use Rattle.std.proofs.Common.{rules}
use Rattle.netlist.proofs.TableOrder as Order
use Rattle.netlist.proofs.open.Goals as goal

pub returns-then-file-lt14 : goal.returns-then-file-lt14
returns-then-file-lt14 c = Order.short _ c.if-file-lt14.true

pub returns-then-version-ne1 : goal.returns-then-version-ne1
returns-then-version-ne1 c =
    Order.version-wrong _ c.if-file-lt14.false c.two_bytes-version.ensures.value c.if-version-ne1.true

pub returns-in-Some : goal.returns-in-Some
returns-in-Some c =
    Order.count-wrong (Order.longs _ c.if-file-lt14.false c.two_bytes-version.ensures.value c.if-version-ne1.false)
    c.shape_of-shape.ensures c.count_wrong.ensures c.in-Some.is

pub returns-then-back_wrong : goal.returns-then-back_wrong
returns-then-back_wrong c =
    Order.back-wrong
    (Order.ranged (Order.longs _ c.if-file-lt14.false c.two_bytes-version.ensures.value c.if-version-ne1.false)
    c.shape_of-shape.ensures c.count_wrong.ensures (search rules))
    c.back_wrong.ensures c.if-back_wrong.true

pub invariant_of-check : goal.invariant_of-check
invariant_of-check c =
    let framed =
    Order.framed
    (Order.ranged (Order.longs _ c.if-file-lt14.false c.two_bytes-version.ensures.value c.if-version-ne1.false)
    c.shape_of-shape.ensures c.count_wrong.ensures (search rules))
    c.back_wrong.ensures c.if-back_wrong.false
    in
    record { framed = framed; tables = Order.tables framed; counts = Order.in-range framed }
