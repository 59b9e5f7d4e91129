-- `formula::Writer::put_share` meets its contract: the share decides which run it is. Assumes nothing.
use mathlib.Core.Path.{refl}
use native.Mathlib.Omega.{arith}
use borrow.Author.Tests.{eq-eqb, ne_eqb}
use Rattle.formula.proofs.Emission.{puts_none, puts_then, puts-as}
use Rattle.formula.proofs.Writer.put_share.Goals as goal

pub returns-in-Forced : goal.returns-in-Forced
returns-in-Forced c =
    rw c.in-Forced.is
    (puts-as 5
    (puts_then (puts_then c.put_node.ensures c.put_literal.ensures) c.put_end.ensures)
    refl (omega arith))

pub returns-then-driver-eq1 : goal.returns-then-driver-eq1
returns-then-driver-eq1 c =
    rw (c.in-Control.is, eq-eqb _ 1 c.if-driver-eq1.true)
    (puts-as 5 (puts_none _ c.requires.2.fewer) refl (omega arith))

pub returns-else-driver-eq1 : goal.returns-else-driver-eq1
returns-else-driver-eq1 c =
    rw (c.in-Control.is, ne_eqb _ 1 c.if-driver-eq1.false)
    (puts-as 5
    (puts_then
    (puts_then c.put_literal-in-Control.ensures c.put_literal_late.ensures) c.put_end-in-Control.ensures)
    refl (omega arith))
