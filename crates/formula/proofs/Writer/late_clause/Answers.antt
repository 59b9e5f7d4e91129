-- `formula::Writer::late_clause` meets its contract: left out where something is late outright, else three runs.
-- Assumes nothing.
use mathlib.Core.Path.{refl}
use native.Mathlib.Omega.{arith}
use Rattle.formula.proofs.Emission.{puts_none, puts_then, puts-as}
use Rattle.formula.proofs.Writer.late_clause.Goals as goal

pub returns-then-sure : goal.returns-then-sure
returns-then-sure c =
    rw c.if-sure.true
    (puts-as _ (puts_none _ c.requires.2.fewer) refl (omega arith))

pub returns : goal.returns
returns c =
    rw c.if-sure.false
    (puts-as _
    (puts_then (puts_then c.put_part.ensures c.put_parts.ensures) c.put_end.ensures) refl
    (omega arith))
