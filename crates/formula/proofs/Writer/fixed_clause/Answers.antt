-- `formula::Writer::fixed_clause` meets its contract: no clause in the single form, else three runs. Assumes nothing.
use mathlib.Core.Path.{refl}
use native.Mathlib.Omega.{arith}
use Rattle.formula.proofs.Emission.{puts_none, puts_then, puts-as}
use Rattle.formula.proofs.Writer.fixed_clause.Goals as goal

pub returns-in-Single : goal.returns-in-Single
returns-in-Single c = rw c.in-Single.is (puts-as 3 (puts_none _ c.requires.2.fewer) refl (omega arith))

pub returns-in-RiseFall : goal.returns-in-RiseFall
returns-in-RiseFall c =
    rw c.in-RiseFall.is
    (puts_then (puts_then c.put_literal.ensures c.put_node.ensures) c.put_end.ensures)
