-- `formula::Writer::simple_clauses` meets its contract: four runs, one after the other. Assumes nothing.
use mathlib.Core.Path.{refl}
use native.Mathlib.Omega.{arith}
use Rattle.formula.specs.Emission.{gate_most}
use Rattle.formula.proofs.Emission.{puts_then, puts-as}
use Rattle.formula.proofs.Writer.simple_clauses.Goals as goal

pub returns : goal.returns
returns c =
    puts-as gate_most
    (puts_then
    (puts_then (puts_then c.put_shares.ensures c.put_shares-2.ensures) c.put_node.ensures)
    c.put_end.ensures) refl (omega arith)
