-- `formula::Writer::choice_clause` meets its contract: four runs, one after the other. Assumes nothing.
use Rattle.formula.proofs.Emission.{puts_then}
use Rattle.formula.proofs.Writer.choice_clause.Goals as goal

pub returns : goal.returns
returns c =
    rw (← c.node_at-2.ensures.0, ← c.node_at.ensures.0)
    (puts_then
    (puts_then (puts_then c.put_node.ensures c.put_node-2.ensures) c.put_node-3.ensures)
    c.put_end.ensures)
