-- `formula::Writer::put_literal_late` meets its contract: three runs, one after the other. Assumes nothing.
use Rattle.formula.proofs.Emission.{puts_then}
use Rattle.formula.proofs.Writer.put_literal_late.Goals as goal

pub returns : goal.returns
returns c =
    puts_then (puts_then c.put_part.ensures c.put_part-2.ensures) c.put_node.ensures
