-- `formula::Writer::choice_clauses` meets its contract: four clauses, one after the other. Assumes nothing.
use Rattle.formula.proofs.Emission.{puts_then}
use Rattle.formula.proofs.Writer.choice_clauses.Goals as goal

pub returns : goal.returns
returns c =
    puts_then
    (puts_then (puts_then c.choice_clause.ensures c.choice_clause-2.ensures)
    c.choice_clause-3.ensures)
    c.choice_clause-4.ensures
