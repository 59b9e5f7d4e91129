-- `formula::Lookup::whole_formula` meets its contract: the three runs, one after the other. Assumes nothing.
use Rattle.formula.proofs.Emission.{puts_then}
use Rattle.formula.proofs.Lookup.whole_formula.Goals as goal

pub returns : goal.returns
returns c =
    puts_then (puts_then c.all_gates.ensures c.all_pairs.ensures) c.output_clause.ensures
