-- `formula::Writer::two_cubes` meets its contract: two clauses, one after the other. Assumes nothing.
use Rattle.formula.proofs.Emission.{puts_then}
use Rattle.formula.proofs.Writer.two_cubes.Goals as goal

pub returns : goal.returns
returns c = puts_then c.cube_clause.ensures c.cube_clause-2.ensures
