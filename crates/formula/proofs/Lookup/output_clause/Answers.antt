-- `formula::Lookup::output_clause` meets its contract: the clause of what the outputs ask for. Assumes nothing.
use native.Mathlib.Omega.{arith}
use Rattle.formula.specs.Emission.{outputs_most}
use Rattle.formula.specs.Late.{slopes_in}
use Rattle.formula.proofs.Emission.{puts-as}
use Rattle.formula.proofs.Asking.{rails-few, late-outputs}
use Rattle.formula.proofs.Lookup.output_clause.Goals as goal

pub returns : goal.returns
returns c =
    let accepted = c.args.self.source.accepted in
    let few = rails-few (slopes_in c.args.self.source) accepted.shape.outputs in
    puts-as outputs_most c.late_clause.ensures
    (late-outputs c.read-sure.ensures c.rail_count.ensures)
    (omega (arith, few, c.rail_count.ensures, accepted.given.holds.counts.outputs-few))
