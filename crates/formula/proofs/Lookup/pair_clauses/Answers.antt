-- `formula::Lookup::pair_clauses` meets its contract: three runs, one after the other. Assumes nothing.
use native.Mathlib.Omega.{arith}
use Rattle.netlist.proofs.Valid.{takes-mux}
use Rattle.formula.specs.Emission.{gate_most}
use Rattle.formula.specs.Late.{slopes_in}
use Rattle.formula.proofs.Emission.{puts_then, puts-as}
use Rattle.formula.proofs.Asking.{rails-few}
use Rattle.formula.proofs.PairClauses.{pair_read}
use Rattle.formula.proofs.Lookup.pair_clauses.Goals as goal

pub returns : goal.returns
returns c =
    let few = rails-few (slopes_in c.args.self.source) c.args.gate.count in
    puts-as gate_most
    (puts_then (puts_then c.fixed_clause.ensures c.late_clause.ensures) c.control_clauses.ensures)
    (pair_read c.args.rail c.args.gate.kind c.args.pair c.read-sure.ensures c.rail_count.ensures
    c.side_of-side.ensures c.requires.2 (λ e. takes-mux _ e c.requires.0.takes_all))
    (omega (arith, few, c.rail_count.ensures, c.requires.0.few))
