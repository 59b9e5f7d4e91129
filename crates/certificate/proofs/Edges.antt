-- Each row of specs/Edges is a computation read as the promise of judge, as those of Examples are. Law: edges-hold.
-- Assumes nothing.
use mathlib.Core.Path.{◌≡◌, refl}
use mathlib.Core.List.{map, Memᴰ}
use Rattle.netlist.specs.Kinds.{pins_fit, kind_of}
use Rattle.netlist.specs.File.{table_bytes, shape_of, gate_at, pin_at, cell_of, cell_at, netlist_at, pins_from}
use Rattle.netlist.specs.Open.{
  netlist_rows,
  arrival_rows,
  fall_rows,
  first_wrong,
  count_wrong,
  back_wrong,
  pins_before,
  gate_wrong,
  gate_place,
  sum_wrong,
  pins_at,
  pin_wrong,
  pin_place,
  output_wrong,
  output_place,
}
use Rattle.netlist.specs.Example.{circuit_a}
use Rattle.netlist.specs.Edges.{written, one_gate}
use Rattle.settle.specs.Settling.{gate_value, settles, grow, values_of, times_of, tops_of, circuit_time}
use Rattle.settle.specs.Promise.{given_rows}
use Rattle.clauses.specs.Clauses.{flat, clauses_from}
use Rattle.refute.specs.Passes.{is_true, is_free, assign, say, pass, refutes, assert, follows, verdict}
use Rattle.refute.specs.Rows.{refutation_form, first_beyond, ended, last_row, first_empty}
use Rattle.pairs.specs.Pairs.{asked, times_at, pair_list, pair_place, pairs_for}
use Rattle.formula.specs.Formula.{clause_of, gate_clauses, late, pair_clauses, formula, pair_variable, formula_for}
use Rattle.formula.specs.Promise.{numbers_for, counts_for, building_rows}
use Rattle.certificate.specs.Promise.{Judgement, Judges}
use Rattle.certificate.specs.Cases.{Case, wire}
use Rattle.certificate.specs.Edges.{edges, faults, late_inputs, inverters, sloped_delays}
use Rattle.certificate.proofs.Examples.{answer_to, computed-hold}

computed : map answer_to edges ≡ map (λ (c : Case). c.answer) edges
unfolding
    edges faults late_inputs inverters sloped_delays wire circuit_a written one_gate netlist_rows arrival_rows fall_rows
    first_wrong count_wrong back_wrong
    pins_before gate_wrong gate_place sum_wrong
    pins_at pin_wrong pin_place output_wrong output_place pins_fit kind_of table_bytes shape_of gate_at pin_at
    pins_from cell_of cell_at netlist_at gate_value settles grow values_of times_of tops_of circuit_time given_rows
    flat clauses_from is_true is_free assign say pass refutes assert follows verdict refutation_form first_beyond
    ended last_row first_empty asked times_at pair_list pair_place pairs_for clause_of gate_clauses late pair_clauses
    formula pair_variable formula_for numbers_for counts_for building_rows
computed = refl

-- each row's call has the row's answer
pub edges-hold : (c : Case) → Memᴰ c edges →
    (result : Judgement)
    × Judges c.file c.arrivals c.slopes c.delay c.vector c.refutation c.rooms result
    × (result.answer ≡ c.answer)
edges-hold = computed-hold edges computed
