-- The promise of judge can be met, whatever is judged: the rows say their refusal, or the computed verdict is the
-- verdict. So each row of specs/Cases is a computation read as the promise, and circuit A's largest settling time is
-- 2, with no vector tried but one. Laws: judgement-exists, cases-hold, largest-of-A. Assumes nothing.
use mathlib.Core.Path.{◌≡◌, refl, ◌∙◌}
use mathlib.Core.List.{List, [], ◌∷◌, map, Memᴰ}
use Prim.Native.Nat.{ℕ, suc}
use native.Mathlib.Omega.{arith}
use lib.IntN.{ℤ}
use Rattle.basics.proofs.Lists.{map_each}
use Rattle.netlist.specs.Netlist.{Circuit, Slopes, alike}
use Rattle.netlist.specs.Kinds.{pins_fit, kind_of}
use Rattle.netlist.specs.File.{
  table_bytes,
  shape_of,
  gate_at,
  pin_at,
  cell_of,
  cell_at,
  netlist_at,
  pins_from,
  circuit_of,
}
use Rattle.netlist.specs.Open.{
  netlist_rows,
  arrival_rows,
  rows_over,
  first_wrong,
  count_wrong,
  back_wrong,
  pins_before,
  gate_wrong,
  gate_place,
  sum_wrong,
  pins_at,
  pin_wrong,
  pin_place,
  output_wrong,
  output_place,
}
use Rattle.netlist.specs.Example.{circuit_a}
use Rattle.settle.specs.Settling.{gate_value, settles, grow, values_of, times_of, tops_of, circuit_time}
use Rattle.settle.specs.Promise.{given_rows}
use Rattle.clauses.specs.Clauses.{flat, clauses_from, clauses_of}
use Rattle.std.specs.Prelude.{Ok, Err}
use Rattle.refusal.specs.Rows.{Checked}
use Rattle.refusal.specs.Rows.{checked, unless_refused}
use Rattle.refute.specs.Passes.{is_true, is_free, assign, say, pass, refutes, assert, follows, verdict}
use Rattle.refute.specs.Rows.{refutation_form, first_beyond, ended, last_row, first_empty}
use Rattle.refute.specs.Promise.{malformed}
use Rattle.refute.specs.Reading.{answer_of}
use Rattle.refute.proofs.Judging.{formula-within, rows_pass, judged-answer}
use Rattle.pairs.specs.Pairs.{asked, times_at, pair_list, pair_place, pairs_for}
use Rattle.formula.specs.Formula.{clause_of, gate_clauses, late, pair_clauses, formula, pair_variable, formula_for}
use Rattle.formula.specs.Promise.{numbers_for, counts_for, building_rows}
use Rattle.formula.proofs.Answers.{pairs-fit}
use Rattle.certificate.specs.Largest.{Largest}
use Rattle.certificate.specs.Promise.{Rooms, Judgement, Meets, certificate_rows, certified, judgement_of, Judges}
use Rattle.certificate.specs.Cases.{Case, wire, cases}
use Rattle.certificate.proofs.Numbers.{numbers-well-formed}
use Rattle.certificate.proofs.Passing.{certificate-passes}
use Rattle.certificate.proofs.Granted.{rows-admit, judges-largest}

-- ---- the promise can be met

-- what the rows and the computed verdict come to
abbrev pub checked_to : List ℕ → List ℕ → Slopes → ℕ → List ℕ → List ℤ → Rooms → Checked
checked_to file arrivals slopes delay vector refutation rooms =
    unless_refused (checked (rows_over file arrivals slopes (certificate_rows delay vector refutation rooms))) Err
    (answer_of
    (verdict (suc (counts_for (circuit_of file arrivals slopes) (suc delay)).variables)
    (clauses_of (numbers_for (circuit_of file arrivals slopes) (suc delay))) (clauses_of refutation)))

-- and the judgement
abbrev pub judgement_to : List ℕ → List ℕ → Slopes → ℕ → List ℕ → List ℤ → Rooms → Judgement
judgement_to file arrivals slopes delay vector refutation rooms =
    judgement_of (circuit_of file arrivals slopes) delay vector rooms
    (checked_to file arrivals slopes delay vector refutation rooms)

-- a judgement meets itself
itself : {result : Judgement} → Meets result result
itself =
    record {
      answer-is = refl;
      values-are = refl;
      times-are = refl;
      pairs-are = refl;
      formula-is = refl;
      propagation-is = refl;
    }

-- it meets the promise, whatever is judged
pub judgement-exists : (file arrivals : List ℕ) (slopes : Slopes) (delay : ℕ) (vector : List ℕ) (refutation : List ℤ)
    (rooms : Rooms) →
    Judges file arrivals slopes delay vector refutation rooms
    (judgement_to file arrivals slopes delay vector refutation rooms)
unfolding counts_for
judgement-exists file arrivals slopes delay vector refutation rooms =
    go (checked (rows_over file arrivals slopes (certificate_rows delay vector refutation rooms))) refl
  where
    circuit : Circuit
    circuit = circuit_of file arrivals slopes

    go : (rows : Checked) →
        checked (rows_over file arrivals slopes (certificate_rows delay vector refutation rooms)) ≡ rows →
        Judges file arrivals slopes delay vector refutation rooms
        (judgement_of circuit delay vector rooms
        (unless_refused rows Err
        (answer_of
        (verdict (suc (counts_for circuit (suc delay)).variables) (clauses_of (numbers_for circuit (suc delay)))
        (clauses_of refutation)))))
    go (Err refusal) e = record { answer = Err refusal; answers = malformed e; meets = itself }
    go (Ok tt) e =
        let a = rows-admit file arrivals slopes (certificate_rows delay vector refutation rooms) e in
        let p = certificate-passes circuit delay vector refutation rooms a.1 in
        let few = pairs-fit circuit (suc delay) rooms.pairs rooms.formula p.building in
        let well = numbers-well-formed circuit a.0.valid (suc delay) (omega arith) in
        record {
          answer =
              answer_of
              (verdict (suc (counts_for circuit (suc delay)).variables) (clauses_of (numbers_for circuit (suc delay)))
              (clauses_of refutation));
          answers =
              judged-answer (suc (counts_for circuit (suc delay)).variables) (numbers_for circuit (suc delay))
              refutation e
              (formula-within well)
              (rows_pass (counts_for circuit (suc delay)).variables refutation rooms.propagation p.testing
              ).within
              refl;
          meets = itself;
        }

-- ---- the rows of the table

judgement-answer : (circuit : Circuit) (delay : ℕ) (vector : List ℕ) (rooms : Rooms) (answer : Checked) →
    (judgement_of circuit delay vector rooms answer).answer ≡ answer
unfolding certified
judgement-answer circuit delay vector rooms (Ok tt) = refl
judgement-answer circuit delay vector rooms (Err refusal) = refl

abbrev pub answer_to : Case → Checked
answer_to c = checked_to c.file c.arrivals c.slopes c.delay c.vector c.refutation c.rooms

-- rows that are computed have their answers as the promise means it
pub computed-hold : (rows : List Case) → map answer_to rows ≡ map (λ (c : Case). c.answer) rows → (c : Case) →
    Memᴰ c rows → (result : Judgement)
    × Judges c.file c.arrivals c.slopes c.delay c.vector c.refutation c.rooms result ×
    (result.answer ≡ c.answer)
computed-hold rows e c i = (
  judgement_to c.file c.arrivals c.slopes c.delay c.vector c.refutation c.rooms,
  judgement-exists c.file c.arrivals c.slopes c.delay c.vector c.refutation c.rooms,
  judgement-answer (circuit_of c.file c.arrivals c.slopes) c.delay c.vector c.rooms
      (checked_to c.file c.arrivals c.slopes c.delay c.vector c.refutation c.rooms)
      ∙ map_each answer_to (λ (d : Case). d.answer) rows e c i,
)

computed : map answer_to cases ≡ map (λ (c : Case). c.answer) cases
unfolding
    cases circuit_a wire netlist_rows arrival_rows first_wrong count_wrong back_wrong pins_before gate_wrong gate_place
    sum_wrong pins_at
    pin_wrong pin_place output_wrong output_place pins_fit kind_of table_bytes shape_of gate_at pin_at pins_from
    cell_of cell_at netlist_at gate_value settles grow values_of times_of tops_of circuit_time given_rows flat
    clauses_from is_true is_free assign say pass refutes assert follows verdict refutation_form first_beyond ended
    last_row first_empty asked times_at pair_list pair_place pairs_for clause_of gate_clauses late pair_clauses
    formula pair_variable formula_for numbers_for counts_for building_rows
computed = refl

-- each row's call has the row's answer
pub cases-hold : (c : Case) → Memᴰ c cases →
    (result : Judgement)
    × Judges c.file c.arrivals c.slopes c.delay c.vector c.refutation c.rooms result
    × (result.answer ≡ c.answer)
cases-hold = computed-hold cases computed

-- the true delay of circuit A is 2, by its certificate
pub largest-of-A : Largest (circuit_of circuit_a (0 ∷ 0 ∷ []) alike) 2
unfolding cases circuit_a
largest-of-A =
    let c = cases-hold _ (Memᴰ.head refl) in judges-largest c.1 c.2
