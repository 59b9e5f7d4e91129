-- What `judge` answers and leaves in the five lent slices, for every input and in either form, by the checks of rule
-- C3. The rows of evaluation, of building and of the test of a refutation are those of crates settle, formula and
-- refute. Interface: Judges.
use Rattle.std.specs.Prelude.{◌≡◌, not, List, ◌∷◌, ◌++◌, ℕ, suc, eqb, ℤ, pos, length, replicate}
use Rattle.refusal.specs.declared.Refusal.{Refusal}
use Rattle.refusal.specs.declared.Refusal.TheVariants.{Witness}
use Rattle.std.specs.Prelude.{Ok, Err}
use Rattle.refusal.specs.Rows.{Checked}
use Rattle.refusal.specs.Rows.{Row, unless_refused}
use Rattle.netlist.specs.Netlist.{Circuit, Slopes}
use Rattle.netlist.specs.File.{circuit_of}
use Rattle.netlist.specs.Open.{rows_over}
use Rattle.settle.specs.Settling.{circuit_time}
use Rattle.settle.specs.Promise.{bits, evaluation_rows, evaluation_of}
use Rattle.clauses.specs.Clauses.{clauses_of}
use Rattle.refute.specs.Rows.{refutation_rows}
use Rattle.refute.specs.Promise.{Answers}
use Rattle.formula.specs.Promise.{numbers_for, counts_for, building_rows, building_of}

-- how many elements each lent slice has
pub record Rooms : Type 0 where
  pub values : ℕ
  pub times : ℕ
  pub pairs : ℕ
  pub formula : ℕ
  pub propagation : ℕ

-- of the slices as they are lent
abbrev pub rooms_of : List ℕ → List ℕ → List ℕ → List ℤ → List ℕ → Rooms
rooms_of values times pairs formula propagation =
    record {
      values = length values;
      times = length times;
      pairs = length pairs;
      formula = length formula;
      propagation = length propagation;
    }

-- the answer, and the whole content of each lent slice
pub record Judgement : Type 0 where
  pub answer : Checked
  pub values : List ℕ
  pub times : List ℕ
  pub pairs : List ℕ
  pub formula : List ℤ
  pub propagation : List ℕ

-- an answer with the slices as they are left
abbrev pub leaving : Checked → List ℕ → List ℕ → List ℕ → List ℤ → List ℕ → Judgement
leaving answer values times pairs formula propagation =
    record {
      answer = answer;
      values = values;
      times = times;
      pairs = pairs;
      formula = formula;
      propagation = propagation;
    }

-- an answer and the contents of the slices are those of a judgement
pub record Meets (promised result : Judgement) : Type 0 where
  pub answer-is : result.answer ≡ promised.answer
  pub values-are : result.values ≡ promised.values
  pub times-are : result.times ≡ promised.times
  pub pairs-are : result.pairs ≡ promised.pairs
  pub formula-is : result.formula ≡ promised.formula
  pub propagation-is : result.propagation ≡ promised.propagation

-- ---- the rows before 14

-- 15 WITNESS: under the vector the circuit settles at another time than D; its place is that time
abbrev pub witness_row : Circuit → ℕ → List ℕ → Row
witness_row circuit delay vector = (
  not (eqb (circuit_time circuit (bits vector)) delay),
  Witness (circuit_time circuit (bits vector)),
)

-- the formula for a target is built, and the refutation tested against it: the rows of building, then those of a test
abbrev pub refuting_rows : Circuit → ℕ → List ℤ → ℕ → ℕ → ℕ → List Row
refuting_rows circuit target refutation pairs_room formula_room propagation_room =
    building_rows circuit target pairs_room formula_room
    ++ refutation_rows (counts_for circuit target).variables refutation propagation_room

-- of an accepted circuit: the vector is evaluated, 8 and its rooms; 15; then the formula for D+1
abbrev pub certificate_rows : ℕ → List ℕ → List ℤ → Rooms → Circuit → List Row
certificate_rows delay vector refutation rooms circuit =
    evaluation_rows circuit vector rooms.values rooms.times
    ++ (witness_row circuit delay vector
    ∷ refuting_rows circuit (suc delay) refutation rooms.pairs rooms.formula rooms.propagation)

-- ---- answer and slices

-- after a refusal every lent slice holds zeros (rule C7)
abbrev pub refused : Rooms → Refusal → Judgement
refused rooms refusal =
    record {
      answer = Err refusal;
      values = replicate rooms.values 0;
      times = replicate rooms.times 0;
      pairs = replicate rooms.pairs 0;
      formula = replicate rooms.formula (pos 0);
      propagation = replicate rooms.propagation 0;
    }

-- after acceptance values and times, pairs and formula stand at the front of their slices, with zeros in all of the
-- rest, and the propagation slice holds only zeros (rule C8)
unfoldable pub certified : Circuit → ℕ → List ℕ → Rooms → Judgement
certified circuit delay vector rooms =
    record {
      answer = Ok tt;
      values = (evaluation_of circuit vector rooms.values rooms.times).values;
      times = (evaluation_of circuit vector rooms.values rooms.times).times;
      pairs = (building_of circuit (suc delay) rooms.pairs rooms.formula).pairs;
      formula = (building_of circuit (suc delay) rooms.pairs rooms.formula).formula;
      propagation = replicate rooms.propagation 0;
    }

-- what a check comes to
abbrev pub judgement_of : Circuit → ℕ → List ℕ → Rooms → Checked → Judgement
judgement_of circuit delay vector rooms answer = unless_refused answer (refused rooms)
    (certified circuit delay vector rooms)

-- of any bytes, any arrivals, any slopes, any delay, any vector and any refutation: the first row before 14 that
-- refuses; or else 14 STEP, or acceptance, by the order-free verdict on the refutation against the very numbers of the
-- formula for D+1
pub record Judges (file arrivals : List ℕ) (slopes : Slopes) (delay : ℕ) (vector : List ℕ) (refutation : List ℤ)
    (rooms : Rooms) (result : Judgement) : Type 0 where
  pub answer : Checked
  pub answers :
      Answers (rows_over file arrivals slopes (certificate_rows delay vector refutation rooms))
      (clauses_of (numbers_for (circuit_of file arrivals slopes) (suc delay))) (clauses_of refutation) answer
  pub meets : Meets (judgement_of (circuit_of file arrivals slopes) delay vector rooms answer) result
