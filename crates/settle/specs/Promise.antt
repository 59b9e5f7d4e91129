-- What `evaluate` answers and leaves in the two lent slices, for every input: 1..7, 16, 19 and 8, then 9 for values,
-- then for times.
-- Interface: evaluation, Meets.
use Rattle.std.specs.Prelude.{◌≡◌, Bool, List, [], ◌∷◌, ◌++◌, map, ℕ, ◌-◌, eqb, replicate}
use Rattle.refusal.specs.declared.Refusal.{Refusal}
use Rattle.refusal.specs.declared.Refusal.TheVariants.{Vector}
use Rattle.refusal.specs.Rows.{Row, checked, unless_refused, room_row}
use Rattle.netlist.specs.Netlist.{Circuit, node_count, Slopes}
use Rattle.netlist.specs.Kinds.{bit}
use Rattle.netlist.specs.Open.{list_rows, call_over}
use Rattle.std.specs.Prelude.{Result, Ok, Err}
use Rattle.settle.specs.Settling.{values_of, times_of, circuit_time}

-- a vector's bytes as Bools
abbrev pub bits : List ℕ → List Bool
bits vector = map (λ byte. eqb byte 1) vector

-- the answer, and the whole content of each lent slice
pub record Evaluation : Type 0 where
  pub answer : Result ℕ Refusal
  pub values : List ℕ
  pub times : List ℕ

-- an answer and the contents of the slices are those of an evaluation
pub record Meets (promised : Evaluation) (answer : Result ℕ Refusal) (values times : List ℕ) : Type 0 where
  pub answer-is : answer ≡ promised.answer
  pub values-are : values ≡ promised.values
  pub times-are : times ≡ promised.times

-- after a refusal every lent slice holds zeros (rule C7)
abbrev pub refused : ℕ → ℕ → Refusal → Evaluation
refused values_room times_room refusal =
    record { answer = Err refusal; values = replicate values_room 0; times = replicate times_room 0 }

-- values and times, and zeros in all of the rest (rule C8)
unfoldable pub settled : Circuit → List ℕ → ℕ → ℕ → Evaluation
settled circuit vector values_room times_room =
    record {
      answer = Ok (circuit_time circuit (bits vector));
      values = map bit (values_of circuit.net (bits vector)) ++ replicate (values_room - node_count circuit.net) 0;
      times = times_of circuit (bits vector) ++ replicate (times_room - node_count circuit.net) 0;
    }

-- 8 VECTOR: another number of bytes than I, or a byte that is neither 0 nor 1
abbrev pub vector_rows : ℕ → List ℕ → List Row
vector_rows inputs vector = list_rows Vector inputs 1 vector

-- 8, then 9 for values, then for times, of I inputs and N nodes
unfoldable pub given_rows : ℕ → ℕ → List ℕ → ℕ → ℕ → List Row
given_rows inputs count vector values_room times_room =
    vector_rows inputs vector ++ (room_row count values_room ∷ room_row count times_room ∷ [])

-- of a circuit
abbrev pub evaluation_rows : Circuit → List ℕ → ℕ → ℕ → List Row
evaluation_rows circuit vector values_room times_room =
    given_rows circuit.net.inputs (node_count circuit.net) vector values_room times_room

-- of an accepted circuit
unfoldable pub evaluation_of : Circuit → List ℕ → ℕ → ℕ → Evaluation
evaluation_of circuit vector values_room times_room =
    unless_refused (checked (evaluation_rows circuit vector values_room times_room)) (refused values_room times_room)
    (settled circuit vector values_room times_room)

-- of any bytes, any arrivals, any slopes and any vector, with room for so many values and times
unfoldable pub evaluation : List ℕ → List ℕ → Slopes → List ℕ → ℕ → ℕ → Evaluation
evaluation file arrivals slopes vector values_room times_room =
    call_over file arrivals slopes (λ circuit. evaluation_rows circuit vector values_room times_room)
    (refused values_room times_room)
    (λ circuit. settled circuit vector values_room times_room)
