-- What `build` answers and leaves in the two lent slices, for every input: 1..7, 16, 19 in the rise-fall form, 10, then
-- 9 for the formula. `build_accepted` has the last two of an accepted circuit. Interface: building, Meets.
use Rattle.std.specs.Prelude.{◌≡◌, List, [], ◌∷◌, ◌++◌, ℕ, ◌+◌, ◌-◌, ◌*◌, ltb, ℤ, pos, length, replicate}
use Rattle.refusal.specs.declared.Refusal.{Refusal}
use Rattle.refusal.specs.declared.Refusal.TheVariants.{Pairs}
use Rattle.refusal.specs.Rows.{Row, checked, unless_refused, room_row}
use Rattle.netlist.specs.Netlist.{node_count, Circuit, Slopes}
use Rattle.netlist.specs.Open.{call_over}
use Rattle.clauses.specs.Clauses.{flat}
use Rattle.std.specs.Prelude.{Result, Ok, Err}
use Rattle.formula.specs.declared.Counts.{Counts}
use Rattle.pairs.specs.Pairs.{lent_pairs, pairs_for, pair_numbers, table_holds}
use Rattle.formula.specs.Formula.{formula_for}

-- the answer, and the whole content of each lent slice
pub record Building : Type 0 where
  pub answer : Result Counts Refusal
  pub pairs : List ℕ
  pub formula : List ℤ

-- an answer and the contents of the slices are those of a building call
pub record Meets (promised : Building) (answer : Result Counts Refusal) (pairs : List ℕ) (formula : List ℤ) :
    Type 0 where
  pub answer-is : answer ≡ promised.answer
  pub pairs-are : pairs ≡ promised.pairs
  pub formula-is : formula ≡ promised.formula

-- after a refusal every lent slice holds zeros (rule C7)
abbrev pub refused : ℕ → ℕ → Refusal → Building
refused pairs_room formula_room refusal =
    record { answer = Err refusal; pairs = replicate pairs_room 0; formula = replicate formula_room (pos 0) }

-- the formula's numbers
unfoldable pub numbers_for : Circuit → ℕ → List ℤ
numbers_for circuit target = flat (formula_for circuit target)

-- the counts are those of the list
unfoldable pub counts_for : Circuit → ℕ → Counts
counts_for circuit target =
    record {
      variables = node_count circuit.net + length (pairs_for circuit target);
      pairs = length (pairs_for circuit target);
      clauses = length (formula_for circuit target);
      numbers = length (numbers_for circuit target);
    }

-- pairs and formula, and zeros in all of the rest (rule C8)
unfoldable pub built : Circuit → ℕ → ℕ → ℕ → Building
built circuit target pairs_room formula_room =
    record {
      answer = Ok (counts_for circuit target);
      pairs =
          lent_pairs circuit.slopes (pairs_for circuit target)
          ++ replicate (pairs_room - length (pairs_for circuit target) * pair_numbers circuit.slopes) 0;
      formula = numbers_for circuit target ++ replicate (formula_room - length (numbers_for circuit target)) (pos 0);
    }

-- 10 PAIRS: the pairs don't fit the table; then 9 ROOM for the formula
unfoldable pub building_rows : Circuit → ℕ → ℕ → ℕ → List Row
building_rows circuit target pairs_room formula_room =
    (ltb (table_holds (pair_numbers circuit.slopes) pairs_room) (length (pairs_for circuit target)), Pairs)
    ∷ room_row (length (numbers_for circuit target)) formula_room ∷ []

-- of an accepted circuit
unfoldable pub building_of : Circuit → ℕ → ℕ → ℕ → Building
building_of circuit target pairs_room formula_room =
    unless_refused (checked (building_rows circuit target pairs_room formula_room)) (refused pairs_room formula_room)
    (built circuit target pairs_room formula_room)

-- of any bytes, any arrivals and any target, with room for so many numbers in the table and the formula
unfoldable pub building : List ℕ → List ℕ → Slopes → ℕ → ℕ → ℕ → Building
building file arrivals slopes target pairs_room formula_room =
    call_over file arrivals slopes (λ circuit. building_rows circuit target pairs_room formula_room)
    (refused pairs_room formula_room)
    (λ circuit. built circuit target pairs_room formula_room)
