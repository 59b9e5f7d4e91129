-- What a building call's answer says of its rows, 10 and 9: a refusal is theirs, and with counts they are passed.
-- Assumes nothing.
use mathlib.Core.Path.{◌≡◌, refl, sym, ap, ◌∙◌}
use mathlib.Core.List.{[], ◌∷◌}
use Prim.Native.Nat.{ℕ, ◌≤◌}
use native.Mathlib.Omega.{arith}
use lib.Dec.{ltb}
use lib.ListN.{length}
use borrow.Author.Tests.{ltb-false}
use Rattle.refusal.specs.declared.Refusal.{Refusal}
use Rattle.refusal.specs.declared.Refusal.TheVariants.{Pairs, Room}
use Rattle.std.specs.Prelude.{Result, Ok, Err}
use Rattle.refusal.specs.Rows.{Checked}
use Rattle.refusal.specs.Rows.{checked, unless_refused, room_row}
use Rattle.refusal.proofs.Rows.{passed-by}
use Rattle.netlist.specs.Netlist.{Circuit}
use Rattle.pairs.specs.Pairs.{pairs_for, pair_numbers, table_holds}
use Rattle.formula.specs.declared.Counts.{Counts}
use Rattle.formula.specs.Promise.{
  refused,
  numbers_for,
  counts_for,
  built,
  building_rows,
  building_of,
}

module _ (circuit : Circuit) (target pairs_room formula_room : ℕ) where
  module _ {answer : Result Counts Refusal}
      (a : answer ≡ (building_of circuit target pairs_room formula_room).answer) where
    -- a refusal is theirs
    pub answer-refused : {refusal : Refusal} → answer ≡ Err refusal →
        checked (building_rows circuit target pairs_room formula_room) ≡ Err refusal
    unfolding building_of built
    answer-refused {refusal} e = go (checked (building_rows circuit target pairs_room formula_room)) (sym a ∙ e)
      where
        go : (c : Checked) →
            (unless_refused c (refused pairs_room formula_room) (built circuit target pairs_room formula_room)).answer
            ≡ Err refusal → c ≡ Err refusal
        go (Ok tt) e = let w : ◌≡◌ {A = ℕ} 0 1 = cc in absurd (omega arith)
        go (Err r) e = cc

    -- with counts they are passed, and the counts are the list's
    pub answer-counts : {counts : Counts} → answer ≡ Ok counts →
        (checked (building_rows circuit target pairs_room formula_room) ≡ Ok tt) × (counts ≡ counts_for circuit target)
    unfolding building_of built
    answer-counts {counts} e = go (checked (building_rows circuit target pairs_room formula_room)) (sym a ∙ e)
      where
        go : (c : Checked) →
            (unless_refused c (refused pairs_room formula_room) (built circuit target pairs_room formula_room)).answer
            ≡ Ok counts → (c ≡ Ok tt) × (counts ≡ counts_for circuit target)
        go (Ok tt) e = (refl, cc)
        go (Err r) e = let w : ◌≡◌ {A = ℕ} 0 1 = cc in absurd (omega arith)

  -- where they are passed, the pairs fit the table and the numbers the slice
  module _ (e : checked (building_rows circuit target pairs_room formula_room) ≡ Ok tt) where
    pub passed-built : building_of circuit target pairs_room formula_room ≡ built circuit target pairs_room formula_room
    unfolding building_of
    passed-built =
        ap
        (λ (c : Checked).
        unless_refused c (refused pairs_room formula_room) (built circuit target pairs_room formula_room)) e

    pub pairs-fit : length (pairs_for circuit target) ≤ table_holds (pair_numbers circuit.slopes) pairs_room
    unfolding building_rows
    pairs-fit =
        ltb-false (table_holds (pair_numbers circuit.slopes) pairs_room) (length (pairs_for circuit target))
        (passed-by (ltb (table_holds (pair_numbers circuit.slopes) pairs_room) (length (pairs_for circuit target)))
        Pairs
        (room_row (length (numbers_for circuit target)) formula_room ∷ []) e).0

    pub numbers_fit : length (numbers_for circuit target) ≤ formula_room
    unfolding building_rows
    numbers_fit =
        ltb-false formula_room (length (numbers_for circuit target))
        (passed-by (ltb formula_room (length (numbers_for circuit target)))
        (Room (length (numbers_for circuit target))) []
        (passed-by (ltb (table_holds (pair_numbers circuit.slopes) pairs_room) (length (pairs_for circuit target)))
        Pairs
        (room_row (length (numbers_for circuit target)) formula_room ∷ []) e).1).0
