-- Demand 3 of the very numbers that `build` leaves, in either form: where it answers with counts, the first `numbers`
-- of the formula slice read back as the formula. Laws: demand-of-numbers, demand-of-build. Assumes nothing.
use mathlib.Core.Path.{◌≡◌, refl, sym, ap, ◌∙◌, subst}
use mathlib.Core.Bool.{Bool}
use mathlib.Core.List.{List}
use mathlib.Core.Logic.{◌↔◌}
use Prim.Native.Nat.{ℕ}
use native.Mathlib.Omega.{arith}
use lib.Dec.{T}
use lib.IntN.{ℤ}
use lib.ListN.{length, take}
use Rattle.settle.proofs.Nodes.{Arrives}
use Rattle.std.specs.Prelude.{Ok, Err}
use Rattle.refusal.specs.Rows.{Checked}
use Rattle.refusal.specs.Rows.{checked, unless_refused}
use Rattle.netlist.specs.Netlist.{valid, Circuit, Slopes}
use Rattle.netlist.specs.File.{circuit_of}
use Rattle.netlist.specs.Open.{rows_over}
use Rattle.netlist.specs.Holds.{Small}
use Rattle.clauses.specs.Clauses.{Literal, clauses_of}
use Rattle.formula.specs.declared.Counts.{Counts}
use Rattle.formula.specs.Promise.{numbers_for, Building, refused, built, building_rows, building}
use Rattle.formula.proofs.Answers.{passed-built}
use Rattle.certificate.specs.Demand.{Completes, some_late}
use Rattle.certificate.proofs.Demand.{demand-at}
use Rattle.certificate.proofs.Numbers.{numbers-read}
use Rattle.certificate.proofs.Granted.{rows-admit}
use Rattle.certificate.proofs.Steps.{formula-front}

-- of the formula's numbers
pub demand-of-numbers : (circuit : Circuit) → T (valid circuit.net) → Arrives circuit → Small circuit.slopes →
    (target : ℕ) (vector : List Bool) →
    length vector ≡ circuit.net.inputs →
    Completes circuit.net vector (clauses_of (numbers_for circuit target)) ↔ T (some_late circuit vector target)
demand-of-numbers circuit ok as_many small target vector as_long =
    subst
    (λ (clauses : List (List Literal)). Completes circuit.net vector clauses ↔ T (some_late circuit vector target))
    (sym (numbers-read circuit ok target))
    (demand-at circuit ok as_many small vector as_long target)

-- a building that answers with counts passed its rows, and is that of the circuit
built-passed : (file arrivals : List ℕ) (slopes : Slopes) (target pairs_room formula_room : ℕ) (counts : Counts) →
    (building file arrivals slopes target pairs_room formula_room).answer ≡ Ok counts →
    (checked (rows_over file arrivals slopes (λ circuit. building_rows circuit target pairs_room formula_room))
    ≡ Ok tt)
    × (building file arrivals slopes target pairs_room formula_room
    ≡ built (circuit_of file arrivals slopes) target pairs_room formula_room)
unfolding building
built-passed file arrivals slopes target pairs_room formula_room counts f =
    go (checked (rows_over file arrivals slopes (λ circuit. building_rows circuit target pairs_room formula_room))) f
  where
    whole : Building
    whole = built (circuit_of file arrivals slopes) target pairs_room formula_room

    go : (c : Checked) → (unless_refused c (refused pairs_room formula_room) whole).answer ≡ Ok counts →
        (c ≡ Ok tt) × (unless_refused c (refused pairs_room formula_room) whole ≡ whole)
    go (Ok tt) e = (refl, refl)
    go (Err refusal) e = let w : ◌≡◌ {A = ℕ} 0 1 = cc in absurd (omega arith)

-- of what `build` answers and leaves, for any bytes
pub demand-of-build : (file arrivals : List ℕ) (slopes : Slopes) (target pairs_room formula_room : ℕ)
    (counts : Counts) →
    (building file arrivals slopes target pairs_room formula_room).answer ≡ Ok counts →
    (vector : List Bool) → length vector ≡ (circuit_of file arrivals slopes).net.inputs →
    Completes (circuit_of file arrivals slopes).net vector
    (clauses_of (take counts.numbers (building file arrivals slopes target pairs_room formula_room).formula))
    ↔ T (some_late (circuit_of file arrivals slopes) vector target)
demand-of-build file arrivals slopes target pairs_room formula_room counts e vector as_long =
    let circuit = circuit_of file arrivals slopes in
    let passed = built-passed file arrivals slopes target pairs_room formula_room counts e in
    let a =
    rows-admit file arrivals slopes (λ circuit. building_rows circuit target pairs_room formula_room) passed.0
    in
    let same = passed.1 ∙ sym (passed-built circuit target pairs_room formula_room a.1) in
    let front =
    formula-front pairs_room formula_room a.0.valid (ap (λ (b : Building). b.answer) same)
    (ap (λ (b : Building). b.formula) same) e
    in
    subst
    (λ (numbers : List ℤ).
    Completes circuit.net vector (clauses_of numbers) ↔ T (some_late circuit vector target))
    (sym front.numbers-are)
    (demand-of-numbers circuit a.0.valid a.0.arrives a.0.small target vector as_long)
