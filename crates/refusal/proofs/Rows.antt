-- Rows in turn: what the first ones say decides, or leaves it to the rest. Each law goes by the test of the first row.
-- Assumes nothing.
use mathlib.Core.Path.{◌≡◌, refl, ap, ◌∙◌}
use mathlib.Core.Bool.{Bool, true, false, cond}
use mathlib.Core.List.{List, [], ◌∷◌, ◌++◌}
use Prim.Native.Nat.{ℕ}
use native.Mathlib.Omega.{arith}
use Rattle.refusal.specs.declared.Refusal.{Refusal}
use Rattle.std.specs.Prelude.{Ok, Err}
use Rattle.refusal.specs.Rows.{Checked, Row, checked}

-- a refusal is no passing
pub apart : {A : Type 0} {answer : Checked} {refusal : Refusal} → answer ≡ Err refusal → answer ≡ Ok tt → A
apart p q = let w : ◌≡◌ {A = ℕ} 0 1 = cc in absurd (omega arith)

-- ---- one row before others

-- it refuses
pub stops : {when : Bool} (refusal : Refusal) (rows : List Row) → when ≡ true →
    checked ((when, refusal) ∷ rows) ≡ Err refusal
stops refusal rows e = ap (λ (b : Bool). checked ((b, refusal) ∷ rows)) e

-- it leaves it to the rest
pub goes_on : {when : Bool} (refusal : Refusal) (rows : List Row) → when ≡ false →
    checked ((when, refusal) ∷ rows) ≡ checked rows
goes_on refusal rows e = ap (λ (b : Bool). checked ((b, refusal) ∷ rows)) e

-- where all are passed, it did, and so did the rest
pub passed-by : (when : Bool) (refusal : Refusal) (rows : List Row) → checked ((when, refusal) ∷ rows) ≡ Ok tt →
    (when ≡ false) × (checked rows ≡ Ok tt)
passed-by true refusal rows e = apart refl e
passed-by false refusal rows e = (refl, e)

-- ---- some rows before others

-- they refuse
pub refused-first : (rows more : List Row) {refusal : Refusal} → checked rows ≡ Err refusal →
    checked (rows ++ more) ≡ Err refusal
refused-first [] more e = apart e refl
refused-first (row ∷ rows) more {refusal} e = go row.0 e (λ r. refused-first rows more r)
  where
    go : (b : Bool) → cond b (Err row.1) (checked rows) ≡ Err refusal →
        (checked rows ≡ Err refusal → checked (rows ++ more) ≡ Err refusal) →
        cond b (Err row.1) (checked (rows ++ more)) ≡ Err refusal
    go true e rest = e
    go false e rest = rest e

-- they leave it to the rest
pub passed_first : (rows more : List Row) → checked rows ≡ Ok tt → checked (rows ++ more) ≡ checked more
passed_first [] more e = refl
passed_first (row ∷ rows) more e =
    let p = passed-by row.0 row.1 rows e in
    goes_on row.1 (rows ++ more) p.0 ∙ passed_first rows more p.1

-- where all are passed, they are
pub first_passes : (rows more : List Row) → checked (rows ++ more) ≡ Ok tt → checked rows ≡ Ok tt
first_passes [] more e = refl
first_passes (row ∷ rows) more e =
    let p = passed-by row.0 row.1 (rows ++ more) e in
    goes_on row.1 rows p.0 ∙ first_passes rows more p.1

-- and so are the rest
pub rest-passes : (rows more : List Row) → checked (rows ++ more) ≡ Ok tt → checked more ≡ Ok tt
rest-passes [] more e = e
rest-passes (row ∷ rows) more e = rest-passes rows more (passed-by row.0 row.1 (rows ++ more) e).1
