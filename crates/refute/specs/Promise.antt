-- What a check of a refutation promises of its answer, over the rows of Rows and the order-free verdict of Propagation.
-- Interface: Checks, Tested.
use Rattle.std.specs.Prelude.{◌≡◌, List, ℕ, ℤ}
use Rattle.refusal.specs.declared.Refusal.{Refusal}
use Rattle.refusal.specs.declared.Refusal.TheVariants.{Step}
use Rattle.refusal.specs.Rows.{Row, checked}
use Rattle.clauses.specs.Clauses.{Literal, clauses_of}
use Rattle.refute.specs.Propagation.{Judged, passes, stops}
use Rattle.refute.specs.Rows.{check_rows, refutation_rows}
use Rattle.std.specs.Prelude.{Ok, Err}
use Rattle.refusal.specs.Rows.{Checked}

-- The answer where `rows` stand before 14: their refusal; or else the verdict, where 14 STEP names the first clause
-- that doesn't follow.
pub data Answers (rows : List Row) (stored refutation : List (List Literal)) : Checked → Type 0 where
  malformed : {refusal : Refusal} → checked rows ≡ Err refusal → Answers rows stored refutation (Err refusal)
  passed : checked rows ≡ Ok tt → Judged stored refutation passes → Answers rows stored refutation (Ok tt)
  stopped : {i : ℕ} → checked rows ≡ Ok tt → Judged stored refutation (stops i) →
      Answers rows stored refutation (Err (Step i))

-- the answer to a check (rule C3)
abbrev pub Checks : ℕ → List ℤ → List ℤ → ℕ → Checked → Type 0
Checks variables formula refutation room answer =
    Answers (check_rows variables formula refutation room) (clauses_of formula) (clauses_of refutation) answer

-- the answer where the formula is known to be well formed: the rows of a check without 11
abbrev pub Tested : ℕ → List ℤ → List ℤ → ℕ → Checked → Type 0
Tested variables formula refutation room answer =
    Answers (refutation_rows variables refutation room) (clauses_of formula) (clauses_of refutation) answer
