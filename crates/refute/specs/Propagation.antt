-- Section P of the rules: when a clause follows from stored clauses, and the verdict on a refutation. No order of
-- visits is part of it (rule P5). This file is what a reader must believe of a refutation. Interface: all of it.
use mathlib.Core.List.{List, [], ◌∷◌, ◌++◌, map, Memᴰ}
use Rattle.std.specs.Prelude.{◌≢◌, ℕ, zero, suc}
use Rattle.clauses.specs.Clauses.{Literal, opposite}

-- what a test makes true at first: the opposite of every literal of the clause (rule P1)
abbrev pub assertions : List Literal → List Literal
assertions clause = map opposite clause

-- The literals that become true. A literal is false where its opposite is true. A stored clause whose literals are all
-- false except one, however often it occurs, makes that one true (rule P3).
pub data Forced (stored : List (List Literal)) (asserted : List Literal) : Literal → Type 0 where
  given : {l : Literal} → Memᴰ l asserted → Forced stored asserted l
  unit : {l : Literal} (c : List Literal) → Memᴰ c stored → Memᴰ l c →
      ((m : Literal) → Memᴰ m c → m ≢ l → Forced stored asserted (opposite m)) → Forced stored asserted l

-- A clause follows where two of the literals made true at first are opposites (rule P2), or where a stored clause is
-- false (rule P3).
pub data Follows (stored : List (List Literal)) (clause : List Literal) : Type 0 where
  clash : {l : Literal} → Memᴰ l (assertions clause) → Memᴰ (opposite l) (assertions clause) →
      Follows stored clause
  conflict : (c : List Literal) → Memᴰ c stored →
      ((m : Literal) → Memᴰ m c → Forced stored (assertions clause) (opposite m)) → Follows stored clause

-- A refutation passes, or stops at the first clause that doesn't follow, counted from 0.
pub data Verdict : Type 0 where
  passes : Verdict
  stops : ℕ → Verdict

-- The verdict on a refutation: each clause is tested against the formula's and those in front of it (rule P6).
unfoldable pub Judged : List (List Literal) → List (List Literal) → Verdict → Type 0
Judged stored [] passes = Unit {0}
Judged stored [] (stops i) = ⊥
Judged stored (c ∷ refutation) passes = Follows stored c × Judged (stored ++ (c ∷ [])) refutation passes
Judged stored (c ∷ refutation) (stops zero) = Follows stored c → ⊥
Judged stored (c ∷ refutation) (stops (suc i)) = Follows stored c × Judged (stored ++ (c ∷ [])) refutation (stops i)
