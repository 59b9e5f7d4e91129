-- Unit propagation computed, as the code does it: pass after pass over the stored clauses in list order; what a pass
-- makes true counts at once, and a false clause ends it. One mark a variable: 0 free, 1 true, 2 false. proofs/Agree has
-- that this is what Propagation says. Interface: follows, verdict.
use Rattle.std.specs.Prelude.{
  Bool,
  true,
  false,
  ◌&&◌,
  cond,
  List,
  [],
  ◌∷◌,
  ◌++◌,
  ℕ,
  zero,
  suc,
  eqb,
  length,
  get_or,
  set,
  replicate,
}
use Rattle.std.specs.Bool.{beq}
use Rattle.basics.specs.Lists.{any, all, keep}
use Rattle.clauses.specs.Clauses.{Literal, opposite}
use Rattle.refute.specs.Propagation.{Verdict, passes, stops}

-- two literals are one
abbrev pub same : Literal → Literal → Bool
same l m = beq l.0 m.0 && eqb l.1 m.1

-- the mark under which a literal is true
abbrev pub wanted : Literal → ℕ
wanted l = cond l.0 1 2

-- a literal is true
unfoldable pub is_true : List ℕ → Literal → Bool
is_true marks l = eqb (get_or marks l.1 0) (wanted l)

-- a literal is unassigned
unfoldable pub is_free : List ℕ → Literal → Bool
is_free marks l = eqb (get_or marks l.1 0) 0

-- a literal becomes true
unfoldable pub assign : List ℕ → Literal → List ℕ
assign marks l = set marks l.1 (wanted l)

-- what a stored clause says: that it is false, that a literal of it is to be true, or nothing
pub data Said : Type 0 where
  refuted quiet : Said
  forces : Literal → Said

-- what the free literals say of a clause in which none is true
abbrev pub say_free : List Literal → Said
say_free [] = refuted
say_free (l ∷ ls) = cond (all (same l) ls) (forces l) quiet

-- what a clause says
unfoldable pub say : List ℕ → List Literal → Said
say marks c = cond (any (is_true marks) c) quiet (say_free (keep (is_free marks) c))

-- what a pass over clauses comes to: it met a false clause; or the marks that it leaves, and whether it made one
pub data Pass : Type 0 where
  hit : Pass
  done : List ℕ → Bool → Pass

-- one pass, in list order
unfoldable pub pass : List ℕ → Bool → List (List Literal) → Pass
pass marks moved [] = done marks moved
pass marks moved (c ∷ cs) =
    elim (say marks c) [
      | refuted ↦ hit
      | quiet ↦ pass marks moved cs
      | forces l ↦ pass (assign marks l) true cs
    ]

-- at most so many passes meet a false clause; they end at the first that makes no mark
unfoldable pub refutes : ℕ → List ℕ → List (List Literal) → Bool
refutes zero marks stored = false
refutes (suc n) marks stored =
    elim (pass marks false stored) [
      | hit ↦ true
      | done after moved ↦ cond moved (refutes n after stored) false
    ]

-- what the assertions come to: two contradict; or the marks that they leave
pub data Asserted : Type 0 where
  contradict : Asserted
  marked : List ℕ → Asserted

-- the opposite of each literal asserted, in order
unfoldable pub assert : List ℕ → List Literal → Asserted
assert marks [] = marked marks
assert marks (l ∷ ls) = cond (is_true marks l) contradict (assert (assign marks (opposite l)) ls)

-- the clause follows from the stored ones, where there are `room` marks; each pass but the last makes one
unfoldable pub follows : ℕ → List (List Literal) → List Literal → Bool
follows room stored c =
    elim (assert (replicate room 0) c) [
      | contradict ↦ true
      | marked marks ↦ refutes (suc (length marks)) marks stored
    ]

-- the verdict, with one clause before
abbrev pub next : Verdict → Verdict
next passes = passes
next (stops i) = stops (suc i)

-- the verdict on a refutation
unfoldable pub verdict : ℕ → List (List Literal) → List (List Literal) → Verdict
verdict room stored [] = passes
verdict room stored (c ∷ cs) =
    let rest : Verdict = verdict room (stored ++ (c ∷ [])) cs in
    cond (follows room stored c) (next rest) (stops 0)
