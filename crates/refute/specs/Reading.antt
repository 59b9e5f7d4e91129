-- What the code's small functions make of numbers and marks: the literal of a number, and what a clause's literals
-- say so far. It serves the contracts inside this crate; no promise to a caller speaks of it.
use Rattle.std.specs.Prelude.{◌≡◌, Bool, true, false, cond, List, ◌++◌, map, ℕ, zero, suc, ◌+◌, ◌/◌, ◌%◌}
use Rattle.std.specs.Prelude.{◌≤◌, ◌<◌, T, eqb, ℤ, pos, negsuc, length, get_or, Ok, Err}
use Rattle.clauses.specs.Clauses.{Literal, clauses_of}
use Rattle.clauses.specs.Codes.{code_of}
use Rattle.refusal.specs.Rows.{Checked}
use Rattle.refusal.specs.declared.Refusal.TheVariants.{Step}
use Rattle.refute.specs.Passes.{Asserted, contradict, marked, follows, verdict}
use Rattle.refute.specs.Propagation.{Verdict, passes, stops}
use Rattle.refute.specs.Rows.{magnitude, ended}
use Rattle.refute.specs.declared.Scan.{Scan}
use Rattle.refute.specs.declared.Scan.TheVariants.{Refuted, Forces, Quiet}

-- the literal of a number that is not 0
abbrev pub literal_of : ℤ → Literal
literal_of (pos n) = (true, n)
literal_of (negsuc n) = (false, suc n)

-- the literals of a part without its 0
abbrev pub literals_of : List ℤ → List Literal
literals_of zs = map literal_of zs

-- each number of a list has a mark
abbrev pub Within : ℕ → List ℤ → Type 0
Within room zs = (k : ℕ) → magnitude (get_or zs k (pos 0)) < room

-- a list of stored clauses: each number has a mark, and it ends in 0
pub record Stored (room : ℕ) (list : List ℤ) : Type 0 where
  pub fits : Within room list
  pub ends : T (ended list)

-- a free literal more: the first is kept, the same again changes nothing, another leaves nothing to say
abbrev pub looked_free : Scan → ℕ → Scan
looked_free Refuted code = Forces code
looked_free (Forces first) code = cond (eqb first code) (Forces first) Quiet
looked_free Quiet code = Quiet

-- a literal more, by the mark of its variable; a true one leaves nothing to say
abbrev pub looked_by : ℕ → Scan → ℕ → Scan
looked_by zero scan code = looked_free scan code
looked_by (suc mark) scan code = cond (eqb (suc mark) (code % 2 + 1)) Quiet scan

-- a literal more, under the marks
abbrev pub looked : List ℕ → Scan → ℕ → Scan
looked marks scan code = looked_by (get_or marks (code / 2) 0) scan code

-- what the assertions came to, by the answer and the marks that they left
unfoldable pub outcome : Bool → List ℕ → Asserted
outcome true marks = contradict
outcome false marks = marked marks

-- the place of the first 0 from a place on, or the length; a 0 is the number of code 0
pub record NextZero (list : List ℤ) (from to : ℕ) : Type 0 where
  pub above : from ≤ to
  pub upto : to ≤ length list
  pub none_before : (k : ℕ) → from ≤ k → k < to → code_of (get_or list k (pos 0)) ≡ 0 → ⊥
  pub there : to < length list → code_of (get_or list to (pos 0)) ≡ 0

-- the answer that a verdict stands for
abbrev pub answer_of : Verdict → Checked
answer_of passes = Ok tt
answer_of (stops i) = Err (Step i)

-- the passes' answer on one clause, where the marks are those given
abbrev pub follows_from : List ℕ → List ℤ → List ℤ → List ℤ → Bool
follows_from marks formula earlier clause =
    follows (length marks) (clauses_of formula ++ clauses_of earlier) (literals_of clause)

-- and on a refutation
abbrev pub verdict_on : List ℕ → List ℤ → List ℤ → Checked
verdict_on marks formula refutation = answer_of (verdict (length marks) (clauses_of formula) (clauses_of refutation))
