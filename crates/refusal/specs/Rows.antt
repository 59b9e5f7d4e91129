-- Rows of the table of refusals, asked one after the other: the first that refuses is the answer. Every call's order of
-- checks is such a list. Interface: all of it.
use Rattle.std.specs.Prelude.{Bool, cond, List, [], ◌∷◌, ℕ, ltb, Result, Ok, Err}
use Rattle.refusal.specs.declared.Refusal.{Refusal}
use Rattle.refusal.specs.declared.Refusal.TheVariants.{Room}

-- what rows of the table say of what a call was given: nothing against it, or the first that refuses
abbrev pub Checked : Type 0
Checked = Result (Unit {0}) Refusal

-- a row: when it refuses, and the refusal
abbrev pub Row : Type 0
Row = Bool × Refusal

-- what rows say in turn: the first that refuses, or that all are passed
abbrev pub checked : List Row → Checked
checked [] = Ok tt
checked (row ∷ rows) = cond row.0 (Err row.1) (checked rows)

-- what a call comes to: by its refusal, or by passing every row
abbrev pub unless_refused : {A : Type 0} → Checked → (Refusal → A) → A → A
unless_refused (Ok _) refused passed = passed
unless_refused (Err refusal) refused passed = refused refusal

-- 9 ROOM: a lent slice of `room` elements is shorter than needed
abbrev pub room_row : ℕ → ℕ → Row
room_row needed room = (ltb room needed, Room needed)
