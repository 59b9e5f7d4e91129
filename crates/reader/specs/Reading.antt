-- The reader (rules L5 and L6): a formula's slice with a place in it, from which it hands out clause after clause; from
-- a place without a later 0, or behind the end, the stretch of length 0 at the slice's end, and a step doesn't move it.
-- Interface: PartAt, clause_at, next_at, place_after; the others serve them.
use Rattle.std.specs.Prelude.{◌≡◌, cond, List, [], ◌∷◌, ℕ, zero, suc, ◌+◌, eqb, ℤ, pos, negsuc, length, take, drop}
use Rattle.std.specs.Borrow.{Bor}
use Rattle.refute.specs.Parts.{point_at}

-- one number more in front of a clause; where there is no clause, there is still none
abbrev pub longer : ℕ → ℕ
longer zero = zero
longer (suc n) = suc (suc n)

-- how many numbers a list's first clause has, its 0 among them; none where the list has no 0
unfoldable pub first_length : List ℤ → ℕ
first_length [] = 0
first_length (pos zero ∷ zs) = 1
first_length (pos (suc n) ∷ zs) = longer (first_length zs)
first_length (negsuc n ∷ zs) = longer (first_length zs)

-- how many numbers the clause at a place has; none where no 0 is left, or the place is past the end
unfoldable pub length_at : List ℤ → ℕ → ℕ
length_at list at = first_length (drop at list)

-- where the part given starts: at the place, or at the slice's end where there is no clause
unfoldable pub start_at : List ℤ → ℕ → ℕ
start_at list at = cond (eqb (length_at list at) 0) (length list) at

-- the part given at a place: the clause with its 0, or the stretch of length 0 at the slice's end
unfoldable pub clause_at : List ℤ → ℕ → List ℤ
clause_at list at = take (length_at list at) (drop (start_at list at) list)

-- what is given at a place of a slice: those numbers, and they are that very part of the slice, no copy
pub record PartAt (slice : Bor (List ℤ)) (at : ℕ) (part : Bor (List ℤ)) : Type 0 where
  pub holds : part.now ≡ clause_at slice.now at
  pub lies : part.ref_ptr ≡ point_at slice.ref_ptr (start_at slice.now at)

-- the place past the clause; where there is none, a step doesn't move the reader (rule L6)
unfoldable pub next_at : List ℤ → ℕ → ℕ
next_at list at = at + length_at list at

-- the place of a reader after n steps from the start
unfoldable pub place_after : List ℤ → ℕ → ℕ
place_after list zero = 0
place_after list (suc n) = next_at list (place_after list n)
