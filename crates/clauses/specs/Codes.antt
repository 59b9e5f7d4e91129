-- A signed number as one unsigned code, so that the code between two slices reckons without signs: twice the variable,
-- and one more where it is negative; 0 ends a clause.
use Rattle.std.specs.Prelude.{cond, List, [], ◌∷◌, ℕ, ◌+◌, ◌-◌, ◌*◌, ◌/◌, ◌%◌, eqb, ltb, ℤ, pos, negsuc, neg_ℤ, set}
use Rattle.clauses.specs.Clauses.{Literal}

-- the code of a number
unfoldable pub code_of : ℤ → ℕ
code_of (pos n) = n * 2
code_of (negsuc n) = n * 2 + 3

-- the number of a code
unfoldable pub decoded : ℕ → ℤ
decoded code = cond (eqb (code % 2) 0) (pos (code / 2)) (neg_ℤ (pos (code / 2)))

-- the code of a literal
abbrev pub literal_code : Literal → ℕ
literal_code l = cond l.0 (l.1 * 2) (l.1 * 2 + 1)

-- the codes written from place `at` on, as numbers; what has no room is not written
unfoldable pub written : List ℤ → ℕ → List ℕ → List ℤ
written slice at [] = slice
written slice at (code ∷ codes) = written (set slice at (decoded code)) (at + 1) codes

-- the signed number of a 32-bit word, two's complement
unfoldable pub signed_of : ℕ → ℤ
signed_of word = cond (ltb word 2147483648) (pos word) (negsuc (4294967295 - word))
