-- The reader at places that tell "stays" from "goes to the end": rows, each a slice, a place, and what is given there.
-- Interface: Case, edges, edges-hold.
use Rattle.std.specs.Prelude.{◌≡◌, refl, List, [], ◌∷◌, map, ℕ, ℤ, pos, negsuc}
use Rattle.reader.specs.Reading.{first_length, length_at, start_at, clause_at, next_at}

-- a slice and a place; the part given there, where it starts, and the place after a step
pub record Case : Type 0 where
  pub slice : List ℤ
  pub at : ℕ
  pub part : List ℤ
  pub start : ℕ
  pub next : ℕ

abbrev case : List ℤ → ℕ → List ℤ → ℕ → ℕ → Case
case slice at part start next = record { slice = slice; at = at; part = part; start = start; next = next }

-- "1 -2 0 0 3": two clauses, then a number that no 0 ends
abbrev pub unended : List ℤ
unended = pos 1 ∷ negsuc 1 ∷ pos 0 ∷ pos 0 ∷ pos 3 ∷ []

-- clause by clause; inside a clause; behind the last 0, at the end and past it the empty part at the end, and the
-- reader stays where it is; the same of a slice of nothing
unfoldable pub edges : List Case
edges =
    case unended 0 (pos 1 ∷ negsuc 1 ∷ pos 0 ∷ []) 0 3
    ∷ case unended 1 (negsuc 1 ∷ pos 0 ∷ []) 1 3
    ∷ case unended 3 (pos 0 ∷ []) 3 4
    ∷ case unended 4 [] 5 4
    ∷ case unended 5 [] 5 5
    ∷ case unended 7 [] 5 7
    ∷ case [] 0 [] 0 0
    ∷ case [] 2 [] 0 2 ∷ []

-- each is given so
pub edges-hold :
    map
    (λ (c : Case).
    case c.slice c.at (clause_at c.slice c.at) (start_at c.slice c.at) (next_at c.slice c.at))
    edges
    ≡ edges
unfolding edges first_length length_at start_at clause_at next_at
edges-hold = refl
