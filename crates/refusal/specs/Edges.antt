-- Each refusal with the number and the place that a caller reads, as rows of the proved table. Interface: Case, edges,
-- as_told, edges-hold.
use Rattle.std.specs.Prelude.{◌≡◌, refl, List, [], ◌∷◌, map, ℕ}
use Rattle.refusal.specs.declared.Refusal.{Refusal}
use Rattle.refusal.specs.declared.Refusal.TheVariants.{
  Short,
  Version,
  Count,
  Back,
  Gate,
  Pin,
  Output,
  Vector,
  Room,
  Pairs,
  Formula,
  Refutation,
  Last,
  Step,
  Witness,
  Arrival,
  Fall,
}
use Rattle.refusal.specs.Table.{number_of, place_of}

-- a refusal, and what is told of it
pub record Case : Type 0 where
  pub refusal : Refusal
  pub number : ℕ
  pub place : ℕ

abbrev case : Refusal → ℕ → ℕ → Case
case refusal number place = record { refusal = refusal; number = number; place = place }

-- the places differ from row to row, and from the numbers
unfoldable pub edges : List Case
edges =
    case (Short 13) 1 13
    ∷ case (Version 27) 2 27
    ∷ case (Count 3) 3 3
    ∷ case Back 4 0
    ∷ case (Gate 448) 5 448
    ∷ case (Pin 2047) 6 2047
    ∷ case (Output 63) 7 63
    ∷ case (Vector 64) 8 64
    ∷ case (Room 512) 9 512
    ∷ case Pairs 10 0
    ∷ case (Formula 99) 11 99
    ∷ case (Refutation 98) 12 98
    ∷ case (Last 97) 13 97
    ∷ case (Step 96) 14 96
    ∷ case (Witness 95) 15 95
    ∷ case (Arrival 94) 16 94
    ∷ case (Fall 93) 19 93 ∷ []

-- a row's refusal with the number and the place that the definitions give it
abbrev pub as_told : Case → Case
as_told c = case c.refusal (number_of c.refusal) (place_of c.refusal)

-- each refusal has its number and its place
pub edges-hold : map as_told edges ≡ map (λ (c : Case). c) edges
unfolding edges
edges-hold = refl
