-- The rows of the table of refusals (rule T1) that a check of a refutation meets, as functions: FORMULA, REFUTATION,
-- LAST and ROOM, in the order 11, 12, 13, 9. (STEP, the last, is in Promise.) Interface: check_rows, refutation_rows.
use Rattle.std.specs.Prelude.{
  Bool,
  not,
  ◌||◌,
  cond,
  List,
  [],
  ◌∷◌,
  ◌++◌,
  ℕ,
  suc,
  ◌-◌,
  ◌≤◌,
  T,
  leb,
  ltb,
  eqb,
  ℤ,
  pos,
  negsuc,
  length,
  get_or,
}
use Rattle.basics.specs.Lists.{all}
use Rattle.refusal.specs.declared.Refusal.TheVariants.{Formula, Refutation, Last}
use Rattle.refusal.specs.Rows.{Row, room_row}
use Rattle.clauses.specs.Clauses.{Literal, clauses_of}

-- the size of a number, without its sign (rule T3); that of -2147483648 is 2147483648
abbrev pub magnitude : ℤ → ℕ
magnitude (pos n) = n
magnitude (negsuc n) = suc n

-- the index of the first number whose size is above V, or the length where there is none
unfoldable pub first_beyond : ℕ → List ℤ → ℕ
first_beyond variables [] = 0
first_beyond variables (z ∷ zs) = cond (ltb variables (magnitude z)) 0 (suc (first_beyond variables zs))

-- the last number is 0; an empty list has none that is not
unfoldable pub ended : List ℤ → Bool
ended zs = eqb (magnitude (get_or zs (length zs - 1) (pos 0))) 0

-- the most variables of a formula: more than any circuit's has, and few enough for a slice of marks
abbrev pub most_variables : ℕ
most_variables = 100000

-- 11 FORMULA: V above 100,000, place 0; then, a number whose size is above V, its index; then, a formula that has
-- numbers and doesn't end in 0, its length
unfoldable pub formula_rows : ℕ → List ℤ → List Row
formula_rows variables formula =
    (ltb most_variables variables, Formula 0)
    ∷ (ltb (first_beyond variables formula) (length formula), Formula (first_beyond variables formula))
    ∷ (not (ended formula), Formula (length formula)) ∷ []

-- 12 REFUTATION: a number whose size is above V, its index; then, a refutation that has no numbers or doesn't end in 0,
-- its length
unfoldable pub refutation_form : ℕ → List ℤ → List Row
refutation_form variables refutation =
    (ltb (first_beyond variables refutation) (length refutation), Refutation (first_beyond variables refutation))
    ∷ (eqb (length refutation) 0 || not (ended refutation), Refutation (length refutation)) ∷ []

-- the number of the first empty clause, or the clause count where there is none
unfoldable pub first_empty : List (List Literal) → ℕ
first_empty [] = 0
first_empty ([] ∷ cs) = 0
first_empty ((l ∷ ls) ∷ cs) = suc (first_empty cs)

-- 13 LAST: a clause that is empty and not the last, the first such; then, no empty clause, how many clauses there are
unfoldable pub last_row : List (List Literal) → Row
last_row clauses = (not (eqb (suc (first_empty clauses)) (length clauses)), Last (first_empty clauses))

-- "12, 13, room for propagation", V+1 of it, for a formula that is known to be well formed
abbrev pub refutation_rows : ℕ → List ℤ → ℕ → List Row
refutation_rows variables refutation room =
    refutation_form variables refutation
    ++ (last_row (clauses_of refutation) ∷ room_row (suc variables) room ∷ [])

-- 11, 12, 13 and 9 for propagation: the rows of a check before 14 (rule C3)
abbrev pub check_rows : ℕ → List ℤ → List ℤ → ℕ → List Row
check_rows variables formula refutation room =
    formula_rows variables formula ++ refutation_rows variables refutation room

-- a formula that is known to be well formed: row 11 has nothing to say against it (proofs/Judging: just these)
pub record WellFormed (variables : ℕ) (formula : List ℤ) : Type 0 where
  pub few : variables ≤ most_variables
  pub within : T (all (λ (z : ℤ). leb (magnitude z) variables) formula)
  pub last : T (ended formula)
