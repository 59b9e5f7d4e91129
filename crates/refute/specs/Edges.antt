-- Checks on both sides of each bound and with two faults at once, where the earlier row answers: FORMULA, REFUTATION,
-- LAST, ROOM, STEP. Rows of the proved table, beside Examples. Interface: edges.
use Rattle.std.specs.Prelude.{List, [], ◌∷◌, ◌++◌, ℕ, ℤ, pos, negsuc}
use Rattle.refusal.specs.declared.Refusal.TheVariants.{Formula, Refutation, Last, Room, Step}
use Rattle.std.specs.Prelude.{Ok, Err}
use Rattle.refusal.specs.Rows.{Checked}
use Rattle.refute.specs.Examples.{Case, four_clauses}

-- variables, formula, refutation, room, answer
abbrev case : ℕ → List ℤ → List ℤ → ℕ → Checked → Case
case variables formula refutation room answer =
    record { variables = variables; formula = formula; refutation = refutation; room = room; answer = answer }

-- the refutation "0"
abbrev nothing : List ℤ
nothing = pos 0 ∷ []

-- 100,000 variables and one more; more with a literal beyond them; a literal beyond, the least number among them, in a
-- list that does not end in 0; such a list by itself; most with a refutation that is none
unfoldable pub formulas : List Case
formulas =
    case 100000 [] nothing 0 (Err (Room 100001))
    ∷ case 100000 (pos 100000 ∷ negsuc 99999 ∷ pos 0 ∷ []) nothing 100000 (Err (Room 100001))
    ∷ case 100001 [] nothing 0 (Err (Formula 0))
    ∷ case 100001 (pos 1 ∷ pos 100002 ∷ []) [] 0 (Err (Formula 0))
    ∷ case 100000 (pos 1 ∷ pos 100001 ∷ []) [] 0 (Err (Formula 1))
    ∷ case 100000 (pos 1 ∷ negsuc 2147483647 ∷ pos 0 ∷ []) nothing 0 (Err (Formula 1))
    ∷ case 2 (pos 1 ∷ negsuc 2 ∷ []) [] 0 (Err (Formula 1))
    ∷ case 2 (pos 3 ∷ negsuc 2 ∷ pos 0 ∷ []) [] 0 (Err (Formula 0))
    ∷ case 2 (pos 2 ∷ negsuc 1 ∷ []) [] 0 (Err (Formula 2))
    ∷ case 2 (pos 0 ∷ pos 1 ∷ []) (pos 3 ∷ []) 0 (Err (Formula 2))
    ∷ case 0 (pos 1 ∷ pos 0 ∷ []) nothing 1 (Err (Formula 0)) ∷ []

-- a literal beyond, in a list that does not end in 0; empty; such a list by itself; most with clauses that LAST
-- refuses, and none with room
unfoldable pub refutations : List Case
refutations =
    case 2 four_clauses (pos 1 ∷ pos 3 ∷ []) 0 (Err (Refutation 1))
    ∷ case 2 four_clauses (pos 0 ∷ pos 0 ∷ negsuc 2 ∷ pos 0 ∷ []) 0 (Err (Refutation 2))
    ∷ case 2 four_clauses [] 0 (Err (Refutation 0))
    ∷ case 2 four_clauses (pos 2 ∷ negsuc 1 ∷ []) 0 (Err (Refutation 2))
    ∷ case 2 four_clauses (pos 0 ∷ pos 0 ∷ pos 1 ∷ []) 0 (Err (Refutation 3)) ∷ []

-- the first empty clause before the last; none: the clause count; no room in either
unfoldable pub lasts : List Case
lasts =
    case 2 four_clauses (pos 0 ∷ pos 0 ∷ pos 0 ∷ []) 0 (Err (Last 0))
    ∷ case 2 four_clauses (pos 1 ∷ pos 0 ∷ pos 0 ∷ pos 2 ∷ pos 0 ∷ []) 0 (Err (Last 1))
    ∷ case 2 four_clauses (pos 1 ∷ pos 0 ∷ pos 2 ∷ pos 0 ∷ []) 0 (Err (Last 2)) ∷ []

-- one byte too few with a clause that does not follow, and just enough; the first that does not follow; a formula of
-- no clauses; one with an empty clause; a clause that follows by a later one alone
unfoldable pub steps : List Case
steps =
    case 2 four_clauses nothing 2 (Err (Room 3))
    ∷ case 2 four_clauses nothing 3 (Err (Step 0))
    ∷ case 2 four_clauses (pos 1 ∷ pos 0 ∷ pos 0 ∷ []) 2 (Err (Room 3))
    ∷ case 2 [] (pos 1 ∷ negsuc 0 ∷ pos 0 ∷ pos 2 ∷ pos 0 ∷ pos 0 ∷ []) 3 (Err (Step 1))
    ∷ case 0 [] nothing 1 (Err (Step 0))
    ∷ case 0 (pos 0 ∷ []) nothing 1 (Ok tt)
    ∷ case 2 (pos 1 ∷ pos 1 ∷ pos 0 ∷ negsuc 0 ∷ pos 0 ∷ []) nothing 3 (Ok tt)
    ∷ case 2 (pos 1 ∷ pos 2 ∷ pos 0 ∷ negsuc 0 ∷ negsuc 1 ∷ pos 0 ∷ []) nothing 3 (Err (Step 0))
    ∷ case 2 [] (pos 1 ∷ pos 0 ∷ pos 1 ∷ pos 0 ∷ pos 0 ∷ []) 3 (Err (Step 0)) ∷ []

-- all of them
unfoldable pub edges : List Case
edges = formulas ++ (refutations ++ (lasts ++ steps))
