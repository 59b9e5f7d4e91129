-- The definitions run on circuit A: its pairs and numbers at T = 3, as rule X2 prints them, and its counts at T = 6.
-- Interface: printed, runs.
use Rattle.std.specs.Prelude.{◌≡◌, refl, List, [], ◌∷◌, ℤ, pos, negsuc}
use Rattle.netlist.specs.Netlist.{at_zero}
use Rattle.netlist.specs.Example.{described_a}
use Rattle.settle.specs.Settling.{grow, tops_of}
use Rattle.clauses.specs.Clauses.{flat}
use Rattle.pairs.specs.Pairs.{asked, times_at, pair_list, pair_place, pairs_for}
use Rattle.formula.specs.Formula.{clause_of, gate_clauses, late, pair_clauses, formula, pair_variable, formula_for}
use Rattle.formula.specs.Promise.{numbers_for, counts_for}

-- the clause lines of the page at T=3
unfoldable pub printed : List ℤ
printed =
    pos 1 ∷ negsuc 2 ∷ pos 0 ∷ negsuc 0 ∷ pos 3 ∷ pos 0
    ∷ pos 3 ∷ negsuc 3 ∷ pos 0 ∷ pos 2 ∷ negsuc 3 ∷ pos 0 ∷ negsuc 2 ∷ negsuc 1 ∷ pos 4 ∷ pos 0
    ∷ negsuc 3 ∷ pos 5 ∷ pos 0 ∷ negsuc 1 ∷ pos 5 ∷ pos 0 ∷ pos 4 ∷ pos 2 ∷ negsuc 4 ∷ pos 0
    ∷ negsuc 6 ∷ pos 6 ∷ pos 0 ∷ negsuc 6 ∷ pos 6 ∷ pos 3 ∷ pos 0 ∷ negsuc 6 ∷ pos 2 ∷ pos 0
    ∷ negsuc 7 ∷ pos 7 ∷ pos 0 ∷ negsuc 7 ∷ pos 7 ∷ negsuc 3 ∷ pos 0 ∷ negsuc 7 ∷ negsuc 1 ∷ pos 0 ∷ pos 8 ∷ pos 0 ∷ []

-- the pairs and the numbers at T=3, the counts at T=6
pub runs :
    (pairs_for (at_zero described_a) 3 ≡ (2, 1) ∷ (3, 2) ∷ (4, 3) ∷ [])
    × (numbers_for (at_zero described_a) 3 ≡ printed)
    × (counts_for (at_zero described_a) 6 ≡ record { variables = 5; pairs = 0; clauses = 9; numbers = 27 })
unfolding
    described_a grow tops_of flat asked times_at pair_list clause_of gate_clauses late pair_clauses formula
    pair_place pairs_for pair_variable formula_for numbers_for counts_for printed
runs = (refl, refl, refl)
