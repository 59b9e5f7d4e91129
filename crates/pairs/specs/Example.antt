-- The definitions run on circuit A: its pairs at T=3 and the table that they make; none at T=6; and its pairs where the
-- OR falls a unit later by node 3 than it rises. Interface: pairs_a, pairs_apart.
use Rattle.std.specs.Prelude.{◌≡◌, refl, [], ◌∷◌}
use Rattle.netlist.specs.Netlist.{Circuit, apart, at_zero}
use Rattle.netlist.specs.Example.{described_a}
use Rattle.settle.specs.Settling.{grow, tops_of}
use Rattle.pairs.specs.Pairs.{asked, times_at, pair_list, pairs_for, flat_pairs, lent_pairs, pair_place}

-- the pairs as a list, as the lent table, a pair's place, and none
pub pairs_a :
    (pairs_for (at_zero described_a) 3 ≡ (2, 1) ∷ (3, 2) ∷ (4, 3) ∷ [])
    × (flat_pairs (pairs_for (at_zero described_a) 3) ≡ 2 ∷ 1 ∷ 3 ∷ 2 ∷ 4 ∷ 3 ∷ [])
    × (pair_place 3 2 (pairs_for (at_zero described_a) 3) ≡ 1)
    × (pairs_for (at_zero described_a) 6 ≡ [])
unfolding described_a grow tops_of asked times_at pair_list pairs_for flat_pairs pair_place
pairs_a = (refl, refl, refl, refl)

-- circuit A with a second list of delays
unfoldable pub apart_a : Circuit
apart_a = record { net = described_a; arrivals = 0 ∷ 0 ∷ []; slopes = apart (3 ∷ 1 ∷ 1 ∷ 2 ∷ 1 ∷ []) }

-- rail 2n and rail 2n + 1 are node n's, for the final values 0 and 1: at T=3 the OR asks node 3 at 1 where it ends at
-- 0, and at 2 where it ends at 1, and it asks both rails of node 3
pub pairs_apart :
    (pairs_for apart_a 3 ≡ (4, 1) ∷ (5, 1) ∷ (6, 1) ∷ (6, 2) ∷ (7, 1) ∷ (7, 2) ∷ (8, 3) ∷ (9, 3) ∷ [])
    × (lent_pairs (apart []) (pairs_for apart_a 3)
    ≡ 2 ∷ 0 ∷ 1 ∷ 2 ∷ 1 ∷ 1 ∷ 3 ∷ 0 ∷ 1 ∷ 3 ∷ 0 ∷ 2 ∷ 3 ∷ 1 ∷ 1 ∷ 3 ∷ 1 ∷ 2 ∷ 4 ∷ 0 ∷ 3 ∷ 4 ∷ 1 ∷ 3 ∷ [])
unfolding apart_a described_a grow tops_of asked times_at pair_list pairs_for lent_pairs
pairs_apart = (refl, refl)
