-- The pairs of a target (rule F4), each a rail and a time. Interface: is_pair, Asked (the smallest set, as the rule has
-- it), pair_list (the same as a list, in the order of the variables), times_for, pairs_for (of a circuit), flat_pairs,
-- lent_pairs (the lent table), pair_place (a pair's place), pair_numbers, table_holds.
use Rattle.std.specs.Prelude.{Bool, not, ◌&&◌, ◌||◌, cond, ℕ, suc, ◌+◌, ◌-◌, ◌/◌, ◌%◌, min, T, leb, ltb, eqb}
use mathlib.Core.List.{List, [], ◌∷◌, map, Memᴰ}
use Rattle.basics.specs.Lists.{any, keep, concat_map, up_from, numbered}
use Rattle.netlist.specs.Netlist.{Cell, Pin, Circuit, Slopes, alike, apart}
use Rattle.settle.specs.Settling.{top_of}
use Rattle.pairs.specs.Rails.{rail_count, node_of, rail_cells, rail_outputs}

-- with I inputs' rails and the rails' tops, a rail's being late at t is open (rule F2): t is neither 0 nor above the
-- top, and the rail is a gate's, since an input is late up to its top and not beyond
abbrev pub is_pair : ℕ → (ℕ → ℕ) → ℕ → ℕ → Bool
is_pair I top rail t = not (ltb rail I) && (ltb 0 t && leb t (top rail))

-- with the outputs' rails and the target
module _ (I : ℕ) (top : ℕ → ℕ) (outputs : List ℕ) (target : ℕ) where
  -- the least set: what an output asks for, and what a pin of a pair's gate asks for
  pub data Asked (gates : List (ℕ × Cell)) : ℕ → ℕ → Type 0 where
    output : {f : ℕ} → Memᴰ f outputs → T (is_pair I top f target) → Asked gates f target
    driver : {f s : ℕ} {g : Cell} {p : Pin} → Memᴰ (f, g) gates → Memᴰ p g.pins → Asked gates f s →
        T (is_pair I top p.driver (s - p.delay)) → Asked gates p.driver (s - p.delay)

  -- is (f, t) asked for by the outputs, or by one of the gates whose nodes start at k
  unfoldable pub asked : ℕ → List Cell → ℕ → ℕ → Bool
  asked k [] f t = is_pair I top f t && (eqb t target && any (λ o. eqb o f) outputs)
  asked k (g ∷ gs) f t =
      asked (suc k) gs f t
      || (is_pair I top f t && any (λ p. eqb p.driver f && asked (suc k) gs k (t + p.delay)) g.pins)

  -- the times of a node's pairs, rising
  unfoldable pub times_at : List Cell → ℕ → List ℕ
  times_at gates f = keep (asked I gates f) (up_from 1 (top f))

  -- in the order of their nodes and, for one node, of their times (rule F5)
  unfoldable pub pair_list : List Cell → List (ℕ × ℕ)
  pair_list gates = concat_map (λ x. map (λ t. (x.0, t)) (times_at gates x.0)) (numbered I gates)

-- a table with the rail and the time of each pair
unfoldable pub flat_pairs : List (ℕ × ℕ) → List ℕ
flat_pairs [] = []
flat_pairs (x ∷ xs) = x.0 ∷ x.1 ∷ flat_pairs xs

-- the lent table (rule F6): the node and the time of each pair; or the node, the final value and the time
unfoldable pub lent_pairs : Slopes → List (ℕ × ℕ) → List ℕ
lent_pairs alike xs = flat_pairs xs
lent_pairs (apart falls) [] = []
lent_pairs (apart falls) (x ∷ xs) = x.0 / 2 ∷ x.0 % 2 ∷ x.1 ∷ lent_pairs (apart falls) xs

-- a rail's top is its node's
abbrev pub rail_top : Circuit → ℕ → ℕ
rail_top circuit rail = top_of circuit (node_of circuit.slopes rail)

-- the times of the pairs of a rail, for a circuit's target
abbrev pub times_for : Circuit → ℕ → ℕ → List ℕ
times_for circuit target =
    times_at (rail_count circuit.slopes circuit.net.inputs) (rail_top circuit)
    (rail_outputs circuit.slopes circuit.net.outputs) target
    (rail_cells circuit.slopes circuit.net.gates)

-- the pairs of a circuit's target, in the order of their variables
unfoldable pub pairs_for : Circuit → ℕ → List (ℕ × ℕ)
pairs_for circuit target =
    pair_list (rail_count circuit.slopes circuit.net.inputs) (rail_top circuit)
    (rail_outputs circuit.slopes circuit.net.outputs) target
    (rail_cells circuit.slopes circuit.net.gates)

-- the place of a pair in a list of pairs
unfoldable pub pair_place : ℕ → ℕ → List (ℕ × ℕ) → ℕ
pair_place f t [] = 0
pair_place f t (x ∷ xs) = cond (eqb x.0 f && eqb x.1 t) 0 (suc (pair_place f t xs))

-- how many numbers a pair takes in the lent table
abbrev pub pair_numbers : Slopes → ℕ
pair_numbers alike = 2
pair_numbers (apart falls) = 3

-- how many pairs a lent table holds, with so many numbers a pair: at most 65,536
abbrev pub table_holds : ℕ → ℕ → ℕ
table_holds numbers room = min (room / numbers) 65536
