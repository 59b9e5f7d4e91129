-- What the formula needs of the pairs of a circuit whose netlist is valid: they hold what the outputs ask for, are
-- closed under the drivers, and each has its own place in the list. Laws: place-below, place_at; closed-for,
-- listed-for, placed-for, place-for, pair-for, time-for, output-for, driver-for. Assumes nothing.
use mathlib.Core.Path.{◌≡◌, refl, sym, ap₂, subst}
use mathlib.Core.Bool.{Bool, true, false, ◌&&◌, cond}
use mathlib.Core.List.{List, [], ◌∷◌, Memᴰ}
use Prim.Native.Nat.{ℕ, suc, ◌+◌, ◌-◌, ◌≤◌, ◌<◌}
use native.Mathlib.Omega.{arith}
use lib.Dec.{T, eqb, eqb→eq, eqb_refl}
use lib.ListN.{length, get_or}
use Rattle.basics.specs.Lists.{numbered}
use Rattle.basics.proofs.Truth.{and_left, and_right, and_both, holds}
use Rattle.netlist.specs.Netlist.{Cell, Pin, Slopes, nodes, node_count, valid, Circuit}
use Rattle.netlist.proofs.Valid.{valid-outputs}
use Rattle.settle.specs.Settling.{top_of}
use Rattle.pairs.specs.Rails.{rails_of, rail_count, node_of, Rail, rails_at, rail_cells, rail_outputs}
use Rattle.pairs.specs.Pairs.{is_pair, output, driver, rail_top, times_for, pairs_for, pair_place}
use Rattle.pairs.proofs.Least.{
  Down,
  least-set,
  is-pair,
  pair-facts,
  asked-is-pair,
  member-is-pair,
  asked-below,
}
use Rattle.pairs.proofs.Unique.{time-asked, asked-time, pairs-asked, asked-pairs}
use Rattle.pairs.proofs.Rails.{
  rail-node,
  from-node,
  below-node,
  asking-has,
  rail-has,
  rail-total,
  outputs-has,
  outputs-only,
  down-for,
}

-- the times of the rails' pairs hold what the outputs ask for, and what each pin of a pair's gate asks for
pub record Closed (slopes : Slopes) (I : ℕ) (gates : List (ℕ × Cell)) (top : ℕ → ℕ) (times : ℕ → List ℕ)
    (outputs : List ℕ) (target : ℕ) : Type 0 where
  pub positive : (rail t : ℕ) → Memᴰ t (times rail) → 0 < t
  pub outputs-in : (o : ℕ) → Memᴰ o outputs → I ≤ o → 0 < target → target ≤ top o →
      (rail : ℕ) → Memᴰ rail (rails_of slopes o) → Memᴰ target (times rail)
  pub drivers-in : (x : ℕ × Cell) → Memᴰ x gates → (r : Rail) → Memᴰ r (rails_at slopes x) →
      (t : ℕ) → Memᴰ t (times r.number) → (p : Pin) → Memᴰ p r.pins → I ≤ p.driver →
      0 < t - p.delay → t - p.delay ≤ top p.driver →
      (rail : ℕ) → Memᴰ rail (rails_of slopes p.driver) → Memᴰ (t - p.delay) (times rail)

-- ---- a pair's place

-- the test of the place of a pair passes at the pair
same-pair : (f t : ℕ) (x : ℕ × ℕ) → (f, t) ≡ x → T (eqb x.0 f && eqb x.1 t)
same-pair f t x e = rw (sym e) (and_both (eqb f f) (eqb t t) (eqb_refl f) (eqb_refl t))

-- and nowhere else
pair_same : (f t : ℕ) (x : ℕ × ℕ) → T (eqb x.0 f && eqb x.1 t) → x ≡ (f, t)
pair_same f t x u =
    ap₂ (λ (a b : ℕ). (a, b)) (eqb→eq x.0 f (and_left (eqb x.0 f) (eqb x.1 t) u))
    (eqb→eq x.1 t (and_right (eqb x.0 f) (eqb x.1 t) u))

-- a member's place is within the list
pub place-below : (f t : ℕ) (l : List (ℕ × ℕ)) → Memᴰ (f, t) l → pair_place f t l < length l
unfolding pair_place
place-below f t [] none = elim none [ ]
place-below f t (x ∷ l) (Memᴰ.head e) = go (eqb x.0 f && eqb x.1 t) (same-pair f t x e)
  where
    go : (b : Bool) → T b → cond b 0 (suc (pair_place f t l)) < length (x ∷ l)
    go true u = omega arith
    go false u = absurd u
place-below f t (x ∷ l) (Memᴰ.tail m) = go (eqb x.0 f && eqb x.1 t) (place-below f t l m)
  where
    go : (b : Bool) → pair_place f t l < length l → cond b 0 (suc (pair_place f t l)) < length (x ∷ l)
    go true u = omega arith
    go false u = omega arith

-- and the member stands there
pub place_at : (f t : ℕ) (l : List (ℕ × ℕ)) (d : ℕ × ℕ) → Memᴰ (f, t) l → get_or l (pair_place f t l) d ≡ (f, t)
unfolding pair_place
place_at f t [] d none = elim none [ ]
place_at f t (x ∷ l) d (Memᴰ.head e) = go (eqb x.0 f && eqb x.1 t) (same-pair f t x e)
  where
    go : (b : Bool) → T b → get_or (x ∷ l) (cond b 0 (suc (pair_place f t l))) d ≡ (f, t)
    go true u = sym e
    go false u = absurd u
place_at f t (x ∷ l) d (Memᴰ.tail m) = go (eqb x.0 f && eqb x.1 t) refl (place_at f t l d m)
  where
    go : (b : Bool) → (eqb x.0 f && eqb x.1 t) ≡ b → get_or l (pair_place f t l) d ≡ (f, t) →
        get_or (x ∷ l) (cond b 0 (suc (pair_place f t l))) d ≡ (f, t)
    go true e u = pair_same f t x (holds e)
    go false e u = u

-- ---- the pairs of a circuit whose netlist is valid

module _ (circuit : Circuit) (ok : T (valid circuit.net)) (target : ℕ) where
  abbrev input_rails : ℕ
  input_rails = rail_count circuit.slopes circuit.net.inputs

  abbrev top : ℕ → ℕ
  top = rail_top circuit

  abbrev output_rails : List ℕ
  output_rails = rail_outputs circuit.slopes circuit.net.outputs

  abbrev cells : List Cell
  cells = rail_cells circuit.slopes circuit.net.gates

  down : Down input_rails cells
  down = down-for circuit ok

  -- a rail of a gate's node, from 1 to the node's top, is a pair
  rail-pair : (node t : ℕ) → circuit.net.inputs ≤ node → 0 < t → t ≤ top_of circuit node →
      (rail : ℕ) → Memᴰ rail (rails_of circuit.slopes node) → T (is_pair input_rails top rail t)
  rail-pair node t a b c rail i =
      let e = rail-node circuit.slopes node rail i in
      is-pair input_rails top rail t
      (from-node circuit.slopes circuit.net.inputs rail
      (subst (λ (n : ℕ). circuit.net.inputs ≤ n) (sym e) a))
      b
      (subst (λ (n : ℕ). t ≤ top_of circuit n) (sym e) c)

  pub closed-for : Closed circuit.slopes circuit.net.inputs (nodes circuit.net) (top_of circuit)
      (times_for circuit target) circuit.net.outputs target
  closed-for =
      record {
        positive =
            λ rail t m.
            (pair-facts input_rails top rail t
            (asked-is-pair input_rails top output_rails target input_rails cells rail t
            (time-asked input_rails top output_rails target cells down rail t m))).1;
        outputs-in =
            λ o m a b c rail i.
            asked-time input_rails top output_rails target cells down rail target
            ((least-set input_rails top output_rails target cells down rail target).1
            (output (outputs-has circuit.slopes circuit.net.outputs o m rail i)
            (rail-pair o target a b c rail i)));
        drivers-in =
            λ x m r j t i p k a b c rail l.
            asked-time input_rails top output_rails target cells down rail (t - p.delay)
            ((least-set input_rails top output_rails target cells down rail (t - p.delay)).1
            (driver (rail-has circuit.slopes circuit.net.inputs circuit.net.gates x m r j)
            (asking-has circuit.slopes r.pins p k rail l)
            ((least-set input_rails top output_rails target cells down r.number t).0
            (time-asked input_rails top output_rails target cells down r.number t i))
            (rail-pair p.driver (t - p.delay) a b c rail l)));
      }

  -- the outputs' rails are rails of the netlist
  outputs-high : (rail : ℕ) → Memᴰ rail output_rails → rail < input_rails + length cells
  outputs-high rail m =
      let h =
      below-node circuit.slopes (node_count circuit.net) rail
      (valid-outputs circuit.net ok (node_of circuit.slopes rail)
      (outputs-only circuit.slopes circuit.net.outputs rail m))
      in
      subst (λ (n : ℕ). rail < n) (sym (rail-total circuit.slopes circuit.net.inputs circuit.net.gates)) h

  -- each rail's times are in the list of the pairs
  pub listed-for : (rail t : ℕ) → Memᴰ t (times_for circuit target rail) →
      Memᴰ (rail, t) (pairs_for circuit target)
  unfolding pairs_for
  listed-for rail t m =
      asked-pairs input_rails top output_rails target cells down outputs-high rail t
      ((least-set input_rails top output_rails target cells down rail t).0
      (time-asked input_rails top output_rails target cells down rail t m))

  -- at a place below the length
  pub placed-for : (rail t : ℕ) → Memᴰ t (times_for circuit target rail) →
      pair_place rail t (pairs_for circuit target) < length (pairs_for circuit target)
  placed-for rail t m = place-below rail t (pairs_for circuit target) (listed-for rail t m)

  -- that is its own
  pub place-for : (rail t : ℕ) → Memᴰ t (times_for circuit target rail) →
      get_or (pairs_for circuit target) (pair_place rail t (pairs_for circuit target)) (0, 0) ≡ (rail, t)
  place-for rail t m = place_at rail t (pairs_for circuit target) (0, 0) (listed-for rail t m)

  -- a pair of the list: its rail is a gate's, its time is 1 to the rail's top
  pub pair-for : (rail t : ℕ) → Memᴰ (rail, t) (pairs_for circuit target) →
      (rail_count circuit.slopes circuit.net.inputs ≤ rail)
      × (rail < rail_count circuit.slopes (node_count circuit.net)) × (0 < t) × (t ≤ rail_top circuit rail)
  unfolding pairs_for
  pair-for rail t m =
      let a = pairs-asked input_rails top output_rails target cells down (rail, t) m in
      let w =
      pair-facts input_rails top rail t
      (member-is-pair input_rails top output_rails target (numbered input_rails cells) rail t a)
      in (
        w.0,
        subst (λ (n : ℕ). rail < n) (rail-total circuit.slopes circuit.net.inputs circuit.net.gates)
            (asked-below input_rails top output_rails target cells down outputs-high rail t a),
        w.1,
        w.2,
      )

  -- and back: a pair of the list is one of its rail's times
  pub time-for : (rail t : ℕ) → Memᴰ (rail, t) (pairs_for circuit target) →
      Memᴰ t (times_for circuit target rail)
  unfolding pairs_for
  time-for rail t m =
      asked-time input_rails top output_rails target cells down rail t
      ((least-set input_rails top output_rails target cells down rail t).1
      (pairs-asked input_rails top output_rails target cells down (rail, t) m))

  -- each rail of an output is in the list at the target
  pub output-for : (o : ℕ) → Memᴰ o circuit.net.outputs → circuit.net.inputs ≤ o → 0 < target →
      target ≤ top_of circuit o → (rail : ℕ) → Memᴰ rail (rails_of circuit.slopes o) →
      Memᴰ (rail, target) (pairs_for circuit target)
  output-for o m a b c rail i = listed-for rail target (closed-for.outputs-in o m a b c rail i)

  -- and, with a pair, the pair of each rail of each driver of its gate
  pub driver-for : (x : ℕ × Cell) → Memᴰ x (nodes circuit.net) →
      (r : Rail) → Memᴰ r (rails_at circuit.slopes x) →
      (t : ℕ) → Memᴰ (r.number, t) (pairs_for circuit target) →
      (p : Pin) → Memᴰ p r.pins → circuit.net.inputs ≤ p.driver →
      0 < t - p.delay → t - p.delay ≤ top_of circuit p.driver →
      (rail : ℕ) → Memᴰ rail (rails_of circuit.slopes p.driver) →
      Memᴰ (rail, t - p.delay) (pairs_for circuit target)
  driver-for x m r j t i p k a b c rail l =
      listed-for rail (t - p.delay)
      (closed-for.drivers-in x m r j t (time-for r.number t i) p k a b c rail l)
