-- Rails and their nodes, the rails of a gate as cells, and what these ask: a pin asks each rail of its driver, all of
-- which lie below the gate's. Laws: one, rail-own, rail-node, node-from, node-below, from-node, below-node,
-- rails-under, rail-sum, rail-few, rail-up, rail-last; asking-has, asking-only; rail-number, rail-pin; rail-has,
-- rail-only, rail-total; outputs-has, outputs-only; rail-below, down-for. Assumes nothing.
use mathlib.Core.Path.{◌≡◌, refl, sym, ap, ◌∙◌, subst}
use mathlib.Core.Bool.{true, false}
use mathlib.Core.List.Memᴰ
use mathlib.Core.List.{List, [], ◌∷◌, map, Memᴰ}
use Prim.Native.Nat.{ℕ, suc, ◌+◌, ◌*◌, ◌/◌, ◌≤◌, ◌<◌}
use native.Mathlib.Omega.{arith}
use native.Mathlib.Decide.{ℕ_discrete}
use lib.Dec.{T}
use lib.ListN.{length}
use Rattle.basics.specs.Lists.{numbered}
use Rattle.basics.proofs.Lists.{mem-map, map-mem, concat_map-mem, mem-concat_map, all-at}
use Rattle.netlist.specs.Netlist.{
  Cell,
  Pin,
  Slopes,
  alike,
  apart,
  Circuit,
  nodes,
  gate_fits,
  valid,
  delayed,
  fall_of,
  pins_for,
}
use Rattle.netlist.proofs.Valid.{valid-gates, fits_below}
use Rattle.pairs.specs.Rails.{rails_of, rail_count, node_of, Rail, rails_at, asking, rail_cells, rail_outputs}
use Rattle.pairs.proofs.Least.{Down}

-- ---- the rails of a node

-- the member of a list of one
pub one : {A : Type 0} {x a : A} → Memᴰ x (a ∷ []) → x ≡ a
one (Memᴰ.head e) = e
one (Memᴰ.tail m) = absurd (Memᴰ.not-nil m)

-- a rail of a node is among its rails
pub rail-own : (slopes : Slopes) (rail : ℕ) → Memᴰ rail (rails_of slopes (node_of slopes rail))
rail-own alike rail = Memᴰ.head refl
rail-own (apart falls) rail = go (ℕ_discrete rail (rail / 2 * 2))
  where
    go : Dec (rail ≡ rail / 2 * 2) → Memᴰ rail (rails_of (apart falls) (rail / 2))
    go (yes e) = Memᴰ.head e
    go (no e) = let odd : rail ≡ rail / 2 * 2 + 1 = omega arith in Memᴰ.tail (Memᴰ.head odd)

-- a rail's node is the one whose rail it is
pub rail-node : (slopes : Slopes) (n rail : ℕ) → Memᴰ rail (rails_of slopes n) → node_of slopes rail ≡ n
rail-node alike n rail m = one m
rail-node (apart falls) n rail (Memᴰ.head e) = omega arith
rail-node (apart falls) n rail (Memᴰ.tail m) = let e = one m in omega arith

-- the rails of nodes from I on, and of those below N
pub node-from : (slopes : Slopes) (I rail : ℕ) → rail_count slopes I ≤ rail → I ≤ node_of slopes rail
node-from alike I rail h = h
node-from (apart falls) I rail h = omega arith

pub node-below : (slopes : Slopes) (N rail : ℕ) → rail < rail_count slopes N → node_of slopes rail < N
node-below alike N rail h = h
node-below (apart falls) N rail h = omega arith

pub from-node : (slopes : Slopes) (I rail : ℕ) → I ≤ node_of slopes rail → rail_count slopes I ≤ rail
from-node alike I rail h = h
from-node (apart falls) I rail h = omega arith

pub below-node : (slopes : Slopes) (N rail : ℕ) → node_of slopes rail < N → rail < rail_count slopes N
below-node alike N rail h = h
below-node (apart falls) N rail h = omega arith

-- a lower node's rails are lower
pub rails-under : (slopes : Slopes) (a b : ℕ) → node_of slopes a < node_of slopes b → a < b
rails-under alike a b h = h
rails-under (apart falls) a b h = omega arith

-- the rails of more nodes
pub rail-sum : (slopes : Slopes) (a b : ℕ) → rail_count slopes (a + b) ≡ rail_count slopes a + rail_count slopes b
rail-sum alike a b = refl
rail-sum (apart falls) a b = omega arith

pub rail-few : (slopes : Slopes) (a b : ℕ) → a ≤ b → rail_count slopes a ≤ b * 2
rail-few alike a b h = omega arith
rail-few (apart falls) a b h = omega arith

pub rail-up : (slopes : Slopes) (a b : ℕ) → a ≤ b → rail_count slopes a ≤ rail_count slopes b
rail-up alike a b h = h
rail-up (apart falls) a b h = omega arith

-- a rail is one of its node's, at most the last
pub rail-last : (slopes : Slopes) (rail node : ℕ) → node ≡ node_of slopes rail → rail + 1 ≤ rail_count slopes (node + 1)
rail-last alike rail node e = omega arith
rail-last (apart falls) rail node e = omega arith

-- ---- what a rail asks

-- a pin with another driver
abbrev pub driven : ℕ → Pin → Pin
driven rail p = record { driver = rail; delay = p.delay; number = p.number }

pub asking-has : (slopes : Slopes) (ps : List Pin) (p : Pin) → Memᴰ p ps →
    (rail : ℕ) → Memᴰ rail (rails_of slopes p.driver) → Memᴰ (driven rail p) (asking slopes ps)
asking-has alike ps p m rail i = subst (λ (d : ℕ). Memᴰ (driven d p) ps) (sym (one i)) m
asking-has (apart falls) ps p m rail i =
    mem-concat_map (λ q. map (λ d. driven d q) (rails_of (apart falls) q.driver)) ps p (driven rail p) m
    (mem-map (λ d. driven d p) (rails_of (apart falls) p.driver) rail i)

pub asking-only : (slopes : Slopes) (ps : List Pin) (q : Pin) → Memᴰ q (asking slopes ps) →
    (p : Pin) × Memᴰ p ps × (rail : ℕ) × Memᴰ rail (rails_of slopes p.driver) × (q ≡ driven rail p)
asking-only alike ps q m = (q, m, q.driver, Memᴰ.head refl, refl)
asking-only (apart falls) ps q m =
    let w = concat_map-mem (λ p. map (λ d. driven d p) (rails_of (apart falls) p.driver)) ps q m in
    let v = map-mem (λ d. driven d w.0) (rails_of (apart falls) w.0.driver) q w.2 in
    (w.0, w.1, v.0, v.1, v.2)

-- ---- the rails of a gate

-- a rail's number is one of its node's
pub rail-number : (slopes : Slopes) (x : ℕ × Cell) (r : Rail) → Memᴰ r (rails_at slopes x) →
    Memᴰ r.number (rails_of slopes x.0)
rail-number alike x r m = Memᴰ.head (ap (λ (y : Rail). y.number) (one m))
rail-number (apart falls) x r (Memᴰ.head e) = Memᴰ.head (ap (λ (y : Rail). y.number) e)
rail-number (apart falls) x r (Memᴰ.tail m) =
    Memᴰ.tail (Memᴰ.head (ap (λ (y : Rail). y.number) (one m)))

-- its pins are the gate's, by their drivers
fall-pin : (falls : List ℕ) (ps : List Pin) (p : Pin) → Memᴰ p (map (delayed (fall_of falls)) ps) →
    (q : Pin) × Memᴰ q ps × (p.driver ≡ q.driver)
fall-pin falls ps p m =
    let w = map-mem (delayed (fall_of falls)) ps p m in (w.0, w.1, ap (λ (y : Pin). y.driver) w.2)

pub rail-pin : (slopes : Slopes) (x : ℕ × Cell) (r : Rail) → Memᴰ r (rails_at slopes x) →
    (p : Pin) → Memᴰ p r.pins → (q : Pin) × Memᴰ q x.1.pins × (p.driver ≡ q.driver)
rail-pin alike x r m p i = (p, subst (λ (y : Rail). Memᴰ p y.pins) (one m) i, refl)
rail-pin (apart falls) x r (Memᴰ.head e) p i =
    fall-pin falls x.1.pins p (subst (λ (y : Rail). Memᴰ p y.pins) e i)
rail-pin (apart falls) x r (Memᴰ.tail m) p i =
    (p, subst (λ (y : Rail). Memᴰ p y.pins) (one m) i, refl)

-- a rail as a cell, at its number
abbrev pub rail_cell : Slopes → Rail → ℕ × Cell
rail_cell slopes r = (r.number, record { kind = r.kind; pins = asking slopes r.pins })

-- the rails of gates whose nodes start at k are the cells
pub rail-has : (slopes : Slopes) (k : ℕ) (gates : List Cell) (x : ℕ × Cell) → Memᴰ x (numbered k gates) →
    (r : Rail) → Memᴰ r (rails_at slopes x) →
    Memᴰ (rail_cell slopes r) (numbered (rail_count slopes k) (rail_cells slopes gates))
rail-has alike k gates x m r i =
    subst (λ (y : Rail). Memᴰ {A = ℕ × Cell} (rail_cell alike y) (numbered k gates)) (sym (one i)) m
rail-has (apart falls) k [] x m r i = elim m [ ]
rail-has (apart falls) k (g ∷ gs) x (Memᴰ.head e) r i =
    go (subst (λ (y : ℕ × Cell). Memᴰ r (rails_at (apart falls) y)) e i)
  where
    go : Memᴰ r (rails_at (apart falls) (k, g)) →
        Memᴰ (rail_cell (apart falls) r) (numbered (k * 2) (rail_cells (apart falls) (g ∷ gs)))
    go (Memᴰ.head q) = Memᴰ.head (ap (rail_cell (apart falls)) q)
    go (Memᴰ.tail j) =
        let e : k * 2 + 1 ≡ suc (k * 2) = omega arith in
        Memᴰ.tail
        (Memᴰ.head
        (ap (rail_cell (apart falls)) (one j)
        ∙ ap
        (λ (n : ℕ).
        (n, record { kind = g.kind; pins = asking (apart falls) (pins_for (apart falls) true g.pins) })) e))
rail-has (apart falls) k (g ∷ gs) x (Memᴰ.tail m) r i =
    let e : suc k * 2 ≡ suc (suc (k * 2)) = omega arith in
    Memᴰ.tail
    (Memᴰ.tail
    (subst (λ (n : ℕ). Memᴰ (rail_cell (apart falls) r) (numbered n (rail_cells (apart falls) gs))) e
    (rail-has (apart falls) (suc k) gs x m r i)))

-- and there is no other
pub rail-only : (slopes : Slopes) (k : ℕ) (gates : List Cell) (y : ℕ × Cell) →
    Memᴰ y (numbered (rail_count slopes k) (rail_cells slopes gates)) →
    (x : ℕ × Cell) × Memᴰ x (numbered k gates) × (r : Rail) × Memᴰ r (rails_at slopes x)
    × (y ≡ rail_cell slopes r)
rail-only alike k gates y m = (
  y,
  m,
  record { number = y.0; node = y.0; fixes = []; kind = y.1.kind; pins = y.1.pins },
  Memᴰ.head refl,
  refl,
)
rail-only (apart falls) k [] y m = absurd (Memᴰ.not-nil m)
rail-only (apart falls) k (g ∷ gs) y (Memᴰ.head q) = (
  (k, g),
  Memᴰ.head refl,
  record {
    number = k * 2;
    node = k;
    fixes = false ∷ [];
    kind = g.kind;
    pins = pins_for (apart falls) false g.pins;
  },
  Memᴰ.head refl,
  q,
)
rail-only (apart falls) k (g ∷ gs) y (Memᴰ.tail (Memᴰ.head q)) =
    let e : suc (k * 2) ≡ k * 2 + 1 = omega arith in (
      (k, g),
      Memᴰ.head refl,
      record {
        number = k * 2 + 1;
        node = k;
        fixes = true ∷ [];
        kind = g.kind;
        pins = pins_for (apart falls) true g.pins;
      },
      Memᴰ.tail (Memᴰ.head refl),
      q ∙ ap (λ (n : ℕ). (n, record { kind = g.kind; pins = asking (apart falls) g.pins })) e,
    )
rail-only (apart falls) k (g ∷ gs) y (Memᴰ.tail (Memᴰ.tail m)) =
    let e : suc (suc (k * 2)) ≡ suc k * 2 = omega arith in
    let w =
    rail-only (apart falls) (suc k) gs y
    (subst (λ (n : ℕ). Memᴰ y (numbered n (rail_cells (apart falls) gs))) e m)
    in
    (w.0, Memᴰ.tail w.1, w.2, w.3, w.4)

-- as many as the nodes have
pub rail-total : (slopes : Slopes) (I : ℕ) (gates : List Cell) →
    rail_count slopes I + length (rail_cells slopes gates) ≡ rail_count slopes (I + length gates)
rail-total alike I gates = refl
rail-total (apart falls) I [] = omega arith
rail-total (apart falls) I (g ∷ gs) = let e = rail-total (apart falls) I gs in omega arith

-- ---- the outputs' rails

pub outputs-has : (slopes : Slopes) (outputs : List ℕ) (o : ℕ) → Memᴰ o outputs →
    (rail : ℕ) → Memᴰ rail (rails_of slopes o) → Memᴰ rail (rail_outputs slopes outputs)
outputs-has alike outputs o m rail i = subst (λ (d : ℕ). Memᴰ d outputs) (sym (one i)) m
outputs-has (apart falls) outputs o m rail i = mem-concat_map (rails_of (apart falls)) outputs o rail m i

pub outputs-only : (slopes : Slopes) (outputs : List ℕ) (rail : ℕ) → Memᴰ rail (rail_outputs slopes outputs) →
    Memᴰ (node_of slopes rail) outputs
outputs-only alike outputs rail m = m
outputs-only (apart falls) outputs rail m =
    let w = concat_map-mem (rails_of (apart falls)) outputs rail m in
    subst (λ (d : ℕ). Memᴰ d outputs) (sym (rail-node (apart falls) w.0 rail w.2)) w.1

-- ---- the drivers lie below

-- each pin of a rail is driven from below its node
pub rail-below : (circuit : Circuit) → T (valid circuit.net) →
    (x : ℕ × Cell) → Memᴰ x (nodes circuit.net) → (r : Rail) → Memᴰ r (rails_at circuit.slopes x) →
    (p : Pin) → Memᴰ p r.pins → p.driver < x.0
rail-below circuit ok x m r i p j =
    let w = rail-pin circuit.slopes x r i p j in
    let h = fits_below x (all-at gate_fits (nodes circuit.net) (valid-gates circuit.net ok) x m) w.0 w.1 in
    omega (arith, w.2)

-- and so each rail that it asks
pub down-for : (circuit : Circuit) → T (valid circuit.net) →
    Down (rail_count circuit.slopes circuit.net.inputs) (rail_cells circuit.slopes circuit.net.gates)
down-for circuit ok y m p i =
    let slopes = circuit.slopes in
    let w = rail-only circuit.slopes circuit.net.inputs circuit.net.gates y m in
    let v =
    asking-only circuit.slopes w.2.pins p
    (subst (λ (z : ℕ × Cell). Memᴰ p z.1.pins) w.4 i)
    in
    let low = rail-below circuit ok w.0 w.1 w.2 w.3 v.0 v.1 in
    let a = rail-node circuit.slopes v.0.driver v.2 v.3 in
    let b =
    rail-node circuit.slopes w.0.0 w.2.number (rail-number circuit.slopes w.0 w.2 w.3)
    in
    let c : p.driver ≡ v.2 = ap (λ (z : Pin). z.driver) v.4 in
    let d : y.0 ≡ w.2.number = ap (λ (z : ℕ × Cell). z.0) w.4 in
    let e : node_of circuit.slopes v.2 < node_of circuit.slopes w.2.number = omega arith in
    omega (arith, rails-under circuit.slopes v.2 w.2.number e)
