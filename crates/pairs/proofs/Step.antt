-- One step of the least set, both ways: what is asked for is asked for by an output or by a pin of a pair that is known
-- already, since a driver's rails stand below its gate's; and what these ask for is asked for, if it is a pair. Laws:
-- stepped, asked_of; facts-of, down, outputs-high. Assumes nothing.
use mathlib.Core.Path.{◌≡◌, refl, sym, ap, ap₂, subst, ◌∙◌}
use mathlib.Core.Bool.{true, false}
use mathlib.Core.List.{List, [], ◌∷◌, Memᴰ}
use Prim.Native.Nat.{ℕ, ◌+◌, ◌*◌, ◌-◌, ◌≤◌, ◌<◌}
use native.Mathlib.Omega.{arith}
use lib.Dec.{T}
use lib.ListN.{length, get_or}
use Rattle.basics.specs.Lists.{numbered}
use Rattle.basics.proofs.Lists.{mem-map, map-mem}
use Rattle.netlist.specs.declared.Shape.{Shape}
use Rattle.netlist.specs.Netlist.{
  Netlist,
  Circuit,
  Cell,
  Pin,
  Slopes,
  alike,
  apart,
  node_count,
  delayed,
  fall_of,
  pins_for,
}
use Rattle.netlist.specs.File.{netlist_at, cell_at, pin_at, first_at, count_at, driver_at, circuit_with}
use Rattle.netlist.specs.Holds.{Given, Sloped}
use Rattle.settle.specs.Steps.{latest}
use Rattle.netlist.proofs.Entries.{
  pin-driver,
  pin-delay,
  pin-has,
  pin-only,
  net-inputs,
  node-count,
  node-has,
  node-only,
}
use Rattle.netlist.proofs.Valid.{valid-outputs}
use Rattle.pairs.specs.Rails.{rails_of, rail_count, node_of, Rail, rails_at, rail_cells, rail_outputs}
use Rattle.pairs.specs.Pairs.{is_pair, Asked, output, driver, rail_top}
use Rattle.pairs.specs.Table.{askers, AsksAll, by_output, by_pin}
use Rattle.pairs.proofs.Least.{Down, pair-facts, member-is-pair, asked-early, asked-below}
use Rattle.pairs.proofs.Rails.{
  one,
  rail-own,
  rail-node,
  below-node,
  asking-has,
  asking-only,
  rail-has,
  rail-only,
  rail-total,
  outputs-has,
  outputs-only,
  down-for,
}
use Rattle.pairs.proofs.Topping.{tops-late}

-- ---- the graph of an accepted file's rails

abbrev pub first_rail : Shape → Slopes → ℕ
first_rail shape slopes = rail_count slopes shape.inputs

abbrev pub last_rail : Shape → Slopes → ℕ
last_rail shape slopes = rail_count slopes (shape.inputs + shape.gates)

-- the least set of an accepted file's target
abbrev pub AskedAt : List ℕ → Shape → List ℕ → Slopes → ℕ → ℕ → ℕ → Type 0
AskedAt file shape arrivals slopes target f t =
    Asked (rail_count slopes (netlist_at file shape).inputs) (rail_top (circuit_with file shape arrivals slopes))
    (rail_outputs slopes (netlist_at file shape).outputs) target
    (numbered (rail_count slopes (netlist_at file shape).inputs) (rail_cells slopes (netlist_at file shape).gates)) f t

-- (f, t) is a pair of an accepted file
abbrev pub IsPairAt : List ℕ → Shape → List ℕ → Slopes → ℕ → ℕ → Type 0
IsPairAt file shape arrivals slopes f t =
    T
    (is_pair (rail_count slopes (netlist_at file shape).inputs) (rail_top (circuit_with file shape arrivals slopes)) f
    t)

-- ---- a gate's pins, by its rails

module _ (file : List ℕ) (shape : Shape) (i : ℕ) where
  -- a pin of the file with its delay for a gate that ends at 0
  fall-at : (falls : List ℕ) (pin : ℕ) → fall_of falls (pin_at file shape pin) ≡ get_or falls pin 0
  unfolding pin_at
  fall-at falls pin = refl

  -- a rail of gate i asks by the rail's number and its pin's delay
  rail-asker : (slopes : Slopes) (r : Rail) → Memᴰ r (rails_at slopes (shape.inputs + i, cell_at file shape i)) →
      (p : Pin) → Memᴰ p r.pins →
      (pin : ℕ) × (first_at file shape i ≤ pin) × (pin < first_at file shape i + count_at file shape i)
      × (p.driver ≡ driver_at file shape pin) × Memᴰ (r.number, p.delay) (askers file shape slopes (i, pin))
  rail-asker alike r m p j =
      let e = one m in
      let v = pin-only file shape i p (subst (λ (y : Rail). Memᴰ p y.pins) e j) in (
        v.0,
        v.1,
        v.2,
        ap (λ (x : Pin). x.driver) v.3 ∙ pin-driver file shape v.0,
        Memᴰ.head
            (ap₂ (λ (a b : ℕ). (a, b)) (ap (λ (y : Rail). y.number) e)
            (ap (λ (x : Pin). x.delay) v.3 ∙ pin-delay file shape v.0)),
      )
  rail-asker (apart falls) r (Memᴰ.head e) p j =
      let w =
      map-mem (delayed (fall_of falls)) (cell_at file shape i).pins p
      (subst (λ (y : Rail). Memᴰ p y.pins) e j)
      in
      let v = pin-only file shape i w.0 w.1 in (
        v.0,
        v.1,
        v.2,
        ap (λ (x : Pin). x.driver) w.2 ∙ ap (λ (x : Pin). x.driver) v.3 ∙ pin-driver file shape v.0,
        Memᴰ.head
            (ap₂ (λ (a b : ℕ). (a, b)) (ap (λ (y : Rail). y.number) e)
            (ap (λ (x : Pin). x.delay) w.2 ∙ ap (fall_of falls) v.3 ∙ fall-at falls v.0)),
      )
  rail-asker (apart falls) r (Memᴰ.tail m) p j =
      let e = one m in
      let v = pin-only file shape i p (subst (λ (y : Rail). Memᴰ p y.pins) e j) in (
        v.0,
        v.1,
        v.2,
        ap (λ (x : Pin). x.driver) v.3 ∙ pin-driver file shape v.0,
        Memᴰ.tail
            (Memᴰ.head
            (ap₂ (λ (a b : ℕ). (a, b)) (ap (λ (y : Rail). y.number) e)
            (ap (λ (x : Pin). x.delay) v.3 ∙ pin-delay file shape v.0))),
      )

  -- and each that asks is such a rail
  asker-rail : (slopes : Slopes) (pin : ℕ) → first_at file shape i ≤ pin →
      pin < first_at file shape i + count_at file shape i →
      (y : ℕ × ℕ) → Memᴰ y (askers file shape slopes (i, pin)) →
      (r : Rail) × Memᴰ r (rails_at slopes (shape.inputs + i, cell_at file shape i)) × (p : Pin)
      × Memᴰ p r.pins × (p.driver ≡ driver_at file shape pin) × (y ≡ (r.number, p.delay))
  asker-rail alike pin a b y m = (
    record {
      number = shape.inputs + i;
      node = shape.inputs + i;
      fixes = [];
      kind = (cell_at file shape i).kind;
      pins = (cell_at file shape i).pins;
    },
    Memᴰ.head refl,
    pin_at file shape pin,
    pin-has file shape i pin a b,
    pin-driver file shape pin,
    one m ∙ ap (λ (d : ℕ). (shape.inputs + i, d)) (sym (pin-delay file shape pin)),
  )
  asker-rail (apart falls) pin a b y (Memᴰ.head e) = (
    record {
      number = (shape.inputs + i) * 2;
      node = shape.inputs + i;
      fixes = false ∷ [];
      kind = (cell_at file shape i).kind;
      pins = pins_for (apart falls) false (cell_at file shape i).pins;
    },
    Memᴰ.head refl,
    delayed (fall_of falls) (pin_at file shape pin),
    mem-map (delayed (fall_of falls)) (cell_at file shape i).pins (pin_at file shape pin)
        (pin-has file shape i pin a b),
    pin-driver file shape pin,
    e ∙ ap (λ (d : ℕ). ((shape.inputs + i) * 2, d)) (sym (fall-at falls pin)),
  )
  asker-rail (apart falls) pin a b y (Memᴰ.tail m) = (
    record {
      number = (shape.inputs + i) * 2 + 1;
      node = shape.inputs + i;
      fixes = true ∷ [];
      kind = (cell_at file shape i).kind;
      pins = pins_for (apart falls) true (cell_at file shape i).pins;
    },
    Memᴰ.tail (Memᴰ.head refl),
    pin_at file shape pin,
    pin-has file shape i pin a b,
    pin-driver file shape pin,
    one m ∙ ap (λ (d : ℕ). ((shape.inputs + i) * 2 + 1, d)) (sym (pin-delay file shape pin)),
  )

-- ---- one step

module _ {file : List ℕ} {shape : Shape} {arrivals : List ℕ} (slopes : Slopes) (given : Given file shape arrivals)
    (sloped : Sloped shape slopes) (target : ℕ) where
  abbrev net : Netlist
  net = netlist_at file shape

  abbrev circuit : Circuit
  circuit = circuit_with file shape arrivals slopes

  abbrev input_rails : ℕ
  input_rails = rail_count slopes (netlist_at file shape).inputs

  abbrev output_rails : List ℕ
  output_rails = rail_outputs slopes (netlist_at file shape).outputs

  abbrev cells : List Cell
  cells = rail_cells slopes (netlist_at file shape).gates

  pub down : Down (rail_count slopes (netlist_at file shape).inputs) (rail_cells slopes (netlist_at file shape).gates)
  down = down-for circuit given.holds.valid

  -- the outputs' rails are rails of the netlist
  pub outputs-high : (rail : ℕ) → Memᴰ rail (rail_outputs slopes (netlist_at file shape).outputs) →
      rail < rail_count slopes (netlist_at file shape).inputs + length (rail_cells slopes (netlist_at file shape).gates)
  outputs-high rail m =
      subst (λ (n : ℕ). rail < n) (sym (rail-total slopes net.inputs net.gates))
      (below-node slopes (node_count net) rail
      (valid-outputs net given.holds.valid (node_of slopes rail) (outputs-only slopes net.outputs rail m)))

  -- what is known of each that is asked for
  pub facts-of : (f t : ℕ) → AskedAt file shape arrivals slopes target f t →
      (first_rail shape slopes ≤ f) × (f < last_rail shape slopes) × (0 < t)
      × (t ≤ rail_top (circuit_with file shape arrivals slopes) f) × (t ≤ latest) × (t ≤ target)
  facts-of f t a =
      let w =
      pair-facts input_rails (rail_top circuit) f t
      (member-is-pair input_rails (rail_top circuit) output_rails target (numbered input_rails cells) f t a)
      in
      let b = asked-below input_rails (rail_top circuit) output_rails target cells down outputs-high f t a in (
        subst (λ (n : ℕ). rail_count slopes n ≤ f) (net-inputs file shape) w.0,
        subst (λ (n : ℕ). f < n)
            (rail-total slopes net.inputs net.gates ∙ ap (rail_count slopes) (node-count file shape)) b,
        w.1,
        w.2,
        omega (arith, w.2, tops-late slopes given sloped (node_of slopes f)),
        asked-early input_rails (rail_top circuit) output_rails target (numbered input_rails cells) f t a,
      )

  -- what is asked for is asked for by an output, or by a pair that is known
  pub stepped : (l : List (ℕ × ℕ)) (f t : ℕ) → AskedAt file shape arrivals slopes target f t →
      ((n s : ℕ) → f < n → AskedAt file shape arrivals slopes target n s → Memᴰ (n, s) l) →
      AsksAll l file shape slopes target (node_of slopes f) t
  stepped l f t (output m u) h =
      by_output (record { same = refl; output = outputs-only slopes net.outputs f m })
  stepped l f t (driver {f = n} {s = s} {g = g} {p = p} m i a u) h =
      let below = down (n, g) m p i in
      let w = rail-only slopes net.inputs net.gates (n, g) m in
      let x = node-only file shape w.0 w.1 in
      let own = subst (λ (y : ℕ × Cell). Memᴰ w.2 (rails_at slopes y)) x.2 w.3 in
      let v = asking-only slopes w.2.pins p (subst (λ (y : ℕ × Cell). Memᴰ p y.1.pins) w.4 i) in
      let k = rail-asker file shape x.0 slopes w.2 own v.0 v.1 in
      let at : n ≡ w.2.number = ap (λ (y : ℕ × Cell). y.0) w.4 in
      let delays : p.delay ≡ v.0.delay = ap (λ (y : Pin). y.delay) v.4 in
      let node : node_of slopes p.driver ≡ driver_at file shape k.0 =
      ap (node_of slopes) (ap (λ (y : Pin). y.driver) v.4) ∙ rail-node slopes v.0.driver v.2 v.3 ∙ k.3
      in
      let c = pair-facts input_rails (rail_top circuit) p.driver (s - p.delay) u in
      let back : s ≡ s - p.delay + v.0.delay = omega (arith, c.1) in
      let first : first_at file shape x.0 + (k.0 - first_at file shape x.0) ≡ k.0 = omega (arith, k.1) in
      by_pin (x.0, k.0)
      (record {
        gate = x.0;
        low = x.1;
        own =
            record {
              pin = k.0 - first_at file shape x.0;
              within = omega (arith, k.1, k.2);
              drives = ap (driver_at file shape) first ∙ sym node;
              is = ap (λ (y : ℕ). (x.0, y)) (sym first);
            };
      })
      (record {
        rail = (w.2.number, v.0.delay);
        own = k.4;
        asks =
            record {
              has =
                  subst (λ (y : ℕ × ℕ). Memᴰ y l) (ap₂ (λ (a b : ℕ). (a, b)) at back) (h n s below a);
            };
      })

  -- and back
  pub asked_of : (l : List (ℕ × ℕ)) (f t : ℕ) → AsksAll l file shape slopes target (node_of slopes f) t →
      ((x : ℕ × ℕ) → Memᴰ x l → AskedAt file shape arrivals slopes target x.0 x.1) →
      IsPairAt file shape arrivals slopes f t →
      AskedAt file shape arrivals slopes target f t
  asked_of l f t (by_output u) h i =
      subst (λ (x : ℕ). AskedAt file shape arrivals slopes target f x) (sym u.same)
      (output (outputs-has slopes net.outputs (node_of slopes f) u.output f (rail-own slopes f))
      (subst (λ (x : ℕ). IsPairAt file shape arrivals slopes f x) u.same i))
  asked_of l f t (by_pin x y u) h i =
      let o = y.own in
      let pin = first_at file shape y.gate + o.pin in
      let by =
      subst (λ (z : ℕ × ℕ). Memᴰ u.rail (askers file shape slopes z)) o.is u.own in
      let k =
      asker-rail file shape y.gate slopes (first_at file shape y.gate + o.pin) (omega arith)
      (omega (arith, o.within)) u.rail by
      in
      let p = k.2 in
      let m =
      rail-has slopes net.inputs net.gates (shape.inputs + y.gate, cell_at file shape y.gate)
      (node-has file shape y.gate y.low) k.0 k.1
      in
      let own : Memᴰ f (rails_of slopes k.2.driver) =
      subst (λ (z : ℕ). Memᴰ f (rails_of slopes z)) (sym (k.4 ∙ o.drives)) (rail-own slopes f)
      in
      let asks : Memᴰ (k.0.number, t + k.2.delay) l =
      subst (λ (z : ℕ × ℕ). Memᴰ (z.0, t + z.1) l) k.5 u.asks.has
      in
      let d : t + k.2.delay - k.2.delay ≡ t = omega arith in
      subst (λ (z : ℕ). AskedAt file shape arrivals slopes target f z) d
      (driver m (asking-has slopes k.0.pins p k.3 f own)
      (h (k.0.number, t + k.2.delay) asks)
      (subst (λ (z : ℕ). IsPairAt file shape arrivals slopes f z) (sym d) i))
