-- The table of an accepted file's target is what the code leans on: each pair stands at its own place, and the pairs
-- that its drivers and the outputs ask for are in it. Assumes nothing.
use mathlib.Core.Path.{◌≡◌, refl, sym, ap, ap₂, ◌∙◌, subst}
use mathlib.Core.Bool.{Bool, true, false, cond}
use mathlib.Core.List.{List, [], ◌∷◌, Memᴰ}
use Prim.Native.Nat.{ℕ, zero, suc, ◌+◌, ◌-◌, ◌*◌, ◌/◌, ◌%◌, ◌≤◌, ◌<◌}
use native.Mathlib.Omega.{arith}
use native.Mathlib.Decide.{dec_lt}
use lib.ListN.{length, get_or}
use lib.Seq.{take_all}
use borrow.Author.Tests.{eqb-true, eqb-false}
use Rattle.basics.proofs.Lists.{mem-map}
use Rattle.netlist.specs.declared.Form.{Form}
use Rattle.netlist.specs.declared.Form.TheVariants.{Single, RiseFall}
use Rattle.netlist.specs.declared.Kind.{Kind}
use Rattle.netlist.specs.declared.Shape.{Shape}
use Rattle.netlist.specs.declared.circuit.Accepted.{Accepted}
use Rattle.netlist.specs.Netlist.{Cell, Pin, nodes, Slopes, alike, apart, slopes_of, pins_for, delayed, fall_of}
use Rattle.netlist.specs.File.{first_at, count_at, driver_at, output_at, pin_at, cell_at, netlist_at}
use Rattle.netlist.specs.Holds.{Sloped}
use Rattle.netlist.specs.Accepts.{circuit_in}
use Rattle.netlist.proofs.Entries.{node-count, net-inputs, node-has, pin-has, output-has}
use Rattle.settle.specs.Settling.{tops_of}
use Rattle.settle.proofs.Nodes.{tops-length}
use Rattle.pairs.specs.Rails.{rails_of, node_of, Rail, rails_at}
use Rattle.pairs.specs.Pairs.{flat_pairs, pairs_for, pair_place}
use Rattle.pairs.specs.Table.{pair_at, key_of, Sorted}
use Rattle.pairs.specs.Promise.{Lists}
use Rattle.pairs.proofs.Flat.{flat-length, pairs-flat, mem-at}
use Rattle.pairs.proofs.Rails.{node-from, node-below}
use Rattle.pairs.proofs.Closed.{pair-for, place-below, place_at, output-for, driver-for}
use Rattle.pairs.proofs.Search.{rising-sorted, lists-sorted}
use Rattle.pairs.proofs.Whole.{lists-for}
use Rattle.formula.specs.declared.Source.{Source}
use Rattle.formula.specs.declared.Side.TheVariants.{Pins, Falls, Outputs}
use Rattle.formula.specs.Emission.{rail_value}
use Rattle.formula.specs.Late.{
  entry_at,
  Within,
  rail_with,
  side_of,
  Asking,
  Served,
  AllStand,
  Slices,
}

-- ---- rails by their numbers

-- the rail of a gate by its number is one of the gate's
rail-in : (slopes : Slopes) (rail : ℕ) (g : Cell) →
    Memᴰ (rail_with slopes rail g.kind g.pins) (rails_at slopes (node_of slopes rail, g))
rail-in alike rail g = Memᴰ.head refl
rail-in (apart falls) rail g = go (rail_value rail) refl
  where
    made : ℕ → Bool → Rail
    made n v =
        record {
          number = n;
          node = rail / 2;
          fixes = v ∷ [];
          kind = g.kind;
          pins = pins_for (apart falls) v g.pins;
        }

    go : (v : Bool) → rail_value rail ≡ v →
        Memᴰ (made rail (rail_value rail)) (made (rail / 2 * 2) false ∷ made (rail / 2 * 2 + 1) true ∷ [])
    go true e =
        let m = eqb-true (rail % 2) 1 e in
        let n : rail ≡ rail / 2 * 2 + 1 = omega arith in
        Memᴰ.tail (Memᴰ.head (ap₂ made n e))
    go false e =
        let m = eqb-false (rail % 2) 1 e in
        let n : rail ≡ rail / 2 * 2 = even (rail % 2) m refl in
        Memᴰ.head (ap₂ made n e)
      where
        even : (x : ℕ) → (x ≡ 1 → ⊥) → rail % 2 ≡ x → rail ≡ rail / 2 * 2
        even zero h f = omega arith
        even (suc zero) h f = absurd (h refl)
        even (suc (suc x)) h f = absurd (omega arith)

-- its number is its own
rail-numbered : (slopes : Slopes) (rail : ℕ) (kind : Kind) (pins : List Pin) →
    (rail_with slopes rail kind pins).number ≡ rail
rail-numbered alike rail kind pins = refl
rail-numbered (apart falls) rail kind pins = refl

module _ (file : List ℕ) (shape : Shape) where
  -- it asks by its own pins
  rail-entry : (form : Form) (rail : ℕ) (kind : Kind) (pins : List Pin) (entry : ℕ) →
      Memᴰ (pin_at file shape entry) pins →
      Memᴰ (entry_at file shape (side_of form rail) entry) (rail_with (slopes_of form) rail kind pins).pins
  rail-entry Single rail kind pins entry m = m
  rail-entry (RiseFall falls) rail kind pins entry m = go (rail_value rail)
    where
      go : (v : Bool) →
          Memᴰ (entry_at file shape (cond v Pins (Falls falls)) entry) (pins_for (apart falls.now) v pins)
      go true = m
      go false = mem-map (delayed (fall_of falls.now)) pins (pin_at file shape entry) m

  entry-driver : (form : Form) (rail entry : ℕ) →
      (entry_at file shape (side_of form rail) entry).driver ≡ driver_at file shape entry
  unfolding pin_at
  entry-driver Single rail entry = refl
  entry-driver (RiseFall falls) rail entry = go (rail_value rail)
    where
      go : (v : Bool) → (entry_at file shape (cond v Pins (Falls falls)) entry).driver ≡ driver_at file shape entry
      go true = refl
      go false = refl

  entry-within : (form : Form) (rail entry : ℕ) → Sloped shape (slopes_of form) → entry < shape.pins →
      Within shape (side_of form rail) entry
  entry-within Single rail entry s h = h
  entry-within (RiseFall falls) rail entry s h = go (rail_value rail)
    where
      go : (v : Bool) → Within shape (cond v Pins (Falls falls)) entry
      go true = h
      go false = (h, omega (arith, s.0))

-- ---- an accepted circuit

-- the tops
abbrev pub tops_at : Accepted → List ℕ
tops_at a = tops_of (circuit_in a)

-- the numbers of its pairs
abbrev pub table_at : Accepted → ℕ → List ℕ
table_at a target = flat_pairs (pairs_for (circuit_in a) target)

-- a source with other tops and another table
abbrev over : Source → List ℕ → List ℕ → Source
over l tops table = record l { tops = record l.tops { now = tops }; table = record l.table { now = table } }

-- with both of its circuit
abbrev pub source_at : Source → ℕ → Source
source_at l target = over l (tops_at l.accepted) (table_at l.accepted target)

-- which is the source itself, where it has them
pub source-at : (l : Source) (target : ℕ) → l.tops.now ≡ tops_at l.accepted →
    l.table.now ≡ table_at l.accepted target → source_at l target ≡ l
source-at l target e f = ap₂ (over l) (sym e) (sym f)

-- each pair of a sorted list has its own place
own-place : (l : List (ℕ × ℕ)) → Sorted l → (k : ℕ) → k < length l →
    pair_place (pair_at l k).0 (pair_at l k).1 l ≡ k
own-place l s k h = go (pair_place (pair_at l k).0 (pair_at l k).1 l) below same (dec_lt _ k) (dec_lt k _)
  where
    m : Memᴰ (pair_at l k) l
    m = mem-at (0, 0) l k h

    below : pair_place (pair_at l k).0 (pair_at l k).1 l < length l
    below = place-below (pair_at l k).0 (pair_at l k).1 l m

    same : key_of (pair_at l (pair_place (pair_at l k).0 (pair_at l k).1 l)) ≡ key_of (pair_at l k)
    same = ap key_of (place_at (pair_at l k).0 (pair_at l k).1 l (0, 0) m)

    go : (j : ℕ) → j < length l → key_of (pair_at l j) ≡ key_of (pair_at l k) → Dec (j < k) → Dec (k < j) → j ≡ k
    go j b e (yes x) y = absurd (omega (arith, s.up j k x h, e))
    go j b e (no x) (yes y) = absurd (omega (arith, s.up k j y b, e))
    go j b e (no x) (no y) = omega arith

module _ (l : Source) (target : ℕ) where
  abbrev a : Accepted
  a = l.accepted

  abbrev file : List ℕ
  file = a.file.now

  abbrev shape : Shape
  shape = a.shape

  abbrev slopes : Slopes
  slopes = slopes_of a.form

  abbrev listed : List (ℕ × ℕ)
  listed = pairs_for (circuit_in a) target

  abbrev table : List ℕ
  table = table_at a target

  half : length table / 2 ≡ length listed
  half = let e = flat-length listed in omega arith

  lists : Lists table (length table / 2) listed
  lists =
      let e = flat-length listed in
      lists-for slopes target table (length table / 2) a.given a.sloped half
      (take_all (length table / 2 * 2) table (omega arith))

  all-tops : length (tops_at a) ≡ shape.inputs + shape.gates
  all-tops =
      tops-length (circuit_in a) (a.given.arrived.long ∙ sym (net-inputs file shape)) ∙ node-count file shape

  asking : (node t : ℕ) → node < shape.inputs + shape.gates →
      (shape.inputs ≤ node → 0 < t → t ≤ get_or (tops_at a) node 0 →
      (rail : ℕ) → Memᴰ rail (rails_of slopes node) → Memᴰ (rail, t) listed) →
      Asking (source_at l target) node t
  asking node t h m =
      record {
        node-has = omega (arith, all-tops);
        listed = λ rail i x y z. record { pairs = listed; lists = lists; here = m x y z rail i };
      }

  -- ---- a pair

  module _ (rail t : ℕ) (m : Memᴰ (rail, t) listed) where
    abbrev node : ℕ
    node = node_of slopes rail

    within : (shape.inputs ≤ node) × (node < shape.inputs + shape.gates)
    unfolding netlist_at
    within =
        let w = pair-for (circuit_in a) a.given.holds.valid target rail t m in
        let low = node-from slopes shape.inputs rail w.0 in
        let high = node-below slopes _ rail w.1 in
        let n = node-count file shape in
        (omega (arith, low), omega (arith, high))

    gate-here : node - shape.inputs < shape.gates
    gate-here = omega (arith, within.0, within.1)

    cell-here : Memᴰ (node, cell_at file shape (node - shape.inputs)) (nodes (netlist_at file shape))
    cell-here =
        let e : shape.inputs + (node - shape.inputs) ≡ node = omega (arith, within.0) in
        subst (λ (n : ℕ). Memᴰ (n, cell_at file shape (node - shape.inputs)) (nodes (netlist_at file shape))) e
        (node-has file shape (node - shape.inputs) gate-here)

    drivers : Served (source_at l target) (side_of a.form rail) (first_at file shape (node - shape.inputs))
        (count_at file shape (node - shape.inputs)) t
    unfolding netlist_at
    drivers =
        let g = node - shape.inputs in
        let cell = cell_at file shape g in
        record {
          within =
              λ pin low high.
              entry-within file shape a.form rail pin a.sloped (omega (arith, a.given.holds.pins-within g gate-here));
          asks =
              λ pin low high.
              let p = entry_at file shape (side_of a.form rail) pin in
              let d = entry-driver file shape a.form rail pin in
              let b = a.given.holds.drivers-below g pin gate-here low high in
              asking p.driver (t - p.delay) (omega (arith, gate-here))
              (λ x y z other i.
              driver-for (circuit_in a) a.given.holds.valid target (node, cell) cell-here
              (rail_with slopes rail cell.kind cell.pins) (rail-in slopes rail cell) t
              (subst (λ (n : ℕ). Memᴰ (n, t) listed) (sym (rail-numbered slopes rail cell.kind cell.pins)) m) p
              (rail-entry file shape a.form rail cell.kind cell.pins pin (pin-has file shape g pin low high))
              x y z other i);
        }

  pub all-stand : AllStand (source_at l target)
  all-stand =
      record {
        stands =
            λ k h.
            let ps = listed in
            let b : k < length ps = omega (arith, half) in
            let m = mem-at (0, 0) ps k b in
            rw (pairs-flat ps)
            (record {
              low = (within (pair_at ps k).0 (pair_at ps k).1 m).0;
              high = (within (pair_at ps k).0 (pair_at ps k).1 m).1;
              own = rw (pairs-flat ps) (own-place ps (rising-sorted ps lists.rising lists.times-small) k b);
              drivers = drivers (pair_at ps k).0 (pair_at ps k).1 m;
            });
      }

  pub outputs-ask : Served (source_at l target) Outputs 0 shape.outputs target
  unfolding netlist_at
  outputs-ask =
      record {
        within = λ position low high. omega arith;
        asks =
            λ position low high.
            let h : position < shape.outputs = omega arith in
            let z : target - 0 ≡ target = omega arith in
            rw z
            (asking (output_at file shape position) target (a.given.holds.outputs-nodes position h)
            (λ x y z other i.
            output-for (circuit_in a) a.given.holds.valid target (output_at file shape position)
            (output-has file shape position h) x y z other i));
      }

  pub slices : length listed ≤ 65536 → Slices (source_at l target)
  slices h =
      record {
        nodes-few = omega (arith, a.given.holds.counts.inputs-few, a.given.holds.counts.gates-few);
        tops-all = all-tops;
        pairs-few = omega (arith, flat-length listed);
        sorted = lists-sorted lists;
      }
