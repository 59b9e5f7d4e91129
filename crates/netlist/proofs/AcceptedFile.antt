-- What an accepted file gives: every check of the table passed, so its gates, pins and outputs are right one at a
-- time, and the netlist that it says is valid. Assumes nothing.
use mathlib.Core.Path.{◌≡◌, refl, sym, ap, ◌∙◌, subst}
use mathlib.Core.Bool.{Bool, true, false, not, ◌&&◌}
use mathlib.Core.List.{List, [], ◌++◌, map}
use Prim.Native.Nat.{ℕ, zero, suc, ◌+◌, ◌-◌, ◌≤◌, ◌<◌}
use native.Mathlib.Omega.{arith}
use lib.Dec.{T, leb, ltb, eqb, le→leb, lt→ltb}
use lib.ListN.{length, length-append}
use borrow.Author.Tests.{leb-true, leb-false, lt-ltb, ltb-true, ltb-false, eqb-true}
use Rattle.basics.specs.Lists.{all, up_from, concat_map}
use Rattle.basics.proofs.Truth.{and_both, holds as passes}
use Rattle.basics.proofs.Lists.{all_of, mem-map, mem-concat_map, up_from-mem, concat_map-append}
use Rattle.netlist.specs.declared.Shape.{Shape}
use Rattle.std.specs.Prelude.{Ok}
use Rattle.netlist.specs.Netlist.{Netlist, Cell, Pin, node_count, nodes, takes, pin_fits, gate_fits, rising, valid}
use Rattle.netlist.specs.Kinds.{pins_fit, kind_of}
use Rattle.netlist.specs.File.{kind_at, count_at, first_at, driver_at, delay_at, output_at, pin_at, cell_at, netlist_at}
use Rattle.netlist.specs.Open.{
  pins_before,
  gate_wrong,
  gate_place,
  pins_at,
  pin_wrong,
  pin_place,
  output_wrong,
  output_place,
  open_of,
}
use Rattle.netlist.specs.Holds.{InRange, Holds}
use Rattle.netlist.proofs.PinCounts.{kind-takes}
use Rattle.netlist.proofs.Ranges.{length-up_from, up_from-append}
use Rattle.netlist.proofs.Entries.{
  cell-kind,
  pins-length,
  pin-driver,
  pin-delay,
  pin-only,
  net-inputs,
  gates-length,
  node-count,
  node-only,
  net-outputs,
  outputs-length,
  output-only,
}
use Rattle.netlist.proofs.Valid.{valid-of}
use Rattle.netlist.proofs.FirstWrong.{none-wrong}
use Rattle.netlist.proofs.Sums.{pins-before-none, pins-before-next, pins-before-up}
use Rattle.netlist.proofs.PinSearch.{length-pins_at}
use Rattle.netlist.proofs.TableOrder.{Passed, passed, in-range, tables, or-left-back, or-right-back, not_back}

and-left-back : (a b : Bool) → (a && b) ≡ true → a ≡ true
and-left-back true b e = refl
and-left-back false b e = e

and-right-back : (a b : Bool) → (a && b) ≡ true → b ≡ true
and-right-back true b e = e
and-right-back false b e = let z : ◌≡◌ {A = ℕ} 0 1 = cc in absurd (omega arith)

and-false-back : (a b : Bool) → a ≡ true → (a && b) ≡ false → b ≡ false
and-false-back true b t e = e
and-false-back false b t e = let z : ◌≡◌ {A = ℕ} 0 1 = cc in absurd (omega arith)

module _ {file : List ℕ} {shape : Shape} (p : Passed file shape) where
  -- ---- the gates

  gate-right : (gate : ℕ) → gate < shape.gates → gate_wrong file shape gate ≡ false
  unfolding gate_place
  gate-right gate h =
      none-wrong (gate_wrong file shape) (up_from 0 shape.gates)
      (omega (arith, p.pins.gates.gates, length-up_from 0 shape.gates)) gate
      (up_from-mem 0 shape.gates gate (omega arith) (omega arith))

  gate-tests : (gate : ℕ) → gate < shape.gates →
      (pins_fit (kind_at file shape gate) (count_at file shape gate)
      && eqb (first_at file shape gate) (pins_before file shape gate)) ≡ true
  unfolding gate_wrong
  gate-tests gate h =
      not_back
      (pins_fit (kind_at file shape gate) (count_at file shape gate)
      && eqb (first_at file shape gate) (pins_before file shape gate)) (gate-right gate h)

  gate-count : (gate : ℕ) → gate < shape.gates →
      pins_fit (kind_at file shape gate) (count_at file shape gate) ≡ true
  gate-count gate h =
      and-left-back
      (pins_fit (kind_at file shape gate) (count_at file shape gate))
      (eqb (first_at file shape gate) (pins_before file shape gate)) (gate-tests gate h)

  -- a gate's first pin is the total of the pin counts in front of it (rule N5)
  first-right : (gate : ℕ) → gate < shape.gates → first_at file shape gate ≡ pins_before file shape gate
  first-right gate h =
      eqb-true (first_at file shape gate) (pins_before file shape gate)
      (and-right-back
      (pins_fit (kind_at file shape gate) (count_at file shape gate))
      (eqb (first_at file shape gate) (pins_before file shape gate)) (gate-tests gate h))

  pins-inside : (gate : ℕ) → gate < shape.gates → first_at file shape gate + count_at file shape gate ≤ shape.pins
  pins-inside gate h =
      omega (
        arith,
        first-right gate h,
        pins-before-next file shape gate,
        pins-before-up file shape (suc gate) shape.gates (omega arith),
        p.pins.gates.sum,
      )

  kind-right : (gate : ℕ) → gate < shape.gates →
      T (takes (kind_of (kind_at file shape gate)) (count_at file shape gate))
  kind-right gate h =
      kind-takes (kind_at file shape gate) (count_at file shape gate)
      (passes (gate-count gate h))

  -- ---- the pins

  -- as many as the counts say
  all-pins : (n : ℕ) → length (concat_map (pins_at file shape) (up_from 0 n)) ≡ pins_before file shape n
  all-pins zero = sym (pins-before-none file shape)
  all-pins (suc n) =
      let e : suc n ≡ n + 1 = omega arith in
      let f : 0 + n ≡ n = omega arith in
      ap (λ (k : ℕ). length (concat_map (pins_at file shape) (up_from 0 k))) e
      ∙ ap (λ (l : List ℕ). length (concat_map (pins_at file shape) l))
      (up_from-append 0 n 1 ∙ ap (λ (k : ℕ). up_from 0 n ++ up_from k 1) f)
      ∙ ap length (concat_map-append (pins_at file shape) (up_from 0 n) (up_from n 1))
      ∙ length-append (concat_map (pins_at file shape) (up_from 0 n)) (concat_map (pins_at file shape) (up_from n 1))
      ∙ omega (
        arith,
        all-pins n,
        length-append (pins_at file shape n) [],
        length-pins_at file shape n,
        pins-before-next file shape n,
      )

  pin-right : (gate pin : ℕ) → gate < shape.gates → first_at file shape gate ≤ pin →
      pin < first_at file shape gate + count_at file shape gate →
      pin_wrong file shape (shape.inputs + gate, pin) ≡ false
  unfolding pin_place pins_at
  pin-right gate pin h l u =
      let f = first-right gate h in
      none-wrong (pin_wrong file shape) (concat_map (pins_at file shape) (up_from 0 shape.gates))
      (omega (arith, p.pins.pins, p.pins.gates.sum, all-pins shape.gates))
      (shape.inputs + gate, pin)
      (mem-concat_map (pins_at file shape) (up_from 0 shape.gates) gate (shape.inputs + gate, pin)
      (up_from-mem 0 shape.gates gate (omega arith) (omega arith))
      (mem-map (λ pin. (shape.inputs + gate, pin)) (up_from (pins_before file shape gate) (count_at file shape gate))
      pin
      (up_from-mem (pins_before file shape gate) (count_at file shape gate) pin (omega arith) (omega arith))))

  driver-below : (gate pin : ℕ) → gate < shape.gates → first_at file shape gate ≤ pin →
      pin < first_at file shape gate + count_at file shape gate → driver_at file shape pin < shape.inputs + gate
  unfolding pin_wrong
  driver-below gate pin h l u =
      ltb-true (driver_at file shape pin) (shape.inputs + gate)
      (not_back (ltb (driver_at file shape pin) (shape.inputs + gate))
      (or-left-back (not (ltb (driver_at file shape pin) (shape.inputs + gate))) (ltb 999 (delay_at file shape pin))
      (pin-right gate pin h l u)))

  delay-small : (gate pin : ℕ) → gate < shape.gates → first_at file shape gate ≤ pin →
      pin < first_at file shape gate + count_at file shape gate → delay_at file shape pin ≤ 999
  unfolding pin_wrong
  delay-small gate pin h l u =
      ltb-false 999 (delay_at file shape pin)
      (or-right-back (not (ltb (driver_at file shape pin) (shape.inputs + gate))) (ltb 999 (delay_at file shape pin))
      (pin-right gate pin h l u))

  -- each pin is a pin of some gate
  owner : (pin n : ℕ) → n ≤ shape.gates → pin < pins_before file shape n →
      (gate : ℕ) × (gate < shape.gates) × (first_at file shape gate ≤ pin)
      × (pin < first_at file shape gate + count_at file shape gate)
  owner pin zero h l = absurd (omega (arith, pins-before-none file shape))
  owner pin (suc n) h l = go (leb (pins_before file shape n) pin) refl (λ k. owner pin n (omega arith) k)
    where
      go : (b : Bool) → leb (pins_before file shape n) pin ≡ b →
          (pin < pins_before file shape n →
          (gate : ℕ) × (gate < shape.gates) × (first_at file shape gate ≤ pin)
          × (pin < first_at file shape gate + count_at file shape gate)) →
          (gate : ℕ) × (gate < shape.gates) × (first_at file shape gate ≤ pin)
          × (pin < first_at file shape gate + count_at file shape gate)
      go true e r =
          let f = first-right n (omega arith) in
          let m = leb-true (pins_before file shape n) pin e in
          (n, omega arith, omega arith, omega (arith, pins-before-next file shape n))
      go false e r = r (leb-false (pins_before file shape n) pin e)

  each-delay-small : (pin : ℕ) → pin < shape.pins → delay_at file shape pin ≤ 999
  each-delay-small pin h =
      let w = owner pin shape.gates (omega arith) (omega (arith, p.pins.gates.sum)) in
      delay-small w.0 pin w.1 w.2 w.3

  -- ---- the outputs

  output-right : (position : ℕ) → position < shape.outputs → output_wrong file shape position ≡ false
  unfolding output_place
  output-right position h =
      none-wrong (output_wrong file shape) (up_from 0 shape.outputs)
      (omega (arith, p.outputs, length-up_from 0 shape.outputs)) position
      (up_from-mem 0 shape.outputs position (omega arith) (omega arith))

  output-node : (position : ℕ) → position < shape.outputs →
      output_at file shape position < shape.inputs + shape.gates
  unfolding output_wrong
  output-node position h =
      leb-false (shape.inputs + shape.gates) (output_at file shape position)
      (or-right-back (ltb 0 position && leb (output_at file shape position) (output_at file shape (position - 1)))
      (leb (shape.inputs + shape.gates) (output_at file shape position)) (output-right position h))

  output-rises : (position : ℕ) → suc position < shape.outputs →
      output_at file shape position < output_at file shape (suc position)
  unfolding output_wrong
  output-rises position h =
      let e : suc position - 1 ≡ position = omega arith in
      leb-false (output_at file shape (suc position)) (output_at file shape position)
      (subst (λ (k : ℕ). leb (output_at file shape (suc position)) (output_at file shape k) ≡ false) e
      (and-false-back (ltb 0 (suc position))
      (leb (output_at file shape (suc position)) (output_at file shape (suc position - 1)))
      (lt-ltb 0 (suc position) (omega arith))
      (or-left-back
      (ltb 0 (suc position) && leb (output_at file shape (suc position)) (output_at file shape (suc position - 1)))
      (leb (shape.inputs + shape.gates) (output_at file shape (suc position))) (output-right (suc position) h))))

-- ---- the netlist

-- numbers that rise from place to place are a rising list
rises : (f : ℕ → ℕ) (a n from : ℕ) → from ≤ f a → ((i : ℕ) → suc i < a + n → f i < f (suc i)) →
    T (rising from (map f (up_from a n)))
unfolding rising
rises f a zero from l h = tt
rises f a (suc zero) from l h = and_both (leb from (f a)) true (le→leb from (f a) l) tt
rises f a (suc (suc n)) from l h =
    and_both (leb from (f a)) (rising (suc (f a)) (map f (up_from (suc a) (suc n)))) (le→leb from (f a) l)
    (rises f (suc a) (suc n) (suc (f a)) (h a (omega arith)) (λ i k. h i (omega arith)))

module _ {file : List ℕ} {shape : Shape} (p : Passed file shape) where
  gate-fits : (i : ℕ) → i < shape.gates → T (gate_fits (shape.inputs + i, cell_at file shape i))
  gate-fits i h =
      and_both (takes (cell_at file shape i).kind (length (cell_at file shape i).pins))
      (all (pin_fits (shape.inputs + i)) (cell_at file shape i).pins)
      (subst (λ (n : ℕ). T (takes (cell_at file shape i).kind n)) (sym (pins-length file shape i))
      (subst (λ k. T (takes k (count_at file shape i))) (sym (cell-kind file shape i)) (kind-right p i h)))
      (all_of (pin_fits (shape.inputs + i)) (cell_at file shape i).pins λ x m.
      let w = pin-only file shape i x m in
      subst (λ (y : Pin). T (pin_fits (shape.inputs + i) y)) (sym w.3)
      (and_both (ltb (pin_at file shape w.0).driver (shape.inputs + i)) (leb (pin_at file shape w.0).delay 999)
      (subst (λ (d : ℕ). T (ltb d (shape.inputs + i))) (sym (pin-driver file shape w.0))
      (lt→ltb (driver_at file shape w.0) (shape.inputs + i) (driver-below p i w.0 h w.1 w.2)))
      (subst (λ (d : ℕ). T (leb d 999)) (sym (pin-delay file shape w.0))
      (le→leb (delay_at file shape w.0) 999 (delay-small p i w.0 h w.1 w.2)))))

  net-valid : T (valid (netlist_at file shape))
  net-valid =
      let net : Netlist = netlist_at file shape in
      let r : InRange shape = in-range p.pins.gates.tables in
      let i = net-inputs file shape in
      let g = gates-length file shape in
      let o = outputs-length file shape in
      valid-of net
      (le→leb 1 net.inputs (omega (arith, r.inputs-some)))
      (le→leb net.inputs 64 (omega (arith, r.inputs-few)))
      (le→leb (length net.gates) 448 (omega (arith, r.gates-few)))
      (all_of gate_fits (nodes net) λ x m.
      let w = node-only file shape x m in
      subst (λ (y : ℕ × Cell). T (gate_fits y)) (sym w.2) (gate-fits w.0 w.1))
      (subst (λ (l : List ℕ). T (rising 0 l)) (sym (net-outputs file shape))
      (rises (output_at file shape) 0 shape.outputs 0 (omega arith) (λ k h. output-rises p k (omega arith))))
      (all_of (λ o. ltb o (node_count net)) net.outputs λ x m.
      let w = output-only file shape x m in
      lt→ltb x (node_count net) (omega (arith, w.2, output-node p w.0 w.1, node-count file shape)))
      (le→leb 1 (length net.outputs) (omega (arith, r.outputs-some)))
      (le→leb (length net.outputs) 64 (omega (arith, r.outputs-few)))

-- an accepted file holds all that later reads lean on
pub holds : (file : List ℕ) (shape : Shape) → open_of file ≡ Ok shape → Holds file shape
holds file shape e =
    let p : Passed file shape = passed file shape e in
    let r : InRange shape = in-range p.pins.gates.tables in
    record {
      opened = e;
      valid = net-valid p;
      counts = r;
      tables = tables p.pins.gates.tables;
      pins-within = pins-inside p;
      drivers-below = driver-below p;
      delays-small = each-delay-small p;
      outputs-nodes = output-node p;
    }
