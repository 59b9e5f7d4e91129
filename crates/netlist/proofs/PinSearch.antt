-- The search for the first wrong pin, gate after gate: each gate's pins follow those of the gate before it. Assumes
-- nothing.
use mathlib.Core.Path.{◌≡◌, refl, sym, ap, ◌∙◌}
use mathlib.Core.Bool.{Bool, true, false}
use mathlib.Core.List.{List, ◌++◌}
use Prim.Native.Nat.{ℕ, suc, ◌+◌, ◌-◌, ◌≤◌, ◌<◌}
use native.Mathlib.Omega.{arith}
use native.Mathlib.Numerals.{add-one}
use lib.ListN.{length}
use Rattle.basics.specs.Lists.{up_from, concat_map}
use Rattle.netlist.specs.declared.Shape.{Shape}
use Rattle.netlist.specs.File.{count_at}
use Rattle.netlist.specs.Open.{first_wrong, pins_before, pins_at, pin_wrong, right_pins, pin_place}
use Rattle.netlist.proofs.Ranges.{length-map-up_from}
use Rattle.netlist.proofs.FirstWrong.{
  first-none,
  first-in-left,
  first-in-right,
  first-of-map,
  Searching,
  searching-starts,
  searching-more,
  searching-found,
  searching-ends,
}
use Rattle.netlist.proofs.Sums.{pins-before-none, pins-before-next, pins-before-up}

module _ (file : List ℕ) (shape : Shape) where
  -- a pin of a gate's node is wrong
  abbrev pub wrong_at : ℕ → ℕ → Bool
  wrong_at gate pin = pin_wrong file shape (shape.inputs + gate, pin)

  -- a gate's first wrong pin, by the pins' numbers
  pub first-of-gate : (gate : ℕ) →
      first_wrong (wrong_at gate) (up_from (pins_before file shape gate) (count_at file shape gate))
      ≡ right_pins file shape gate
  unfolding pins_at
  first-of-gate gate =
      sym
      (first-of-map (pin_wrong file shape) (λ pin. (shape.inputs + gate, pin))
      (up_from (pins_before file shape gate) (count_at file shape gate)))

  pub length-pins_at : (gate : ℕ) → length (pins_at file shape gate) ≡ count_at file shape gate
  unfolding pins_at
  length-pins_at gate =
      length-map-up_from (λ pin. (shape.inputs + gate, pin)) (pins_before file shape gate) (count_at file shape gate)

  -- the pins of the gates from one on
  abbrev pub pins_from : ℕ → List (ℕ × ℕ)
  pins_from gate = concat_map (pins_at file shape) (up_from gate (shape.gates - gate))

-- the search over one gate's pins, from `from` to `end`, has come to a pin
pub record GateSearching (file : List ℕ) (shape : Shape) (gate from node end pin : ℕ) : Type 0 where
  pub from_is : from ≡ pins_before file shape gate
  pub node-is : node ≡ shape.inputs + gate
  pub end_is : end ≡ from + count_at file shape gate
  pub search : Searching (wrong_at file shape gate) from (count_at file shape gate) pin

pub gate-searching-starts : (file : List ℕ) (shape : Shape) {gate from count : ℕ} →
    from ≡ pins_before file shape gate → count ≡ count_at file shape gate →
    GateSearching file shape gate from (shape.inputs + gate) (from + count) from
gate-searching-starts file shape {gate} {from} {count} e f =
    record {
      from_is = e;
      node-is = refl;
      end_is = ap (λ (n : ℕ). from + n) f;
      search = searching-starts (wrong_at file shape gate) from (count_at file shape gate);
    }

module _ {file : List ℕ} {shape : Shape} {gate from node end pin : ℕ}
    (s : GateSearching file shape gate from node end pin) where
  -- the place by the pins' numbers is the place in the gate's list
  place_is : pin ≡ from + first_wrong (wrong_at file shape gate) (up_from from (count_at file shape gate)) →
      pin ≡ from + right_pins file shape gate
  place_is e =
      e
      ∙ ap (λ (n : ℕ). from + first_wrong (wrong_at file shape gate) (up_from n (count_at file shape gate))) s.from_is
      ∙ ap (λ (n : ℕ). from + n) (first-of-gate file shape gate)

  test-is : {wrong : Bool} → wrong ≡ pin_wrong file shape (node, pin) → wrong_at file shape gate pin ≡ wrong
  test-is e = ap (λ (n : ℕ). pin_wrong file shape (n, pin)) (sym s.node-is) ∙ sym e

  pub gate-searching-found : {wrong : Bool} → pin < end → wrong ≡ pin_wrong file shape (node, pin) → wrong ≡ true →
      pin ≡ from + right_pins file shape gate
  gate-searching-found h e t =
      let i = s.end_is in
      place_is (searching-found s.search (omega arith) (test-is e ∙ t))

  pub gate-searching-more : {wrong : Bool} → pin < end → wrong ≡ pin_wrong file shape (node, pin) → wrong ≡ false →
      GateSearching file shape gate from node end (pin + 1)
  gate-searching-more h e t =
      let i = s.end_is in
      record {
        from_is = s.from_is;
        node-is = s.node-is;
        end_is = s.end_is;
        search = searching-more s.search (omega arith) (test-is e ∙ t);
      }

  pub gate-searching-ends : end ≤ pin → pin ≡ from + right_pins file shape gate
  gate-searching-ends h = let i = s.end_is in place_is (searching-ends s.search (omega arith))

-- the search has come to a gate, whose pins begin at `from`
pub record PinSearching (file : List ℕ) (shape : Shape) (from gate : ℕ) : Type 0 where
  pub within : gate ≤ shape.gates
  pub is : from ≡ pins_before file shape gate
  pub left : from + first_wrong (pin_wrong file shape) (pins_from file shape gate) ≡ pin_place file shape

pub pin-searching-starts : (file : List ℕ) (shape : Shape) → PinSearching file shape 0 0
unfolding pin_place
pin-searching-starts file shape =
    let e : shape.gates - 0 ≡ shape.gates = omega arith in
    let z : 0 + first_wrong (pin_wrong file shape) (pins_from file shape 0)
    ≡ first_wrong (pin_wrong file shape) (pins_from file shape 0) =
    omega arith
    in
    record {
      within = omega arith;
      is = sym (pins-before-none file shape);
      left =
          z
          ∙ ap (λ (n : ℕ). first_wrong (pin_wrong file shape) (concat_map (pins_at file shape) (up_from 0 n))) e;
    }

module _ {file : List ℕ} {shape : Shape} {from gate : ℕ} (s : PinSearching file shape from gate) where
  -- a gate's pins end where the next gate's begin
  pub pin-searching-end : gate < shape.gates → pins_before file shape shape.gates ≡ shape.pins →
      from + count_at file shape gate ≤ shape.pins
  pin-searching-end h e =
      let i = s.is in
      omega (arith, pins-before-next file shape gate, pins-before-up file shape (suc gate) shape.gates (omega arith))

  left-cons : gate < shape.gates →
      pins_from file shape gate ≡ pins_at file shape gate ++ pins_from file shape (gate + 1)
  left-cons h =
      let e : shape.gates - gate ≡ suc (shape.gates - (gate + 1)) = omega arith in
      let f : suc gate ≡ gate + 1 = omega arith in
      ap (λ (n : ℕ). concat_map (pins_at file shape) (up_from gate n)) e
      ∙ ap
      (λ (m : ℕ). pins_at file shape gate ++ concat_map (pins_at file shape) (up_from m (shape.gates - (gate + 1)))) f

  -- one of its pins is wrong
  pub pin-searching-found : {count pin : ℕ} → gate < shape.gates → count ≡ count_at file shape gate →
      pin ≡ from + right_pins file shape gate → pin < from + count →
      pin ≡ pin_place file shape
  pin-searching-found {count} {pin} h f e l =
      let k : right_pins file shape gate < length (pins_at file shape gate) =
      omega (arith, length-pins_at file shape gate)
      in
      e
      ∙ ap (λ (n : ℕ). from + n)
      (sym (first-in-left (pin_wrong file shape) (pins_at file shape gate) (pins_from file shape (gate + 1)) k))
      ∙ ap (λ (t : List (ℕ × ℕ)). from + first_wrong (pin_wrong file shape) t) (sym (left-cons h))
      ∙ s.left

  -- all of them pass
  pub pin-searching-more : {count pin : ℕ} → gate < shape.gates → count ≡ count_at file shape gate →
      pin ≡ from + right_pins file shape gate → from + count ≤ pin →
      PinSearching file shape (from + count) (gate + 1)
  pin-searching-more {count} {pin} h f e l =
      let k : length (pins_at file shape gate) ≤ right_pins file shape gate =
      omega (arith, length-pins_at file shape gate)
      in
      let rest : List (ℕ × ℕ) = pins_from file shape (gate + 1) in
      let z : from + count + first_wrong (pin_wrong file shape) rest
      ≡ from + (length (pins_at file shape gate) + first_wrong (pin_wrong file shape) rest) =
      omega (arith, length-pins_at file shape gate)
      in
      record {
        within = omega arith;
        is = rw (add-one gate) (let i = s.is in omega (arith, pins-before-next file shape gate));
        left =
            z
            ∙ ap (λ (n : ℕ). from + n) (sym (first-in-right (pin_wrong file shape) (pins_at file shape gate) rest k))
            ∙ ap (λ (t : List (ℕ × ℕ)). from + first_wrong (pin_wrong file shape) t) (sym (left-cons h))
            ∙ s.left;
      }

  -- no gate is left
  pub pin-searching-ends : shape.gates ≤ gate → from ≡ pin_place file shape
  pin-searching-ends h =
      let e : shape.gates - gate ≡ 0 = omega arith in
      let z : from ≡ from + 0 = omega arith in
      z
      ∙ ap (λ (n : ℕ). from + n) (sym (first-none (pin_wrong file shape)))
      ∙ ap (λ (n : ℕ). from + first_wrong (pin_wrong file shape) (concat_map (pins_at file shape) (up_from gate n)))
      (sym e)
      ∙ s.left
