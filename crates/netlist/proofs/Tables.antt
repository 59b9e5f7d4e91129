-- The searches through a file's tables, as what the rows 5 to 7 say: a search that stops is a row that refuses, and one
-- that ends is a row that passes. Assumes nothing.
use mathlib.Core.Path.{◌≡◌, refl, sym, ◌∙◌}
use mathlib.Core.Bool.{Bool, true, false}
use mathlib.Core.List.{List, [], ◌∷◌}
use Prim.Native.Nat.{ℕ, ◌+◌, ◌≤◌, ◌<◌}
use native.Mathlib.Omega.{arith}
use lib.Dec.{ltb}
use borrow.Author.Tests.{le-ltb, lt-ltb, ltb-true, ltb-false, eq-eqb, ne_eqb}
use Rattle.std.specs.Prelude.{Ok, Err}
use Rattle.refusal.specs.declared.Refusal.{Refusal}
use Rattle.refusal.specs.declared.Refusal.TheVariants.{Gate, Pin, Output}
use Rattle.refusal.specs.Rows.{checked}
use Rattle.refusal.proofs.Rows.{apart, passed-by}
use Rattle.netlist.specs.declared.Shape.{Shape}
use Rattle.netlist.specs.File.{count_at}
use Rattle.netlist.specs.Open.{
  pins_before,
  gate_wrong,
  gate_place,
  sum_wrong,
  gate_row,
  pin_wrong,
  right_pins,
  pin_place,
  gate_pin_row,
  pin_row,
  output_wrong,
  output_place,
  output_row,
}
use Rattle.netlist.proofs.FirstWrong.{Searching, searching-found, searching-ends}
use Rattle.netlist.proofs.Sums.{Summing, sum-of-all}
use Rattle.netlist.proofs.PinSearch.{
  GateSearching,
  gate-searching-found,
  gate-searching-ends,
  PinSearching,
  pin-searching-end,
  pin-searching-found,
  pin-searching-more,
  pin-searching-ends,
}

-- a row that refuses alone
row-refuses : (when : Bool) (own : Refusal) {refusal : Refusal} → checked ((when, own) ∷ []) ≡ Err refusal →
    (when ≡ true) × (own ≡ refusal)
row-refuses true own e = (refl, cc)
row-refuses false own e = apart e refl

-- ---- row 5

module _ {file : List ℕ} {shape : Shape} {sum gate : ℕ} (s : Summing file shape sum gate)
    (l : Searching (gate_wrong file shape) 0 shape.gates gate) where
  pub gate-refuses : gate < shape.gates → gate_wrong file shape gate ≡ true →
      Err (Gate gate) ≡ checked (gate_row file shape ∷ [])
  unfolding gate_place
  gate-refuses h w =
      let e : gate ≡ gate_place file shape = omega (arith, searching-found l (omega arith) w) in
      simp (lt-ltb (gate_place file shape) shape.gates (omega arith), e)

  gates-end : shape.gates ≤ gate → gate_place file shape ≡ shape.gates
  unfolding gate_place
  gates-end h = omega (arith, searching-ends l (omega arith), s.within)

  pub sum-refuses : shape.gates ≤ gate → (sum ≡ shape.pins → ⊥) →
      Err (Gate shape.gates) ≡ checked (gate_row file shape ∷ [])
  unfolding sum_wrong
  sum-refuses h d =
      let all = sum-of-all file shape s.is s.within h in
      simp (
        gates-end h,
        le-ltb shape.gates shape.gates (omega arith),
        ne_eqb (pins_before file shape shape.gates) shape.pins (λ q. d (all ∙ q)),
      )

  pub gates-pass : shape.gates ≤ gate → sum ≡ shape.pins → Ok tt ≡ checked (gate_row file shape ∷ [])
  unfolding sum_wrong
  gates-pass h g =
      let same = sym (sum-of-all file shape s.is s.within h) ∙ g in
      simp (
        gates-end h,
        le-ltb shape.gates shape.gates (omega arith),
        eq-eqb (pins_before file shape shape.gates) shape.pins same,
      )

-- ---- row 6, of one gate

module _ {file : List ℕ} {shape : Shape} {gate from node end pin : ℕ}
    (s : GateSearching file shape gate from node end pin) where
  pub gate-pin-refuses : {wrong : Bool} → pin < end → wrong ≡ pin_wrong file shape (node, pin) → wrong ≡ true →
      Err (Pin pin) ≡ checked (gate_pin_row file shape gate ∷ [])
  gate-pin-refuses h e t =
      let p = gate-searching-found s h e t in
      let i = s.end_is in
      let q : pin ≡ pins_before file shape gate + right_pins file shape gate = omega (arith, s.from_is) in
      simp (lt-ltb (right_pins file shape gate) (count_at file shape gate) (omega arith), q)

  pub gate-pins-pass : end ≤ pin → Ok tt ≡ checked (gate_pin_row file shape gate ∷ [])
  gate-pins-pass h =
      let p = gate-searching-ends s h in
      let i = s.end_is in
      simp (le-ltb (right_pins file shape gate) (count_at file shape gate) (omega arith))

-- ---- row 6, of all gates

module _ {file : List ℕ} {shape : Shape} {from gate : ℕ} (s : PinSearching file shape from gate) where
  pub pin-refuses : (refusal : Refusal) → gate < shape.gates → pins_before file shape shape.gates ≡ shape.pins →
      checked (gate_pin_row file shape gate ∷ []) ≡ Err refusal → Err refusal ≡ checked (pin_row file shape ∷ [])
  pin-refuses refusal h t e =
      let r = row-refuses (ltb (right_pins file shape gate) (count_at file shape gate))
      (Pin (pins_before file shape gate + right_pins file shape gate)) e in
      let l = ltb-true (right_pins file shape gate) (count_at file shape gate) r.0 in
      let i = s.is in
      let p : from + right_pins file shape gate ≡ pin_place file shape =
      pin-searching-found s h refl refl (omega arith)
      in
      let w = pin-searching-end s h t in
      let q : pins_before file shape gate + right_pins file shape gate ≡ pin_place file shape = omega arith in
      simp (lt-ltb (pin_place file shape) shape.pins (omega arith), ← r.1, q)

  pub pins-more : {count : ℕ} → gate < shape.gates → count ≡ count_at file shape gate →
      checked (gate_pin_row file shape gate ∷ []) ≡ Ok tt → PinSearching file shape (from + count) (gate + 1)
  pins-more h f e =
      let r =
      passed-by (ltb (right_pins file shape gate) (count_at file shape gate))
      (Pin (pins_before file shape gate + right_pins file shape gate)) [] e
      in
      let l = ltb-false (right_pins file shape gate) (count_at file shape gate) r.0 in
      pin-searching-more s h f refl (omega arith)

  pub pins-pass : shape.gates ≤ gate → pins_before file shape shape.gates ≡ shape.pins →
      Ok tt ≡ checked (pin_row file shape ∷ [])
  pins-pass h t =
      let p = pin-searching-ends s h in
      let f = sum-of-all file shape s.is s.within h in
      simp (le-ltb (pin_place file shape) shape.pins (omega arith))

-- ---- row 7

module _ (file : List ℕ) (shape : Shape) {position : ℕ}
    (l : Searching (output_wrong file shape) 0 shape.outputs position) where
  pub output-refuses : position < shape.outputs → output_wrong file shape position ≡ true →
      Err (Output position) ≡ checked (output_row file shape ∷ [])
  unfolding output_place
  output-refuses h w =
      let e : position ≡ output_place file shape = omega (arith, searching-found l (omega arith) w) in
      simp (lt-ltb (output_place file shape) shape.outputs (omega arith), e)

  pub outputs-pass : shape.outputs ≤ position → Ok tt ≡ checked (output_row file shape ∷ [])
  unfolding output_place
  outputs-pass h =
      let e : position ≡ output_place file shape = omega (arith, searching-ends l (omega arith)) in
      simp (le-ltb (output_place file shape) shape.outputs (omega arith))
