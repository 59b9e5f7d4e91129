-- The table's rows: what passing each of them says. Assumes nothing.
use mathlib.Core.Path.{◌≡◌, refl, sym, ap, ap₂, ◌∙◌}
use mathlib.Core.Bool.{Bool, true, false, not, ◌&&◌, ◌||◌, cond, or-true, or-false}
use mathlib.Core.List.{List}
use Prim.Native.Nat.{ℕ, ◌+◌, ◌-◌, ◌≤◌, ◌<◌}
use native.Mathlib.Omega.{arith}
use lib.Dec.{leb, ltb, eqb}
use lib.ListN.{length}
use borrow.Author.Tests.{le-leb, lt-leb, le-ltb, lt-ltb, eq-eqb, ne_eqb, leb-true, ltb-false, eqb-true}
use Rattle.netlist.specs.declared.Shape.{Shape}
use Rattle.netlist.specs.Kinds.{pins_fit}
use Rattle.netlist.specs.File.{
  trailer,
  back,
  table_bytes,
  shape_of,
  kind_at,
  count_at,
  first_at,
  driver_at,
  delay_at,
  output_at,
}
use Rattle.netlist.specs.Open.{count_wrong, back_wrong, pins_before, gate_wrong, pin_wrong, output_wrong}
use Rattle.netlist.specs.Holds.{InRange, Tables}

-- a test of a range, and what it says
pub between-true : (low n high : ℕ) → (leb low n && leb n high) ≡ true → (low ≤ n) × (n ≤ high)
between-true low n high e = go (leb low n) (leb n high) refl refl e
  where
    go : (a b : Bool) → leb low n ≡ a → leb n high ≡ b → (a && b) ≡ true → (low ≤ n) × (n ≤ high)
    go true true p q r = (leb-true low n p, leb-true n high q)
    go true false p q r = let z : ◌≡◌ {A = Bool} false true = r in let w : ◌≡◌ {A = ℕ} 0 1 = cc in absurd (omega arith)
    go false b p q r = let z : ◌≡◌ {A = Bool} false true = r in let w : ◌≡◌ {A = ℕ} 0 1 = cc in absurd (omega arith)

-- row 3 passes: each count lies in its range
pub counts-right : (shape : Shape) → 4 ≤ count_wrong shape → InRange shape
unfolding count_wrong
counts-right shape h =
    go (leb 1 shape.inputs && leb shape.inputs 64) (leb shape.gates 448) (leb shape.pins 2048)
    (leb 1 shape.outputs && leb shape.outputs 64) refl refl refl refl h
  where
    go : (a b c d : Bool) → (leb 1 shape.inputs && leb shape.inputs 64) ≡ a → leb shape.gates 448 ≡ b →
        leb shape.pins 2048 ≡ c → (leb 1 shape.outputs && leb shape.outputs 64) ≡ d →
        4 ≤ cond a (cond b (cond c (cond d 4 3) 2) 1) 0 → InRange shape
    go true true true true p q r s l =
        let i = between-true 1 shape.inputs 64 p in
        let o = between-true 1 shape.outputs 64 s in
        record {
          inputs-some = i.0;
          inputs-few = i.1;
          gates-few = leb-true shape.gates 448 q;
          pins-few = leb-true shape.pins 2048 r;
          outputs-some = o.0;
          outputs-few = o.1;
        }
    go true true true false p q r s l = absurd (omega arith)
    go true true false d p q r s l = absurd (omega arith)
    go true false c d p q r s l = absurd (omega arith)
    go false b c d p q r s l = absurd (omega arith)

-- row 4 passes: the tables fill the file up to the trailer
pub tables-right : (file : List ℕ) → 14 ≤ length file → back_wrong file ≡ false → Tables file (shape_of file)
unfolding back_wrong shape_of table_bytes
tables-right file long e =
    go (eqb (back file) (table_bytes file)) (ltb (trailer file) (back file)) refl refl e
  where
    go : (a b : Bool) → eqb (back file) (table_bytes file) ≡ a → ltb (trailer file) (back file) ≡ b →
        (not a || b) ≡ false → Tables file (shape_of file)
    go true false p q r =
        let x = eqb-true (back file) (table_bytes file) p in
        let y = ltb-false (trailer file) (back file) q in
        record { room = omega arith }
    go true true p q r = let z : ◌≡◌ {A = Bool} true false = r in let w : ◌≡◌ {A = ℕ} 0 1 = cc in absurd (omega arith)
    go false b p q r = let z : ◌≡◌ {A = Bool} true false = r in let w : ◌≡◌ {A = ℕ} 0 1 = cc in absurd (omega arith)

-- ---- the tests of each row, as the code makes them

-- 3 COUNT, the counts before it being right
pub inputs-wrong : (shape : Shape) → (leb 1 shape.inputs && leb shape.inputs 64) ≡ false → 0 ≡ count_wrong shape
unfolding count_wrong
inputs-wrong shape e = rw e

pub gates-wrong : (shape : Shape) → (leb 1 shape.inputs && leb shape.inputs 64) ≡ true →
    448 < shape.gates → 1 ≡ count_wrong shape
unfolding count_wrong
gates-wrong shape e h = rw (e, lt-leb shape.gates 448 h)

pub pins-wrong : (shape : Shape) → (leb 1 shape.inputs && leb shape.inputs 64) ≡ true →
    shape.gates ≤ 448 → 2048 < shape.pins → 2 ≡ count_wrong shape
unfolding count_wrong
pins-wrong shape e h l = rw (e, le-leb shape.gates 448 h, lt-leb shape.pins 2048 l)

pub outputs-wrong : (shape : Shape) → (leb 1 shape.inputs && leb shape.inputs 64) ≡ true →
    shape.gates ≤ 448 → shape.pins ≤ 2048 →
    (b : Bool) → (leb 1 shape.outputs && leb shape.outputs 64) ≡ b → cond b 4 3 ≡ count_wrong shape
unfolding count_wrong
outputs-wrong shape e h l b f = rw (e, le-leb shape.gates 448 h, le-leb shape.pins 2048 l, f)

-- 4 BACK
pub back-differs : (file : List ℕ) {b n : ℕ} → b ≡ back file → n ≡ table_bytes file → (b ≡ n → ⊥) →
    true ≡ back_wrong file
unfolding back_wrong
back-differs file e f d = rw (ne_eqb (back file) (table_bytes file) (λ q. d (e ∙ q ∙ sym f)))

pub back-equal : (file : List ℕ) {b n : ℕ} → b ≡ back file → n ≡ table_bytes file → b ≡ n →
    ltb (trailer file) b ≡ back_wrong file
unfolding back_wrong
back-equal file e f q =
    ap (ltb (trailer file)) e ∙ rw (eq-eqb (back file) (table_bytes file) (sym e ∙ q ∙ f))

-- 5 GATE
module _ (file : List ℕ) (shape : Shape) (gate : ℕ) {kind count : ℕ} {fit : Bool}
    (e : kind ≡ kind_at file shape gate) (f : count ≡ count_at file shape gate)
    (g : fit ≡ pins_fit kind count) where
  fit_is : fit
      ≡ (pins_fit (kind_at file shape gate) (count_at file shape gate))
  fit_is = g ∙ ap₂ (λ (k n : ℕ). pins_fit k n) e f

  pub gate-pins-wrong : fit ≡ false → true ≡ gate_wrong file shape gate
  unfolding gate_wrong
  gate-pins-wrong h = rw (sym fit_is ∙ h)

  pub gate-pins-right : {first before : ℕ} → fit ≡ true →
      first ≡ first_at file shape gate → before ≡ pins_before file shape gate →
      not (eqb first before) ≡ gate_wrong file shape gate
  unfolding gate_wrong
  gate-pins-right h i j = rw (sym fit_is ∙ h) (ap₂ (λ (a b : ℕ). not (eqb a b)) i j)

-- 6 PIN
pub driver-wrong : (file : List ℕ) (shape : Shape) (node pin : ℕ) {driver : ℕ} → driver ≡ driver_at file shape pin →
    node ≤ driver → true ≡ pin_wrong file shape (node, pin)
unfolding pin_wrong
driver-wrong file shape node pin e h = rw (le-ltb (driver_at file shape pin) node (omega arith))

pub driver-right : (file : List ℕ) (shape : Shape) (node pin : ℕ) {driver delay : ℕ} →
    driver ≡ driver_at file shape pin → delay ≡ delay_at file shape pin → driver < node →
    ltb 999 delay ≡ pin_wrong file shape (node, pin)
unfolding pin_wrong
driver-right file shape node pin e f h =
    ap (ltb 999) f ∙ rw (lt-ltb (driver_at file shape pin) node (omega arith))

-- 7 OUTPUT
pub output-beyond : (file : List ℕ) (shape : Shape) (position : ℕ) {node : ℕ} →
    node ≡ output_at file shape position → shape.inputs + shape.gates ≤ node →
    true ≡ output_wrong file shape position
unfolding output_wrong
output-beyond file shape position e h =
    rw (le-leb (shape.inputs + shape.gates) (output_at file shape position) (omega arith))
    (sym (or-true (ltb 0 position && leb (output_at file shape position) (output_at file shape (position - 1)))))

pub output-first : (file : List ℕ) (shape : Shape) (position : ℕ) {node : ℕ} →
    node ≡ output_at file shape position → node < shape.inputs + shape.gates → position < 1 →
    false ≡ output_wrong file shape position
unfolding output_wrong
output-first file shape position e h l =
    rw (
      lt-leb (shape.inputs + shape.gates) (output_at file shape position) (omega arith),
      le-ltb 0 position (omega arith),
    )

pub output-next : (file : List ℕ) (shape : Shape) (position : ℕ) {node last : ℕ} →
    node ≡ output_at file shape position → last ≡ output_at file shape (position - 1) →
    node < shape.inputs + shape.gates → 1 ≤ position →
    leb node last ≡ output_wrong file shape position
unfolding output_wrong
output-next file shape position e f h l =
    rw (
      lt-leb (shape.inputs + shape.gates) (output_at file shape position) (omega arith),
      lt-ltb 0 position (omega arith),
    )
    (ap₂ leb e f ∙ sym (or-false (leb (output_at file shape position) (output_at file shape (position - 1)))))
