-- The rows of the table one after the other: once a row passes, the answer is that of the rows after it. Assumes
-- nothing.
use mathlib.Core.Path.{◌≡◌, refl, sym, ap, ◌∙◌, subst}
use mathlib.Core.Bool.{Bool, true, false, cond, not, ◌||◌}
use mathlib.Core.List.{List, [], ◌∷◌, ◌++◌}
use Prim.Native.Nat.{ℕ, ◌+◌, ◌-◌, ◌≤◌, ◌<◌}
use native.Mathlib.Omega.{arith}
use lib.Dec.{ltb, eqb}
use lib.ListN.{length}
use borrow.Author.Tests.{le-ltb, lt-ltb, ltb-false, eq-eqb, ne_eqb, eqb-true}
use Rattle.lent.specs.Bytes.{two_bytes}
use Rattle.refusal.specs.declared.Refusal.{Refusal}
use Rattle.refusal.specs.declared.Refusal.TheVariants.{Short, Version, Count, Back, Gate, Pin, Output}
use Rattle.std.specs.Prelude.{Result, Ok, Err, Option, Some, None}
use Rattle.std.proofs.lemmas.Bool.Decides.{nat_tests}
use Rattle.refusal.specs.Rows.{Checked}
use Rattle.refusal.specs.Rows.{Row, checked, unless_refused}
use Rattle.refusal.proofs.Rows.{stops, goes_on, passed-by, refused-first, passed_first}
use Rattle.netlist.specs.declared.Shape.{Shape}
use Rattle.netlist.specs.File.{version, shape_of}
use Rattle.netlist.specs.Open.{
  netlist_rows,
  count_wrong,
  wrong_count,
  back_wrong,
  pins_before,
  gate_place,
  sum_wrong,
  pin_place,
  output_place,
  gate_row,
  pin_row,
  output_row,
  open_of,
}
use Rattle.netlist.specs.Holds.{InRange, Tables, Framed}
use Rattle.netlist.proofs.Rows.{counts-right, tables-right}

-- the answer by some rows
abbrev pub answer : Shape → List Row → Result Shape Refusal
answer shape rows = unless_refused (checked rows) Err (Ok shape)

-- a row refuses, or passes on
row-stops : {b : Bool} (shape : Shape) (refusal : Refusal) (rows : List Row) → b ≡ true →
    Err refusal ≡ answer shape ((b, refusal) ∷ rows)
row-stops shape refusal rows e =
    ap (λ (c : Checked). unless_refused c Err (Ok shape)) (sym (stops refusal rows e))

row-passes : {b : Bool} (shape : Shape) (refusal : Refusal) (rows : List Row) → b ≡ false →
    answer shape rows ≡ answer shape ((b, refusal) ∷ rows)
row-passes shape refusal rows e =
    ap (λ (c : Checked). unless_refused c Err (Ok shape)) (sym (goes_on refusal rows e))

module _ (file : List ℕ) (shape : Shape) where
  -- the rows from 7 on, from 6 on, and so up to row 2
  abbrev row_seven : List Row
  row_seven = output_row file shape ∷ []

  abbrev row_six : List Row
  row_six = pin_row file shape ∷ row_seven

  abbrev row_five : List Row
  row_five = gate_row file shape ∷ row_six

  abbrev row_four : List Row
  row_four = (back_wrong file, Back) ∷ row_five

  abbrev row_three : List Row
  row_three = (ltb (count_wrong shape) 4, Count (count_wrong shape)) ∷ row_four

  abbrev row_two : List Row
  row_two = (not (eqb (version file) 1), Version (version file)) ∷ row_three

  abbrev row_one : List Row
  row_one = (ltb (length file) 14, Short (length file)) ∷ row_two

rows_are : (file : List ℕ) → row_one file (shape_of file) ≡ netlist_rows file
unfolding netlist_rows
rows_are file = refl

opens : (file : List ℕ) (shape : Shape) → shape ≡ shape_of file → answer shape (row_one file shape) ≡ open_of file
unfolding open_of
opens file shape e =
    ap (λ (s : Shape). answer s (row_one file s)) e ∙ ap (answer (shape_of file)) (rows_are file)

-- ---- row 1

pub short : (file : List ℕ) → length file < 14 → Err (Short (length file)) ≡ open_of file
short file h =
    row-stops (shape_of file) (Short (length file)) (row_two file (shape_of file)) (lt-ltb (length file) 14 h)
    ∙ opens file (shape_of file) refl

at-two : (file : List ℕ) (shape : Shape) → 14 ≤ length file → shape ≡ shape_of file →
    answer shape (row_two file shape) ≡ open_of file
at-two file shape h e =
    row-passes shape (Short (length file)) (row_two file shape) (le-ltb (length file) 14 h) ∙ opens file shape e

-- ---- row 2

-- the version's bytes are the last two
version-is : (file : List ℕ) {v : ℕ} → 14 ≤ length file → v ≡ two_bytes file (length file - 2) → v ≡ version file
version-is file h e =
    let f : length file - 2 ≡ length file - 14 + 12 = omega arith in
    e ∙ ap (two_bytes file) f

pub version-wrong : (file : List ℕ) {v : ℕ} → 14 ≤ length file → v ≡ two_bytes file (length file - 2) → (v ≡ 1 → ⊥) →
    Err (Version v) ≡ open_of file
version-wrong file h e d =
    let f = version-is file h e in
    ap (λ (n : ℕ). Err (Version n)) f
    ∙ row-stops (shape_of file) (Version (version file)) (row_three file (shape_of file))
    (ap not (ne_eqb (version file) 1 (λ q. d (f ∙ q))))
    ∙ at-two file (shape_of file) h refl

-- rows 1 and 2 pass
pub record Long (file : List ℕ) : Type 0 where
  pub long : 14 ≤ length file
  pub version-one : version file ≡ 1

pub longs : (file : List ℕ) {v : ℕ} → 14 ≤ length file → v ≡ two_bytes file (length file - 2) → v ≡ 1 → Long file
longs file h e f = record { long = h; version-one = sym (version-is file h e) ∙ f }

at-three : (file : List ℕ) (shape : Shape) → Long file → shape ≡ shape_of file →
    answer shape (row_three file shape) ≡ open_of file
at-three file shape l e =
    row-passes shape (Version (version file)) (row_three file shape)
    (ap not (eq-eqb (version file) 1 l.version-one))
    ∙ at-two file shape l.long e

-- ---- row 3

-- a count that is found is the first wrong one
found : (n which : ℕ) → cond (ltb n 4) (Some n) None ≡ Some which → (n < 4) × (which ≡ n)
found n which e = grind (arith, nat_tests)

-- and where none is found there is none
none-found : (n : ℕ) → ◌≡◌ {A = Option ℕ} (cond (ltb n 4) (Some n) None) None → 4 ≤ n
none-found n e = grind (arith, nat_tests)

pub count-wrong : {file : List ℕ} {shape : Shape} {answer : Option ℕ} {which : ℕ} → Long file →
    shape ≡ shape_of file → answer ≡ wrong_count shape → answer ≡ Some which → Err (Count which) ≡ open_of file
count-wrong {file} {shape} {answer} {which} l e f h =
    let w = found (count_wrong shape) which (sym f ∙ h) in
    ap (λ (n : ℕ). Err (Count n)) w.1
    ∙ row-stops shape (Count (count_wrong shape)) (row_four file shape) (lt-ltb (count_wrong shape) 4 w.0)
    ∙ at-three file shape l e

-- rows 1 to 3 pass
pub record Ranged (file : List ℕ) (shape : Shape) : Type 0 where
  pub trailer : Long file
  pub shape_is : shape ≡ shape_of file
  pub counts : 4 ≤ count_wrong shape

pub ranged : {file : List ℕ} {shape : Shape} {answer : Option ℕ} → Long file → shape ≡ shape_of file →
    answer ≡ wrong_count shape → answer ≡ None → Ranged file shape
ranged {file} {shape} l e f h =
    record { trailer = l; shape_is = e; counts = none-found (count_wrong shape) (sym f ∙ h) }

at-four : {file : List ℕ} {shape : Shape} → Ranged file shape → answer shape (row_four file shape) ≡ open_of file
at-four {file} {shape} r =
    row-passes shape (Count (count_wrong shape)) (row_four file shape) (le-ltb (count_wrong shape) 4 r.counts)
    ∙ at-three file shape r.trailer r.shape_is

-- ---- row 4

pub back-wrong : {file : List ℕ} {shape : Shape} {wrong : Bool} → Ranged file shape →
    wrong ≡ back_wrong file → wrong ≡ true → Err Back ≡ open_of file
back-wrong {file} {shape} r e f = row-stops shape Back (row_five file shape) (sym e ∙ f) ∙ at-four r

-- rows 1 to 4 pass
pub framed : {file : List ℕ} {shape : Shape} {wrong : Bool} → Ranged file shape →
    wrong ≡ back_wrong file → wrong ≡ false → Framed file shape
framed r e f =
    record {
      long = r.trailer.long;
      version-one = r.trailer.version-one;
      shape_is = r.shape_is;
      counts = r.counts;
      back = sym e ∙ f;
    }

pub in-range : {file : List ℕ} {shape : Shape} → Framed file shape → InRange shape
in-range {file} {shape} t = counts-right shape t.counts

pub tables : {file : List ℕ} {shape : Shape} → Framed file shape → Tables file shape
tables {file} {shape} t = subst (Tables file) (sym t.shape_is) (tables-right file t.long t.back)

at_five : {file : List ℕ} {shape : Shape} → Framed file shape → answer shape (row_five file shape) ≡ open_of file
at_five {file} {shape} t =
    let trailer : Long file = record { long = t.long; version-one = t.version-one } in
    row-passes shape Back (row_five file shape) t.back
    ∙ at-four (record { trailer = trailer; shape_is = t.shape_is; counts = t.counts })

-- ---- back from a row that passed

pub not_back : (a : Bool) → not a ≡ false → a ≡ true
not_back true e = refl
not_back false e = let z : ◌≡◌ {A = ℕ} 0 1 = cc in absurd (omega arith)

pub or-left-back : (a b : Bool) → (a || b) ≡ false → a ≡ false
or-left-back true b e = e
or-left-back false b e = refl

pub or-right-back : (a b : Bool) → (a || b) ≡ false → b ≡ false
or-right-back true b e = let z : ◌≡◌ {A = ℕ} 0 1 = cc in absurd (omega arith)
or-right-back false b e = e

-- ---- rows 5 to 7: each in turn refuses, or leaves it to those after it

-- some rows before others
first-refuse : (shape : Shape) (rows more : List Row) {whole : Result Shape Refusal} {refusal : Refusal} →
    answer shape (rows ++ more) ≡ whole → checked rows ≡ Err refusal → Err refusal ≡ whole
first-refuse shape rows more o e =
    ap (λ (c : Checked). unless_refused c Err (Ok shape)) (sym (refused-first rows more e)) ∙ o

first-pass : (shape : Shape) (rows more : List Row) {whole : Result Shape Refusal} →
    answer shape (rows ++ more) ≡ whole → checked rows ≡ Ok tt → answer shape more ≡ whole
first-pass shape rows more o e =
    ap (λ (c : Checked). unless_refused c Err (Ok shape)) (sym (passed_first rows more e)) ∙ o

-- the total of the pin counts is P where row 5 passes
pub sum-right : (file : List ℕ) (shape : Shape) → checked (gate_row file shape ∷ []) ≡ Ok tt →
    pins_before file shape shape.gates ≡ shape.pins
unfolding sum_wrong
sum-right file shape e =
    let five =
    passed-by (ltb (gate_place file shape) shape.gates || sum_wrong file shape) (Gate (gate_place file shape)) [] e
    in
    eqb-true (pins_before file shape shape.gates) shape.pins
    (not_back (eqb (pins_before file shape shape.gates) shape.pins)
    (or-right-back (ltb (gate_place file shape) shape.gates) (sum_wrong file shape) five.0))

module _ {file : List ℕ} {shape : Shape} (t : Framed file shape) where
  pub gates-refuse : (refusal : Refusal) → checked (gate_row file shape ∷ []) ≡ Err refusal →
      Err refusal ≡ open_of file
  gates-refuse refusal e = first-refuse shape (gate_row file shape ∷ []) (row_six file shape) (at_five t) e

  module _ (gates : checked (gate_row file shape ∷ []) ≡ Ok tt) where
    at-six : answer shape (row_six file shape) ≡ open_of file
    at-six = first-pass shape (gate_row file shape ∷ []) (row_six file shape) (at_five t) gates

    pub pins-refuse : (refusal : Refusal) → checked (pin_row file shape ∷ []) ≡ Err refusal →
        Err refusal ≡ open_of file
    pins-refuse refusal e = first-refuse shape (pin_row file shape ∷ []) (row_seven file shape) at-six e

    module _ (pins : checked (pin_row file shape ∷ []) ≡ Ok tt) where
      at-seven : answer shape (row_seven file shape) ≡ open_of file
      at-seven = first-pass shape (pin_row file shape ∷ []) (row_seven file shape) at-six pins

      pub outputs-refuse : (refusal : Refusal) → checked (output_row file shape ∷ []) ≡ Err refusal →
          Err refusal ≡ open_of file
      outputs-refuse refusal e = first-refuse shape (output_row file shape ∷ []) [] at-seven e

      pub all-pass : checked (output_row file shape ∷ []) ≡ Ok tt → Ok shape ≡ open_of file
      all-pass e = first-pass shape (output_row file shape ∷ []) [] at-seven e

-- ---- back from an all-passed file

-- rows 1 to 5 have passed
pub record Gated (file : List ℕ) (shape : Shape) : Type 0 where
  pub tables : Framed file shape
  pub gates : shape.gates ≤ gate_place file shape
  pub sum : pins_before file shape shape.gates ≡ shape.pins

-- rows 1 to 6 have passed
pub record Pinned (file : List ℕ) (shape : Shape) : Type 0 where
  pub gates : Gated file shape
  pub pins : shape.pins ≤ pin_place file shape

-- all rows have passed
pub record Passed (file : List ℕ) (shape : Shape) : Type 0 where
  pub pins : Pinned file shape
  pub outputs : shape.outputs ≤ output_place file shape

-- an answer that accepts: the rows are passed, and the shape is the one they were asked with
pub answer-accepts : (own : Shape) (rows : List Row) {shape : Shape} → answer own rows ≡ Ok shape →
    (checked rows ≡ Ok tt) × (own ≡ shape)
answer-accepts own rows {shape} e = go (checked rows) e
  where
    go : (c : Checked) → unless_refused c Err (Ok own) ≡ Ok shape → (c ≡ Ok tt) × (own ≡ shape)
    go (Ok tt) e = (refl, cc)
    go (Err refusal) e = let w : ◌≡◌ {A = ℕ} 0 1 = cc in absurd (omega arith)

-- an answer that refuses: a row does
pub answer-refuses : (own : Shape) (rows : List Row) {refusal : Refusal} → answer own rows ≡ Err refusal →
    checked rows ≡ Err refusal
answer-refuses own rows {refusal} e = go (checked rows) e
  where
    go : (c : Checked) → unless_refused c Err (Ok own) ≡ Err refusal → c ≡ Err refusal
    go (Ok tt) e = let w : ◌≡◌ {A = ℕ} 0 1 = cc in absurd (omega arith)
    go (Err refusal) e = cc

-- an all-passed file's rows are passed, and its shape is the trailer's
pub accepted-rows : (file : List ℕ) {shape : Shape} → open_of file ≡ Ok shape →
    (checked (netlist_rows file) ≡ Ok tt) × (shape_of file ≡ shape)
unfolding open_of
accepted-rows file e = answer-accepts (shape_of file) (netlist_rows file) e

-- a refused file's rows refuse it
pub rejected-rows : (file : List ℕ) {refusal : Refusal} → open_of file ≡ Err refusal →
    checked (netlist_rows file) ≡ Err refusal
unfolding open_of
rejected-rows file e = answer-refuses (shape_of file) (netlist_rows file) e

passed-own : (file : List ℕ) → checked (row_one file (shape_of file)) ≡ Ok tt → Passed file (shape_of file)
unfolding sum_wrong
passed-own file e =
    let s : Shape = shape_of file in
    let one = passed-by (ltb (length file) 14) (Short (length file)) (row_two file s) e in
    let two = passed-by (not (eqb (version file) 1)) (Version (version file)) (row_three file s) one.1 in
    let three = passed-by (ltb (count_wrong s) 4) (Count (count_wrong s)) (row_four file s) two.1 in
    let four = passed-by (back_wrong file) Back (row_five file s) three.1 in
    let five =
    passed-by (ltb (gate_place file s) s.gates || sum_wrong file s) (Gate (gate_place file s)) (row_six file s) four.1
    in
    let six = passed-by (ltb (pin_place file s) s.pins) (Pin (pin_place file s)) (row_seven file s) five.1 in
    let seven = passed-by (ltb (output_place file s) s.outputs) (Output (output_place file s)) [] six.1 in
    let sum =
    not_back (eqb (pins_before file s s.gates) s.pins)
    (or-right-back (ltb (gate_place file s) s.gates) (sum_wrong file s) five.0)
    in
    let frame : Framed file s =
    record {
      long = ltb-false (length file) 14 one.0;
      version-one = eqb-true (version file) 1 (not_back (eqb (version file) 1) two.0);
      shape_is = refl;
      counts = ltb-false (count_wrong s) 4 three.0;
      back = four.0;
    }
    in
    let gates : Gated file s =
    record {
      tables = frame;
      gates =
          ltb-false (gate_place file s) s.gates
          (or-left-back (ltb (gate_place file s) s.gates) (sum_wrong file s) five.0);
      sum = eqb-true (pins_before file s s.gates) s.pins sum;
    }
    in
    let pins : Pinned file s = record { gates = gates; pins = ltb-false (pin_place file s) s.pins six.0 } in
    record { pins = pins; outputs = ltb-false (output_place file s) s.outputs seven.0 }

pub passed : (file : List ℕ) (shape : Shape) → open_of file ≡ Ok shape → Passed file shape
passed file shape e =
    let a = accepted-rows file e in
    subst (Passed file) a.1 (passed-own file (ap checked (rows_are file) ∙ a.0))
