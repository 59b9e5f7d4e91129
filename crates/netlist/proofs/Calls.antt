-- A call on any bytes and any arrivals: what is accepted leaves it to the call's own rows over its circuit, and what is
-- refused ends it; with zeros for arrivals, a file is answered as by itself. And a list that must have so many entries,
-- none over a bound (list_rows). Assumes nothing.
use mathlib.Core.Path.{◌≡◌, refl, sym, ap, ◌∙◌}
use mathlib.Core.Bool.{not}
use mathlib.Core.List.{List, [], ◌∷◌, ◌++◌}
use Prim.Native.Nat.{ℕ, zero, suc, ◌≤◌}
use native.Mathlib.Omega.{arith}
use lib.Dec.{ltb, eqb}
use lib.ListN.{length, replicate, length-replicate}
use borrow.Author.Tests.{ltb-false, eqb-true, eq-eqb, le-ltb}
use Rattle.refusal.specs.declared.Refusal.{Refusal}
use Rattle.refusal.specs.declared.Refusal.TheVariants.{Arrival, Fall}
use Rattle.std.specs.Prelude.{Result, Ok, Err}
use Rattle.refusal.specs.Rows.{Checked}
use Rattle.refusal.specs.Rows.{Row, checked, unless_refused}
use Rattle.refusal.proofs.Rows.{refused-first, passed_first, first_passes, rest-passes, passed-by}
use Rattle.netlist.specs.declared.Shape.{Shape}
use Rattle.netlist.specs.Netlist.{Circuit, Slopes, apart}
use Rattle.netlist.specs.File.{shape_of, circuit_with, circuit_of}
use Rattle.netlist.specs.Open.{
  netlist_rows,
  open_of,
  first_wrong,
  list_rows,
  latest_arrival,
  arrival_rows,
  circuit_rows,
  open_circuit_of,
  arrived_of,
  fall_rows,
  slope_rows,
  rows_over,
  call_over,
}
use Rattle.netlist.specs.Holds.{Arrived, Given, Sloped}
use Rattle.netlist.proofs.FirstWrong.{first-none, first-later, within-bound}
use Rattle.netlist.proofs.TableOrder.{
  answer,
  answer-accepts,
  answer-refuses,
  accepted-rows,
  rejected-rows,
  not_back,
}
use Rattle.netlist.proofs.AcceptedFile.{holds}

-- a file that passes the rows 1 to 7 is accepted
pub passed-opened : (file : List ℕ) → checked (netlist_rows file) ≡ Ok tt → open_of file ≡ Ok (shape_of file)
unfolding open_of
passed-opened file e = ap (λ (c : Checked). unless_refused c Err (Ok (shape_of file))) e

-- ---- a list of so many entries, none over a bound

-- where it passes, it has so many, and none is over
pub list-passes : (refusal : ℕ → Refusal) (count most : ℕ) (entries : List ℕ) (more : List Row) →
    checked (list_rows refusal count most entries ++ more) ≡ Ok tt →
    (length entries ≡ count) × (length entries ≤ first_wrong (ltb most) entries) × (checked more ≡ Ok tt)
list-passes refusal count most entries more e =
    let wrong = first_wrong (ltb most) entries in
    let long =
    passed-by (not (eqb (length entries) count)) (refusal count)
    ((ltb wrong (length entries), refusal wrong) ∷ more) e
    in
    let small = passed-by (ltb wrong (length entries)) (refusal wrong) more long.1 in (
      eqb-true _ _ (not_back (eqb (length entries) count) long.0),
      ltb-false _ _ small.0,
      small.1,
    )

-- ---- a file and the arrivals of its inputs

module _ (file arrivals : List ℕ) where
  -- what is accepted passes 1 to 7 and 16, and its shape is the trailer's
  pub accepted-both : {shape : Shape} → open_circuit_of file arrivals ≡ Ok shape →
      (checked (circuit_rows file arrivals) ≡ Ok tt) × (shape_of file ≡ shape)
  unfolding open_circuit_of
  accepted-both e = answer-accepts (shape_of file) (circuit_rows file arrivals) e

  -- what is refused, they refuse
  pub rejected-both : {refusal : Refusal} → open_circuit_of file arrivals ≡ Err refusal →
      checked (circuit_rows file arrivals) ≡ Err refusal
  unfolding open_circuit_of
  rejected-both e = answer-refuses (shape_of file) (circuit_rows file arrivals) e

  -- what passes them is accepted
  pub passed-both : checked (circuit_rows file arrivals) ≡ Ok tt →
      open_circuit_of file arrivals ≡ Ok (shape_of file)
  unfolding open_circuit_of
  passed-both e = ap (λ (c : Checked). unless_refused c Err (Ok (shape_of file))) e

  -- the file by itself is accepted
  pub accepted-file : {shape : Shape} → open_circuit_of file arrivals ≡ Ok shape → open_of file ≡ Ok shape
  accepted-file e =
      let b = accepted-both e in
      passed-opened file (first_passes (netlist_rows file) (arrival_rows (shape_of file).inputs arrivals) b.0)
      ∙ ap Ok b.1

  -- and so are the arrivals
  pub arrived : {shape : Shape} → open_circuit_of file arrivals ≡ Ok shape → Arrived shape arrivals
  unfolding arrival_rows
  arrived {shape} e =
      let b = accepted-both e in
      let rows = rest-passes (netlist_rows file) (arrival_rows (shape_of file).inputs arrivals) b.0 in
      let passed = list-passes Arrival (shape_of file).inputs latest_arrival arrivals [] rows in
      record {
        long = passed.0 ∙ ap (λ (s : Shape). s.inputs) b.1;
        early = within-bound latest_arrival arrivals passed.1;
      }

  -- an accepted file and its arrivals are all that later reads lean on
  pub accepted : {shape : Shape} → open_circuit_of file arrivals ≡ Ok shape →
      Given file shape arrivals
  accepted {shape} e = record { holds = holds file shape (accepted-file e); arrived = arrived e }

  -- the answer by the file's own and the arrivals' own
  pub by-file : {refusal : Refusal} → open_of file ≡ Err refusal → Err refusal ≡ open_circuit_of file arrivals
  unfolding open_circuit_of
  by-file e =
      sym
      (ap (λ (c : Checked). unless_refused c Err (Ok (shape_of file)))
      (refused-first (netlist_rows file) (arrival_rows (shape_of file).inputs arrivals) (rejected-rows file e)))

  pub by-arrivals : {shape : Shape} {c : Checked} → open_of file ≡ Ok shape →
      c ≡ checked (arrival_rows shape.inputs arrivals) →
      unless_refused c Err (Ok shape) ≡ open_circuit_of file arrivals
  unfolding open_circuit_of
  by-arrivals {shape} {c} e f =
      let own = accepted-rows file e in
      ap (λ (c : Checked). unless_refused c Err (Ok shape)) f
      ∙ ap (λ (s : Shape). answer s (arrival_rows s.inputs arrivals)) (sym own.1)
      ∙ ap (λ (c : Checked). unless_refused c Err (Ok (shape_of file)))
      (sym (passed_first (netlist_rows file) (arrival_rows (shape_of file).inputs arrivals) own.0))

  -- so what `open` and then `arrived` answer is that of both
  pub opened_both : {opened answer : Result Shape Refusal} → opened ≡ open_of file →
      answer ≡ arrived_of opened arrivals →
      answer ≡ open_circuit_of file arrivals
  opened_both {opened} o e = e ∙ go opened (sym o)
    where
      go : (opened : Result Shape Refusal) → open_of file ≡ opened →
          arrived_of opened arrivals ≡ open_circuit_of file arrivals
      go (Err refusal) f = by-file f
      go (Ok shape) f = by-arrivals f refl

  -- ---- a call on them

  module _ (slopes : Slopes) where
    -- the circuit of an accepted file is that of its shape
    pub accepted-circuit : {shape : Shape} → open_circuit_of file arrivals ≡ Ok shape →
        circuit_of file arrivals slopes ≡ circuit_with file shape arrivals slopes
    accepted-circuit e = ap (λ (s : Shape). circuit_with file s arrivals slopes) (accepted-both e).1

    module _ (rows : Circuit → List Row) where
      -- the rows of a call on what is accepted are those of its slopes, and its own
      pub rows-opened : {shape : Shape} → open_circuit_of file arrivals ≡ Ok shape →
          checked (rows_over file arrivals slopes rows)
          ≡ checked (slope_rows shape.pins slopes ++ rows (circuit_with file shape arrivals slopes))
      rows-opened e =
          passed_first (circuit_rows file arrivals)
          (slope_rows (shape_of file).pins slopes ++ rows (circuit_of file arrivals slopes)) (accepted-both e).0
          ∙ ap (λ (s : Shape). checked (slope_rows s.pins slopes ++ rows (circuit_with file s arrivals slopes)))
          (accepted-both e).1

      -- its own, where the slopes pass too
      pub rows-accepted : {shape : Shape} → open_circuit_of file arrivals ≡ Ok shape →
          checked (slope_rows shape.pins slopes) ≡ Ok tt →
          checked (rows_over file arrivals slopes rows) ≡ checked (rows (circuit_with file shape arrivals slopes))
      rows-accepted {shape} e f =
          rows-opened e
          ∙ passed_first (slope_rows shape.pins slopes) (rows (circuit_with file shape arrivals slopes)) f

      -- slopes that are refused end it
      pub rows-sloped : {shape : Shape} {refusal : Refusal} → open_circuit_of file arrivals ≡ Ok shape →
          checked (slope_rows shape.pins slopes) ≡ Err refusal →
          checked (rows_over file arrivals slopes rows) ≡ Err refusal
      rows-sloped {shape} e f =
          rows-opened e
          ∙ refused-first (slope_rows shape.pins slopes) (rows (circuit_with file shape arrivals slopes)) f

      -- those on what is refused refuse as these do
      pub rows-rejected : {refusal : Refusal} → open_circuit_of file arrivals ≡ Err refusal →
          checked (rows_over file arrivals slopes rows) ≡ Err refusal
      rows-rejected e =
          refused-first (circuit_rows file arrivals)
          (slope_rows (shape_of file).pins slopes ++ rows (circuit_of file arrivals slopes)) (rejected-both e)

      module _ {A : Type 0} (refused : Refusal → A) (passed : Circuit → A) where
        pub call-accepted : {shape : Shape} → open_circuit_of file arrivals ≡ Ok shape →
            checked (slope_rows shape.pins slopes) ≡ Ok tt →
            call_over file arrivals slopes rows refused passed
            ≡ unless_refused (checked (rows (circuit_with file shape arrivals slopes))) refused
            (passed (circuit_with file shape arrivals slopes))
        call-accepted {shape} e f =
            ap (λ (c : Checked). unless_refused c refused (passed (circuit_of file arrivals slopes)))
            (rows-accepted e f)
            ∙ ap (λ (circuit : Circuit). unless_refused (checked (rows (circuit_with file shape arrivals slopes)))
            refused (passed circuit)) (accepted-circuit e)

        pub call-sloped : {shape : Shape} {refusal : Refusal} → open_circuit_of file arrivals ≡ Ok shape →
            checked (slope_rows shape.pins slopes) ≡ Err refusal →
            call_over file arrivals slopes rows refused passed ≡ refused refusal
        call-sloped e f =
            ap (λ (c : Checked). unless_refused c refused (passed (circuit_of file arrivals slopes))) (rows-sloped e f)

        pub call-rejected : {refusal : Refusal} → open_circuit_of file arrivals ≡ Err refusal →
            call_over file arrivals slopes rows refused passed ≡ refused refusal
        call-rejected e =
            ap (λ (c : Checked). unless_refused c refused (passed (circuit_of file arrivals slopes))) (rows-rejected e)

-- the delays of gates that end at 0, where they pass row 19, are one for each pin, and small
pub falls-pass : (shape : Shape) (falls : List ℕ) → checked (fall_rows shape.pins falls) ≡ Ok tt →
    Sloped shape (apart falls)
unfolding fall_rows
falls-pass shape falls e =
    let passed = list-passes Fall shape.pins 999 falls [] e in
    (passed.0, within-bound 999 falls passed.1)

-- ---- all inputs at 0

-- as many zeros as there are inputs pass row 16
zeros-right : (most n : ℕ) → first_wrong (ltb most) (replicate n 0) ≡ n
zeros-right most zero = first-none (ltb most)
zeros-right most (suc n) =
    first-later (ltb most) 0 (replicate n 0) (le-ltb most 0 (omega arith)) ∙ ap suc (zeros-right most n)

zeros-pass : (n : ℕ) → checked (arrival_rows n (replicate n 0)) ≡ Ok tt
unfolding arrival_rows
zeros-pass n =
    let long = length-replicate {A = ℕ} n 0 in
    rw (zeros-right latest_arrival n, long, eq-eqb n n refl, le-ltb n n (omega arith)) refl

-- so that with them a file is answered as it is without
pub zero-opens : (file : List ℕ) → open_circuit_of file (replicate (shape_of file).inputs 0) ≡ open_of file
zero-opens file = go (open_of file) refl
  where
    arrivals : List ℕ
    arrivals = replicate (shape_of file).inputs 0

    go : (o : Result Shape Refusal) → open_of file ≡ o → open_circuit_of file arrivals ≡ o
    go (Err refusal) e = sym (by-file file arrivals e)
    go (Ok shape) e =
        let own = (accepted-rows file e).1 in
        sym
        (by-arrivals file arrivals e
        (sym
        (ap (λ (s : Shape). checked (arrival_rows s.inputs arrivals)) (sym own)
        ∙ zeros-pass (shape_of file).inputs)))
