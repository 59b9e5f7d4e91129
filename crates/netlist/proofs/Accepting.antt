-- What every call asks first decides it, or leaves it to the call's own rows over the circuit that was accepted. It is
-- the laws of Calls, with the rows 1 to 7, 16 and 19 as one list. Assumes nothing.
use mathlib.Core.Path.{◌≡◌, ap, sym, subst, ◌∙◌}
use mathlib.Core.List.{List}
use Prim.Native.Nat.{ℕ}
use Rattle.std.specs.Prelude.{Result, Ok, Err}
use Rattle.std.proofs.lemmas.List.{append_assoc}
use Rattle.refusal.specs.declared.Refusal.{Refusal}
use Rattle.refusal.specs.Rows.{Checked, Row, checked, unless_refused}
use Rattle.refusal.proofs.Rows.{refused-first, passed_first}
use Rattle.netlist.specs.declared.Shape.{Shape}
use Rattle.netlist.specs.declared.Form.{Form}
use Rattle.netlist.specs.declared.Form.TheVariants.{Single, RiseFall}
use Rattle.netlist.specs.declared.circuit.Accepted.{Accepted}
use Rattle.netlist.specs.Netlist.{Circuit, Slopes, slopes_of}
use Rattle.netlist.specs.File.{shape_of, circuit_with, circuit_of}
use Rattle.netlist.specs.Open.{open_circuit_of, circuit_rows, slope_rows, rows_over, call_over}
use Rattle.netlist.specs.Holds.{Sloped}
use Rattle.netlist.specs.Accepts.{circuit_in, accept_rows, Takes, Accepts}
use Rattle.netlist.proofs.Calls.{rejected-both, accepted-both, falls-pass, rows-accepted, call-accepted}

-- slopes that pass row 19 are one delay for each pin, and small
pub sloped-by : (shape : Shape) (form : Form) → checked (slope_rows shape.pins (slopes_of form)) ≡ Ok tt →
    Sloped shape (slopes_of form)
sloped-by shape Single e = tt
sloped-by shape (RiseFall falls) e = falls-pass shape falls.now e

module _ (file arrivals : List ℕ) (slopes : Slopes) where
  -- what the file or its arrivals refuse
  pub refused-early : {refusal : Refusal} → open_circuit_of file arrivals ≡ Err refusal →
      checked (accept_rows file arrivals slopes) ≡ Err refusal
  refused-early e =
      refused-first (circuit_rows file arrivals) (slope_rows (shape_of file).pins slopes)
      (rejected-both file arrivals e)

  -- what the slopes refuse
  pub refused-late : {shape : Shape} {refusal : Refusal} → open_circuit_of file arrivals ≡ Ok shape →
      checked (slope_rows shape.pins slopes) ≡ Err refusal → checked (accept_rows file arrivals slopes) ≡ Err refusal
  refused-late e f =
      let b = accepted-both file arrivals e in
      passed_first (circuit_rows file arrivals) (slope_rows (shape_of file).pins slopes) b.0
      ∙ ap (λ (s : Shape). checked (slope_rows s.pins slopes)) b.1 ∙ f

  -- so a call that answers a refusal of theirs says what it must
  pub early-answer : {answer : Result Shape Refusal} {result : Result Accepted Refusal} (refusal : Refusal) →
      answer ≡ open_circuit_of file arrivals → answer ≡ Err refusal → result ≡ Err refusal →
      Accepts file arrivals slopes result
  early-answer refusal o e r = subst (Accepts file arrivals slopes) (sym r) (refused-early (sym o ∙ e))

  pub late-answer : {shape : Shape} {result : Result Accepted Refusal} (refusal : Refusal) →
      open_circuit_of file arrivals ≡ Ok shape → checked (slope_rows shape.pins slopes) ≡ Err refusal →
      result ≡ Err refusal → Accepts file arrivals slopes result
  late-answer refusal o e r = subst (Accepts file arrivals slopes) (sym r) (refused-late o e)

  -- the circuit that was accepted is that of the file
  pub same_circuit : {a : Accepted} → Takes file arrivals slopes a →
      circuit_with file a.shape arrivals slopes ≡ circuit_in a
  same_circuit {a} t = cc (t.file-is, t.arrivals-are, t.slopes-are)

  module _ (rows : Circuit → List Row) where
    -- the rows of a call on what is refused refuse as these do
    pub rows-refused : {refusal : Refusal} → checked (accept_rows file arrivals slopes) ≡ Err refusal →
        checked (rows_over file arrivals slopes rows) ≡ Err refusal
    rows-refused e =
        ap checked
        (sym
        (append_assoc (circuit_rows file arrivals) (slope_rows (shape_of file).pins slopes)
        (rows (circuit_of file arrivals slopes))))
        ∙ refused-first (accept_rows file arrivals slopes) (rows (circuit_of file arrivals slopes)) e

    -- those on what is accepted are the call's own
    pub rows-taken : {a : Accepted} → Takes file arrivals slopes a →
        checked (rows_over file arrivals slopes rows) ≡ checked (rows (circuit_in a))
    rows-taken {a} t =
        rows-accepted file arrivals slopes rows t.opens t.passes
        ∙ ap (λ (circuit : Circuit). checked (rows circuit)) (same_circuit t)

    module _ {A : Type 0} (refused : Refusal → A) (passed : Circuit → A) where
      -- and so is what the call comes to
      pub call-refused : {refusal : Refusal} → checked (accept_rows file arrivals slopes) ≡ Err refusal →
          call_over file arrivals slopes rows refused passed ≡ refused refusal
      call-refused e =
          ap (λ (c : Checked). unless_refused c refused (passed (circuit_of file arrivals slopes))) (rows-refused e)

      pub call-taken : {a : Accepted} → Takes file arrivals slopes a →
          call_over file arrivals slopes rows refused passed
          ≡ unless_refused (checked (rows (circuit_in a))) refused (passed (circuit_in a))
      call-taken {a} t =
          call-accepted file arrivals slopes rows refused passed t.opens t.passes
          ∙ ap (λ (circuit : Circuit). unless_refused (checked (rows circuit)) refused (passed circuit))
          (same_circuit t)
