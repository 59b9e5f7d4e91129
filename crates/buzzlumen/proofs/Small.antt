-- A formula's variables fit 32 bits: an accepted netlist has at most 512 nodes, a table at most 65,536 pairs. Assumes
-- nothing.
use mathlib.Core.Path.{◌≡◌, refl}
use mathlib.Core.List.{List}
use Prim.Native.Nat.{ℕ}
use native.Mathlib.Omega.{arith}
use Rattle.std.specs.Prelude.{Ok, Err}
use Rattle.refusal.specs.Rows.{Checked, Row, checked, unless_refused}
use Rattle.netlist.specs.Netlist.{Circuit, Slopes}
use Rattle.netlist.specs.File.{circuit_of}
use Rattle.netlist.specs.Open.{rows_over}
use Rattle.netlist.proofs.Valid.{valid-inputs-few, valid-gates-few}
use Rattle.formula.specs.Promise.{counts_for, refused, built, building_rows, building}
use Rattle.formula.proofs.Answers.{pairs-fit}
use Rattle.certificate.proofs.Granted.{rows-admit}
use Rattle.buzzlumen.specs.Answers.{Small}

module _ (file arrivals : List ℕ) (slopes : Slopes) (target pairs_room formula_room : ℕ) where
  abbrev circuit : Circuit
  circuit = circuit_of file arrivals slopes

  abbrev rows : Circuit → List Row
  rows circuit = building_rows circuit target pairs_room formula_room

  -- by what the rows of a call come to
  by-rows : (c : Checked) → checked (rows_over file arrivals slopes rows) ≡ c →
      Small (unless_refused c (refused pairs_room formula_room) (built circuit target pairs_room formula_room)).answer
  unfolding built counts_for
  by-rows (Err refusal) e = tt
  by-rows (Ok tt) e =
      let a = rows-admit file arrivals slopes rows e in
      let h = pairs-fit circuit target pairs_room formula_room a.1 in
      let i = valid-inputs-few circuit.net a.0.valid in
      let g = valid-gates-few circuit.net a.0.valid in
      omega arith

  -- every answer of a building call
  pub small : Small (building file arrivals slopes target pairs_room formula_room).answer
  unfolding building
  small = by-rows (checked (rows_over file arrivals slopes rows)) refl
