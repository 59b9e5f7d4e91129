-- A gate that was read of an accepted file: its first pin and its pin count are the file's, its pins lie among the
-- file's pins, its kind takes so many, and they are driven from below it. Laws: gate-fields, gate-within, gate-takes,
-- driver-below. Assumes nothing.
use mathlib.Core.Path.{◌≡◌, ap, sym, ◌∙◌, subst}
use mathlib.Core.List.{List}
use Prim.Native.Nat.{ℕ, ◌+◌, ◌≤◌, ◌<◌}
use native.Mathlib.Omega.{arith}
use lib.Dec.{T}
use lib.ListN.{length}
use Rattle.basics.proofs.Lists.{all-at}
use Rattle.netlist.specs.declared.Kind.{Kind}
use Rattle.netlist.specs.declared.Shape.{Shape}
use Rattle.netlist.specs.declared.Gate.{Gate}
use Rattle.netlist.specs.Netlist.{nodes, takes, gate_fits}
use Rattle.netlist.specs.File.{first_at, count_at, driver_at, gate_at, cell_at, netlist_at}
use Rattle.netlist.specs.Holds.{Holds}
use Rattle.netlist.proofs.Entries.{gate-kind, gate-first, gate-count, pins-length, node-has}
use Rattle.netlist.proofs.Valid.{valid-gates, fits-takes}

pub gate-fields : (file : List ℕ) (shape : Shape) (i : ℕ) (gate : Gate) → gate ≡ gate_at file shape i →
    (gate.first ≡ first_at file shape i) × (gate.count ≡ count_at file shape i)
gate-fields file shape i gate own = (
  ap (λ (x : Gate). x.first) own ∙ gate-first file shape i,
  ap (λ (x : Gate). x.count) own ∙ gate-count file shape i,
)

module _ {file : List ℕ} {shape : Shape} {i : ℕ} (gate : Gate) (holds : Holds file shape) (h : i < shape.gates)
    (own : gate ≡ gate_at file shape i) where
  -- the gate's pins are pins of the file
  pub gate-within : gate.first + gate.count ≤ shape.pins
  gate-within =
      let fields = gate-fields file shape i gate own in
      omega (arith, fields.0, fields.1, holds.pins-within i h)

  -- as many as its kind takes
  pub gate-takes : T (takes gate.kind gate.count)
  gate-takes =
      let net = netlist_at file shape in
      let fits =
      all-at gate_fits (nodes net) (valid-gates net holds.valid) (shape.inputs + i, cell_at file shape i)
      (node-has file shape i h)
      in
      subst (λ (n : ℕ). T (takes gate.kind n))
      (pins-length file shape i ∙ sym (gate-fields file shape i gate own).1)
      (subst (λ (k : Kind). T (takes k (length (cell_at file shape i).pins)))
      (sym (ap (λ (x : Gate). x.kind) own ∙ gate-kind file shape i))
      (fits-takes (shape.inputs + i, cell_at file shape i) fits))

  -- and each is driven from below the gate
  pub driver-below : (k driver : ℕ) → k < gate.count → driver ≡ driver_at file shape (gate.first + k) →
      driver < shape.inputs + i
  driver-below k driver l e =
      let fields = gate-fields file shape i gate own in
      let low : first_at file shape i ≤ gate.first + k = omega (arith, fields.0) in
      let high : gate.first + k < first_at file shape i + count_at file shape i = omega (arith, fields.0, fields.1) in
      omega (arith, e, holds.drivers-below i (gate.first + k) h low high)
