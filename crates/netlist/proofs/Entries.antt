-- What a read of a file returns is the netlist's entry: the gates, their pins and the outputs of `netlist_at`, one at a
-- time, as members, and from a place on. Assumes nothing.
use mathlib.Core.Path.{◌≡◌, refl, sym, ap, ap₂, ◌∙◌, subst}
use mathlib.Core.List.{List, [], ◌∷◌, map, Memᴰ}
use Prim.Native.Nat.{ℕ, suc, ◌+◌, ◌≤◌, ◌<◌}
use native.Mathlib.Omega.{arith}
use lib.ListN.{length, get_or, drop, drop_of_length-le}
use lib.Seq.{drop-cons}
use Rattle.basics.specs.Lists.{up_from, numbered}
use Rattle.basics.proofs.Lists.{mem-map, map-mem, up_from-mem}
use Rattle.netlist.specs.declared.Shape.{Shape}
use Rattle.netlist.specs.declared.Kind.TheVariants.{Mux}
use Rattle.netlist.specs.Netlist.{Netlist, Cell, Pin, nodes, node_count}
use Rattle.netlist.specs.Kinds.{kind_of}
use Rattle.netlist.specs.File.{
  kind_at,
  count_at,
  first_at,
  driver_at,
  delay_at,
  output_at,
  gate_at,
  pin_at,
  pins_from,
  cell_of,
  cell_at,
  netlist_at,
}
use Rattle.netlist.proofs.Ranges.{
  up_from-within,
  length-map-up_from,
  map-up_from-at,
  numbered-has,
  numbered-only,
  length-numbered,
  drop-numbered,
}

module _ (file : List ℕ) (shape : Shape) where
  -- ---- the fields of a gate and of a pin

  pub gate-kind : (i : ℕ) → (gate_at file shape i).kind ≡ (cell_at file shape i).kind
  unfolding cell_at cell_of
  gate-kind i = refl

  pub gate-first : (i : ℕ) → (gate_at file shape i).first ≡ first_at file shape i
  unfolding gate_at
  gate-first i = refl

  pub gate-count : (i : ℕ) → (gate_at file shape i).count ≡ count_at file shape i
  unfolding gate_at
  gate-count i = refl

  pub cell-kind : (i : ℕ) → (cell_at file shape i).kind ≡ kind_of (kind_at file shape i)
  unfolding cell_at cell_of gate_at
  cell-kind i = refl

  pub pin-driver : (pin : ℕ) → (pin_at file shape pin).driver ≡ driver_at file shape pin
  unfolding pin_at
  pin-driver pin = refl

  pub pin-delay : (pin : ℕ) → (pin_at file shape pin).delay ≡ delay_at file shape pin
  unfolding pin_at
  pin-delay pin = refl

  -- ---- the pins of a gate

  pub cell-pins : (i : ℕ) →
      (cell_at file shape i).pins ≡ map (pin_at file shape) (up_from (first_at file shape i) (count_at file shape i))
  unfolding cell_at cell_of gate_at pins_from
  cell-pins i = refl

  pub pins-length : (i : ℕ) → length (cell_at file shape i).pins ≡ count_at file shape i
  pins-length i =
      ap length (cell-pins i) ∙ length-map-up_from (pin_at file shape) (first_at file shape i) (count_at file shape i)

  -- pin j of a gate is the file's pin `first + j`
  pub pin-entry : (i j : ℕ) (d : Pin) → j < count_at file shape i →
      get_or (cell_at file shape i).pins j d ≡ pin_at file shape (first_at file shape i + j)
  pin-entry i j d h =
      ap (λ (l : List Pin). get_or l j d) (cell-pins i)
      ∙ map-up_from-at (pin_at file shape) (first_at file shape i) (count_at file shape i) j d h

  -- from pin j on
  pub pins-from : (i j : ℕ) → j < count_at file shape i →
      drop j (cell_at file shape i).pins
      ≡ pin_at file shape (first_at file shape i + j) ∷ drop (suc j) (cell_at file shape i).pins
  pins-from i j h =
      let d : Pin = record { driver = 0; delay = 0; number = 0 } in
      let l : j < length (cell_at file shape i).pins = omega (arith, pins-length i) in
      drop-cons (cell_at file shape i).pins j d l
      ∙ ap (λ (p : Pin). p ∷ drop (suc j) (cell_at file shape i).pins) (pin-entry i j d h)

  -- past the last pin
  pub pins-done : (i j : ℕ) → count_at file shape i ≤ j → drop j (cell_at file shape i).pins ≡ []
  pins-done i j h =
      let l : length (cell_at file shape i).pins ≤ j = omega (arith, pins-length i) in
      drop_of_length-le (cell_at file shape i).pins {i = j} l

  -- the members of a gate's pins
  pub pin-has : (i pin : ℕ) → first_at file shape i ≤ pin → pin < first_at file shape i + count_at file shape i →
      Memᴰ (pin_at file shape pin) (cell_at file shape i).pins
  pin-has i pin l h =
      subst (λ (t : List Pin). Memᴰ (pin_at file shape pin) t) (sym (cell-pins i))
      (mem-map (pin_at file shape) (up_from (first_at file shape i) (count_at file shape i)) pin
      (up_from-mem (first_at file shape i) (count_at file shape i) pin l h))

  pub pin-only : (i : ℕ) (p : Pin) → Memᴰ p (cell_at file shape i).pins →
      (pin : ℕ) × (first_at file shape i ≤ pin) × (pin < first_at file shape i + count_at file shape i)
      × (p ≡ pin_at file shape pin)
  pin-only i p m =
      let w =
      map-mem (pin_at file shape) (up_from (first_at file shape i) (count_at file shape i)) p
      (subst (λ (t : List Pin). Memᴰ p t) (cell-pins i) m)
      in
      let b = up_from-within (first_at file shape i) (count_at file shape i) w.0 w.1 in
      (w.0, b.0, b.1, w.2)

  -- ---- the gates

  pub net-inputs : (netlist_at file shape).inputs ≡ shape.inputs
  unfolding netlist_at
  net-inputs = refl

  pub net-gates : (netlist_at file shape).gates ≡ map (cell_at file shape) (up_from 0 shape.gates)
  unfolding netlist_at
  net-gates = refl

  pub gates-length : length (netlist_at file shape).gates ≡ shape.gates
  gates-length = ap length net-gates ∙ length-map-up_from (cell_at file shape) 0 shape.gates

  pub gate-entry : (i : ℕ) (d : Cell) → i < shape.gates →
      get_or (netlist_at file shape).gates i d ≡ cell_at file shape i
  gate-entry i d h =
      let e : 0 + i ≡ i = omega arith in
      ap (λ (l : List Cell). get_or l i d) net-gates
      ∙ map-up_from-at (cell_at file shape) 0 shape.gates i d h
      ∙ ap (cell_at file shape) e

  -- N is I + G
  pub node-count : node_count (netlist_at file shape) ≡ shape.inputs + shape.gates
  node-count = ap₂ (λ (a b : ℕ). a + b) net-inputs gates-length

  -- ---- the gates with their nodes

  pub nodes-length : length (nodes (netlist_at file shape)) ≡ shape.gates
  nodes-length = length-numbered (netlist_at file shape).inputs (netlist_at file shape).gates ∙ gates-length

  -- gate i stands there at its node
  pub node-has : (i : ℕ) → i < shape.gates →
      Memᴰ (shape.inputs + i, cell_at file shape i) (nodes (netlist_at file shape))
  node-has i h =
      let d : Cell = record { kind = Mux; pins = [] } in
      let l : i < length (netlist_at file shape).gates = omega (arith, gates-length) in
      subst (λ (x : ℕ × Cell). Memᴰ x (nodes (netlist_at file shape)))
      (ap₂ (λ (a : ℕ) (x : Cell). (a + i, x)) net-inputs (gate-entry i d h))
      (numbered-has (netlist_at file shape).inputs (netlist_at file shape).gates i d l)

  -- and nothing else does
  pub node-only : (x : ℕ × Cell) → Memᴰ x (nodes (netlist_at file shape)) →
      (i : ℕ) × (i < shape.gates) × (x ≡ (shape.inputs + i, cell_at file shape i))
  node-only x m =
      let d : Cell = record { kind = Mux; pins = [] } in
      let w = numbered-only (netlist_at file shape).inputs (netlist_at file shape).gates d x m in
      let h : w.0 < shape.gates = subst (λ (n : ℕ). w.0 < n) gates-length w.1 in
      (w.0, h, w.2 ∙ ap₂ (λ (a : ℕ) (y : Cell). (a + w.0, y)) net-inputs (gate-entry w.0 d h))

  -- from gate i on
  pub nodes-from : (i : ℕ) → i < shape.gates →
      drop i (nodes (netlist_at file shape))
      ≡ (shape.inputs + i, cell_at file shape i) ∷ drop (suc i) (nodes (netlist_at file shape))
  nodes-from i h =
      let d : Cell = record { kind = Mux; pins = [] } in
      let net : Netlist = netlist_at file shape in
      let l : i < length net.gates = omega (arith, gates-length) in
      let e : suc (net.inputs + i) ≡ net.inputs + suc i = omega arith in
      drop-numbered i net.inputs net.gates
      ∙ ap (numbered (net.inputs + i)) (drop-cons net.gates i d l)
      ∙ ap₂ (λ (y : ℕ × Cell) (t : List (ℕ × Cell)). y ∷ t)
      (ap₂ (λ (a : ℕ) (y : Cell). (a + i, y)) net-inputs (gate-entry i d h))
      (ap (λ (k : ℕ). numbered k (drop (suc i) net.gates)) e
      ∙ sym (drop-numbered (suc i) net.inputs net.gates))

  -- past the last gate
  pub nodes-done : (i : ℕ) → shape.gates ≤ i → drop i (nodes (netlist_at file shape)) ≡ []
  nodes-done i h =
      let l : length (nodes (netlist_at file shape)) ≤ i = omega (arith, nodes-length) in
      drop_of_length-le (nodes (netlist_at file shape)) {i = i} l

  -- ---- the outputs

  pub net-outputs : (netlist_at file shape).outputs ≡ map (output_at file shape) (up_from 0 shape.outputs)
  unfolding netlist_at
  net-outputs = refl

  pub outputs-length : length (netlist_at file shape).outputs ≡ shape.outputs
  outputs-length = ap length net-outputs ∙ length-map-up_from (output_at file shape) 0 shape.outputs

  pub output-entry : (i : ℕ) (d : ℕ) → i < shape.outputs →
      get_or (netlist_at file shape).outputs i d ≡ output_at file shape i
  output-entry i d h =
      let e : 0 + i ≡ i = omega arith in
      ap (λ (l : List ℕ). get_or l i d) net-outputs
      ∙ map-up_from-at (output_at file shape) 0 shape.outputs i d h
      ∙ ap (output_at file shape) e

  -- the members of the outputs
  pub output-has : (i : ℕ) → i < shape.outputs → Memᴰ (output_at file shape i) (netlist_at file shape).outputs
  output-has i h =
      subst (λ (t : List ℕ). Memᴰ (output_at file shape i) t) (sym net-outputs)
      (mem-map (output_at file shape) (up_from 0 shape.outputs) i
      (up_from-mem 0 shape.outputs i (omega arith) (omega arith)))

  pub output-only : (o : ℕ) → Memᴰ o (netlist_at file shape).outputs →
      (i : ℕ) × (i < shape.outputs) × (o ≡ output_at file shape i)
  output-only o m =
      let w =
      map-mem (output_at file shape) (up_from 0 shape.outputs) o
      (subst (λ (t : List ℕ). Memᴰ o t) net-outputs m)
      in
      let b = up_from-within 0 shape.outputs w.0 w.1 in
      (w.0, omega (arith, b.1), w.2)

  -- from output i on
  pub outputs-from : (i : ℕ) → i < shape.outputs →
      drop i (netlist_at file shape).outputs ≡ output_at file shape i ∷ drop (suc i) (netlist_at file shape).outputs
  outputs-from i h =
      let l : i < length (netlist_at file shape).outputs = omega (arith, outputs-length) in
      drop-cons (netlist_at file shape).outputs i 0 l
      ∙ ap (λ (o : ℕ). o ∷ drop (suc i) (netlist_at file shape).outputs) (output-entry i 0 h)

  -- past the last output
  pub outputs-done : (i : ℕ) → shape.outputs ≤ i → drop i (netlist_at file shape).outputs ≡ []
  outputs-done i h =
      let l : length (netlist_at file shape).outputs ≤ i = omega (arith, outputs-length) in
      drop_of_length-le (netlist_at file shape).outputs {i = i} l
