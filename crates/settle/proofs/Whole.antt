-- The whole call: the inputs' nodes and the gates', the largest time of the outputs, and the slices with zeros behind
-- the nodes. Assumes nothing.
use mathlib.Core.Path.{◌≡◌, refl, sym, ap, ap₂, ◌∙◌}
use mathlib.Core.Bool.{Bool}
use mathlib.Core.List.{List, ◌∷◌, ◌++◌}
use Prim.Native.Nat.{ℕ, ◌+◌, ◌-◌, ◌≤◌, ◌<◌, max}
use native.Mathlib.Omega.{arith}
use native.Mathlib.Numerals.{add-one}
use lib.Dec.{eqb}
use lib.ListN.{
  length,
  length-map,
  get_or,
  take,
  drop,
  replicate,
  length-append,
  length-drop,
  get_or-append,
}
use lib.Seq.{take_at}
use Rattle.netlist.specs.declared.circuit.Accepted.{Accepted}
use Rattle.netlist.specs.Accepts.{circuit_in}
use Rattle.netlist.specs.File.{output_at}
use Rattle.netlist.specs.Netlist.{node_count}
use Rattle.netlist.proofs.Entries.{outputs-from, outputs-done, node-count}
use Rattle.netlist.proofs.Valid.{valid-outputs}
use Rattle.std.specs.Prelude.{Ok}
use Rattle.settle.specs.Settling.{last, time_of, circuit_time}
use Rattle.settle.specs.Promise.{Meets, bits, settled}
use Rattle.settle.specs.Steps.{Done, Usable}
use Rattle.settle.proofs.Argument.{last-cong}
use Rattle.settle.proofs.Gates.{all_values, all_times, all-values-length, all-times-length}

-- ---- the largest time of the outputs

-- the loop's invariant: the outputs from `position` on are left
pub record Passing (a : Accepted) (times : List ℕ) (latest position : ℕ) : Type 0 where
  pub upto : position ≤ a.shape.outputs
  pub left :
      max latest (last (λ node. get_or times node 0) (drop position (circuit_in a).net.outputs))
      ≡ last (λ node. get_or times node 0) (circuit_in a).net.outputs

pub passing-starts : (a : Accepted) (times : List ℕ) → Passing a times 0 0
passing-starts a times = record { upto = omega arith; left = omega arith }

module _ {a : Accepted} {times : List ℕ} {latest position : ℕ} (b : Passing a times latest position) where
  pub passing-more : position < a.shape.outputs → (node next : ℕ) → node ≡ output_at a.file.now a.shape position →
      next ≡ max (get_or times node 0) latest → Passing a times next (position + 1)
  passing-more h node next e f =
      let q =
      ap (last (λ node. get_or times node 0))
      (outputs-from a.file.now a.shape position h
      ∙ ap₂ (λ (o k : ℕ). o ∷ drop k (circuit_in a).net.outputs) (sym e) (sym (add-one position)))
      in
      record { upto = omega arith; left = omega (arith, b.left) }

  pub passing-ends : a.shape.outputs ≤ position → latest ≡ last (λ node. get_or times node 0) (circuit_in a).net.outputs
  passing-ends h =
      let q = ap (last (λ node. get_or times node 0)) (outputs-done a.file.now a.shape position h) in
      omega (arith, b.left)

-- over the circuit's times it is the circuit's
circuit-is : (a : Accepted) (vector : List Bool) (rest : List ℕ) →
    length (all_times a vector) ≡ a.shape.inputs + a.shape.gates →
    last (λ node. get_or (all_times a vector ++ rest) node 0) (circuit_in a).net.outputs
    ≡ circuit_time (circuit_in a) vector
unfolding circuit_time
circuit-is a vector rest l =
    last-cong (λ node. get_or (all_times a vector ++ rest) node 0) (time_of (circuit_in a) vector)
    (circuit_in a).net.outputs
    (λ o m.
    get_or-append (all_times a vector) rest 0 o
    (omega (arith, valid-outputs (circuit_in a).net a.given.holds.valid o m, node-count a.file.now a.shape)))

-- ---- zeros behind the nodes

-- what `zero_rest` leaves of a slice whose first n entries are `whole`
pub zeroed : (whole before now after : List ℕ) (n room : ℕ) → length whole ≡ n → length before ≡ room → n ≤ room →
    now ≡ whole ++ drop n before → after ≡ take n now ++ replicate (length now - n) 0 →
    after ≡ whole ++ replicate (room - n) 0
zeroed whole before now after n room w r l e f =
    let k : length now ≡ room =
    ap length e ∙ omega (arith, length-append whole (drop n before), length-drop n before)
    in
    f
    ∙ ap₂ (λ (a b : List ℕ). a ++ b)
    (ap (take n) e ∙ take_at whole (drop n before) n w)
    (ap (λ (m : ℕ). replicate (m - n) 0) k)

-- all nodes, the circuit's time and zeros are the settled evaluation
pub settled_is : {a : Accepted} {vector values₀ times₀ values times : List ℕ} →
    Usable a vector (length values₀) (length times₀) → Done a (bits vector) values₀ times₀ values times →
    (time nodes : ℕ) (values_end times_end : List ℕ) → nodes ≡ a.shape.inputs + a.shape.gates →
    time ≡ last (λ node. get_or times node 0) (circuit_in a).net.outputs →
    values_end ≡ take nodes values ++ replicate (length values - nodes) 0 →
    times_end ≡ take nodes times ++ replicate (length times - nodes) 0 →
    Meets (settled (circuit_in a) vector (length values₀) (length times₀)) (Ok time) values_end times_end
unfolding settled
settled_is {a} {vector} {values₀} {times₀} {values} {times} u d time nodes values_end times_end n t v w =
    let long : length (bits vector) ≡ a.shape.inputs = length-map vector (λ byte. eqb byte 1) ∙ u.long in
    let v-long = all-values-length a (bits vector) long in
    let t-long = all-times-length a (bits vector) long in
    let count : nodes ≡ node_count (circuit_in a).net = n ∙ sym (node-count a.file.now a.shape) in
    record {
      answer-is =
          ap Ok
          (t
          ∙ ap (λ (l : List ℕ). last (λ node. get_or l node 0) (circuit_in a).net.outputs) d.times-are
          ∙ circuit-is a (bits vector) (drop (a.shape.inputs + a.shape.gates) times₀) t-long);
      values-are =
          zeroed (all_values a (bits vector)) values₀ values values_end nodes _ (v-long ∙ sym n) refl
          (omega (arith, u.values-room))
          (d.values-are ∙ ap (λ (k : ℕ). all_values a (bits vector) ++ drop k values₀) (sym n)) v
          ∙ ap (λ (k : ℕ). all_values a (bits vector) ++ replicate (length values₀ - k) 0) count;
      times-are =
          zeroed (all_times a (bits vector)) times₀ times times_end nodes _ (t-long ∙ sym n) refl
          (omega (arith, u.times-room))
          (d.times-are ∙ ap (λ (k : ℕ). all_times a (bits vector) ++ drop k times₀) (sym n)) w
          ∙ ap (λ (k : ℕ). all_times a (bits vector) ++ replicate (length times₀ - k) 0) count;
    }
