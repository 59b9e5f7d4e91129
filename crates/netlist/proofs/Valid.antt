-- A netlist whose parts pass is valid, and what is used of a valid one, fact by fact. Assumes nothing.
use mathlib.Core.Path.{◌≡◌, subst}
use mathlib.Core.Bool.{Bool, ◌&&◌}
use mathlib.Core.List.{Memᴰ}
use Prim.Native.Nat.{ℕ, ◌≤◌, ◌<◌}
use native.Mathlib.Omega.{arith}
use lib.Dec.{T, leb, ltb, leb→le, ltb→lt, eqb→eq}
use lib.ListN.{length}
use Rattle.basics.specs.Lists.{all}
use Rattle.basics.proofs.Truth.{and_left, and_right, and_both}
use Rattle.basics.proofs.Lists.{all-at}
use Rattle.netlist.specs.declared.Kind.{Kind}
use Rattle.netlist.specs.declared.Kind.TheVariants.{Simple, Parity, Mux}
use Rattle.netlist.specs.Netlist.{Netlist, Cell, Pin, node_count, nodes, takes, pin_fits, gate_fits, rising, valid}

-- ---- the parts of the test, in its order

-- the counts of inputs and gates
abbrev counts : Netlist → Bool
counts net = leb 1 net.inputs && leb net.inputs 64 && leb (length net.gates) 448

-- the outputs
abbrev ends : Netlist → Bool
ends net =
    rising 0 net.outputs && all (λ o. ltb o (node_count net)) net.outputs
    && leb 1 (length net.outputs) && leb (length net.outputs) 64

-- a netlist whose parts pass is valid
pub valid-of : (net : Netlist) →
    T (leb 1 net.inputs) → T (leb net.inputs 64) → T (leb (length net.gates) 448) →
    T (all gate_fits (nodes net)) →
    T (rising 0 net.outputs) → T (all (λ o. ltb o (node_count net)) net.outputs) →
    T (leb 1 (length net.outputs)) → T (leb (length net.outputs) 64) →
    T (valid net)
unfolding valid
valid-of net a b c d e f g h =
    and_both (counts net && all gate_fits (nodes net)) (ends net)
    (and_both (counts net) (all gate_fits (nodes net))
    (and_both (leb 1 net.inputs && leb net.inputs 64) (leb (length net.gates) 448)
    (and_both (leb 1 net.inputs) (leb net.inputs 64) a b) c) d)
    (and_both
    (rising 0 net.outputs && all (λ o. ltb o (node_count net)) net.outputs && leb 1 (length net.outputs))
    (leb (length net.outputs) 64)
    (and_both (rising 0 net.outputs && all (λ o. ltb o (node_count net)) net.outputs)
    (leb 1 (length net.outputs))
    (and_both (rising 0 net.outputs) (all (λ o. ltb o (node_count net)) net.outputs) e f) g) h)

module _ (net : Netlist) (v : T (valid net)) where
  valid-counts : T (counts net)
  unfolding valid
  valid-counts =
      and_left (counts net) (all gate_fits (nodes net))
      (and_left (counts net && all gate_fits (nodes net)) (ends net) v)

  valid-ends : T (ends net)
  unfolding valid
  valid-ends = and_right (counts net && all gate_fits (nodes net)) (ends net) v

  -- the range of I
  pub valid-inputs-few : net.inputs ≤ 64
  valid-inputs-few =
      leb→le net.inputs 64
      (and_right (leb 1 net.inputs) (leb net.inputs 64)
      (and_left (leb 1 net.inputs && leb net.inputs 64) (leb (length net.gates) 448) valid-counts))

  -- the range of G
  pub valid-gates-few : length net.gates ≤ 448
  valid-gates-few =
      leb→le (length net.gates) 448
      (and_right (leb 1 net.inputs && leb net.inputs 64) (leb (length net.gates) 448) valid-counts)

  -- each gate fits at its node
  pub valid-gates : T (all gate_fits (nodes net))
  unfolding valid
  valid-gates =
      and_right (counts net) (all gate_fits (nodes net))
      (and_left (counts net && all gate_fits (nodes net)) (ends net) v)

  valid-ends-first : T (rising 0 net.outputs && all (λ o. ltb o (node_count net)) net.outputs
      && leb 1 (length net.outputs))
  valid-ends-first =
      and_left
      (rising 0 net.outputs && all (λ o. ltb o (node_count net)) net.outputs && leb 1 (length net.outputs))
      (leb (length net.outputs) 64) valid-ends

  valid-ends-nodes : T (rising 0 net.outputs && all (λ o. ltb o (node_count net)) net.outputs)
  valid-ends-nodes =
      and_left (rising 0 net.outputs && all (λ o. ltb o (node_count net)) net.outputs)
      (leb 1 (length net.outputs)) valid-ends-first

  -- each output is a node
  pub valid-outputs : (o : ℕ) → Memᴰ o net.outputs → o < node_count net
  valid-outputs o m =
      ltb→lt o (node_count net)
      (all-at (λ o. ltb o (node_count net)) net.outputs
      (and_right (rising 0 net.outputs) (all (λ o. ltb o (node_count net)) net.outputs) valid-ends-nodes) o m)

-- ---- a gate that fits

-- the kind takes its pins
pub fits-takes : (x : ℕ × Cell) → T (gate_fits x) → T (takes x.1.kind (length x.1.pins))
fits-takes x t = and_left (takes x.1.kind (length x.1.pins)) (all (pin_fits x.0) x.1.pins) t

-- each pin fits
pub fits-pins : (x : ℕ × Cell) → T (gate_fits x) → T (all (pin_fits x.0) x.1.pins)
fits-pins x t = and_right (takes x.1.kind (length x.1.pins)) (all (pin_fits x.0) x.1.pins) t

-- what drives a gate lies below it
pub fits_below : (x : ℕ × Cell) → T (gate_fits x) → (p : Pin) → Memᴰ p x.1.pins → p.driver < x.0
fits_below x t p m =
    ltb→lt p.driver x.0
    (and_left (ltb p.driver x.0) (leb p.delay 999) (all-at (pin_fits x.0) x.1.pins (fits-pins x t) p m))

-- a delay is 999 or less
pub fits-small : (x : ℕ × Cell) → T (gate_fits x) → (p : Pin) → Memᴰ p x.1.pins → p.delay ≤ 999
fits-small x t p m =
    leb→le p.delay 999
    (and_right (ltb p.driver x.0) (leb p.delay 999) (all-at (pin_fits x.0) x.1.pins (fits-pins x t) p m))

-- a kind takes at most 8 pins
pub takes-few : (kind : Kind) (n : ℕ) → T (takes kind n) → n ≤ 8
takes-few (Simple c k) n t = leb→le n 8 (and_right (leb 1 n) (leb n 8) t)
takes-few (Parity equal) n t = let e = eqb→eq n 2 t in omega arith
takes-few Mux n t = let e = eqb→eq n 3 t in omega arith

-- a parity gate has 2 pins, a multiplexer 3
pub takes-parity : {kind : Kind} {equal : Bool} (n : ℕ) → kind ≡ Parity equal → T (takes kind n) → n ≡ 2
takes-parity n e t = eqb→eq n 2 (subst (λ (k : Kind). T (takes k n)) e t)

pub takes-mux : {kind : Kind} (n : ℕ) → kind ≡ Mux → T (takes kind n) → n ≡ 3
takes-mux n e t = eqb→eq n 3 (subst (λ (k : Kind). T (takes k n)) e t)
