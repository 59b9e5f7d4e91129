-- Values, times and tops of all nodes of a valid netlist are what the rules say: the fixpoint equations at each gate,
-- an input's entries, and no time beyond its top, by strong induction on the node. Laws: laid and runs, the facts in
-- two records (Laid, Runs) that the formula's theorem reads; input-value, input-at, input-top; values_length,
-- times-length, tops-length; values-begin, times-begin; input-or-gate; tops_within, times-within (arrivals of at most
-- `late`), and with accepted arrivals tops-small, times-small, circuit-small; zero-time and zero-top (all inputs at 0);
-- circuit-late. Assumes nothing.
use mathlib.Core.Path.{◌≡◌, refl, sym, ap, ◌∙◌, subst}
use mathlib.Core.Bool.{Bool, true, false}
use mathlib.Core.List.{List, [], ◌∷◌, Memᴰ}
use mathlib.Core.Logic.{◌⊎◌, inl, inr}
use Prim.Native.Nat.{ℕ, zero, suc, ◌+◌, ◌-◌, ◌*◌, ◌≤◌, ◌<◌, max}
use native.Mathlib.Omega.{arith}
use lib.Dec.{T, leb, ltb, ltb→lt, nltb→le, not_T}
use lib.ListN.{length, get_or, take, length-replicate, get_or-replicate, get_or-eq_default}
use Rattle.basics.specs.Lists.{any}
use Rattle.basics.proofs.Truth.{decide}
use Rattle.basics.proofs.Lists.{all-at}
use Rattle.netlist.specs.Netlist.{Netlist, Circuit, Cell, Pin, at_zero, nodes, node_count, takes, gate_fits, valid}
use Rattle.netlist.specs.Netlist.{Slopes, alike, apart, pins_for, slowest}
use Rattle.netlist.specs.Holds.{Small}
use Rattle.netlist.proofs.Slopes.{pins-for-only, slowest-only}
use Rattle.netlist.specs.Open.{latest_arrival}
use Rattle.netlist.proofs.Ranges.{numbered-has, numbered-only}
use Rattle.netlist.proofs.Valid.{valid-gates, valid-gates-few, fits-takes, fits_below, fits-small}
use Rattle.netlist.specs.declared.Kind.TheVariants.{Mux}
use Rattle.settle.specs.Settling.{
  last,
  gate_value,
  settles,
  ready_at,
  values_of,
  value_of,
  ends_at,
  times_of,
  time_of,
  tops_of,
  top_of,
  circuit_time,
}
use Rattle.settle.specs.Steps.{latest}
use Rattle.settle.proofs.Cubes.{settles-last, last_within}
use Rattle.settle.proofs.Argument.{
  settles-cong,
  gate_value-cong,
  last-cong,
  last-mono,
  last-late,
}
use Rattle.settle.proofs.Grow.{grow-length, grow-keeps, grow-begins, grow-fixed}

-- the gates gs with their nodes are those from I up to N, each takes its pins, and each pin is driven from below
pub record Laid (I N : ℕ) (gs : List (ℕ × Cell)) : Type 0 where
  pub cover : (n : ℕ) → I ≤ n → n < N → (cell : Cell) × Memᴰ (n, cell) gs
  pub low : (n : ℕ) (cell : Cell) → Memᴰ (n, cell) gs → I ≤ n
  pub high : (n : ℕ) (cell : Cell) → Memᴰ (n, cell) gs → n < N
  pub below : (n : ℕ) (cell : Cell) → Memᴰ (n, cell) gs → (p : Pin) → Memᴰ p cell.pins → p.driver < n
  pub small : (n : ℕ) (cell : Cell) → Memᴰ (n, cell) gs → (p : Pin) → Memᴰ p cell.pins → p.delay ≤ 999
  pub taken : (n : ℕ) (cell : Cell) → Memᴰ (n, cell) gs → T (takes cell.kind (length cell.pins))

-- values, times and tops of the nodes are what the rules say
pub record Runs (slopes : Slopes) (I N : ℕ) (gs : List (ℕ × Cell)) (value : ℕ → Bool) (time top : ℕ → ℕ) : Type 0 where
  pub value-fixed : (n : ℕ) (cell : Cell) → Memᴰ (n, cell) gs →
      value n ≡ gate_value (λ (p : Pin). value p.driver) cell.kind cell.pins
  pub time-fixed : (n : ℕ) (cell : Cell) → Memᴰ (n, cell) gs →
      time n
      ≡ settles (λ (p : Pin). value p.driver) (ready_at time) cell.kind (pins_for slopes (value n) cell.pins)
  pub top-fixed : (n : ℕ) (cell : Cell) → Memᴰ (n, cell) gs →
      top n ≡ last (ready_at top) (slowest slopes cell.pins)
  pub input-time : (n : ℕ) → n < I → time n ≡ top n
  pub time-top : (n : ℕ) → n < N → time n ≤ top n

-- one gate's part of each list
abbrev value_step : Cell → (ℕ → Bool) → Bool
value_step cell value = gate_value (λ (p : Pin). value p.driver) cell.kind cell.pins

abbrev time_step : Circuit → List Bool → Cell → (ℕ → ℕ) → ℕ
time_step circuit vector cell time =
    settles (λ (p : Pin). value_of circuit.net vector p.driver) (ready_at time) cell.kind
    (pins_for circuit.slopes (ends_at circuit.net vector cell) cell.pins)

abbrev top_step : Slopes → Cell → (ℕ → ℕ) → ℕ
top_step slopes cell top = last (ready_at top) (slowest slopes cell.pins)

-- each input has an arrival
abbrev pub Arrives : Circuit → Type 0
Arrives circuit = length circuit.arrivals ≡ circuit.net.inputs

-- how many nodes each list has
pub values_length : (net : Netlist) (vector : List Bool) → length vector ≡ net.inputs →
    length (values_of net vector) ≡ node_count net
unfolding values_of
values_length net vector e = let f = grow-length false value_step vector net.gates in omega arith

pub times-length : (circuit : Circuit) (vector : List Bool) → Arrives circuit →
    length (times_of circuit vector) ≡ node_count circuit.net
unfolding times_of
times-length circuit vector e =
    let f =
    grow-length 0 (time_step circuit vector) circuit.arrivals circuit.net.gates
    in
    omega arith

pub tops-length : (circuit : Circuit) → Arrives circuit → length (tops_of circuit) ≡ node_count circuit.net
unfolding tops_of
tops-length circuit e =
    let f = grow-length 0 (top_step circuit.slopes) circuit.arrivals circuit.net.gates in omega arith

-- the values begin with the vector
pub values-begin : (net : Netlist) (vector : List Bool) → take (length vector) (values_of net vector) ≡ vector
unfolding values_of
values-begin net vector = grow-begins false value_step vector net.gates

-- the times begin with the arrivals
pub times-begin : (circuit : Circuit) (vector : List Bool) →
    take (length circuit.arrivals) (times_of circuit vector) ≡ circuit.arrivals
unfolding times_of
times-begin circuit vector =
    grow-begins 0 (time_step circuit vector) circuit.arrivals circuit.net.gates

-- and so do the tops
pub tops-begin : (circuit : Circuit) → take (length circuit.arrivals) (tops_of circuit) ≡ circuit.arrivals
unfolding tops_of
tops-begin circuit = grow-begins 0 (top_step circuit.slopes) circuit.arrivals circuit.net.gates

-- an input has the vector's value
pub input-value : (net : Netlist) (vector : List Bool) → length vector ≡ net.inputs → (n : ℕ) → n < net.inputs →
    value_of net vector n ≡ get_or vector n false
unfolding values_of
input-value net vector e n h = grow-keeps false value_step vector net.gates n (omega arith)

-- an input settles at its arrival
pub input-at : (circuit : Circuit) (vector : List Bool) → Arrives circuit → (n : ℕ) → n < circuit.net.inputs →
    time_of circuit vector n ≡ get_or circuit.arrivals n 0
unfolding times_of
input-at circuit vector e n h =
    grow-keeps 0 (time_step circuit vector) circuit.arrivals circuit.net.gates n (omega arith)

-- and its top is that
pub input-top : (circuit : Circuit) → Arrives circuit → (n : ℕ) → n < circuit.net.inputs →
    top_of circuit n ≡ get_or circuit.arrivals n 0
unfolding tops_of
input-top circuit e n h =
    grow-keeps 0 (top_step circuit.slopes) circuit.arrivals circuit.net.gates n (omega arith)

-- a node is an input or a gate
pub input-or-gate : (net : Netlist) (n : ℕ) → n < node_count net →
    (n < net.inputs) ⊎ ((cell : Cell) × Memᴰ (n, cell) (nodes net))
input-or-gate net n h = go (decide (ltb n net.inputs))
  where
    at : net.inputs ≤ n → (cell : Cell) × Memᴰ (n, cell) (nodes net)
    at l =
        let d : Cell = record { kind = Mux; pins = [] } in
        let e : net.inputs + (n - net.inputs) ≡ n = omega arith in (
          get_or net.gates (n - net.inputs) d,
          subst (λ (k : ℕ). Memᴰ (k, get_or net.gates (n - net.inputs) d) (nodes net)) e
              (numbered-has net.inputs net.gates (n - net.inputs) d (omega arith)),
        )

    go : T (ltb n net.inputs) ⊎ (T (ltb n net.inputs) → ⊥) →
        (n < net.inputs) ⊎ ((cell : Cell) × Memᴰ (n, cell) (nodes net))
    go (inl t) = inl (ltb→lt n net.inputs t)
    go (inr f) = inr (at (nltb→le n net.inputs (not_T (ltb n net.inputs) f)))

-- what holds of the inputs, and of each gate whose drivers have it, holds of all nodes
by-nodes : (net : Netlist) → T (valid net) → (P : ℕ → Type 0) → ((n : ℕ) → n < net.inputs → P n) →
    ((n : ℕ) (cell : Cell) → Memᴰ (n, cell) (nodes net) →
    ((p : Pin) → Memᴰ p cell.pins → P p.driver) → P n) → (n : ℕ) → n < node_count net → P n
by-nodes net v P inputs gates n h = upto (suc n) n (omega arith) h
  where
    upto : (m n : ℕ) → n < m → n < node_count net → P n
    upto zero n l h = absurd (omega arith)
    upto (suc m) n l h = go (input-or-gate net n h) (λ k a b. upto m k a b)
      where
        go : (n < net.inputs) ⊎ ((cell : Cell) × Memᴰ (n, cell) (nodes net)) →
            ((k : ℕ) → k < m → k < node_count net → P k) → P n
        go (inl a) r = inputs n a
        go (inr w) r =
            gates n w.0 w.1 λ p i.
            let b = fits_below (n, w.0) (all-at gate_fits (nodes net) (valid-gates net v) (n, w.0) w.1) p i in
            r p.driver (omega arith) (omega arith)

module _ (net : Netlist) (v : T (valid net)) where
  fits : (n : ℕ) (cell : Cell) → Memᴰ (n, cell) (nodes net) → T (gate_fits (n, cell))
  fits n cell m = all-at gate_fits (nodes net) (valid-gates net v) (n, cell) m

  node-range : (n : ℕ) (cell : Cell) → Memᴰ (n, cell) (nodes net) → (net.inputs ≤ n) × (n < node_count net)
  node-range n cell m =
      let w = numbered-only net.inputs net.gates (record { kind = Mux; pins = [] }) (n, cell) m in
      let e = ap (λ x. x.0) w.2 in
      (omega (arith, w.1), omega (arith, w.1))

  -- the shape of a valid netlist
  pub laid : Laid net.inputs (node_count net) (nodes net)
  laid =
      record {
        cover = covered;
        low = λ n cell m. (node-range n cell m).0;
        high = λ n cell m. (node-range n cell m).1;
        below = λ n cell m p i. fits_below (n, cell) (fits n cell m) p i;
        small = λ n cell m p i. fits-small (n, cell) (fits n cell m) p i;
        taken = λ n cell m. fits-takes (n, cell) (fits n cell m);
      }
    where
      covered : (n : ℕ) → net.inputs ≤ n → n < node_count net → (cell : Cell) × Memᴰ (n, cell) (nodes net)
      covered n l h = go (input-or-gate net n h)
        where
          go : (n < net.inputs) ⊎ ((cell : Cell) × Memᴰ (n, cell) (nodes net)) →
              (cell : Cell) × Memᴰ (n, cell) (nodes net)
          go (inl a) = absurd (omega arith)
          go (inr w) = w

  -- a gate's value, from its drivers' values
  value-fixed : (vector : List Bool) → length vector ≡ net.inputs → (n : ℕ) (cell : Cell) →
      Memᴰ (n, cell) (nodes net) →
      value_of net vector n ≡ gate_value (λ (p : Pin). value_of net vector p.driver) cell.kind cell.pins
  unfolding values_of
  value-fixed vector e n cell m =
      grow-fixed false value_step
      (λ cell f h q.
      gate_value-cong (λ (p : Pin). f p.driver) (λ (p : Pin). h p.driver) cell.kind cell.pins q)
      vector net.gates net.inputs (sym e) (valid-gates net v) n cell m

-- a pin that is ready by one delay is not ready after the larger one; nor are all of them
last-slowest : (time top : ℕ → ℕ) (slopes : Slopes) (v : Bool) (ps : List Pin) →
    ((p : Pin) → Memᴰ p ps → time p.driver ≤ top p.driver) →
    last (ready_at time) (pins_for slopes v ps) ≤ last (ready_at top) (slowest slopes ps)
last-slowest time top alike v ps r =
    last-mono (ready_at time) (ready_at top) ps (λ p i. let q = r p i in omega arith)
last-slowest time top (apart falls) true [] r = omega arith
last-slowest time top (apart falls) true (p ∷ ps) r =
    let a = r p (Memᴰ.head refl) in
    let b = last-slowest time top (apart falls) true ps (λ q i. r q (Memᴰ.tail i)) in
    omega arith
last-slowest time top (apart falls) false [] r = omega arith
last-slowest time top (apart falls) false (p ∷ ps) r =
    let a = r p (Memᴰ.head refl) in
    let b = last-slowest time top (apart falls) false ps (λ q i. r q (Memᴰ.tail i)) in
    omega arith

-- two times of nodes that agree on a gate's drivers make each of its pins ready at the same time, whatever its delays
ready-same : (f h : ℕ → ℕ) (ps : List Pin) → ((p : Pin) → Memᴰ p ps → f p.driver ≡ h p.driver) → (q : Pin) →
    (p : Pin) × Memᴰ p ps × (q.driver ≡ p.driver) × (q.delay ≤ max p.delay 999) →
    ready_at f q ≡ ready_at h q
ready-same f h ps same q w =
    ap (λ t. t + q.delay) (ap f w.2 ∙ same w.0 w.1 ∙ ap h (sym w.2))

module _ (circuit : Circuit) (v : T (valid circuit.net)) (e : Arrives circuit)
    (small : Small circuit.slopes) where
  -- a gate's top, from its drivers' tops
  top-fixed : (n : ℕ) (cell : Cell) → Memᴰ (n, cell) (nodes circuit.net) →
      top_of circuit n ≡ last (ready_at (top_of circuit)) (slowest circuit.slopes cell.pins)
  unfolding tops_of
  top-fixed n cell m =
      grow-fixed 0 (top_step circuit.slopes)
      (λ cell f h same.
      last-cong (ready_at f) (ready_at h) (slowest circuit.slopes cell.pins)
      (λ q i. ready-same f h cell.pins same q (slowest-only circuit.slopes small cell.pins q i)))
      circuit.arrivals circuit.net.gates circuit.net.inputs (sym e) (valid-gates circuit.net v) n cell m

  -- a gate's time, from its drivers' values and times
  time-fixed : (vector : List Bool) (n : ℕ) (cell : Cell) → Memᴰ (n, cell) (nodes circuit.net) →
      time_of circuit vector n
      ≡ settles (λ (p : Pin). value_of circuit.net vector p.driver) (ready_at (time_of circuit vector)) cell.kind
      (pins_for circuit.slopes (ends_at circuit.net vector cell) cell.pins)
  unfolding times_of
  time-fixed vector n cell m =
      grow-fixed 0 (time_step circuit vector)
      (λ cell f h same.
      let pins : List Pin = pins_for circuit.slopes (ends_at circuit.net vector cell) cell.pins in
      settles-cong (λ (p : Pin). value_of circuit.net vector p.driver)
      (λ (p : Pin). value_of circuit.net vector p.driver)
      (ready_at f) (ready_at h) cell.kind pins (λ p i. refl)
      (λ q i.
      ready-same f h cell.pins same q
      (pins-for-only circuit.slopes small (ends_at circuit.net vector cell) cell.pins q i)))
      circuit.arrivals circuit.net.gates circuit.net.inputs (sym e) (valid-gates circuit.net v) n cell m

  time-top : (vector : List Bool) (n : ℕ) → n < node_count circuit.net → time_of circuit vector n ≤ top_of circuit n
  time-top vector =
      by-nodes circuit.net v (λ n. time_of circuit vector n ≤ top_of circuit n)
      (λ n h. let a = input-at circuit vector e n h in let b = input-top circuit e n h in omega arith)
      (λ n cell m r.
      let a = time-fixed vector n cell m in
      let b = top-fixed n cell m in
      let value = ends_at circuit.net vector cell in
      let c =
      settles-last (λ (p : Pin). value_of circuit.net vector p.driver) (ready_at (time_of circuit vector))
      cell.kind (pins_for circuit.slopes value cell.pins)
      in
      let d =
      last-slowest (time_of circuit vector) (top_of circuit) circuit.slopes value cell.pins r
      in
      omega arith)

  -- the fixpoint equations, and times against tops
  pub runs : (vector : List Bool) → length vector ≡ circuit.net.inputs →
      Runs circuit.slopes circuit.net.inputs (node_count circuit.net) (nodes circuit.net)
      (value_of circuit.net vector) (time_of circuit vector) (top_of circuit)
  runs vector f =
      record {
        value-fixed = value-fixed circuit.net v vector f;
        time-fixed =
            λ n cell m.
            time-fixed vector n cell m
            ∙ ap
            (λ b.
            settles (λ (p : Pin). value_of circuit.net vector p.driver) (ready_at (time_of circuit vector))
            cell.kind (pins_for circuit.slopes b cell.pins))
            (sym (value-fixed circuit.net v vector f n cell m));
        top-fixed = top-fixed;
        input-time = λ n h. input-at circuit vector e n h ∙ sym (input-top circuit e n h);
        time-top = time-top vector;
      }

  -- a top grows by at most 999 a gate
  top-grows : (late : ℕ) → ((n : ℕ) → n < circuit.net.inputs → get_or circuit.arrivals n 0 ≤ late) → (n : ℕ) →
      n < node_count circuit.net →
      top_of circuit n ≤ late + (suc n - circuit.net.inputs) * 999
  top-grows late inputs =
      by-nodes circuit.net v (λ n. top_of circuit n ≤ late + (suc n - circuit.net.inputs) * 999)
      (λ n h. let a = input-top circuit e n h in let b = inputs n h in omega arith)
      (λ n cell m r.
      let a = top-fixed n cell m in
      let low = (node-range circuit.net v n cell m).0 in
      let b =
      last_within (ready_at (top_of circuit)) (slowest circuit.slopes cell.pins)
      (late + (suc n - circuit.net.inputs) * 999)
      (λ q i.
      let w = slowest-only circuit.slopes small cell.pins q i in
      let t : top_of circuit q.driver ≡ top_of circuit w.0.driver = ap (top_of circuit) w.2 in
      let h = r w.0 w.1 in
      let s = (laid circuit.net v).small n cell m w.0 w.1 in
      let l = (laid circuit.net v).below n cell m w.0 w.1 in
      omega (arith, w.3))
      in
      omega arith)

  -- so with circuit.arrivals of at most `late` no top is above late + 448 * 999
  pub tops_within : (late : ℕ) → ((n : ℕ) → n < circuit.net.inputs → get_or circuit.arrivals n 0 ≤ late) → (n : ℕ) →
      top_of circuit n ≤ late + 447552
  tops_within late inputs n = go (decide (ltb n (node_count circuit.net)))
    where
      go : T (ltb n (node_count circuit.net)) ⊎ (T (ltb n (node_count circuit.net)) → ⊥) →
          top_of circuit n ≤ late + 447552
      go (inl t) =
          let h = ltb→lt n (node_count circuit.net) t in
          let a = top-grows late inputs n h in
          let b = valid-gates-few circuit.net v in
          omega arith
      go (inr f) =
          let h = nltb→le n (node_count circuit.net) (not_T (ltb n (node_count circuit.net)) f) in
          let l : length (tops_of circuit) ≤ n = omega (arith, tops-length circuit e) in
          let z = get_or-eq_default (tops_of circuit) 0 {n = n} l in
          omega arith

  -- nor any time
  pub times-within : (late : ℕ) → ((n : ℕ) → n < circuit.net.inputs → get_or circuit.arrivals n 0 ≤ late) →
      (vector : List Bool) →
      (n : ℕ) → time_of circuit vector n ≤ late + 447552
  times-within late inputs vector n = go (decide (ltb n (node_count circuit.net)))
    where
      go : T (ltb n (node_count circuit.net)) ⊎ (T (ltb n (node_count circuit.net)) → ⊥) →
          time_of circuit vector n ≤ late + 447552
      go (inl t) =
          let a = time-top vector n (ltb→lt n (node_count circuit.net) t) in
          let b = tops_within late inputs n in
          omega arith
      go (inr f) =
          let h = nltb→le n (node_count circuit.net) (not_T (ltb n (node_count circuit.net)) f) in
          let l : length (times_of circuit vector) ≤ n = omega (arith, times-length circuit vector e) in
          let z = get_or-eq_default (times_of circuit vector) 0 {n = n} l in
          omega arith

-- ---- arrivals that row 16 accepts

module _ (circuit : Circuit) (v : T (valid circuit.net)) (e : Arrives circuit) (small : Small circuit.slopes)
    (early : (n : ℕ) → get_or circuit.arrivals n 0 ≤ latest_arrival) where
  -- no top is above 448 * 999 after the latest arrival
  pub tops-small : (n : ℕ) → top_of circuit n ≤ latest
  tops-small n = let b = tops_within circuit v e small latest_arrival (λ n h. early n) n in omega arith

  -- nor any time
  pub times-small : (vector : List Bool) (n : ℕ) → time_of circuit vector n ≤ latest
  times-small vector n = let b = times-within circuit v e small latest_arrival (λ n h. early n) vector n in omega arith

  -- nor the circuit's
  pub circuit-small : (vector : List Bool) → circuit_time circuit vector ≤ latest
  unfolding circuit_time
  circuit-small vector =
      last_within (time_of circuit vector) circuit.net.outputs latest (λ o m. times-small vector o)

-- ---- all inputs arrive at 0: what the rules say without arrivals

module _ (net : Netlist) where
  pub zero-arrives : Arrives (at_zero net)
  zero-arrives = length-replicate net.inputs 0

  -- an input settles at 0, and its top is 0
  pub zero-time : (vector : List Bool) (n : ℕ) → n < net.inputs → time_of (at_zero net) vector n ≡ 0
  zero-time vector n h =
      input-at (at_zero net) vector zero-arrives n h ∙ get_or-replicate {A = ℕ} net.inputs n 0 0 h

  pub zero-top : (n : ℕ) → n < net.inputs → top_of (at_zero net) n ≡ 0
  zero-top n h = input-top (at_zero net) zero-arrives n h ∙ get_or-replicate {A = ℕ} net.inputs n 0 0 h

-- the circuit settles at t+1 or later exactly when some output does
pub circuit-late : (circuit : Circuit) (vector : List Bool) (t : ℕ) →
    leb (suc t) (circuit_time circuit vector)
    ≡ any (λ o. leb (suc t) (time_of circuit vector o)) circuit.net.outputs
unfolding circuit_time
circuit-late circuit vector t = last-late (time_of circuit vector) t circuit.net.outputs
