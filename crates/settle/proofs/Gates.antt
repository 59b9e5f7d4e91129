-- Gate after gate: the slices hold the first nodes of the netlist's values and times, and what a gate gives over these
-- nodes is its own entry, by the fixpoint equations, since it reads its drivers alone. Assumes nothing.
use mathlib.Core.Path.{◌≡◌, refl, sym, ap, ap₂, ◌∙◌, subst}
use mathlib.Core.Bool.{Bool, true, false}
use mathlib.Core.List.{List, [], ◌∷◌, ◌++◌, map, Memᴰ}
use mathlib.Core.Logic.{◌⊎◌, inl, inr}
use Prim.Native.Nat.{ℕ, zero, suc, ◌+◌, ◌≤◌, ◌<◌}
use native.Mathlib.Omega.{arith}
use lib.Dec.{T, eqb, ltb, ltb→lt, nltb→le, not_T}
use lib.ListN.{
  length,
  get_or,
  take,
  drop,
  set,
  length-map,
  length-take,
  get_or-map,
  get_or-eq_default,
}
use lib.Seq.{get_or-take, length-take-le}
use Rattle.std.specs.Int.{from_bool}
use Rattle.basics.proofs.Truth.{decide}
use Rattle.netlist.specs.declared.Shape.{Shape}
use Rattle.netlist.specs.declared.Gate.{Gate}
use Rattle.netlist.specs.Netlist.{Cell, Pin, nodes, takes, Slopes, slopes_of, pins_for}
use Rattle.netlist.specs.Kinds.{bit}
use Rattle.netlist.specs.declared.circuit.Accepted.{Accepted}
use Rattle.netlist.specs.Accepts.{circuit_in}
use Rattle.netlist.specs.File.{gate_at, cell_at, cell_of, circuit_at, pins_from, first_at, count_at}
use Rattle.netlist.specs.Holds.{Holds, Arrived, Given, Small}
use Rattle.netlist.proofs.Slopes.{pins-for-only}
use Rattle.netlist.proofs.Entries.{node-has, node-count, net-inputs}
use Rattle.netlist.proofs.GateRead.{gate-fields, gate-within, gate-takes}
use Rattle.settle.specs.declared.Signal.{Signal}
use Rattle.settle.specs.Settling.{ready_at, values_of, value_of, times_of, time_of, top_of}
use Rattle.settle.specs.Promise.{bits}
use Rattle.settle.specs.Steps.{latest, pins_in, pin_value, pin_ready, gate_signal, sloped_signal}
use Rattle.settle.specs.Steps.{Wired, Binary, Done, Usable}
use Rattle.settle.proofs.Argument.{settles-cong, gate_value-cong}
use Rattle.settle.proofs.Nodes.{
  Arrives,
  laid,
  runs,
  values_length,
  times-length,
  values-begin,
  times-begin,
  tops-small,
  times-small,
}
use Rattle.settle.proofs.Slopes.{sloped-small, pins-for-value}
use Rattle.lent.specs.Copied.{Copied}
use Rattle.lent.proofs.Filling.{Filled, filled-done, filled-length, filled_more, filled-ends}

-- ---- lists

take-map : {A B : Type 0} (f : A → B) (n : ℕ) (l : List A) → take n (map f l) ≡ map f (take n l)
take-map f zero l = refl
take-map f (suc n) [] = refl
take-map f (suc n) (x ∷ l) = ap (λ t. f x ∷ t) (take-map f n l)

-- a bound on all entries bounds those of the first n
take_within : (bound n : ℕ) (l : List ℕ) → ((k : ℕ) → get_or l k 0 ≤ bound) → (k : ℕ) → get_or (take n l) k 0 ≤ bound
take_within bound n l h k = go (decide (ltb k n))
  where
    go : T (ltb k n) ⊎ (T (ltb k n) → ⊥) → get_or (take n l) k 0 ≤ bound
    go (inl t) = let e = get_or-take n l k 0 (ltb→lt k n t) in let b = h k in omega arith
    go (inr f) =
        let a = nltb→le k n (not_T (ltb k n) f) in
        let b : length (take n l) ≤ k = omega (arith, length-take n l) in
        let e = get_or-eq_default (take n l) 0 {n = k} b in
        omega arith

-- stored Bools are bits
stored-small : (l : List Bool) → Binary (map bit l)
stored-small [] k = omega arith
stored-small (true ∷ l) zero = omega arith
stored-small (false ∷ l) zero = omega arith
stored-small (b ∷ l) (suc k) = stored-small l k

-- a stored Bool reads back
bit-back : (b : Bool) → eqb (bit b) 1 ≡ b
bit-back true = refl
bit-back false = refl

-- a Bool as std stores it
bit-of : (b : Bool) → from_bool b ≡ bit b
bit-of true = refl
bit-of false = refl

-- ---- the circuit's lists, as the slices hold them

-- all nodes' values and times
abbrev pub all_values : Accepted → List Bool → List ℕ
all_values a vector = map bit (values_of (circuit_in a).net vector)

abbrev pub all_times : Accepted → List Bool → List ℕ
all_times a vector = times_of (circuit_in a) vector

-- an arrival for each of the netlist's inputs
pub net-arrives : (file : List ℕ) {shape : Shape} {arrivals : List ℕ} → Arrived shape arrivals →
    Arrives (circuit_at file shape arrivals)
net-arrives file {shape} a = a.long ∙ sym (net-inputs file shape)

-- so that no top is too late
pub tops-early : {file : List ℕ} {shape : Shape} {arrivals : List ℕ} → Given file shape arrivals → (n : ℕ) →
    top_of (circuit_at file shape arrivals) n ≤ latest
tops-early {file} {shape} {arrivals} g n =
    tops-small (circuit_at file shape arrivals) g.holds.valid (net-arrives file g.arrived) tt g.arrived.early
    n

module _ (a : Accepted) (vector : List Bool) (long : length vector ≡ a.shape.inputs) where
  vector-long : length vector ≡ (circuit_in a).net.inputs
  vector-long = long ∙ sym (net-inputs a.file.now a.shape)

  arrives : Arrives (circuit_in a)
  arrives = net-arrives a.file.now a.given.arrived

  small : Small (slopes_of a.form)
  small = sloped-small a.shape (slopes_of a.form) a.sloped

  pub all-values-length : length (all_values a vector) ≡ a.shape.inputs + a.shape.gates
  all-values-length =
      length-map (values_of (circuit_in a).net vector) bit
      ∙ values_length (circuit_in a).net vector vector-long
      ∙ node-count a.file.now a.shape

  pub all-times-length : length (all_times a vector) ≡ a.shape.inputs + a.shape.gates
  all-times-length = times-length (circuit_in a) vector arrives ∙ node-count a.file.now a.shape

  -- the inputs come first
  all-values-begin : take a.shape.inputs (all_values a vector) ≡ map bit vector
  all-values-begin =
      take-map bit a.shape.inputs (values_of (circuit_in a).net vector)
      ∙ ap (map bit)
      (ap (λ (n : ℕ). take n (values_of (circuit_in a).net vector)) (sym long)
      ∙ values-begin (circuit_in a).net vector)

  all-times-begin : take a.shape.inputs (all_times a vector) ≡ a.arrivals.now
  all-times-begin =
      ap (λ (n : ℕ). take n (all_times a vector)) (sym a.given.arrived.long) ∙ times-begin (circuit_in a) vector

  -- one gate, over the nodes before it
  module _ (number : ℕ) (within : number < a.shape.gates) where
    abbrev done_values : List ℕ
    done_values = take (a.shape.inputs + number) (all_values a vector)

    abbrev done_times : List ℕ
    done_times = take (a.shape.inputs + number) (all_times a vector)

    abbrev cell : Cell
    cell = cell_at a.file.now a.shape number

    member : Memᴰ {A = ℕ × Cell} (a.shape.inputs + number, cell) (nodes (circuit_in a).net)
    member = node-has a.file.now a.shape number within

    driver-below : (p : Pin) → Memᴰ p cell.pins → p.driver < a.shape.inputs + number
    driver-below p i = (laid (circuit_in a).net a.given.holds.valid).below _ _ member p i

    -- a pin that a driver of the gate drives
    abbrev Driven : Pin → Type 0
    Driven q = (p : Pin) × Memᴰ p cell.pins × (q.driver ≡ p.driver)

    driven-below : (q : Pin) → Driven q → q.driver < a.shape.inputs + number
    driven-below q w = let b = driver-below w.0 w.1 in omega (arith, w.2)

    pin-value : (q : Pin) → Driven q → pin_value done_values q ≡ value_of (circuit_in a).net vector q.driver
    pin-value q w =
        ap (λ (v : ℕ). eqb v 1)
        (get_or-take (a.shape.inputs + number) (all_values a vector) q.driver 0 (driven-below q w)
        ∙ get_or-map bit (values_of (circuit_in a).net vector) q.driver false)
        ∙ bit-back (value_of (circuit_in a).net vector q.driver)

    pin-ready : (q : Pin) → Driven q → pin_ready done_times q ≡ ready_at (time_of (circuit_in a) vector) q
    pin-ready q w =
        ap (λ (t : ℕ). t + q.delay)
        (get_or-take (a.shape.inputs + number) (all_times a vector) q.driver 0 (driven-below q w))

    -- what the gate gives is the netlist's value and time at its node
    pub gate-settled : (gate : Gate) → gate ≡ gate_at a.file.now a.shape number →
        sloped_signal (slopes_of a.form) done_values done_times gate.kind (pins_in a gate.first gate.count)
        ≡ record {
          value = value_of (circuit_in a).net vector (a.shape.inputs + number);
          at = time_of (circuit_in a) vector (a.shape.inputs + number);
        }
    unfolding gate_signal pins_from cell_at cell_of
    gate-settled gate e =
        let facts = runs (circuit_in a) a.given.holds.valid arrives small vector vector-long in
        let final : Pin → Bool = λ p. value_of (circuit_in a).net vector p.driver in
        let slopes : Slopes = slopes_of a.form in
        let ends =
        gate_value-cong (pin_value done_values) final cell.kind cell.pins (λ p i. pin-value p (p, i, refl))
        ∙ sym (facts.value-fixed _ _ member)
        in
        ap (λ (g : Gate). sloped_signal slopes done_values done_times g.kind (pins_in a g.first g.count)) e
        ∙ ap (λ (v : Bool). gate_signal done_values done_times cell.kind (pins_for slopes v cell.pins)) ends
        ∙ ap₂ (λ (v : Bool) (t : ℕ). record { value = v; at = t })
        (pins-for-value (λ (node : ℕ). eqb (get_or done_values node 0) 1) slopes _ cell.kind cell.pins ∙ ends)
        (settles-cong (pin_value done_values) final
        (pin_ready done_times) (ready_at (time_of (circuit_in a) vector))
        cell.kind (pins_for slopes (value_of (circuit_in a).net vector (a.shape.inputs + number)) cell.pins)
        (λ q i. pin-value q (driven _ q i)) (λ q i. pin-ready q (driven _ q i))
        ∙ sym (facts.time-fixed _ _ member))
      where
        driven : (v : Bool) (q : Pin) → Memᴰ q (pins_for (slopes_of a.form) v cell.pins) → Driven q
        driven v q i = let w = pins-for-only (slopes_of a.form) small v cell.pins q i in (w.0, w.1, w.2)

    -- its pins are driven from the nodes before it
    gate-wired : (gate : Gate) → gate ≡ gate_at a.file.now a.shape number →
        Wired a gate.first gate.count (a.shape.inputs + number)
    gate-wired gate e =
        let h : Holds a.file.now a.shape = a.given.holds in
        let fields = gate-fields a.file.now a.shape number gate e in
        record {
          within = gate-within gate h within e;
          drivers =
              λ pin l u.
              let low : first_at a.file.now a.shape number ≤ pin = omega (arith, fields.0) in
              let high : pin < first_at a.file.now a.shape number + count_at a.file.now a.shape number =
              omega (arith, fields.0, fields.1)
              in
              omega (arith, h.drivers-below number pin within low high);
        }

-- ---- the loop's invariant: the inputs' nodes and those of the first gates are done

pub record Gating (a : Accepted) (vector : List Bool) (values₀ times₀ values times : List ℕ) (number : ℕ) :
    Type 0 where
  pub upto : number ≤ a.shape.gates
  pub values-done : Filled (all_values a vector) values₀ values (a.shape.inputs + number)
  pub times-done : Filled (all_times a vector) times₀ times (a.shape.inputs + number)

-- the first n entries of a list stand at the front
filled-front : {whole from before now : List ℕ} (n : ℕ) → Copied from before now → take n whole ≡ from →
    n ≤ length whole → length whole ≤ length before → Filled whole before now n
filled-front {whole} {from} {before} n c e u r =
    let k : length from ≡ n = ap length (sym e) ∙ length-take-le n whole u in
    record { upto = u; room = r; is = c.is ∙ ap₂ (λ (l : List ℕ) (k : ℕ). l ++ drop k before) (sym e) k }

module _ {a : Accepted} {vector : List ℕ} (values₀ times₀ : List ℕ)
    (u : Usable a vector (length values₀) (length times₀)) where
  bits-long : length (bits vector) ≡ a.shape.inputs
  bits-long = length-map vector (λ byte. eqb byte 1) ∙ u.long

  values-in : length (all_values a (bits vector)) ≤ length values₀
  values-in = let l = all-values-length a (bits vector) bits-long in omega (arith, u.values-room)

  times-in : length (all_times a (bits vector)) ≤ length times₀
  times-in = let l = all-times-length a (bits vector) bits-long in omega (arith, u.times-room)

  -- at first the inputs' nodes
  pub gating-starts : {values times : List ℕ} → Copied vector values₀ values → Copied a.arrivals.now times₀ times →
      Gating a (bits vector) values₀ times₀ values times 0
  gating-starts {values} {times} v t =
      let z : a.shape.inputs ≡ a.shape.inputs + 0 = omega arith in
      record {
        upto = omega arith;
        values-done =
            subst (Filled (all_values a (bits vector)) values₀ values) z
            (filled-front a.shape.inputs v (all-values-begin a (bits vector) bits-long ∙ sym u.small)
            (let l = all-values-length a (bits vector) bits-long in omega arith) values-in);
        times-done =
            subst (Filled (all_times a (bits vector)) times₀ times) z
            (filled-front a.shape.inputs t (all-times-begin a (bits vector) bits-long)
            (let l = all-times-length a (bits vector) bits-long in omega arith) times-in);
      }

  module _ {values times : List ℕ} {number : ℕ} (g : Gating a (bits vector) values₀ times₀ values times number) where
    pub gating-values : length values ≡ length values₀
    gating-values = filled-length g.values-done

    pub gating-times : length times ≡ length times₀
    gating-times = filled-length g.times-done

    -- the values are bits
    pub gating-binary : Binary (take (a.shape.inputs + number) values)
    gating-binary =
        rw (filled-done g.values-done)
        (take_within 1 (a.shape.inputs + number) (all_values a (bits vector))
        (stored-small (values_of (circuit_in a).net (bits vector))))

    -- the times are early
    pub gating-early : (node : ℕ) → get_or (take (a.shape.inputs + number) times) node 0 ≤ latest
    gating-early =
        rw (filled-done g.times-done)
        (take_within latest (a.shape.inputs + number) (all_times a (bits vector))
        (times-small (circuit_in a) a.given.holds.valid (arrives a (bits vector) bits-long)
        (small a (bits vector) bits-long) a.given.arrived.early (bits vector)))

    -- and there are as many as nodes are done
    gating-length : number < a.shape.gates →
        length (take (a.shape.inputs + number) values) ≡ a.shape.inputs + number
    gating-length h =
        length-take-le (a.shape.inputs + number) values (omega (arith, gating-values, u.values-room))

    pub gating-paired : number < a.shape.gates →
        length (take (a.shape.inputs + number) times) ≡ length (take (a.shape.inputs + number) values)
    gating-paired h =
        length-take-le (a.shape.inputs + number) times (omega (arith, gating-times, u.times-room))
        ∙ sym (gating-length h)

    module _ (within : number < a.shape.gates) (gate : Gate) (e : gate ≡ gate_at a.file.now a.shape number) where
      pub gating-wired : Wired a gate.first gate.count (length (take (a.shape.inputs + number) values))
      gating-wired = rw (gating-length within) (gate-wired a (bits vector) bits-long number within gate e)

      pub gating-takes : T (takes gate.kind gate.count)
      gating-takes = gate-takes gate a.given.holds within e

      -- one gate more
      pub gating-more : {slopes : Slopes} (signal : Signal) (stored : ℕ) → slopes ≡ slopes_of a.form →
          signal
          ≡ sloped_signal slopes (take (a.shape.inputs + number) values) (take (a.shape.inputs + number) times)
          gate.kind (pins_in a gate.first gate.count) →
          stored ≡ from_bool signal.value →
          Gating a (bits vector) values₀ times₀
          (set values (a.shape.inputs + number) stored)
          (set times (a.shape.inputs + number) signal.at)
          (number + 1)
      gating-more {slopes} signal stored f s q =
          let n : a.shape.inputs + number + 1 ≡ a.shape.inputs + (number + 1) = omega arith in
          let v = all-values-length a (bits vector) bits-long in
          let t = all-times-length a (bits vector) bits-long in
          let is =
          s
          ∙ ap (λ (x : Slopes). sloped_signal x (take (a.shape.inputs + number) values)
          (take (a.shape.inputs + number) times) gate.kind (pins_in a gate.first gate.count)) f
          ∙ ap₂ (λ (x y : List ℕ). sloped_signal (slopes_of a.form) x y gate.kind (pins_in a gate.first gate.count))
          (filled-done g.values-done)
          (filled-done g.times-done)
          ∙ gate-settled a (bits vector) bits-long number within gate e
          in
          record {
            upto = omega arith;
            values-done =
                subst
                (Filled (all_values a (bits vector)) values₀ (set values (a.shape.inputs + number) stored)) n
                (filled_more g.values-done stored 0 (omega arith)
                (q ∙ bit-of signal.value ∙ ap (λ (x : Signal). bit x.value) is
                ∙ sym (get_or-map bit (values_of (circuit_in a).net (bits vector)) (a.shape.inputs + number) false)));
            times-done =
                subst
                (Filled (all_times a (bits vector)) times₀ (set times (a.shape.inputs + number) signal.at)) n
                (filled_more g.times-done signal.at 0 (omega arith) (ap (λ (x : Signal). x.at) is));
          }

    -- all gates
    pub gating-ends : a.shape.gates ≤ number → Done a (bits vector) values₀ times₀ values times
    gating-ends l =
        let all : a.shape.inputs + number ≡ a.shape.inputs + a.shape.gates = omega (arith, g.upto) in
        record {
          values-are =
              filled-ends g.values-done (omega (arith, all-values-length a (bits vector) bits-long))
              ∙ ap (λ (n : ℕ). all_values a (bits vector) ++ drop n values₀) all;
          times-are =
              filled-ends g.times-done (omega (arith, all-times-length a (bits vector) bits-long))
              ∙ ap (λ (n : ℕ). all_times a (bits vector) ++ drop n times₀) all;
        }
