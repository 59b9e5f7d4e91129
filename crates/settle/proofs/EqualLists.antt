-- A list of fall delays that has each pin's own delay gives the single form's times and tops: the delays for either
-- final value are the pin's own, so each gate's step is the same. Laws: equal-times, equal-tops and equal-circuit of a
-- netlist; equal-lists and equal-evaluation of an accepted file; equal-calls of any bytes. Assumes
-- nothing.
use mathlib.Core.Path.{◌≡◌, refl, sym, ap, ap₂, ◌∙◌, subst}
use mathlib.Core.Bool.{Bool}
use mathlib.Core.List.{List, ◌++◌, map, Memᴰ}
use mathlib.Core.Logic.{◌⊎◌, inl, inr}
use Prim.Native.Nat.{ℕ, ◌-◌, ◌≤◌, ◌<◌}
use native.Mathlib.Omega.{arith}
use lib.Dec.{T, ltb, ltb→lt, nltb→le, not_T}
use lib.ListN.{length, get_or, replicate, get_or-eq_default}
use Rattle.basics.proofs.Truth.{decide}
use Rattle.basics.specs.Lists.{up_from}
use Rattle.basics.proofs.Lists.{map-mem}
use Rattle.netlist.specs.declared.Shape.{Shape}
use Rattle.std.specs.Prelude.{Result, Ok, Err}
use Rattle.refusal.specs.declared.Refusal.{Refusal}
use Rattle.netlist.specs.Netlist.{Netlist, Circuit, Cell, Pin, Slopes, node_count, alike, apart, fall_of}
use Rattle.netlist.specs.Kinds.{bit}
use Rattle.refusal.specs.Rows.{checked, unless_refused}
use Rattle.netlist.specs.File.{shape_of, delay_at, pin_at, cell_at, netlist_at, circuit_at, circuit_with}
use Rattle.netlist.specs.Open.{open_circuit_of, slope_rows}
use Rattle.netlist.specs.Holds.{Holds}
use Rattle.netlist.proofs.Ranges.{up_from-within}
use Rattle.netlist.proofs.Entries.{net-gates, pin-only}
use Rattle.netlist.proofs.Slopes.{pins-for-equal, slowest-equal, small-passes}
use Rattle.netlist.proofs.Calls.{accepted, accepted-both, call-accepted, call-rejected}
use Rattle.settle.specs.Settling.{
  last,
  settles,
  ready_at,
  values_of,
  value_of,
  ends_at,
  times_of,
  tops_of,
  circuit_time,
}
use Rattle.settle.specs.Promise.{bits, refused, settled, evaluation_rows, evaluation_of, evaluation}
use Rattle.settle.proofs.Grow.{grow-cong}

-- ---- of a netlist as data

module _ (net : Netlist) (arrivals falls : List ℕ)
    (same : (cell : Cell) → Memᴰ cell net.gates → (p : Pin) → Memᴰ p cell.pins →
    fall_of falls p ≡ p.delay) where
  abbrev single : Circuit
  single = record { net = net; arrivals = arrivals; slopes = alike }

  abbrev double : Circuit
  double = record { net = net; arrivals = arrivals; slopes = apart falls }

  pub equal-times : (vector : List Bool) → times_of double vector ≡ times_of single vector
  unfolding times_of
  equal-times vector =
      grow-cong 0 _ _ arrivals net.gates
      (λ cell m time.
      ap (settles (λ (p : Pin). value_of net vector p.driver) (ready_at time) cell.kind)
      (pins-for-equal falls cell.pins (same cell m) (ends_at net vector cell)))

  pub equal-tops : tops_of double ≡ tops_of single
  unfolding tops_of
  equal-tops =
      grow-cong 0 _ _ arrivals net.gates
      (λ cell m top. ap (last (ready_at top)) (slowest-equal falls cell.pins (same cell m)))

  -- so the circuit settles at the same time
  pub equal-circuit : (vector : List Bool) → circuit_time double vector ≡ circuit_time single vector
  unfolding circuit_time
  equal-circuit vector = ap (λ (times : List ℕ). last (λ node. get_or times node 0) net.outputs) (equal-times vector)

-- ---- of an accepted file

module _ (file : List ℕ) (shape : Shape) (h : Holds file shape) (falls : List ℕ)
    (equal : (pin : ℕ) → pin < shape.pins → get_or falls pin 0 ≡ delay_at file shape pin) where
  own-delays : (cell : Cell) → Memᴰ cell (netlist_at file shape).gates → (p : Pin) → Memᴰ p cell.pins →
      fall_of falls p ≡ p.delay
  unfolding pin_at
  own-delays cell m p i =
      let g =
      map-mem (cell_at file shape) (up_from 0 shape.gates) cell
      (subst (λ (gs : List Cell). Memᴰ cell gs) (net-gates file shape) m)
      in
      let number = up_from-within 0 shape.gates g.0 g.1 in
      let w = pin-only file shape g.0 p (subst (λ (c : Cell). Memᴰ p c.pins) g.2 i) in
      let within = h.pins-within g.0 (omega arith) in
      ap (fall_of falls) w.3
      ∙ equal w.0 (omega (arith, w.2))
      ∙ ap (λ (q : Pin). q.delay) (sym w.3)

  -- the file's own delays as the list give the single form's times and tops
  pub equal-lists : (arrivals : List ℕ) (vector : List Bool) →
      (times_of (circuit_with file shape arrivals (apart falls)) vector
      ≡ times_of (circuit_at file shape arrivals) vector)
      × (tops_of (circuit_with file shape arrivals (apart falls)) ≡ tops_of (circuit_at file shape arrivals))
  equal-lists arrivals vector = (
    equal-times (netlist_at file shape) arrivals falls own-delays vector,
    equal-tops (netlist_at file shape) arrivals falls own-delays,
  )

  -- and so the single form's evaluation
  pub equal-evaluation : (arrivals vector : List ℕ) (values_room times_room : ℕ) →
      evaluation_of (circuit_with file shape arrivals (apart falls)) vector values_room times_room
      ≡ evaluation_of (circuit_at file shape arrivals) vector values_room times_room
  unfolding evaluation_of settled
  equal-evaluation arrivals vector values_room times_room =
      let net = netlist_at file shape in
      ap₂
      (λ (time : ℕ) (times : List ℕ).
      unless_refused (checked (evaluation_rows (circuit_at file shape arrivals) vector values_room times_room))
      (refused values_room times_room)
      (record {
        answer = Ok time;
        values = map bit (values_of net (bits vector)) ++ replicate (values_room - node_count net) 0;
        times = times ++ replicate (times_room - node_count net) 0;
      }))
      (equal-circuit net arrivals falls own-delays (bits vector))
      (equal-times net arrivals falls own-delays (bits vector))

-- ---- of any bytes and any arrivals

-- a list of the file's own delays is one small delay for each pin
own-small : {file : List ℕ} {shape : Shape} → Holds file shape → (falls : List ℕ) → length falls ≡ shape.pins →
    ((pin : ℕ) → pin < shape.pins → get_or falls pin 0 ≡ delay_at file shape pin) → (pin : ℕ) → get_or falls pin 0 ≤ 999
own-small {file} {shape} h falls long equal pin = go (decide (ltb pin shape.pins))
  where
    go : T (ltb pin shape.pins) ⊎ (T (ltb pin shape.pins) → ⊥) → get_or falls pin 0 ≤ 999
    go (inl t) =
        let l = ltb→lt pin shape.pins t in let e = equal pin l in let d = h.delays-small pin l in omega arith
    go (inr f) =
        let l = nltb→le pin shape.pins (not_T (ltb pin shape.pins) f) in
        let e = get_or-eq_default falls 0 {n = pin} (omega arith) in
        omega arith

module _ (file arrivals : List ℕ) (slopes : Slopes) (vector : List ℕ) (values_room times_room : ℕ) where
  -- the evaluation of what the checks of the file, the arrivals and the slopes accept
  of-accepted : (shape : Shape) → open_circuit_of file arrivals ≡ Ok shape →
      checked (slope_rows shape.pins slopes) ≡ Ok tt →
      evaluation file arrivals slopes vector values_room times_room
      ≡ evaluation_of (circuit_with file shape arrivals slopes) vector values_room times_room
  unfolding evaluation evaluation_of
  of-accepted shape e f =
      call-accepted file arrivals slopes (λ circuit. evaluation_rows circuit vector values_room times_room)
      (refused values_room times_room)
      (λ circuit. settled circuit vector values_room times_room) e f

  -- and of what the checks of the file and the arrivals refuse
  of-rejected : (refusal : Refusal) → open_circuit_of file arrivals ≡ Err refusal →
      evaluation file arrivals slopes vector values_room times_room ≡ refused values_room times_room refusal
  unfolding evaluation
  of-rejected refusal e =
      call-rejected file arrivals slopes (λ circuit. evaluation_rows circuit vector values_room times_room)
      (refused values_room times_room)
      (λ circuit. settled circuit vector values_room times_room) e

-- the rise-fall evaluation with the file's own delays as the list is the single form's, refusals and all
pub equal-calls : (file arrivals falls vector : List ℕ) (values_room times_room : ℕ) →
    length falls ≡ (shape_of file).pins →
    ((pin : ℕ) → pin < (shape_of file).pins → get_or falls pin 0 ≡ delay_at file (shape_of file) pin) →
    evaluation file arrivals (apart falls) vector values_room times_room
    ≡ evaluation file arrivals alike vector values_room times_room
equal-calls file arrivals falls vector values_room times_room long equal = go (open_circuit_of file arrivals) refl
  where
    go : (o : Result Shape Refusal) → open_circuit_of file arrivals ≡ o →
        evaluation file arrivals (apart falls) vector values_room times_room
        ≡ evaluation file arrivals alike vector values_room times_room
    go (Err refusal) e =
        of-rejected file arrivals (apart falls) vector values_room times_room refusal e
        ∙ sym (of-rejected file arrivals alike vector values_room times_room refusal e)
    go (Ok shape) e =
        let is = (accepted-both file arrivals e).1 in
        let h = (accepted file arrivals e).holds in
        let many : length falls ≡ shape.pins = long ∙ ap (λ (s : Shape). s.pins) is in
        let own =
        subst (λ (s : Shape). (pin : ℕ) → pin < s.pins → get_or falls pin 0 ≡ delay_at file s pin) is equal
        in
        of-accepted file arrivals (apart falls) vector values_room times_room shape e
        (small-passes shape.pins falls many (own-small h falls many own))
        ∙ equal-evaluation file shape h falls own arrivals vector values_room times_room
        ∙ sym (of-accepted file arrivals alike vector values_room times_room shape e refl)
