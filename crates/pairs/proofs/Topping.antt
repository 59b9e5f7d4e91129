-- The tops of all nodes, one gate after the other: the nodes before a gate have their tops, and the gate's is when its
-- last pin is ready by these. Laws: readying-more, readying-ends; topping-starts, topping-small,
-- topping-more, topping-ends; tops-late, topped-tops, topped-arrivals, topped-given, top_read, tops-long.
-- Assumes nothing.
use mathlib.Core.Path.{◌≡◌, refl, sym, ap, ap₂, ◌∙◌}
use mathlib.Core.Bool.{false}
use mathlib.Core.List.{List, [], ◌∷◌, ◌++◌}
use Prim.Native.Nat.{ℕ, suc, ◌+◌, ◌-◌, ◌<◌, ◌≤◌, max}
use native.Mathlib.Omega.{arith}
use native.Mathlib.Numerals.{add-one}
use native.Mathlib.Decide.{ℕ_discrete}
use lib.ListN.{length, get_or, set, take, drop, replicate, length-set, length-take, length-replicate, get_or-append}
use lib.Seq.{length-take-le, take_at, take-append-le, get_or-take, get_or-set_same, get_or-set_other, ext_get_or}
use Rattle.lent.specs.Copied.{Copied}
use Rattle.lent.proofs.Filling.{copied-length}
use Rattle.netlist.specs.declared.Shape.{Shape}
use Rattle.netlist.specs.declared.Gate.{Gate}
use Rattle.netlist.specs.Netlist.{Netlist, Pin, Slopes, alike, apart, slowest, fall_of}
use Rattle.netlist.specs.File.{netlist_at, cell_at, gate_at, pin_at, first_at, driver_at, circuit_with}
use Rattle.netlist.specs.Holds.{Given, Small, Sloped}
use Rattle.netlist.proofs.Entries.{pin-driver, pins-from, pins-done, net-inputs, node-count, node-has}
use Rattle.netlist.proofs.GateRead.{gate-fields}
use Rattle.settle.specs.Settling.{last, ready_at, top_of, tops_of}
use Rattle.settle.proofs.Argument.{last-cong}
use Rattle.settle.specs.Steps.{latest}
use Rattle.settle.proofs.Nodes.{laid, runs, input-top, tops-length, tops-begin, tops-small, Arrives}
use Rattle.netlist.proofs.Slopes.{slowest-only}
use Rattle.pairs.specs.Table.{slow_at}
use Rattle.pairs.specs.Promise.{Topped, Tops}

-- ---- when the last pin of a gate is ready

-- a pin's larger delay
abbrev slow_of : Slopes → Pin → ℕ
slow_of alike p = p.delay
slow_of (apart falls) p = max p.delay (fall_of falls p)

-- one pin more, with its larger delay
last_more : (slopes : Slopes) (time : ℕ → ℕ) (p : Pin) (ps : List Pin) (delay : ℕ) → delay ≡ slow_of slopes p →
    last (ready_at time) (slowest slopes (p ∷ ps)) ≡ max (time p.driver + delay)
    (last (ready_at time) (slowest slopes ps))
last_more alike time p ps delay e = omega arith
last_more (apart falls) time p ps delay e = omega arith

-- none
last_none : (slopes : Slopes) (time : ℕ → ℕ) → last (ready_at time) (slowest slopes []) ≡ 0
last_none alike time = refl
last_none (apart falls) time = refl

-- a pin of the file has the file's delay and the one at its number
slow-pin : (file : List ℕ) (shape : Shape) (slopes : Slopes) (pin : ℕ) →
    slow_at file shape slopes pin ≡ slow_of slopes (pin_at file shape pin)
unfolding pin_at
slow-pin file shape alike pin = refl
slow-pin file shape (apart falls) pin = refl

-- what is ready so far, and what is left
pub record Readying (file : List ℕ) (shape : Shape) (slopes : Slopes) (number : ℕ) (tops : List ℕ) (latest k : ℕ) :
    Type 0 where
  pub left :
      max latest (last (ready_at (λ node. get_or tops node 0))
      (slowest slopes (drop k (cell_at file shape number).pins)))
      ≡ last (ready_at (λ node. get_or tops node 0)) (slowest slopes (cell_at file shape number).pins)

pub readying-more : {file : List ℕ} {shape : Shape} {slopes : Slopes} {number : ℕ} {tops : List ℕ} {latest k : ℕ}
    (g : Gate) (driver delay z : ℕ) → g ≡ gate_at file shape number →
    Readying file shape slopes number tops latest k →
    k < g.count → driver ≡ driver_at file shape (g.first + k) → delay ≡ slow_at file shape slopes (g.first + k) →
    z ≡ max latest (get_or tops driver 0 + delay) → Readying file shape slopes number tops z (k + 1)
readying-more {file} {shape} {slopes} {number} {tops} {latest} {k} g driver delay z own b h e f q =
    let pins = (cell_at file shape number).pins in
    let fields = gate-fields file shape number g own in
    let pin = first_at file shape number + k in
    let same : g.first + k ≡ first_at file shape number + k = omega (arith, fields.0) in
    let r : get_or tops (pin_at file shape (first_at file shape number + k)).driver 0 ≡ get_or tops driver 0 =
    ap (λ (n : ℕ). get_or tops n 0) (pin-driver file shape pin ∙ sym (e ∙ ap (driver_at file shape) same))
    in
    let d : delay ≡ slow_of slopes (pin_at file shape (first_at file shape number + k)) =
    f ∙ ap (slow_at file shape slopes) same ∙ slow-pin file shape slopes pin
    in
    let s : last (ready_at (λ node. get_or tops node 0)) (slowest slopes (drop k (cell_at file shape number).pins))
    ≡ max (get_or tops (pin_at file shape (first_at file shape number + k)).driver 0 + delay)
    (last (ready_at (λ node. get_or tops node 0)) (slowest slopes (drop (suc k) (cell_at file shape number).pins))) =
    ap (λ (l : List Pin). last (ready_at (λ node. get_or tops node 0)) (slowest slopes l))
    (pins-from file shape number k (omega (arith, fields.1)))
    ∙ last_more slopes (λ node. get_or tops node 0) (pin_at file shape pin) (drop (suc k) pins) delay d
    in
    record { left = rw (add-one k) (omega (arith, b.left, s, q, r)) }

pub readying-ends : {file : List ℕ} {shape : Shape} {slopes : Slopes} {number : ℕ} {tops : List ℕ} {latest k : ℕ}
    (g : Gate) →
    g ≡ gate_at file shape number → Readying file shape slopes number tops latest k → g.count ≤ k →
    latest ≡ last (ready_at (λ node. get_or tops node 0)) (slowest slopes (cell_at file shape number).pins)
readying-ends {file} {shape} {slopes} {number} {tops} {latest} {k} g own b h =
    let fields = gate-fields file shape number g own in
    let s : last (ready_at (λ node. get_or tops node 0)) (slowest slopes (drop k (cell_at file shape number).pins))
    ≡ 0 =
    ap (λ (l : List Pin). last (ready_at (λ node. get_or tops node 0)) (slowest slopes l))
    (pins-done file shape number k (omega (arith, fields.1)))
    ∙ last_none slopes (λ node. get_or tops node 0)
    in
    omega (arith, b.left, s)

-- delays that are checked are small
pub sloped-small : (shape : Shape) (slopes : Slopes) → Sloped shape slopes → Small slopes
sloped-small shape alike s = tt
sloped-small shape (apart falls) s = s.1

-- ---- all nodes

-- the nodes before gate i have their tops
pub record Topping (file : List ℕ) (shape : Shape) (arrivals : List ℕ) (slopes : Slopes) (tops : List ℕ) (i : ℕ) :
    Type 0 where
  pub long : shape.inputs + shape.gates ≤ length tops
  pub is : (k : ℕ) → k < shape.inputs + i →
      get_or tops k 0 ≡ top_of (circuit_with file shape arrivals slopes) k

module _ {file : List ℕ} {shape : Shape} {arrivals : List ℕ} (slopes : Slopes) (given : Given file shape arrivals)
    (sloped : Sloped shape slopes) where
  abbrev net : Netlist
  net = netlist_at file shape

  small : Small slopes
  small = sloped-small shape slopes sloped

  arrives : Arrives (circuit_with file shape arrivals slopes)
  arrives = given.arrived.long ∙ sym (net-inputs file shape)

  -- no top is too late
  pub tops-late : (n : ℕ) → top_of (circuit_with file shape arrivals slopes) n ≤ latest
  tops-late n =
      tops-small (circuit_with file shape arrivals slopes) given.holds.valid arrives small given.arrived.early n

  -- the inputs' tops are their arrivals
  pub topping-starts : {tops copied : List ℕ} → shape.inputs + shape.gates ≤ length tops →
      Copied arrivals tops copied → Topping file shape arrivals slopes copied 0
  topping-starts {tops} {copied} h c =
      record {
        long = omega (arith, copied-length c shape.inputs given.arrived.long (omega arith));
        is =
            λ k l.
            let i : k < (netlist_at file shape).inputs = omega (arith, net-inputs file shape) in
            ap (λ (x : List ℕ). get_or x k 0) c.is
            ∙ get_or-append arrivals (drop (length arrivals) tops) 0 k (omega (arith, given.arrived.long))
            ∙ sym (input-top (circuit_with file shape arrivals slopes) arrives k i);
      }

  -- when gate i's last pin is ready by the tops so far is its top
  topping-value : {tops : List ℕ} {i : ℕ} (r : ℕ) → Topping file shape arrivals slopes tops i → i < shape.gates →
      r ≡ last (ready_at (λ node. get_or (take (shape.inputs + i) tops) node 0))
      (slowest slopes (cell_at file shape i).pins) →
      r ≡ top_of (circuit_with file shape arrivals slopes) (shape.inputs + i)
  topping-value {tops} {i} r b h e =
      let node = shape.inputs + i in
      let cell = cell_at file shape i in
      let m = node-has file shape i h in
      e
      ∙ last-cong (ready_at (λ node. get_or (take (shape.inputs + i) tops) node 0))
      (ready_at (top_of (circuit_with file shape arrivals slopes)))
      (slowest slopes cell.pins)
      (λ p j.
      let w = slowest-only slopes small cell.pins p j in
      let l : p.driver < shape.inputs + i =
      omega (arith, w.2, (laid net given.holds.valid).below node cell m w.0 w.1)
      in
      ap (λ (n : ℕ). n + p.delay) (get_or-take node tops p.driver 0 l ∙ b.is p.driver l))
      ∙ sym
      ((runs (circuit_with file shape arrivals slopes) given.holds.valid arrives small (replicate net.inputs false)
      (length-replicate net.inputs false)
      ).top-fixed node cell m)

  -- and is small
  pub topping-small : {tops : List ℕ} {i : ℕ} (r : ℕ) → Topping file shape arrivals slopes tops i → i < shape.gates →
      r ≡ last (ready_at (λ node. get_or (take (shape.inputs + i) tops) node 0))
      (slowest slopes (cell_at file shape i).pins) → r ≤ latest
  topping-small {tops} {i} r b h e =
      omega (arith, topping-value r b h e, tops-late (shape.inputs + i))

  pub topping-more : {tops : List ℕ} {i : ℕ} (r : ℕ) → Topping file shape arrivals slopes tops i → i < shape.gates →
      r ≡ last (ready_at (λ node. get_or (take (shape.inputs + i) tops) node 0))
      (slowest slopes (cell_at file shape i).pins) →
      Topping file shape arrivals slopes (set tops (shape.inputs + i) r) (i + 1)
  topping-more {tops} {i} r b h e =
      record {
        long = rw length-set b.long;
        is = λ k l. pick k l (ℕ_discrete k (shape.inputs + i));
      }
    where
      pick : (k : ℕ) → k < shape.inputs + (i + 1) → Dec (k ≡ shape.inputs + i) →
          get_or (set tops (shape.inputs + i) r) k 0 ≡ top_of (circuit_with file shape arrivals slopes) k
      pick k l (yes q) =
          ap (λ (n : ℕ). get_or (set tops (shape.inputs + i) r) n 0) q
          ∙ get_or-set_same tops (shape.inputs + i) r 0 (omega (arith, b.long))
          ∙ topping-value r b h e
          ∙ ap (top_of (circuit_with file shape arrivals slopes)) (sym q)
      pick k l (no q) = get_or-set_other tops (shape.inputs + i) k r 0 q ∙ b.is k (omega arith)

  -- all have theirs, and what is after them is zeroed
  pub topping-ends : {tops : List ℕ} {i : ℕ} (room : ℕ) (zeroed : List ℕ) → Topping file shape arrivals slopes tops i →
      shape.gates ≤ i → length tops ≡ room →
      zeroed
      ≡ take (shape.inputs + shape.gates) tops ++ replicate (length tops - (shape.inputs + shape.gates)) 0 →
      Topped file shape arrivals slopes room zeroed
  topping-ends {tops} {i} room zeroed b h long z =
      let n = shape.inputs + shape.gates in
      let e : length (take n tops) ≡ n = length-take-le n tops b.long in
      let all : take (shape.inputs + shape.gates) tops ≡ tops_of (circuit_with file shape arrivals slopes) =
      ext_get_or 0 (take n tops) (tops_of (circuit_with file shape arrivals slopes))
      (e ∙ sym (tops-length (circuit_with file shape arrivals slopes) arrives ∙ node-count file shape))
      (λ k l.
      let q : k < shape.inputs + shape.gates = omega arith in
      get_or-take n tops k 0 q ∙ b.is k (omega arith))
      in
      record { is = z ∙ ap₂ (λ (x : List ℕ) (y : ℕ). x ++ replicate (y - n) 0) all long }

  -- which begins with the tops
  pub topped-tops : {room : ℕ} {tops : List ℕ} → Topped file shape arrivals slopes room tops →
      Tops file shape arrivals slopes tops
  topped-tops {room} w =
      let n = shape.inputs + shape.gates in
      record {
        is =
            ap (take n) w.is
            ∙ take_at (tops_of (circuit_with file shape arrivals slopes)) (replicate (room - n) 0) n
            (tops-length (circuit_with file shape arrivals slopes) arrives ∙ node-count file shape);
      }

  -- and so with the arrivals
  pub topped-arrivals : {room : ℕ} {tops : List ℕ} → Topped file shape arrivals slopes room tops →
      take shape.inputs tops ≡ arrivals
  topped-arrivals {room} w =
      let n = shape.inputs + shape.gates in
      let long = tops-length (circuit_with file shape arrivals slopes) arrives ∙ node-count file shape in
      ap (take shape.inputs) w.is
      ∙ take-append-le shape.inputs (tops_of (circuit_with file shape arrivals slopes)) (replicate (room - n) 0)
      (omega arith)
      ∙ ap (λ (k : ℕ). take k (tops_of (circuit_with file shape arrivals slopes))) (sym given.arrived.long)
      ∙ tops-begin (circuit_with file shape arrivals slopes)

  -- which can be read off the tops again
  pub topped-given : {room : ℕ} {tops : List ℕ} → Topped file shape arrivals slopes room tops →
      Given file shape (take shape.inputs tops) × Tops file shape (take shape.inputs tops) slopes tops
  topped-given w = rw (topped-arrivals w) (given, topped-tops w)

  -- what is read at a node's number is its top, and small
  pub top_read : {tops : List ℕ} (f x : ℕ) → Tops file shape arrivals slopes tops → f < shape.inputs + shape.gates →
      x ≡ get_or tops f 0 → (x ≡ top_of (circuit_with file shape arrivals slopes) f) × (x ≤ latest)
  top_read {tops} f x b h e =
      let q : x ≡ top_of (circuit_with file shape arrivals slopes) f =
      e ∙ sym (get_or-take (shape.inputs + shape.gates) tops f 0 h) ∙ ap (λ (l : List ℕ). get_or l f 0) b.is
      in
      (q, omega (arith, q, tops-late f))

  -- a slice that begins with the tops is long enough
  pub tops-long : {tops : List ℕ} → Tops file shape arrivals slopes tops → shape.inputs + shape.gates ≤ length tops
  tops-long {tops} b =
      let e = ap length b.is ∙ tops-length (circuit_with file shape arrivals slopes) arrives ∙ node-count file shape
      in
      omega (arith, length-take (shape.inputs + shape.gates) tops, e)
