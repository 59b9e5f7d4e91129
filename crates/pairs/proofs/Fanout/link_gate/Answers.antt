-- `pairs::Fanout::link_gate` meets its contract: the pins of the gates before and the first k pins are linked.
-- Assumes nothing.
use mathlib.Core.Path.{◌≡◌, refl}
use Prim.Native.Nat.{◌+◌, ◌≤◌, ◌<◌}
use native.Mathlib.Omega.{arith}
use lib.ListN.{length-set}
use Rattle.netlist.specs.Open.{pins_before}
use Rattle.netlist.proofs.GateRead.{gate-fields, gate-within}
use Rattle.pairs.proofs.Linking.{to-starts, to-more, to-ends, first-pin, next-pin}
use Rattle.pairs.proofs.Fanout.link_gate.Goals as goal
use Rattle.pairs.proofs.Fanout.link_gate.Goals.{After-driver-driver, At-loop-k}

-- the gate's pins are pins of the file
within : (c : At-loop-k) →
    c.gate-gate.result.first + c.gate-gate.result.count ≤ c.args.accepted.now.shape.pins
within c = gate-within _ c.args.accepted.now.given.holds c.requires.0 c.gate-gate.ensures.value

-- so that there is room for the link of a pin more
room : (c : At-loop-k) → c.loop-k.k < c.gate-gate.result.count → c.gate-gate.result.first + c.loop-k.k < 2048
room c h = omega (arith, within c, c.args.accepted.now.given.holds.counts.pins-few)

-- a pin's driver has a head, and the head is one of the links so far
driver-low : (c : After-driver-driver) →
    c.driver-driver.result < 512
driver-low c =
    let given = c.requires in
    let gate = c.gate-gate in
    let fields = gate-fields _ _ _ _ gate.ensures.value in
    omega (
      arith,
      c.driver-driver.ensures.value,
      c.args.accepted.now.given.holds.drivers-below c.args.number (gate.result.first + c.loop-k.k) given.0
          (omega (arith, fields.0)) (omega (arith, fields.0, fields.1)),
      given.0,
      c.args.accepted.now.given.holds.counts.inputs-few,
      c.args.accepted.now.given.holds.counts.gates-few,
    )

pub loop-k-init : goal.loop-k-init
loop-k-init c =
    let given = c.requires in
    let fields = gate-fields _ _ _ _ c.gate-gate.ensures.value in
    let e : pins_before c.args.accepted.now.file.now c.args.accepted.now.shape c.args.number
    ≡ c.gate-gate.result.first + 0 =
    omega (arith, fields.0, first-pin c.args.accepted.now.given.holds c.args.number given.0)
    in
    (given.1.long, to-starts (rw e at given.1.chains))

pub driver-driver-requires : goal.driver-driver-requires
driver-driver-requires c =
    omega (arith, within (goal.at.driver-driver-requires c).At-loop-k)

pub bounds-self-driver : goal.bounds-self-driver
bounds-self-driver c = omega (arith, driver-low (goal.at.bounds-self-driver c).After-driver-driver)

pub bounds-self-pin : goal.bounds-self-pin
bounds-self-pin c =
    omega (arith, room (goal.at.bounds-self-pin c).At-loop-k (omega arith))

pub bounds-self-driver-in-loop-k : goal.bounds-self-driver-in-loop-k
bounds-self-driver-in-loop-k c =
    omega (arith, driver-low (goal.at.bounds-self-driver-in-loop-k c).After-driver-driver)

pub loop-k-preserved : goal.loop-k-preserved
loop-k-preserved c = (
  simp length-set c.loop-k.invariant.0,
  to-more _ c.loop-k.invariant.1
      (omega (arith, room (goal.at.loop-k-preserved c).At-loop-k (omega arith)))
      (omega (arith, driver-low (goal.at.loop-k-preserved c).After-driver-driver))
      (omega (arith, c.requires.0, c.args.accepted.now.given.holds.counts.gates-few))
      c.driver-driver.ensures.value refl,
)

pub returns : goal.returns
returns c =
    let given = c.requires in
    let number = c.args.number in
    let fields = gate-fields _ _ _ _ c.gate-gate.ensures.value in
    let e : c.gate-gate.result.first + c.loop-k.k
    ≡ pins_before c.args.accepted.now.file.now c.args.accepted.now.shape (c.args.number + 1) =
    omega (
      arith,
      fields.0,
      fields.1,
      first-pin c.args.accepted.now.given.holds c.args.number given.0,
      next-pin c.args.accepted.now.given.holds c.args.number,
    )
    in
    record {
      chains = to-ends _ (rw e at c.loop-k.invariant.1) (omega arith) fields.0 fields.1;
      long = c.loop-k.invariant.0;
    }
