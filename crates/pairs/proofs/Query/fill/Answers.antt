-- `pairs::Query::fill` meets its contract: what is found and what is marked are all that is asked for. Assumes nothing.
use mathlib.Core.Path.{◌≡◌, refl, ap}
use Prim.Native.Nat.{ℕ, ◌+◌, ◌-◌, ◌/◌, ◌≤◌, ◌<◌}
use native.Mathlib.Omega.{arith}
use lib.ListN.{length, get_or, set, length-set, length-drop}
use Rattle.netlist.specs.Netlist.{slopes_of}
use Rattle.settle.specs.Steps.{latest}
use Rattle.pairs.specs.Rails.{node_of}
use Rattle.pairs.proofs.Rails.{node-below, rail-sum, rail-last}
use Rattle.pairs.proofs.Bits.{one_shifted, highest-of}
use Rattle.pairs.proofs.Flat.{part}
use Rattle.pairs.proofs.Topping.{tops-long}
use Rattle.pairs.proofs.Ending.{ended-part}
use Rattle.pairs.proofs.Step.{first_rail, last_rail}
use Rattle.pairs.proofs.Filling.{Filling, filling-sorted, filling-ended, filling-top}
use Rattle.pairs.proofs.Finding.{
  past-starts,
  past-below,
  past-marked,
  past-ends,
  finding-past,
  finding-next,
  finding-more,
  finding-full,
}
use Rattle.pairs.proofs.Query.fill.Goals as goal
use Rattle.pairs.proofs.Query.fill.Goals.{After-node_of-node, After-min-top}

-- there is a place for each rail of a gate, and for the one after the last
places : (c : After-min-top) →
    length c.loop-rail.ends
    + first_rail c.args.self.now.accepted.now.shape (slopes_of c.args.self.now.accepted.now.form)
    ≡ last_rail c.args.self.now.accepted.now.shape (slopes_of c.args.self.now.accepted.now.form) + 1
places c =
    let accepted = c.args.self.now.accepted.now in
    omega (
      arith,
      c.loop-rail.invariant.0,
      c.requires.5,
      rail-sum (slopes_of accepted.form) accepted.shape.inputs accepted.shape.gates,
    )

-- the rail's node
node-low : (c : After-node_of-node) →
    c.node_of-node.result
    < c.args.self.now.accepted.now.shape.inputs + c.args.self.now.accepted.now.shape.gates
node-low c =
    let accepted = c.args.self.now.accepted.now in
    let below =
    node-below (slopes_of accepted.form) (accepted.shape.inputs + accepted.shape.gates) (c.loop-rail.rail - 1)
    (omega (arith, c.loop-rail.invariant.1.filling.nodes, c.loop-rail-test.true))
    in
    omega (arith, c.node_of-node.ensures)

-- the top that is read
top-is : (c : After-min-top) →
    get_or c.args.self.now.tops.now c.node_of-node.result 0
    ≡ get_or c.args.self.now.tops.now
    (node_of (slopes_of c.args.self.now.accepted.now.form) (c.loop-rail.rail - 1)) 0
top-is c = ap (λ (n : ℕ). get_or c.args.self.now.tops.now n 0) c.node_of-node.ensures

-- the top of the rail, or the target
top-low : (c : After-min-top) →
    (c.min-top.result ≤ latest) × (c.min-top.result / 64 + 1 < length c.loop-rail.marks)
top-low c =
    let accepted = c.args.self.now.accepted.now in
    let small =
    filling-top (slopes_of accepted.form) accepted.given accepted.sloped _ c.loop-rail.invariant.1.filling
    (omega (arith, c.rail_count-first.ensures, c.loop-rail-test.true)) c.requires.0.topped _ (top-is c)
    in
    let least = c.min-top.ensures in
    let room = c.requires.3 c.min-top.result (omega arith) (omega arith) in
    (omega arith, omega (arith, c.loop-rail.auto.marks))

-- the rail, of which nothing is found
lower : (c : After-min-top) →
    let query = c.args.self.now in
    Filling query.accepted.now.file.now query.accepted.now.shape query.accepted.now.arrivals.now
    (slopes_of query.accepted.now.form) query.target c.args.table.now c.loop-rail.table
    (set c.loop-rail.ends (c.loop-rail.rail - 1 + 1 - c.rail_count-first.result)
    (length c.args.table.now / 2 - c.loop-rail.at))
    c.loop-rail.at (c.loop-rail.rail - 1) (c.min-top.result + 1)
lower c =
    let accepted = c.args.self.now.accepted.now in
    let first = c.rail_count-first.ensures in
    past-below (slopes_of accepted.form) accepted.given accepted.sloped _ c.loop-rail.invariant.1 _ _ _ _
    (omega (arith, c.loop-rail-test.true)) c.requires.0.topped (top-is c) c.min-top.ensures
    (omega (arith, c.loop-rail-test.true))
    (omega (arith, places c, c.loop-rail.invariant.1.filling.nodes))
    refl

pub loop-rail-init : goal.loop-rail-init
loop-rail-init c =
    let accepted = c.args.self.now.accepted.now in (
      refl,
      past-starts (slopes_of accepted.form) accepted.given accepted.sloped _ _ _ _ _
          (rw c.nodes.ensures at c.rail_count-after.ensures) c.requires.1 c.requires.2,
    )

pub bounds-self-node : goal.bounds-self-node
bounds-self-node c =
    let accepted = c.args.self.now.accepted.now in
    omega (
      arith,
      tops-long _ accepted.given accepted.sloped c.requires.0.topped,
      node-low (goal.at.bounds-self-node c).After-node_of-node,
    )

pub invariant_of-found : goal.invariant_of-found
invariant_of-found c =
    let accepted = c.args.self.now.accepted.now in
    let slopes = slopes_of accepted.form in
    record {
      sorted = filling-sorted slopes accepted.given accepted.sloped _ c.loop-rail.invariant.1.filling;
      ended =
          ended-part _ _ (filling-ended slopes accepted.given accepted.sloped _ (lower c)) (omega arith) (omega arith)
          (omega arith) (omega (arith, c.loop-rail.invariant.1.filling.nodes))
          (rw length-set (omega (arith, places c)));
    }

pub mark_asked-low-requires : goal.mark_asked-low-requires
mark_asked-low-requires c =
    let accepted = c.args.self.now.accepted.now in
    let low = (goal.at.mark_asked-low-requires c).After-min-top in
    let top = top-low low in (
      c.requires.0,
      node-low (goal.at.mark_asked-low-requires c).After-node_of-node,
      rail-last (slopes_of accepted.form) (c.loop-rail.rail - 1) _ c.node_of-node.ensures,
      rw part (simp (length-drop, length-set) (omega (arith, places low))),
      omega arith,
      omega arith,
      c.loop-rail.invariant.1.clear,
    )

pub loop-word-init : goal.loop-word-init
loop-word-init c =
    let accepted = c.args.self.now.accepted.now in
    let low = (goal.at.loop-word-init c).After-min-top in
    let marked = c.mark_asked-low in
    past-marked (slopes_of accepted.form) accepted.given accepted.sloped _ c.loop-rail.invariant.1 _ _
    c.node_of-node.ensures (lower low) marked.ensures.0 marked.ensures.1
    (omega (arith, marked.ensures.1.within, top-low low, marked.auto.marks))

pub loop-rail-preserved : goal.loop-rail-preserved
loop-rail-preserved c =
    let accepted = c.args.self.now.accepted.now in (
      simp length-set c.loop-rail.invariant.0,
      finding-past (slopes_of accepted.form) accepted.given accepted.sloped _ c.loop-word.invariant (omega arith),
    )

pub loop-bits-init : goal.loop-bits-init
loop-bits-init c =
    let accepted = c.args.self.now.accepted.now in
    finding-next (slopes_of accepted.form) accepted.given accepted.sloped _ c.loop-word.invariant (omega arith)

pub returns-then-at-eq0 : goal.returns-then-at-eq0
returns-then-at-eq0 c =
    let accepted = c.args.self.now.accepted.now in
    let bit = c.ilog2-bit.ensures in
    finding-full (slopes_of accepted.form) accepted.given accepted.sloped _ c.loop-bits.invariant
    (highest-of bit.power_le bit.next_power_gt bit.bound) c.if-at-eq0.true

pub loop-bits-preserved : goal.loop-bits-preserved
loop-bits-preserved c =
    let accepted = c.args.self.now.accepted.now in
    let bit = c.ilog2-bit.ensures in
    finding-more (slopes_of accepted.form) accepted.given accepted.sloped _ c.loop-bits.invariant
    (highest-of bit.power_le bit.next_power_gt bit.bound) _ _ (omega arith) c.put_pair.ensures.0 c.put_pair.ensures.1
    (ap (λ (x : ℕ). c.loop-bits.bits - x) (one_shifted c.ilog2-bit.result bit.bound))

pub returns : goal.returns
returns c =
    let accepted = c.args.self.now.accepted.now in
    past-ends (slopes_of accepted.form) accepted.given accepted.sloped _ c.loop-rail.invariant.1
    (omega (arith, c.rail_count-first.ensures))
