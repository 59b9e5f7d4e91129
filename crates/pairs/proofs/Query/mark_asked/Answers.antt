-- `pairs::Query::mark_asked` meets its contract: what the outputs and the pins walked by ask for is marked. Assumes
-- nothing.
use mathlib.Core.Path.{◌≡◌}
use Prim.Native.Nat.{◌+◌, ◌-◌, ◌<◌}
use native.Mathlib.Omega.{arith}
use lib.ListN.{length}
use Rattle.netlist.specs.Netlist.{slopes_of}
use Rattle.pairs.specs.Table.{pairs_in}
use Rattle.pairs.proofs.Rails.{rail-up}
use Rattle.pairs.proofs.Linking.{link-gate, link-next}
use Rattle.pairs.proofs.Walking.{Here, walking-starts, walking_here, walking-ends}
use Rattle.pairs.proofs.Ending.{drives-above}
use Rattle.pairs.proofs.Query.mark_asked.Goals as goal
use Rattle.pairs.proofs.Query.mark_asked.Goals.{At-loop-at}

-- the link of a turn
here : (c : At-loop-at) → 0 < c.loop-at.at →
    let given = c.args in
    let query = given.self.now in
    Here (pairs_in given.found.now.pairs.now) query.accepted.now.file.now query.accepted.now.shape
    (slopes_of query.accepted.now.form) query.target given.f given.top
    query.fanout.now.links c.mark_output-span.new.marks
    c.loop-at.marks
    c.loop-at.at
here c h = walking_here c.loop-at.invariant.0 h

-- the link's gate and pin
at_pin : (c : At-loop-at) (h : 0 < c.loop-at.at) → c.loop-at.at - 1 ≡ (here c h).pin.1
at_pin c h = omega (arith, (here c h).link.pin)

pub loop-at-init : goal.loop-at-init
loop-at-init c =
    let counts = c.args.self.now.accepted.now.given.holds.counts in
    let low : c.args.f < length c.args.self.now.fanout.now.heads =
    omega (arith, c.requires.0.linked.long, c.requires.1, counts.inputs-few, counts.gates-few)
    in
    (walking-starts {n = 2048} (c.requires.0.linked.chains.of c.args.f low), c.mark_output-span.ensures.1)

pub offset_bounds-self-at : goal.offset_bounds-self-at
offset_bounds-self-at c =
    let now = here (goal.at.offset_bounds-self-at c).At-loop-at c.loop-at-test.true in
    let holds = c.args.self.now.accepted.now.given.holds in
    omega (arith, now.link.pin, (drives-above holds now.drives).2, holds.counts.pins-few)

pub bounds-self-at : goal.bounds-self-at
bounds-self-at c =
    let now = here (goal.at.bounds-self-at c).At-loop-at c.loop-at-test.true in
    let holds = c.args.self.now.accepted.now.given.holds in
    omega (arith, now.link.pin, (drives-above holds now.drives).2, holds.counts.pins-few)

pub mark_link-span-requires : goal.mark_link-span-requires
mark_link-span-requires c =
    let test = c.loop-at-test.true in
    let given = c.requires in
    let now = here (goal.at.mark_link-span-requires c).At-loop-at test in
    let above = drives-above c.args.self.now.accepted.now.given.holds now.drives in
    rw (link-gate now.link, at_pin (goal.at.mark_link-span-requires c).At-loop-at test) (
      above.1,
      above.2,
      omega (
        arith,
        given.2,
        rail-up (slopes_of c.args.self.now.accepted.now.form) (c.args.f + 1)
            (c.args.self.now.accepted.now.shape.inputs + now.pin.0) (omega (arith, above.0)),
      ),
      given.3,
      given.4,
      omega (arith, given.5, c.loop-at.auto.marks, c.mark_output-span.auto.marks),
      c.loop-at.invariant.1,
    )

pub loop-at-smaller : goal.loop-at-smaller
loop-at-smaller c =
    let link = (here (goal.at.loop-at-smaller c).At-loop-at c.loop-at-test.true).link in
    omega (arith, link-next link, link.back)

pub loop-at-preserved : goal.loop-at-preserved
loop-at-preserved c =
    let test = c.loop-at-test.true in
    let now = here (goal.at.loop-at-preserved c).At-loop-at test in
    let marked = c.mark_link-span in (
      rw (link-next now.link)
          (now.walked _ (rw (link-gate now.link, at_pin (goal.at.loop-at-preserved c).At-loop-at test) at
          marked.ensures.0)),
      marked.ensures.1,
    )

pub returns : goal.returns
returns c = (
  walking-ends c.loop-at.invariant.0 (omega arith)
      c.mark_output-span.ensures.0,
  c.loop-at.invariant.1,
)
