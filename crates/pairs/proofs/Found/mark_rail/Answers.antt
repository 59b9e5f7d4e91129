-- `pairs::Found::mark_rail` meets its contract: what the pairs before place k ask for is marked. Assumes nothing.
use native.Mathlib.Omega.{arith}
use Rattle.pairs.proofs.Flat.{pairs-length}
use Rattle.pairs.proofs.Asking.{pin-starts, pin-here, pin-more, pin-ends}
use Rattle.pairs.proofs.Spanning.{nothing-asked, spans-pin}
use Rattle.pairs.proofs.Found.mark_rail.Goals as goal

pub returns-then-end-begin : goal.returns-then-end-begin
returns-then-end-begin c =
    let given = c.requires in (
      nothing-asked c.args.self.now.sorted given.4 given.3 c.pairs_before-begin.ensures c.pairs_before-end.ensures
          (omega arith),
      given.6,
    )

pub loop-k-init : goal.loop-k-init
loop-k-init c = pin-starts c.pairs_before-begin.ensures

pub time_at-requires : goal.time_at-requires
time_at-requires c = omega (arith, pairs-length c.args.self.now.pairs.now, c.pairs_before-end.ensures.within)

pub loop-k-preserved : goal.loop-k-preserved
loop-k-preserved c =
    let given = c.requires in
    pin-more _ c.loop-k.invariant
    (pin-here c.loop-k.k _ c.args.self.now.sorted given.4 given.3 c.pairs_before-begin.ensures
    c.pairs_before-end.ensures (omega arith) (omega arith) c.time_at.ensures)
    c.time_at.ensures c.mark.ensures

pub time_at-requires-2 : goal.time_at-requires-2
time_at-requires-2 c = omega (arith, pairs-length c.args.self.now.pairs.now, c.pairs_before-end.ensures.within)

pub time_at-requires-3 : goal.time_at-requires-3
time_at-requires-3 c = omega (arith, pairs-length c.args.self.now.pairs.now, c.pairs_before-end.ensures.within)

pub returns : goal.returns
returns c =
    let given = c.requires in
    let adds = pin-ends c.loop-k.invariant c.pairs_before-end.ensures (omega arith) in (
      adds,
      spans-pin c.args.self.now.sorted given.4 given.3 c.pairs_before-begin.ensures c.pairs_before-end.ensures
          (omega arith) given.6 adds (rw c.time_at-2.ensures at c.with.ensures.low)
          (rw c.time_at-3.ensures at c.with.ensures.high),
    )
