-- `pairs::last_ready` meets its contract: the latest so far, with what is left, is when the last pin is ready.
-- Assumes nothing.
use native.Mathlib.Omega.{arith}
use borrow.Author.Rules.{rules}
use Rattle.netlist.proofs.GateRead.{gate-within, driver-below}
use Rattle.pairs.proofs.Topping.{readying-more, readying-ends}
use Rattle.pairs.proofs.last_ready.Goals as goal

pub driver-driver-requires : goal.driver-driver-requires
driver-driver-requires c =
    omega (arith, gate-within _ c.args.accepted.now.given.holds c.requires.0 c.gate-gate.ensures.value)

pub slow_at-delay-requires : goal.slow_at-delay-requires
slow_at-delay-requires c =
    omega (arith, gate-within _ c.args.accepted.now.given.holds c.requires.0 c.gate-gate.ensures.value)

pub bounds-tops-driver : goal.bounds-tops-driver
bounds-tops-driver c =
    let below =
    driver-below _ c.args.accepted.now.given.holds c.requires.0 c.gate-gate.ensures.value
    c.loop-k.k _ (omega arith) c.driver-driver.ensures.value
    in
    omega (arith, c.requires.1)

pub loop-k-preserved : goal.loop-k-preserved
loop-k-preserved c =
    readying-more _ _ _ _ c.gate-gate.ensures.value c.loop-k.invariant
    (omega arith) c.driver-driver.ensures.value c.slow_at-delay.ensures.0 (search rules)

pub returns : goal.returns
returns c = readying-ends _ c.gate-gate.ensures.value c.loop-k.invariant (omega arith)
