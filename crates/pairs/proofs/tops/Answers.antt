-- `pairs::tops` meets its contract: the nodes before gate i have their tops, and what is after all nodes is zeroed.
-- Assumes nothing.
use native.Mathlib.Omega.{arith}
use Rattle.pairs.proofs.Topping.{topping-starts, topping-small, topping-more, topping-ends}
use Rattle.pairs.proofs.tops.Goals as goal

pub loop-i-init : goal.loop-i-init
loop-i-init c = topping-starts _ c.args.accepted.now.given c.args.accepted.now.sloped c.requires c.copy.ensures

pub overflow_cast-tops : goal.overflow_cast-tops
overflow_cast-tops c =
    omega (
      arith,
      topping-small _ c.args.accepted.now.given c.args.accepted.now.sloped _ c.loop-i.invariant (omega arith)
          c.last_ready-top.ensures,
    )

pub loop-i-preserved : goal.loop-i-preserved
loop-i-preserved c =
    topping-more _ c.args.accepted.now.given c.args.accepted.now.sloped _ c.loop-i.invariant (omega arith)
    c.last_ready-top.ensures

pub returns : goal.returns
returns c =
    topping-ends _ c.args.accepted.now.given c.args.accepted.now.sloped _ _ c.loop-i.invariant (omega arith)
    (omega (arith, c.loop-i.auto.tops, c.copy.auto)) (rw c.nodes.ensures at c.zero_rest.ensures)
