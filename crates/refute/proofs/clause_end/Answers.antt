-- `refute::clause_end` meets its contract: none of the numbers passed is 0, so there is one behind them. Assumes
-- nothing.
use Rattle.std.proofs.Common.{◌∙◌}
use Rattle.refute.proofs.Walking as W
use Rattle.refute.proofs.clause_end.Goals as goal

pub loop-end-preserved : goal.loop-end-preserved
loop-end-preserved c = (
  W.zeroless-more _ c.loop-end.invariant.0 c.loop-end.invariant.1 c.code_at.ensures.0 c.loop-end-test.true,
  W.one-after _ _ c.requires.ended c.loop-end.invariant.1
      (λ e. c.loop-end-test.true (c.code_at.ensures.0 ∙ e)),
)
