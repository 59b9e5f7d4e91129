-- `refute::clause_end` meets its contract: none of the numbers passed is 0, so there is one behind them. Assumes
-- nothing.
use Rattle.std.proofs.Common.{length, ◌-◌, ◌<◌}
use Rattle.refute.proofs.Walking as W
use Rattle.refute.proofs.clause_end.Given as goal

abbrev pub invariant-loop-end : goal.invariant-loop-end
invariant-loop-end l = W.Zeroless l.list l.from l.end × (l.end < length l.list)

abbrev pub decreases-loop-end : goal.decreases-loop-end
decreases-loop-end l = length l.list - l.end
