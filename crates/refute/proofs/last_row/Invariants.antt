-- `refute::last_row` meets its contract: the clauses passed are not empty. Assumes nothing.
use Rattle.std.proofs.Common.{length, ◌-◌}
use Rattle.refute.proofs.Walking as W
use Rattle.refute.proofs.last_row.Given as goal

abbrev pub invariant-loop-zero : goal.invariant-loop-zero
invariant-loop-zero l = W.Counting l.refutation l.start l.number

abbrev pub decreases-loop-zero : goal.decreases-loop-zero
decreases-loop-zero l = length l.refutation - l.start
