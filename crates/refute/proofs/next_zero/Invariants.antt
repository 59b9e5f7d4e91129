-- `refute::next_zero` meets its contract: none of the numbers passed is 0. Assumes nothing.
use Rattle.refute.proofs.Walking as W
use Rattle.refute.proofs.next_zero.Given as goal

abbrev pub invariant-loop-i : goal.invariant-loop-i
invariant-loop-i l = W.Zeroless l.list l.from l.i
