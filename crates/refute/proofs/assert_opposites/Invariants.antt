-- `refute::assert_opposites` meets its contract: what is left to assert comes to the same. Assumes nothing.
use Rattle.refute.proofs.Reading as R
use Rattle.refute.proofs.assert_opposites.Given as goal

abbrev pub invariant-loop-number : goal.invariant-loop-number
invariant-loop-number l = R.Asserting l.clause l.initial.marks l.marks l.number-index
