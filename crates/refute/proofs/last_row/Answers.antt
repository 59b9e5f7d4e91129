-- `refute::last_row` meets its contract: the clauses passed are not empty. Assumes nothing.
use Rattle.refute.proofs.Walking as W
use Rattle.refute.proofs.last_row.Goals as goal

pub returns-in-Some-next_zero : goal.returns-in-Some-next_zero
returns-in-Some-next_zero c =
    W.not_last c.loop-zero.invariant c.in-Some.ensures.1 c.in-Some.ensures.0 c.if-zero-start.true
    c.in-Some-next_zero.ensures.1 c.in-Some-next_zero.ensures.0

pub returns-in-None : goal.returns-in-None
returns-in-None c =
    W.is_last c.loop-zero.invariant c.in-Some.ensures.1 c.in-Some.ensures.0 c.if-zero-start.true c.in-None.ensures

pub loop-zero-preserved : goal.loop-zero-preserved
loop-zero-preserved c =
    W.counting_more c.loop-zero.invariant c.in-Some.ensures.1 c.in-Some.ensures.0 c.if-zero-start.false

pub returns : goal.returns
returns c = W.none-empty c.loop-zero.invariant c.in_default.ensures
