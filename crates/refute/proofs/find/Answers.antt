-- `refute::find` meets its contract: the parts passed and those still to pass are the number. Assumes nothing.
use Rattle.refute.proofs.Cutting as C
use Rattle.refute.proofs.find.Goals as goal

pub returns-then-left-eq0-clause-found : goal.returns-then-left-eq0-clause-found
returns-then-left-eq0-clause-found c =
    C.found_here c.loop-zero.invariant c.in-Some.ensures.1 c.in-Some.ensures.0 c.if-left-eq0.true

pub loop-zero-preserved : goal.loop-zero-preserved
loop-zero-preserved c =
    C.finding-more c.loop-zero.invariant c.in-Some.ensures.1 c.in-Some.ensures.0 c.if-left-eq0.false

pub returns-clause-found : goal.returns-clause-found
returns-clause-found c = C.found_none c.loop-zero.invariant c.in_default.ensures
