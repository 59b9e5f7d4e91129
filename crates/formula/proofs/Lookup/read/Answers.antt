-- `formula::Lookup::read` meets its contract: entry after entry, what it asks for is stored. Assumes nothing.
use native.Mathlib.Omega.{arith}
use Rattle.formula.proofs.Asking.{reads_more}
use Rattle.formula.proofs.Lookup.read.Goals as goal

pub loop-i-preserved : goal.loop-i-preserved
loop-i-preserved c =
    let moment = c.moment_at-moment.ensures in
    reads_more c.ask-asked.result c.loop-i.invariant (omega (arith, c.requires.1)) moment.0 moment.1
    c.ask-asked.ensures.0 c.store.ensures.0 c.store.ensures.1
