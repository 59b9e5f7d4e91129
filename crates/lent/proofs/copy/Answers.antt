-- `lent::copy` meets its contract: one entry more is copied. Assumes nothing.
use Rattle.lent.proofs.Filling as F
use Rattle.lent.proofs.copy.Goals as goal

pub loop-i-preserved : goal.loop-i-preserved
loop-i-preserved g c =
    F.filled_more c.loop-i.invariant c.index-from-i.result c.index-from-i.result c.loop-i-test.true c.index-from-i.is
