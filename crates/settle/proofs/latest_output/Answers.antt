-- `settle::latest_output` meets its contract: the latest so far and the outputs that are left give the largest time.
-- Assumes nothing.
use Rattle.settle.proofs.Whole as L
use Rattle.settle.proofs.latest_output.Goals as goal

pub loop-position-init : goal.loop-position-init
loop-position-init c = L.passing-starts _ _

pub loop-position-preserved : goal.loop-position-preserved
loop-position-preserved c =
    L.passing-more c.loop-position.invariant c.loop-position-test.true c.output.result c.max-latest.result
    c.output.ensures.value c.max-latest.ensures

pub returns : goal.returns
returns c = L.passing-ends c.loop-position.invariant c.loop-position-test.false
