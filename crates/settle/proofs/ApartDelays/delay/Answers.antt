-- `Apart::delay` meets its contract: the file's delay for 1, the list's for 0. Assumes nothing.
use Rattle.netlist.specs.File.{pin_at}
use Rattle.settle.proofs.ApartDelays.delay.Goals as goal

pub returns-then-ends-clause-value : goal.returns-then-ends-clause-value
unfolding pin_at
returns-then-ends-clause-value c = rw c.if-ends.true c.delay.ensures.value

pub returns-clause-value : goal.returns-clause-value
unfolding pin_at
returns-clause-value c = rw c.if-ends.false
