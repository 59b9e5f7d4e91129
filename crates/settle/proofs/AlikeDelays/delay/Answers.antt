-- `Alike::delay` meets its contract: the file's delay. Assumes nothing.
use Rattle.netlist.specs.File.{pin_at}
use Rattle.settle.proofs.AlikeDelays.delay.Goals as goal

pub returns-clause-value : goal.returns-clause-value
unfolding pin_at
returns-clause-value c = c.delay.ensures.value
