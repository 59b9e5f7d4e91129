-- `Before::value` meets its contract: the value at the driver that the file says. Assumes nothing.
use Rattle.netlist.specs.File.{pin_at}
use Rattle.settle.proofs.Before.value.Goals as goal

pub returns : goal.returns
unfolding pin_at
returns g c = rw c.driver.ensures.value
