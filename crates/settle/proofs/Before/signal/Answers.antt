-- `Before::signal` meets its contract: the reads are the pin's driver and its delay for the gate's end.
-- Assumes nothing.
use Rattle.netlist.specs.File.{pin_at}
use Rattle.settle.specs.Steps.{pin_in}
use Rattle.settle.proofs.Slopes as L
use Rattle.settle.proofs.Before.signal.Goals as goal

pub returns : goal.returns
unfolding pin_at
returns g c =
    L.signal-for _ _ _ c.args.ends (pin_in c.args.self.now.accepted.now c.args.pin) c.driver-driver.ensures.value
    c.delay-delay.ensures.value
