-- `Before::parity` meets its contract: the two pins' values say where the gate ends, and their signals for this end
-- make the gate's. Assumes nothing.
use mathlib.Core.Path.{refl}
use Prim.Native.Nat.{◌+◌}
use Rattle.settle.specs.Steps.{pin_in, pin_signal}
use Rattle.settle.proofs.Pins as L
use Rattle.settle.proofs.Slopes as Ends
use Rattle.settle.proofs.Before.parity.Goals as goal

pub returns : goal.returns
unfolding pin_signal
returns g c =
    rw (c.max.ensures, c.signal-a.ensures, c.signal-b.ensures, L.two-pins)
    (Ends.parity-ends _ _ _ _ c.args.equal (pin_in c.args.self.now.accepted.now c.args.first)
    (pin_in c.args.self.now.accepted.now (c.args.first + 1))
    c.value.ensures
    c.value-2.ensures
    refl)
