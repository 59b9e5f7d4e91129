-- What an accepted delay is, with no word of formula or refutation. Interface: Largest.
use Rattle.std.specs.Prelude.{◌≡◌, Bool, List, ℕ, ◌≤◌, length}
use Rattle.netlist.specs.Netlist.{Circuit}
use Rattle.settle.specs.Settling.{circuit_time}

-- the delay is the largest settling time over all vectors of length I: none settles later, and some settles at it
pub record Largest (circuit : Circuit) (delay : ℕ) : Type 0 where
  pub bound : (vector : List Bool) → length vector ≡ circuit.net.inputs → circuit_time circuit vector ≤ delay
  pub reached : (vector : List Bool) × (length vector ≡ circuit.net.inputs) × (circuit_time circuit vector ≡ delay)
