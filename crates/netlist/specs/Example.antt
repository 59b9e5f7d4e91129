-- Circuit A (rule X1): its 48 bytes, and that they decode to the circuit that the rule describes. Interface: circuit_a,
-- described_a, decodes.
use Rattle.std.specs.Prelude.{◌≡◌, refl, true, false, List, [], ◌∷◌, ℕ}
use Rattle.netlist.specs.declared.Kind.TheVariants.{Simple}
use Rattle.std.specs.Prelude.{Ok}
use Rattle.netlist.specs.Netlist.{Netlist, Pin}
use Rattle.netlist.specs.Kinds.{pins_fit, kind_of}
use Rattle.netlist.specs.File.{
  table_bytes,
  shape_of,
  gate_at,
  pin_at,
  pins_from,
  cell_of,
  cell_at,
  netlist_at,
  netlist_of,
}
use Rattle.netlist.specs.Open.{
  open_of,
  netlist_rows,
  first_wrong,
  count_wrong,
  back_wrong,
  pins_before,
  gate_wrong,
  gate_place,
  sum_wrong,
  pins_at,
  pin_wrong,
  pin_place,
  output_wrong,
  output_place,
}

-- the 48 bytes
unfoldable pub circuit_a : List ℕ
circuit_a =
    1 ∷ 1 ∷ 0 ∷ 0 ∷ 3 ∷ 2 ∷ 1 ∷ 0 ∷ 5 ∷ 2 ∷ 3 ∷ 0 ∷
    0 ∷ 0 ∷ 3 ∷ 0 ∷ 2 ∷ 0 ∷ 1 ∷ 0 ∷ 1 ∷ 0 ∷ 1 ∷ 0 ∷ 3 ∷ 0 ∷ 1 ∷ 0 ∷ 1 ∷ 0 ∷ 1 ∷ 0 ∷
    4 ∷ 0 ∷ 34 ∷ 0 ∷ 0 ∷ 0 ∷ 2 ∷ 0 ∷ 3 ∷ 0 ∷ 5 ∷ 0 ∷ 1 ∷ 0 ∷ 1 ∷ 0 ∷ []

-- a pin by its number, its driver and its delay
abbrev pin : ℕ → ℕ → ℕ → Pin
pin number driver delay = record { driver = driver; delay = delay; number = number }

-- node 2 a BUF of a with delay 3, node 3 an AND of node 2 and b, node 4 an OR of node 3 and b, their pins with delay 1
unfoldable pub described_a : Netlist
described_a =
    record {
      inputs = 2;
      gates =
          record { kind = Simple false false; pins = pin 0 0 3 ∷ [] }
          ∷ record { kind = Simple false false; pins = pin 1 2 1 ∷ pin 2 1 1 ∷ [] }
          ∷ record { kind = Simple true true; pins = pin 3 3 1 ∷ pin 4 1 1 ∷ [] } ∷ [];
      outputs = 4 ∷ [];
    }

-- they are accepted, and say that circuit
pub decodes : (open_of circuit_a ≡ Ok (shape_of circuit_a)) × (netlist_of circuit_a ≡ described_a)
unfolding
    circuit_a described_a open_of netlist_rows first_wrong count_wrong back_wrong pins_before gate_wrong gate_place
    sum_wrong pins_at pin_wrong pin_place output_wrong output_place pins_fit kind_of table_bytes shape_of gate_at
    pin_at pins_from cell_of cell_at netlist_at
decodes = (refl, refl)
