-- The netlist file (section N of the rules): where its numbers lie, and the circuit that they stand for. Interface: all
-- of it.
use Rattle.std.specs.Prelude.{List, map, ℕ, ◌+◌, ◌-◌, ◌*◌, length, get_or}
use Rattle.basics.specs.Lists.{up_from}
use Rattle.lent.specs.Bytes.{two_bytes, four_bytes}
use Rattle.netlist.specs.declared.Shape.{Shape}
use Rattle.netlist.specs.declared.Gate.{Gate}
use Rattle.netlist.specs.Netlist.{Netlist, Circuit, Slopes, alike, Cell, Pin}
use Rattle.netlist.specs.Kinds.{kind_of}

-- ---- the trailer (rule N2): back in four bytes, then I, G, P, Q and the version in two each

-- where the trailer begins, the last 14 bytes
abbrev pub trailer : List ℕ → ℕ
trailer file = length file - 14

abbrev pub back : List ℕ → ℕ
back file = four_bytes file (trailer file)

abbrev pub inputs : List ℕ → ℕ
inputs file = two_bytes file (trailer file + 4)

abbrev pub gates : List ℕ → ℕ
gates file = two_bytes file (trailer file + 6)

abbrev pub pins : List ℕ → ℕ
pins file = two_bytes file (trailer file + 8)

abbrev pub outputs : List ℕ → ℕ
outputs file = two_bytes file (trailer file + 10)

abbrev pub version : List ℕ → ℕ
version file = two_bytes file (trailer file + 12)

-- the total of the three tables (rule N4), 4G + 4P + 2Q
unfoldable pub table_bytes : List ℕ → ℕ
table_bytes file = gates file * 4 + pins file * 4 + outputs file * 2

-- the four counts, and where the tables begin
unfoldable pub shape_of : List ℕ → Shape
shape_of file =
    record {
      inputs = inputs file;
      gates = gates file;
      pins = pins file;
      outputs = outputs file;
      tables = trailer file - table_bytes file;
    }

-- ---- the tables, of a file whose tables begin at `tables`

-- a gate's entry (rule N5): its kind, how many pins it has, and in two bytes the first of them
abbrev pub kind_at : List ℕ → Shape → ℕ → ℕ
kind_at file shape gate = get_or file (shape.tables + gate * 4) 0

abbrev pub count_at : List ℕ → Shape → ℕ → ℕ
count_at file shape gate = get_or file (shape.tables + gate * 4 + 1) 0

abbrev pub first_at : List ℕ → Shape → ℕ → ℕ
first_at file shape gate = two_bytes file (shape.tables + gate * 4 + 2)

-- a pin's entry (rule N6): the node that drives it, and its delay
abbrev pub driver_at : List ℕ → Shape → ℕ → ℕ
driver_at file shape pin = two_bytes file (shape.tables + shape.gates * 4 + pin * 4)

abbrev pub delay_at : List ℕ → Shape → ℕ → ℕ
delay_at file shape pin = two_bytes file (shape.tables + shape.gates * 4 + pin * 4 + 2)

-- an output's entry (rule N7): a node
abbrev pub output_at : List ℕ → Shape → ℕ → ℕ
output_at file shape position = two_bytes file (shape.tables + shape.gates * 4 + shape.pins * 4 + position * 2)

-- ---- the netlist that they say

-- a gate as one record, its kind with what this kind needs (rule K5)
unfoldable pub gate_at : List ℕ → Shape → ℕ → Gate
gate_at file shape gate =
    record {
      kind = kind_of (kind_at file shape gate);
      first = first_at file shape gate;
      count = count_at file shape gate;
    }

-- a pin by its number
unfoldable pub pin_at : List ℕ → Shape → ℕ → Pin
pin_at file shape pin =
    record { driver = driver_at file shape pin; delay = delay_at file shape pin; number = pin }

-- the pins from number `first` on, so many
unfoldable pub pins_from : List ℕ → Shape → ℕ → ℕ → List Pin
pins_from file shape first count = map (pin_at file shape) (up_from first count)

-- a gate's pins lie together, from its first pin on
unfoldable pub cell_of : List ℕ → Shape → Gate → Cell
cell_of file shape gate = record { kind = gate.kind; pins = pins_from file shape gate.first gate.count }

-- a gate by its number
unfoldable pub cell_at : List ℕ → Shape → ℕ → Cell
cell_at file shape gate = cell_of file shape (gate_at file shape gate)

-- inputs, gates and outputs together
unfoldable pub netlist_at : List ℕ → Shape → Netlist
netlist_at file shape =
    record {
      inputs = shape.inputs;
      gates = map (cell_at file shape) (up_from 0 shape.gates);
      outputs = map (output_at file shape) (up_from 0 shape.outputs);
    }

-- the netlist of a file
abbrev pub netlist_of : List ℕ → Netlist
netlist_of file = netlist_at file (shape_of file)

-- the circuit of a file, of the arrivals of its inputs, and of its slopes
abbrev pub circuit_with : List ℕ → Shape → List ℕ → Slopes → Circuit
circuit_with file shape arrivals slopes = record { net = netlist_at file shape; arrivals = arrivals; slopes = slopes }

abbrev pub circuit_of : List ℕ → List ℕ → Slopes → Circuit
circuit_of file arrivals slopes = circuit_with file (shape_of file) arrivals slopes

-- with one delay a pin
abbrev pub circuit_at : List ℕ → Shape → List ℕ → Circuit
circuit_at file shape arrivals = circuit_with file shape arrivals alike
