-- Rows 1 to 7, 16 and 19 of the table of refusals (rule T1), in the sequence of rules C3 and C4: no pin until all gates
-- are right, no output until all pins are, no arrival until the netlist is. Interface: netlist_rows, open_of,
-- list_rows,
-- arrival_rows, circuit_rows, open_circuit_of, arrived_of, fall_rows, rows_over, call_over.
use Rattle.std.specs.Prelude.{
  Bool,
  not,
  ◌&&◌,
  ◌||◌,
  cond,
  List,
  [],
  ◌∷◌,
  ◌++◌,
  map,
  ℕ,
  zero,
  suc,
  ◌+◌,
  ◌-◌,
  leb,
  ltb,
  eqb,
  length,
}
use Rattle.basics.specs.Lists.{up_from, concat_map}
use Rattle.refusal.specs.declared.Refusal.{Refusal}
use Rattle.refusal.specs.declared.Refusal.TheVariants.{Short, Version, Count, Back, Gate, Pin, Output, Arrival, Fall}
use Rattle.refusal.specs.Rows.{Row, checked, unless_refused}
use Rattle.netlist.specs.declared.Shape.{Shape}
use Rattle.std.specs.Prelude.{Result, Ok, Err, Option, Some, None}
use Rattle.netlist.specs.Netlist.{Circuit, Slopes, alike, apart}
use Rattle.netlist.specs.Kinds.{pins_fit}
use Rattle.netlist.specs.File.{
  trailer,
  back,
  version,
  inputs,
  pins,
  table_bytes,
  shape_of,
  circuit_of,
  kind_at,
  count_at,
  first_at,
  driver_at,
  delay_at,
  output_at,
}

-- how many entries stand before the first that fails a test; all of them where none does
unfoldable pub first_wrong : {A : Type 0} → (A → Bool) → List A → ℕ
first_wrong wrong [] = 0
first_wrong wrong (x ∷ xs) = cond (wrong x) 0 (suc (first_wrong wrong xs))

-- 3 COUNT: the lowest count that leaves its range (rule N3), 0 for I to 3 for Q; 4 where none does
unfoldable pub count_wrong : Shape → ℕ
count_wrong shape =
    cond (leb 1 shape.inputs && leb shape.inputs 64)
    (cond (leb shape.gates 448)
    (cond (leb shape.pins 2048) (cond (leb 1 shape.outputs && leb shape.outputs 64) 4 3) 2) 1) 0

-- that count, where there is one
abbrev pub wrong_count : Shape → Option ℕ
wrong_count shape = cond (ltb (count_wrong shape) 4) (Some (count_wrong shape)) None

-- 4 BACK: back is not the tables' total (rule N4), or the file is too short for it
unfoldable pub back_wrong : List ℕ → Bool
back_wrong file = not (eqb (back file) (table_bytes file)) || ltb (trailer file) (back file)

-- the sum of the pin counts of the first n gates
unfoldable pub pins_before : List ℕ → Shape → ℕ → ℕ
pins_before file shape zero = 0
pins_before file shape (suc n) = pins_before file shape n + count_at file shape n

-- 5 GATE: no such kind, no such pin count for it, or another first pin than the total so far (rules K1 and N5)
unfoldable pub gate_wrong : List ℕ → Shape → ℕ → Bool
gate_wrong file shape gate =
    not (pins_fit (kind_at file shape gate) (count_at file shape gate)
    && eqb (first_at file shape gate) (pins_before file shape gate))

-- the first wrong gate, or G
unfoldable pub gate_place : List ℕ → Shape → ℕ
gate_place file shape = first_wrong (gate_wrong file shape) (up_from 0 shape.gates)

-- then, the total of the pin counts is not P: place G
unfoldable pub sum_wrong : List ℕ → Shape → Bool
sum_wrong file shape = not (eqb (pins_before file shape shape.gates) shape.pins)

-- the two as one row
abbrev pub gate_row : List ℕ → Shape → Row
gate_row file shape =
    (ltb (gate_place file shape) shape.gates || sum_wrong file shape, Gate (gate_place file shape))

-- the pins of a gate, each with its gate's node
unfoldable pub pins_at : List ℕ → Shape → ℕ → List (ℕ × ℕ)
pins_at file shape gate =
    map (λ pin. (shape.inputs + gate, pin)) (up_from (pins_before file shape gate) (count_at file shape gate))

-- 6 PIN: a driver at or above the pin's gate, or a delay of 1,000 or more
unfoldable pub pin_wrong : List ℕ → Shape → ℕ × ℕ → Bool
pin_wrong file shape x = not (ltb (driver_at file shape x.1) x.0) || ltb 999 (delay_at file shape x.1)

-- how many pins of a gate stand before its first wrong one
abbrev pub right_pins : List ℕ → Shape → ℕ → ℕ
right_pins file shape gate = first_wrong (pin_wrong file shape) (pins_at file shape gate)

-- the first wrong pin, or P: the gates' pins are 0, 1, 2 and on
unfoldable pub pin_place : List ℕ → Shape → ℕ
pin_place file shape = first_wrong (pin_wrong file shape) (concat_map (pins_at file shape) (up_from 0 shape.gates))

-- the row
abbrev pub pin_row : List ℕ → Shape → Row
pin_row file shape = (ltb (pin_place file shape) shape.pins, Pin (pin_place file shape))

-- the same of one gate's pins
abbrev pub gate_pin_row : List ℕ → Shape → ℕ → Row
gate_pin_row file shape gate = (
  ltb (right_pins file shape gate) (count_at file shape gate),
  Pin (pins_before file shape gate + right_pins file shape gate),
)

-- 7 OUTPUT: a node at or below the previous output, or no node at all
unfoldable pub output_wrong : List ℕ → Shape → ℕ → Bool
output_wrong file shape position =
    (ltb 0 position && leb (output_at file shape position) (output_at file shape (position - 1)))
    || leb (shape.inputs + shape.gates) (output_at file shape position)

-- the first wrong output, or Q
unfoldable pub output_place : List ℕ → Shape → ℕ
output_place file shape = first_wrong (output_wrong file shape) (up_from 0 shape.outputs)

-- the row
abbrev pub output_row : List ℕ → Shape → Row
output_row file shape = (ltb (output_place file shape) shape.outputs, Output (output_place file shape))

-- 1 to 7, in the table's order
unfoldable pub netlist_rows : List ℕ → List Row
netlist_rows file =
    let shape : Shape = shape_of file in
    (ltb (length file) 14, Short (length file))
    ∷ (not (eqb (version file) 1), Version (version file))
    ∷ (ltb (count_wrong shape) 4, Count (count_wrong shape))
    ∷ (back_wrong file, Back)
    ∷ gate_row file shape
    ∷ pin_row file shape
    ∷ output_row file shape ∷ []

-- the answer for any list of bytes
unfoldable pub open_of : List ℕ → Result Shape Refusal
open_of file = unless_refused (checked (netlist_rows file)) Err (Ok (shape_of file))

-- a list that must have so many entries, none over `most`: refused at that number, or at the first that is over
abbrev pub list_rows : (ℕ → Refusal) → ℕ → ℕ → List ℕ → List Row
list_rows refusal count most entries =
    (not (eqb (length entries) count), refusal count)
    ∷ (ltb (first_wrong (ltb most) entries) (length entries), refusal (first_wrong (ltb most) entries)) ∷ []

-- no input arrives later (rule S1)
abbrev pub latest_arrival : ℕ
latest_arrival = 9999

-- 16 ARRIVAL, of the arrivals of so many inputs
unfoldable pub arrival_rows : ℕ → List ℕ → List Row
arrival_rows inputs arrivals = list_rows Arrival inputs latest_arrival arrivals

-- 1 to 7, then 16
abbrev pub circuit_rows : List ℕ → List ℕ → List Row
circuit_rows file arrivals = netlist_rows file ++ arrival_rows (shape_of file).inputs arrivals

-- the answer for any list of bytes with any arrivals
unfoldable pub open_circuit_of : List ℕ → List ℕ → Result Shape Refusal
open_circuit_of file arrivals =
    unless_refused (checked (circuit_rows file arrivals)) Err (Ok (shape_of file))

-- the same by the file's own answer
abbrev pub arrived_of : Result Shape Refusal → List ℕ → Result Shape Refusal
arrived_of (Err refusal) arrivals = Err refusal
arrived_of (Ok shape) arrivals =
    unless_refused (checked (arrival_rows shape.inputs arrivals)) Err (Ok shape)

-- 19 FALL, of the delays of so many pins for gates that end at 0
unfoldable pub fall_rows : ℕ → List ℕ → List Row
fall_rows pins falls = list_rows Fall pins 999 falls

-- asked only where such delays are given
abbrev pub slope_rows : ℕ → Slopes → List Row
slope_rows pins alike = []
slope_rows pins (apart falls) = fall_rows pins falls

-- the rows of a call on any list of bytes, any arrivals and any slopes: 1 to 7, 16 and 19, then the call's own over the
-- circuit
abbrev pub rows_over : List ℕ → List ℕ → Slopes → (Circuit → List Row) → List Row
rows_over file arrivals slopes rows =
    circuit_rows file arrivals ++ (slope_rows (shape_of file).pins slopes ++ rows (circuit_of file arrivals slopes))

-- what such a call comes to
abbrev pub call_over : {A : Type 0} → List ℕ → List ℕ → Slopes → (Circuit → List Row) → (Refusal → A) → (Circuit → A) →
    A
call_over file arrivals slopes rows refused passed =
    unless_refused (checked (rows_over file arrivals slopes rows)) refused (passed (circuit_of file arrivals slopes))
