-- Evaluations that tell each kind's c and k apart, on each vector, with one delay a pin and with two, and evaluations
-- with two faults, where the earlier row answers: rows of the proved table, beside Cases. Interface: edges, edges-hold.
use Rattle.std.specs.Prelude.{◌≡◌, refl, List, [], ◌∷◌, ◌++◌, map, ℕ, length, get_or, replicate}
use Rattle.refusal.specs.declared.Refusal.{Refusal}
use Rattle.refusal.specs.declared.Refusal.TheVariants.{Short, Gate, Output, Arrival, Fall, Vector, Room}
use Rattle.netlist.specs.Kinds.{pins_fit, kind_of}
use Rattle.netlist.specs.File.{table_bytes, shape_of, gate_at, pin_at, cell_of, cell_at, netlist_at, pins_from}
use Rattle.netlist.specs.Open.{
  netlist_rows,
  arrival_rows,
  fall_rows,
  first_wrong,
  count_wrong,
  back_wrong,
  pins_before,
  gate_wrong,
  gate_place,
  sum_wrong,
  pins_at,
  pin_wrong,
  pin_place,
  output_wrong,
  output_place,
}
use Rattle.netlist.specs.Example.{circuit_a}
use Rattle.netlist.specs.Edges.{written, one_gate}
use Rattle.std.specs.Prelude.{Ok}
use Rattle.settle.specs.Settling.{gate_value, settles, grow, values_of, times_of, circuit_time}
use Rattle.settle.specs.Promise.{refused, evaluation, given_rows, settled}
use Rattle.settle.specs.Cases.{Case, run, late_cases}
use Rattle.netlist.specs.Netlist.{Slopes, alike, apart}

-- a circuit of one gate: slopes, kind, delays, vector, and the gate's value and time
abbrev gives_by : Slopes → ℕ → List ℕ → List ℕ → ℕ → ℕ → Case
gives_by slopes kind delays vector value time =
    record {
      file = one_gate kind delays;
      arrivals = replicate (length vector) 0;
      slopes = slopes;
      vector = vector;
      expected =
          record {
            answer = Ok time;
            values = vector ++ (value ∷ []);
            times = replicate (length vector) 0 ++ (time ∷ []);
          };
    }

-- with one delay a pin
abbrev gives : ℕ → List ℕ → List ℕ → ℕ → ℕ → Case
gives = gives_by alike

-- the first pin is ready at 2, the second at 1
abbrev two : List ℕ
two = 2 ∷ 1 ∷ []

-- the first of three pins is ready last, the second first
abbrev three : List ℕ
three = 3 ∷ 1 ∷ 2 ∷ []

-- BUF, NOT, AND, NAND, OR, NOR, XOR and XNOR on every vector (MUX is in Cases); then two of three pins control, and
-- the first of these two is neither the first nor the last of all
unfoldable pub every_kind : List Case
every_kind =
    gives 1 (3 ∷ []) (0 ∷ []) 0 3 ∷ gives 1 (3 ∷ []) (1 ∷ []) 1 3
    ∷ gives 2 (3 ∷ []) (0 ∷ []) 1 3 ∷ gives 2 (3 ∷ []) (1 ∷ []) 0 3
    ∷ gives 3 two (0 ∷ 0 ∷ []) 0 1 ∷ gives 3 two (0 ∷ 1 ∷ []) 0 2
    ∷ gives 3 two (1 ∷ 0 ∷ []) 0 1 ∷ gives 3 two (1 ∷ 1 ∷ []) 1 2
    ∷ gives 4 two (0 ∷ 0 ∷ []) 1 1 ∷ gives 4 two (0 ∷ 1 ∷ []) 1 2
    ∷ gives 4 two (1 ∷ 0 ∷ []) 1 1 ∷ gives 4 two (1 ∷ 1 ∷ []) 0 2
    ∷ gives 5 two (0 ∷ 0 ∷ []) 0 2 ∷ gives 5 two (0 ∷ 1 ∷ []) 1 1
    ∷ gives 5 two (1 ∷ 0 ∷ []) 1 2 ∷ gives 5 two (1 ∷ 1 ∷ []) 1 1
    ∷ gives 6 two (0 ∷ 0 ∷ []) 1 2 ∷ gives 6 two (0 ∷ 1 ∷ []) 0 1
    ∷ gives 6 two (1 ∷ 0 ∷ []) 0 2 ∷ gives 6 two (1 ∷ 1 ∷ []) 0 1
    ∷ gives 7 two (0 ∷ 0 ∷ []) 0 2 ∷ gives 7 two (0 ∷ 1 ∷ []) 1 2
    ∷ gives 7 two (1 ∷ 0 ∷ []) 1 2 ∷ gives 7 two (1 ∷ 1 ∷ []) 0 2
    ∷ gives 8 two (0 ∷ 0 ∷ []) 1 2 ∷ gives 8 two (0 ∷ 1 ∷ []) 0 2
    ∷ gives 8 two (1 ∷ 0 ∷ []) 0 2 ∷ gives 8 two (1 ∷ 1 ∷ []) 1 2
    ∷ gives 3 three (0 ∷ 1 ∷ 0 ∷ []) 0 2 ∷ gives 4 three (0 ∷ 1 ∷ 0 ∷ []) 1 2
    ∷ gives 5 three (1 ∷ 0 ∷ 1 ∷ []) 1 2 ∷ gives 6 three (1 ∷ 0 ∷ 1 ∷ []) 0 2 ∷ []

-- a file, arrivals, slopes, a vector, the two rooms, and the refusal
abbrev refuses_by : List ℕ → List ℕ → Slopes → List ℕ → ℕ → ℕ → Refusal → Case
refuses_by file arrivals slopes vector values_room times_room refusal =
    record {
      file = file;
      arrivals = arrivals;
      slopes = slopes;
      vector = vector;
      expected = refused values_room times_room refusal;
    }

-- with one delay a pin
abbrev refuses_with : List ℕ → List ℕ → List ℕ → ℕ → ℕ → Refusal → Case
refuses_with file arrivals = refuses_by file arrivals alike

-- two inputs that arrive at 0
abbrev refuses : List ℕ → List ℕ → ℕ → ℕ → Refusal → Case
refuses file = refuses_with file (0 ∷ 0 ∷ [])

-- 1 to 7 before 16 and 8; the vector's length before its bytes, and the first wrong byte; 8 before 9; each slice one
-- short, both, and more room than needed
unfoldable pub orders : List Case
orders =
    refuses [] [] 0 0 (Short 0)
    ∷ refuses (one_gate 10 (1 ∷ [])) (2 ∷ []) 0 0 (Gate 0)
    ∷ refuses (written 1 [] [] (1 ∷ [])) (2 ∷ []) 0 0 (Output 0)
    ∷ refuses circuit_a (2 ∷ []) 0 0 (Vector 2)
    ∷ refuses circuit_a (2 ∷ 0 ∷ 0 ∷ []) 5 5 (Vector 2)
    ∷ refuses circuit_a (3 ∷ 2 ∷ []) 5 5 (Vector 0)
    ∷ refuses circuit_a (0 ∷ 2 ∷ []) 0 0 (Vector 1)
    ∷ refuses circuit_a (0 ∷ 0 ∷ []) 4 5 (Room 5)
    ∷ refuses circuit_a (0 ∷ 0 ∷ []) 5 4 (Room 5)
    ∷ refuses circuit_a (0 ∷ 0 ∷ []) 0 0 (Room 5)
    ∷ record {
      file = circuit_a;
      arrivals = 0 ∷ 0 ∷ [];
      slopes = alike;
      vector = 0 ∷ 0 ∷ [];
      expected =
          record {
            answer = Ok 2;
            values = replicate 7 0;
            times = 0 ∷ 0 ∷ 3 ∷ 1 ∷ 2 ∷ 0 ∷ [];
          };
    }
    ∷ []

-- 16: no arrival, one too few and one too many; the first of two that are over 9,999, and the last; behind 7 and
-- before 8 and 9
unfoldable pub late_orders : List Case
late_orders =
    refuses_with circuit_a [] (0 ∷ 0 ∷ []) 5 5 (Arrival 2)
    ∷ refuses_with circuit_a (0 ∷ []) (0 ∷ 0 ∷ []) 5 5 (Arrival 2)
    ∷ refuses_with circuit_a (10000 ∷ 0 ∷ 0 ∷ []) (0 ∷ 0 ∷ []) 5 5 (Arrival 2)
    ∷ refuses_with circuit_a (10000 ∷ 10001 ∷ []) (0 ∷ 0 ∷ []) 5 5 (Arrival 0)
    ∷ refuses_with circuit_a (9999 ∷ 10000 ∷ []) (2 ∷ []) 0 0 (Arrival 1)
    ∷ refuses_with (written 1 [] [] (1 ∷ [])) [] (2 ∷ []) 0 0 (Output 0)
    ∷ refuses_with circuit_a (9999 ∷ 9999 ∷ []) (2 ∷ []) 0 0 (Vector 2) ∷ []

-- ---- rise and fall apart

-- two pins that are ready at 2 and at 1 where their gate ends at 1, at 3 and at 6 where it ends at 0
abbrev slower : Slopes
slower = apart (3 ∷ 6 ∷ [])

abbrev gives_two : ℕ → List ℕ → ℕ → ℕ → Case
gives_two kind vector value time = gives_by slower kind two vector value time

-- one pin, at 3 and at 5
abbrev gives_one : ℕ → List ℕ → ℕ → ℕ → Case
gives_one kind vector value time = gives_by (apart (5 ∷ [])) kind (3 ∷ []) vector value time

-- select, a and b of a multiplexer, at 9, 1 and 2, and at 4, 7 and 3
abbrev passes : List ℕ → ℕ → ℕ → Case
passes vector value time = gives_by (apart (4 ∷ 7 ∷ 3 ∷ [])) 9 (9 ∷ 1 ∷ 2 ∷ []) vector value time

-- each kind on every vector; then two of three pins at c, of which the last to rise is the last to fall
unfoldable pub apart_kinds : List Case
apart_kinds =
    gives_one 1 (0 ∷ []) 0 5 ∷ gives_one 1 (1 ∷ []) 1 3 ∷ gives_one 2 (0 ∷ []) 1 3 ∷ gives_one 2 (1 ∷ []) 0 5
    ∷ gives_two 3 (0 ∷ 0 ∷ []) 0 3 ∷ gives_two 3 (0 ∷ 1 ∷ []) 0 3
    ∷ gives_two 3 (1 ∷ 0 ∷ []) 0 6 ∷ gives_two 3 (1 ∷ 1 ∷ []) 1 2
    ∷ gives_two 4 (0 ∷ 0 ∷ []) 1 1 ∷ gives_two 4 (0 ∷ 1 ∷ []) 1 2
    ∷ gives_two 4 (1 ∷ 0 ∷ []) 1 1 ∷ gives_two 4 (1 ∷ 1 ∷ []) 0 6
    ∷ gives_two 5 (0 ∷ 0 ∷ []) 0 6 ∷ gives_two 5 (0 ∷ 1 ∷ []) 1 1
    ∷ gives_two 5 (1 ∷ 0 ∷ []) 1 2 ∷ gives_two 5 (1 ∷ 1 ∷ []) 1 1
    ∷ gives_two 6 (0 ∷ 0 ∷ []) 1 2 ∷ gives_two 6 (0 ∷ 1 ∷ []) 0 6
    ∷ gives_two 6 (1 ∷ 0 ∷ []) 0 3 ∷ gives_two 6 (1 ∷ 1 ∷ []) 0 3
    ∷ gives_two 7 (0 ∷ 0 ∷ []) 0 6 ∷ gives_two 7 (0 ∷ 1 ∷ []) 1 2
    ∷ gives_two 7 (1 ∷ 0 ∷ []) 1 2 ∷ gives_two 7 (1 ∷ 1 ∷ []) 0 6
    ∷ gives_two 8 (0 ∷ 0 ∷ []) 1 2 ∷ gives_two 8 (0 ∷ 1 ∷ []) 0 6
    ∷ gives_two 8 (1 ∷ 0 ∷ []) 0 6 ∷ gives_two 8 (1 ∷ 1 ∷ []) 1 2
    ∷ passes (0 ∷ 0 ∷ 0 ∷ []) 0 7 ∷ passes (0 ∷ 0 ∷ 1 ∷ []) 0 7
    ∷ passes (0 ∷ 1 ∷ 0 ∷ []) 1 9 ∷ passes (0 ∷ 1 ∷ 1 ∷ []) 1 2
    ∷ passes (1 ∷ 0 ∷ 0 ∷ []) 0 4 ∷ passes (1 ∷ 0 ∷ 1 ∷ []) 1 9
    ∷ passes (1 ∷ 1 ∷ 0 ∷ []) 0 4 ∷ passes (1 ∷ 1 ∷ 1 ∷ []) 1 2
    ∷ gives_by (apart (9 ∷ 5 ∷ 7 ∷ [])) 3 three (0 ∷ 1 ∷ 0 ∷ []) 0 7
    ∷ gives_by (apart (9 ∷ 5 ∷ 7 ∷ [])) 5 three (1 ∷ 0 ∷ 1 ∷ []) 1 2 ∷ []

-- three inverters in a row, with the delays 3, 2 and 1 to rise, and 5, 7 and 6 to fall
abbrev inverters : ℕ → ℕ → List ℕ → List ℕ → Case
inverters arrival vector values times =
    record {
      file = written 1 ((2, 1, 0) ∷ (2, 1, 1) ∷ (2, 1, 2) ∷ []) ((0, 3) ∷ (1, 2) ∷ (2, 1) ∷ []) (3 ∷ []);
      arrivals = arrival ∷ [];
      slopes = apart (5 ∷ 7 ∷ 6 ∷ []);
      vector = vector ∷ [];
      expected = record { answer = Ok (get_or times 3 0); values = vector ∷ values; times = times };
    }

-- circuit A with its inputs at 0, these delays to fall and both inputs at 0
abbrev circuit_a_falls : List ℕ → ℕ → List ℕ → Case
circuit_a_falls falls time times =
    record {
      file = circuit_a;
      arrivals = 0 ∷ 0 ∷ [];
      slopes = apart falls;
      vector = 0 ∷ 0 ∷ [];
      expected = record { answer = Ok time; values = replicate 5 0; times = times };
    }

-- under both vectors, and with a late input; circuit A with each delay the same in both lists, and with the largest
unfoldable pub apart_cases : List Case
apart_cases =
    inverters 0 0 (1 ∷ 0 ∷ 1 ∷ []) (0 ∷ 3 ∷ 10 ∷ 11 ∷ [])
    ∷ inverters 0 1 (0 ∷ 1 ∷ 0 ∷ []) (0 ∷ 5 ∷ 7 ∷ 13 ∷ [])
    ∷ inverters 4 1 (0 ∷ 1 ∷ 0 ∷ []) (4 ∷ 9 ∷ 11 ∷ 17 ∷ [])
    ∷ circuit_a_falls (3 ∷ 1 ∷ 1 ∷ 1 ∷ 1 ∷ []) 2 (0 ∷ 0 ∷ 3 ∷ 1 ∷ 2 ∷ [])
    ∷ circuit_a_falls (replicate 5 999) 1998 (0 ∷ 0 ∷ 999 ∷ 999 ∷ 1998 ∷ []) ∷ []

-- circuit A, refused with these arrivals and these delays to fall
abbrev refuses_falls : List ℕ → List ℕ → List ℕ → Refusal → Case
refuses_falls arrivals falls vector refusal = refuses_by circuit_a arrivals (apart falls) vector 0 0 refusal

-- 19: no delay, one too few and one too many; the first of two that are over 999, and the last; behind 7 and 16, and
-- before 8 and 9
unfoldable pub apart_orders : List Case
apart_orders =
    refuses_falls (0 ∷ 0 ∷ []) [] (0 ∷ 0 ∷ []) (Fall 5)
    ∷ refuses_falls (0 ∷ 0 ∷ []) (replicate 4 1) (0 ∷ 0 ∷ []) (Fall 5)
    ∷ refuses_falls (0 ∷ 0 ∷ []) (replicate 6 1000) (2 ∷ []) (Fall 5)
    ∷ refuses_falls (0 ∷ 0 ∷ []) (1 ∷ 1 ∷ 1000 ∷ 1 ∷ 1001 ∷ []) (0 ∷ 0 ∷ []) (Fall 2)
    ∷ refuses_falls (0 ∷ 0 ∷ []) (999 ∷ 999 ∷ 999 ∷ 999 ∷ 1000 ∷ []) (2 ∷ []) (Fall 4)
    ∷ refuses_falls (10000 ∷ 0 ∷ []) [] (0 ∷ 0 ∷ []) (Arrival 0)
    ∷ refuses_falls [] (replicate 5 1000) (0 ∷ 0 ∷ []) (Arrival 2)
    ∷ refuses_by (written 1 [] [] (1 ∷ [])) (0 ∷ []) (apart (0 ∷ [])) (0 ∷ []) 0 0 (Output 0)
    ∷ refuses_falls (9999 ∷ 9999 ∷ []) (replicate 5 999) (2 ∷ []) (Vector 2)
    ∷ refuses_falls (0 ∷ 0 ∷ []) (replicate 5 999) (0 ∷ 0 ∷ []) (Room 5) ∷ []

-- all of them
unfoldable pub edges : List Case
edges = every_kind ++ (orders ++ (late_cases ++ (late_orders ++ (apart_kinds ++ (apart_cases ++ apart_orders)))))

-- each is evaluated so
pub edges-hold : map run edges ≡ map (λ (c : Case). c.expected) edges
unfolding
    edges every_kind orders late_cases late_orders apart_kinds apart_cases apart_orders written one_gate circuit_a
    netlist_rows first_wrong count_wrong back_wrong pins_before gate_wrong gate_place sum_wrong pins_at pin_wrong
    pin_place output_wrong output_place pins_fit kind_of table_bytes shape_of gate_at pin_at pins_from cell_of
    cell_at netlist_at gate_value settles grow values_of times_of circuit_time evaluation given_rows settled
    arrival_rows fall_rows
edges-hold = refl
