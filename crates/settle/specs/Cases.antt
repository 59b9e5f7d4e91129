-- The cases of rule X3 on settling, on the bytes of their files: one table, and one statement over it; and the tops of
-- circuit A. Interface: Case, run, cases, late_cases, cases-hold, tops-hold.
use Rattle.std.specs.Prelude.{◌≡◌, refl, List, [], ◌∷◌, map, ℕ, length, replicate}
use Rattle.netlist.specs.Kinds.{pins_fit, kind_of}
use Rattle.netlist.specs.File.{
  table_bytes,
  shape_of,
  gate_at,
  pin_at,
  cell_of,
  cell_at,
  netlist_at,
  circuit_of,
  pins_from,
}
use Rattle.netlist.specs.Open.{
  netlist_rows,
  arrival_rows,
  first_wrong,
  count_wrong,
  back_wrong,
  pins_before,
  gate_wrong,
  gate_place,
  sum_wrong,
  pins_at,
  pin_wrong,
  pin_place,
  output_wrong,
  output_place,
}
use Rattle.netlist.specs.Example.{circuit_a}
use Rattle.netlist.specs.Edges.{written}
use Rattle.std.specs.Prelude.{Ok}
use Rattle.settle.specs.Settling.{gate_value, settles, grow, values_of, times_of, tops_of, circuit_time}
use Rattle.settle.specs.Promise.{Evaluation, evaluation, given_rows, settled}
use Rattle.netlist.specs.Netlist.{Slopes, alike}

-- one case: a file, the arrivals of its inputs, how its delays depend on a gate's final value, a vector, and what an
-- evaluation with just enough room gives
pub record Case : Type 0 where
  pub file : List ℕ
  pub arrivals : List ℕ
  pub slopes : Slopes
  pub vector : List ℕ
  pub expected : Evaluation

-- XOR of an input with itself, delays 1 and 4
unfoldable pub xor_twice : List ℕ
xor_twice =
    7 ∷ 2 ∷ 0 ∷ 0 ∷
    0 ∷ 0 ∷ 1 ∷ 0 ∷ 0 ∷ 0 ∷ 4 ∷ 0 ∷
    1 ∷ 0 ∷ 14 ∷ 0 ∷ 0 ∷ 0 ∷ 1 ∷ 0 ∷ 1 ∷ 0 ∷ 2 ∷ 0 ∷ 1 ∷ 0 ∷ 1 ∷ 0 ∷ []

-- MUX of three inputs, delays 9, 1 and 2
unfoldable pub mux_of_three : List ℕ
mux_of_three =
    9 ∷ 3 ∷ 0 ∷ 0 ∷
    0 ∷ 0 ∷ 9 ∷ 0 ∷ 1 ∷ 0 ∷ 1 ∷ 0 ∷ 2 ∷ 0 ∷ 2 ∷ 0 ∷
    3 ∷ 0 ∷ 18 ∷ 0 ∷ 0 ∷ 0 ∷ 3 ∷ 0 ∷ 1 ∷ 0 ∷ 3 ∷ 0 ∷ 1 ∷ 0 ∷ 1 ∷ 0 ∷ []

-- the circuit settles at a time, with these values and times
abbrev settles_at : ℕ → List ℕ → List ℕ → Evaluation
settles_at time values times = record { answer = Ok time; values = values; times = times }

-- a file whose inputs arrive at 0, a vector, and what they give
abbrev case : List ℕ → List ℕ → Evaluation → Case
case file vector expected =
    record {
      file = file;
      arrivals = replicate (length vector) 0;
      slopes = alike;
      vector = vector;
      expected = expected;
    }

-- circuit A with the arrivals of a and b
abbrev arriving : List ℕ → List ℕ → Evaluation → Case
arriving arrivals vector expected =
    record { file = circuit_a; arrivals = arrivals; slopes = alike; vector = vector; expected = expected }

-- the table
unfoldable pub cases : List Case
cases =
    case circuit_a (0 ∷ 0 ∷ []) (settles_at 2 (0 ∷ 0 ∷ 0 ∷ 0 ∷ 0 ∷ []) (0 ∷ 0 ∷ 3 ∷ 1 ∷ 2 ∷ []))
    ∷ case circuit_a (0 ∷ 1 ∷ []) (settles_at 1 (0 ∷ 1 ∷ 0 ∷ 0 ∷ 1 ∷ []) (0 ∷ 0 ∷ 3 ∷ 4 ∷ 1 ∷ []))
    ∷ case circuit_a (1 ∷ 0 ∷ []) (settles_at 2 (1 ∷ 0 ∷ 1 ∷ 0 ∷ 0 ∷ []) (0 ∷ 0 ∷ 3 ∷ 1 ∷ 2 ∷ []))
    ∷ case circuit_a (1 ∷ 1 ∷ []) (settles_at 1 (1 ∷ 1 ∷ 1 ∷ 1 ∷ 1 ∷ []) (0 ∷ 0 ∷ 3 ∷ 4 ∷ 1 ∷ []))
    ∷ case xor_twice (0 ∷ []) (settles_at 4 (0 ∷ 0 ∷ []) (0 ∷ 4 ∷ []))
    ∷ case xor_twice (1 ∷ []) (settles_at 4 (1 ∷ 0 ∷ []) (0 ∷ 4 ∷ []))
    ∷ case mux_of_three (0 ∷ 0 ∷ 0 ∷ []) (settles_at 2 (0 ∷ 0 ∷ 0 ∷ 0 ∷ []) (0 ∷ 0 ∷ 0 ∷ 2 ∷ []))
    ∷ case mux_of_three (0 ∷ 0 ∷ 1 ∷ []) (settles_at 9 (0 ∷ 0 ∷ 1 ∷ 0 ∷ []) (0 ∷ 0 ∷ 0 ∷ 9 ∷ []))
    ∷ case mux_of_three (0 ∷ 1 ∷ 0 ∷ []) (settles_at 9 (0 ∷ 1 ∷ 0 ∷ 1 ∷ []) (0 ∷ 0 ∷ 0 ∷ 9 ∷ []))
    ∷ case mux_of_three (0 ∷ 1 ∷ 1 ∷ []) (settles_at 2 (0 ∷ 1 ∷ 1 ∷ 1 ∷ []) (0 ∷ 0 ∷ 0 ∷ 2 ∷ []))
    ∷ case mux_of_three (1 ∷ 0 ∷ 0 ∷ []) (settles_at 2 (1 ∷ 0 ∷ 0 ∷ 0 ∷ []) (0 ∷ 0 ∷ 0 ∷ 2 ∷ []))
    ∷ case mux_of_three (1 ∷ 0 ∷ 1 ∷ []) (settles_at 9 (1 ∷ 0 ∷ 1 ∷ 1 ∷ []) (0 ∷ 0 ∷ 0 ∷ 9 ∷ []))
    ∷ case mux_of_three (1 ∷ 1 ∷ 0 ∷ []) (settles_at 9 (1 ∷ 1 ∷ 0 ∷ 0 ∷ []) (0 ∷ 0 ∷ 0 ∷ 9 ∷ []))
    ∷ case mux_of_three (1 ∷ 1 ∷ 1 ∷ []) (settles_at 2 (1 ∷ 1 ∷ 1 ∷ 1 ∷ []) (0 ∷ 0 ∷ 0 ∷ 2 ∷ [])) ∷ []

-- with late inputs (they stand in the table by Edges): circuit A with b at 4, on each vector, and with a at 9,999; an
-- input that is an output and arrives at 7
unfoldable pub late_cases : List Case
late_cases =
    arriving (0 ∷ 4 ∷ []) (0 ∷ 0 ∷ []) (settles_at 5 (0 ∷ 0 ∷ 0 ∷ 0 ∷ 0 ∷ []) (0 ∷ 4 ∷ 3 ∷ 4 ∷ 5 ∷ []))
    ∷ arriving (0 ∷ 4 ∷ []) (0 ∷ 1 ∷ []) (settles_at 5 (0 ∷ 1 ∷ 0 ∷ 0 ∷ 1 ∷ []) (0 ∷ 4 ∷ 3 ∷ 4 ∷ 5 ∷ []))
    ∷ arriving (0 ∷ 4 ∷ []) (1 ∷ 0 ∷ []) (settles_at 6 (1 ∷ 0 ∷ 1 ∷ 0 ∷ 0 ∷ []) (0 ∷ 4 ∷ 3 ∷ 5 ∷ 6 ∷ []))
    ∷ arriving (0 ∷ 4 ∷ []) (1 ∷ 1 ∷ []) (settles_at 5 (1 ∷ 1 ∷ 1 ∷ 1 ∷ 1 ∷ []) (0 ∷ 4 ∷ 3 ∷ 5 ∷ 5 ∷ []))
    ∷ arriving (9999 ∷ 0 ∷ []) (0 ∷ 1 ∷ [])
    (settles_at 1 (0 ∷ 1 ∷ 0 ∷ 0 ∷ 1 ∷ []) (9999 ∷ 0 ∷ 10002 ∷ 10003 ∷ 1 ∷ []))
    ∷ record {
      file = written 1 [] [] (0 ∷ []);
      arrivals = 7 ∷ [];
      slopes = alike;
      vector = 1 ∷ [];
      expected = settles_at 7 (1 ∷ []) (7 ∷ []);
    }
    ∷ []

-- the evaluation of a case
abbrev pub run : Case → Evaluation
run c =
    evaluation c.file c.arrivals c.slopes c.vector (length c.expected.values)
    (length c.expected.times)

-- each case is evaluated as expected
pub cases-hold : map run cases ≡ map (λ c. c.expected) cases
unfolding
    cases circuit_a xor_twice mux_of_three netlist_rows first_wrong count_wrong back_wrong pins_before gate_wrong
    gate_place sum_wrong pins_at pin_wrong pin_place output_wrong output_place pins_fit kind_of table_bytes shape_of
    gate_at pin_at pins_from cell_of cell_at netlist_at gate_value settles grow values_of times_of circuit_time
    evaluation given_rows settled arrival_rows
cases-hold = refl

-- the tops of circuit A: its topological delay is 5, and 6 with b at 4
pub tops-hold :
    (tops_of (circuit_of circuit_a (0 ∷ 0 ∷ []) alike) ≡ 0 ∷ 0 ∷ 3 ∷ 4 ∷ 5 ∷ [])
    × (tops_of (circuit_of circuit_a (0 ∷ 4 ∷ []) alike) ≡ 0 ∷ 4 ∷ 3 ∷ 5 ∷ 6 ∷ [])
unfolding circuit_a pins_fit kind_of table_bytes shape_of gate_at pin_at pins_from cell_of cell_at netlist_at grow
    tops_of
tops-hold = (refl, refl)
