-- Building calls on one gate of each kind, on circuit A at every target that changes something, its top among them,
-- and calls with two faults, where the earlier row answers: rows of the proved table, beside Cases. Interface: Case,
-- edges, edges-hold, capacities-hold.
use Rattle.std.specs.Prelude.{◌≡◌, refl, List, [], ◌∷◌, ◌++◌, map, ℕ, zero, suc, ◌/◌, ℤ, pos, negsuc, length, replicate}
use Rattle.basics.specs.Lists.{concat_map}
use Rattle.refusal.specs.declared.Refusal.{Refusal}
use Rattle.refusal.specs.declared.Refusal.TheVariants.{Short, Gate, Output, Arrival, Pairs, Room}
use Rattle.netlist.specs.Kinds.{pins_fit, kind_of}
use Rattle.netlist.specs.File.{inputs, table_bytes, shape_of, gate_at, pin_at, cell_of, cell_at, netlist_at, pins_from}
use Rattle.netlist.specs.Open.{
  netlist_rows,
  arrival_rows,
  first_wrong,
  count_wrong,
  back_wrong,
  pins_before,
  gate_wrong,
  gate_place,
  sum_wrong,
  pins_at,
  pin_wrong,
  pin_place,
  output_wrong,
  output_place,
}
use Rattle.netlist.specs.Example.{circuit_a}
use Rattle.netlist.specs.Edges.{written, one_gate}
use Rattle.settle.specs.Settling.{grow, tops_of}
use Rattle.settle.specs.Cases.{xor_twice, mux_of_three}
use Rattle.clauses.specs.Clauses.{flat}
use Rattle.pairs.specs.Pairs.{asked, times_at, pair_list, flat_pairs, lent_pairs, pairs_for, pair_place, table_holds}
use Rattle.std.specs.Prelude.{Ok}
use Rattle.formula.specs.Formula.{clause_of, gate_clauses, late, pair_clauses, formula, pair_variable, formula_for}
use Rattle.formula.specs.Promise.{
  Building,
  refused,
  numbers_for,
  counts_for,
  built,
  building_rows,
  building,
}
use Rattle.formula.specs.Example.{printed}
use Rattle.formula.specs.Cases.{gate_lines}
use Rattle.netlist.specs.Netlist.{alike}

-- a row: a file, the arrivals of its inputs, a target, and what a call leaves, whose slices are as long as those lent
pub record Case : Type 0 where
  pub file : List ℕ
  pub arrivals : List ℕ
  pub target : ℕ
  pub leaves : Building

-- a literal: n, or -n
abbrev pub on : ℕ → ℤ
on n = pos n

abbrev pub off : ℕ → ℤ
off (suc n) = negsuc n
off zero = pos 0

-- clauses, each with its 0
abbrev pub lines : List (List ℤ) → List ℤ
lines clauses = concat_map (λ (c : List ℤ). c ++ (pos 0 ∷ [])) clauses

-- file, arrivals, target; variables, count of clauses, the table of pairs, the numbers
abbrev builds_with : List ℕ → List ℕ → ℕ → ℕ → ℕ → List ℕ → List ℤ → Case
builds_with file arrivals target variables clauses pairs numbers =
    record {
      file = file;
      arrivals = arrivals;
      target = target;
      leaves =
          record {
            answer =
                Ok
                (record {
                  variables = variables;
                  pairs = length pairs / 2;
                  clauses = clauses;
                  numbers = length numbers;
                });
            pairs = pairs;
            formula = numbers;
          };
    }

-- file, arrivals, target, the two rooms, and the refusal
abbrev refuses_with : List ℕ → List ℕ → ℕ → ℕ → ℕ → Refusal → Case
refuses_with file arrivals target pairs_room formula_room refusal =
    record {
      file = file;
      arrivals = arrivals;
      target = target;
      leaves = refused pairs_room formula_room refusal;
    }

-- all inputs at 0
abbrev builds : List ℕ → ℕ → ℕ → ℕ → List ℕ → List ℤ → Case
builds file = builds_with file (replicate (inputs file) 0)

abbrev refuses : List ℕ → ℕ → ℕ → ℕ → Refusal → Case
refuses file = refuses_with file (replicate (inputs file) 0)

-- a simple gate of two pins, ready at 2 and 1, at its top: three clauses, then the second pin's, which is not late; the
-- first pin is late outright
abbrev simple : ℕ → List (List ℤ) → ℤ → Case
simple kind clauses control =
    builds (one_gate kind (2 ∷ 1 ∷ [])) 2 4 5 (2 ∷ 2 ∷ [])
    (lines (clauses ++ ((off 4 ∷ control ∷ []) ∷ (on 4 ∷ []) ∷ [])))

-- MUX of three BUFs, each pin with delay 1
unfoldable pub mux_of_buffers : List ℕ
mux_of_buffers =
    written 3 ((1, 1, 0) ∷ (1, 1, 1) ∷ (1, 1, 2) ∷ (9, 3, 3) ∷ [])
    ((0, 1) ∷ (1, 1) ∷ (2, 1) ∷ (3, 1) ∷ (4, 1) ∷ (5, 1) ∷ []) (6 ∷ [])

-- BUF, NOT, AND, NAND, OR, NOR, XOR, XNOR, MUX at their tops, and MUX behind gates, with all its clauses; XOR of one
-- input twice, whose repeated and opposite literals stay; two outputs in order
unfoldable pub every_kind : List Case
every_kind =
    builds (one_gate 1 (3 ∷ [])) 3 3 3 (1 ∷ 3 ∷ [])
    (lines ((on 1 ∷ off 2 ∷ []) ∷ (off 1 ∷ on 2 ∷ []) ∷ (on 3 ∷ []) ∷ []))
    ∷ builds (one_gate 2 (3 ∷ [])) 3 3 3 (1 ∷ 3 ∷ [])
    (lines ((on 1 ∷ on 2 ∷ []) ∷ (off 1 ∷ off 2 ∷ []) ∷ (on 3 ∷ []) ∷ []))
    ∷ simple 3 ((on 1 ∷ off 3 ∷ []) ∷ (on 2 ∷ off 3 ∷ []) ∷ (off 1 ∷ off 2 ∷ on 3 ∷ []) ∷ []) (on 2)
    ∷ simple 4 ((on 1 ∷ on 3 ∷ []) ∷ (on 2 ∷ on 3 ∷ []) ∷ (off 1 ∷ off 2 ∷ off 3 ∷ []) ∷ []) (on 2)
    ∷ simple 5 ((off 1 ∷ on 3 ∷ []) ∷ (off 2 ∷ on 3 ∷ []) ∷ (on 1 ∷ on 2 ∷ off 3 ∷ []) ∷ []) (off 2)
    ∷ simple 6 ((off 1 ∷ off 3 ∷ []) ∷ (off 2 ∷ off 3 ∷ []) ∷ (on 1 ∷ on 2 ∷ on 3 ∷ []) ∷ []) (off 2)
    ∷ builds (one_gate 7 (2 ∷ 1 ∷ [])) 2 4 5 (2 ∷ 2 ∷ [])
    (lines
    ((on 1 ∷ on 2 ∷ off 3 ∷ []) ∷ (on 1 ∷ off 2 ∷ on 3 ∷ []) ∷ (off 1 ∷ on 2 ∷ on 3 ∷ [])
    ∷ (off 1 ∷ off 2 ∷ off 3 ∷ []) ∷ (on 4 ∷ []) ∷ []))
    ∷ builds (one_gate 8 (2 ∷ 1 ∷ [])) 2 4 5 (2 ∷ 2 ∷ [])
    (lines
    ((on 1 ∷ on 2 ∷ on 3 ∷ []) ∷ (on 1 ∷ off 2 ∷ off 3 ∷ []) ∷ (off 1 ∷ on 2 ∷ off 3 ∷ [])
    ∷ (off 1 ∷ off 2 ∷ on 3 ∷ []) ∷ (on 4 ∷ []) ∷ []))
    ∷ builds mux_of_three 9 5 7 (3 ∷ 9 ∷ [])
    (lines
    ((on 1 ∷ off 2 ∷ on 4 ∷ []) ∷ (on 1 ∷ on 2 ∷ off 4 ∷ []) ∷ (off 1 ∷ off 3 ∷ on 4 ∷ [])
    ∷ (off 1 ∷ on 3 ∷ off 4 ∷ []) ∷ (off 5 ∷ on 2 ∷ on 3 ∷ []) ∷ (off 5 ∷ off 2 ∷ off 3 ∷ [])
    ∷ (on 5 ∷ []) ∷ []))
    ∷ builds mux_of_buffers 2 11 18 (3 ∷ 1 ∷ 4 ∷ 1 ∷ 5 ∷ 1 ∷ 6 ∷ 2 ∷ [])
    (lines
    ((on 1 ∷ off 4 ∷ []) ∷ (off 1 ∷ on 4 ∷ []) ∷ (on 2 ∷ off 5 ∷ []) ∷ (off 2 ∷ on 5 ∷ [])
    ∷ (on 3 ∷ off 6 ∷ []) ∷ (off 3 ∷ on 6 ∷ [])
    ∷ (on 4 ∷ off 5 ∷ on 7 ∷ []) ∷ (on 4 ∷ on 5 ∷ off 7 ∷ []) ∷ (off 4 ∷ off 6 ∷ on 7 ∷ [])
    ∷ (off 4 ∷ on 6 ∷ off 7 ∷ [])
    ∷ (off 11 ∷ on 8 ∷ on 9 ∷ on 10 ∷ [])
    ∷ (off 11 ∷ on 8 ∷ on 4 ∷ on 9 ∷ on 5 ∷ []) ∷ (off 11 ∷ on 8 ∷ on 4 ∷ on 9 ∷ off 5 ∷ [])
    ∷ (off 11 ∷ on 8 ∷ off 4 ∷ on 10 ∷ on 6 ∷ []) ∷ (off 11 ∷ on 8 ∷ off 4 ∷ on 10 ∷ off 6 ∷ [])
    ∷ (off 11 ∷ on 9 ∷ on 5 ∷ on 10 ∷ on 6 ∷ []) ∷ (off 11 ∷ on 9 ∷ off 5 ∷ on 10 ∷ off 6 ∷ [])
    ∷ (on 11 ∷ []) ∷ []))
    ∷ builds xor_twice 4 3 5 (1 ∷ 4 ∷ [])
    (lines
    ((on 1 ∷ on 1 ∷ off 2 ∷ []) ∷ (on 1 ∷ off 1 ∷ on 2 ∷ []) ∷ (off 1 ∷ on 1 ∷ on 2 ∷ [])
    ∷ (off 1 ∷ off 1 ∷ off 2 ∷ []) ∷ (on 3 ∷ []) ∷ []))
    ∷ builds (written 1 ((1, 1, 0) ∷ (1, 1, 1) ∷ []) ((0, 1) ∷ (0, 1) ∷ []) (1 ∷ 2 ∷ [])) 1 5 5
    (1 ∷ 1 ∷ 2 ∷ 1 ∷ [])
    (lines
    ((on 1 ∷ off 2 ∷ []) ∷ (off 1 ∷ on 2 ∷ []) ∷ (on 1 ∷ off 3 ∷ []) ∷ (off 1 ∷ on 3 ∷ [])
    ∷ (on 4 ∷ on 5 ∷ []) ∷ [])) ∷ []

-- circuit A at 0, where the output is late outright, at 1, 2 and 5, its top (3 and 6 are in Cases), and at the largest
-- target
unfoldable pub targets : List Case
targets =
    builds circuit_a 0 5 8 [] gate_lines
    ∷ builds circuit_a 1 6 9 (4 ∷ 1 ∷ []) (gate_lines ++ lines ((on 6 ∷ []) ∷ []))
    ∷ builds circuit_a 2 7 12 (3 ∷ 1 ∷ 4 ∷ 2 ∷ [])
    (gate_lines
    ++ lines ((off 7 ∷ on 6 ∷ []) ∷ (off 7 ∷ on 6 ∷ off 4 ∷ []) ∷ (off 7 ∷ off 2 ∷ []) ∷ (on 7 ∷ []) ∷ []))
    ∷ builds circuit_a 5 8 15 (2 ∷ 3 ∷ 3 ∷ 4 ∷ 4 ∷ 5 ∷ []) printed
    ∷ builds circuit_a 4294967295 5 9 [] (gate_lines ++ lines ([] ∷ [])) ∷ []

-- 1 to 7 before 10; 10 before 9; each slice one short
unfoldable pub orders : List Case
orders =
    refuses [] 3 0 0 (Short 0)
    ∷ refuses (one_gate 10 (1 ∷ [])) 1 0 0 (Gate 0)
    ∷ refuses circuit_a 3 5 47 Pairs
    ∷ refuses circuit_a 3 0 0 Pairs
    ∷ refuses circuit_a 3 6 0 (Room 48)
    ∷ refuses circuit_a 0 0 25 (Room 26)
    ∷ refuses circuit_a 6 0 26 (Room 27) ∷ []

-- late inputs. Circuit A with b at 4, at its top: b is late at 4 outright, and not at 5. An input that is the output
-- and arrives at 7: late outright at 7, and not at 8. Then 16, behind 7 and before 10 and 9
unfoldable pub late_inputs : List Case
late_inputs =
    builds_with circuit_a (0 ∷ 4 ∷ []) 6 7 13 (3 ∷ 5 ∷ 4 ∷ 6 ∷ [])
    (gate_lines
    ++ lines
    ((off 6 ∷ on 3 ∷ []) ∷ (off 7 ∷ on 6 ∷ []) ∷ (off 7 ∷ on 6 ∷ off 4 ∷ []) ∷ (off 7 ∷ off 2 ∷ [])
    ∷ (on 7 ∷ []) ∷ []))
    ∷ builds_with (written 1 [] [] (0 ∷ [])) (7 ∷ []) 7 1 0 [] []
    ∷ builds_with (written 1 [] [] (0 ∷ [])) (7 ∷ []) 8 1 1 [] (pos 0 ∷ [])
    ∷ refuses_with circuit_a (0 ∷ []) 3 0 0 (Arrival 2)
    ∷ refuses_with circuit_a (0 ∷ 10000 ∷ []) 3 0 0 (Arrival 1)
    ∷ refuses_with (written 1 [] [] (1 ∷ [])) [] 3 0 0 (Output 0)
    ∷ refuses_with circuit_a (0 ∷ 9999 ∷ []) 3 0 0 Pairs ∷ []

-- all of them
unfoldable pub edges : List Case
edges = every_kind ++ (targets ++ (orders ++ late_inputs))

-- each call leaves so
pub edges-hold :
    map
    (λ (c : Case).
    building c.file c.arrivals alike c.target (length c.leaves.pairs) (length c.leaves.formula)) edges
    ≡ map (λ (c : Case). c.leaves) edges
unfolding
    edges every_kind targets orders late_inputs mux_of_buffers written one_gate circuit_a xor_twice mux_of_three
    netlist_rows arrival_rows first_wrong count_wrong back_wrong pins_before gate_wrong gate_place sum_wrong pins_at
    pin_wrong pin_place output_wrong output_place pins_fit kind_of table_bytes shape_of gate_at pin_at pins_from
    cell_of cell_at netlist_at grow tops_of flat asked times_at pair_list flat_pairs lent_pairs pairs_for pair_place
    clause_of gate_clauses late pair_clauses formula pair_variable formula_for numbers_for counts_for built
    building_rows building printed gate_lines
edges-hold = refl

-- the pairs that a table of so many numbers holds: half as many, and 65,536 at most
pub capacities-hold :
    map (table_holds 2) (0 ∷ 1 ∷ 2 ∷ 131071 ∷ 131072 ∷ 131073 ∷ 131074 ∷ 4294967295 ∷ [])
    ≡ 0 ∷ 0 ∷ 1 ∷ 65535 ∷ 65536 ∷ 65536 ∷ 65536 ∷ 65536 ∷ []
capacities-hold = refl
