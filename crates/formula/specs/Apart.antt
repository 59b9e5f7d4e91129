-- Building calls in the rise-fall form, worked out by hand from the words of request E10: a chain of two inverters
-- around its top, a multiplexer whose late drivers are two parts each, and calls with faults, 19 behind 16 and before
-- 10 and 9. Rows of the proved table, beside Cases and Edges. Interface: Case, cases, cases-hold, capacities-hold.
use Rattle.std.specs.Prelude.{◌≡◌, refl, List, [], ◌∷◌, ◌++◌, map, ℕ, ◌/◌, ℤ, length, replicate}
use Rattle.refusal.specs.declared.Refusal.{Refusal}
use Rattle.refusal.specs.declared.Refusal.TheVariants.{Output, Arrival, Fall, Pairs, Room}
use Rattle.netlist.specs.Kinds.{pins_fit, kind_of}
use Rattle.netlist.specs.File.{inputs, table_bytes, shape_of, gate_at, pin_at, cell_of, cell_at, netlist_at, pins_from}
use Rattle.netlist.specs.Netlist.{apart}
use Rattle.netlist.specs.Open.{
  netlist_rows,
  arrival_rows,
  fall_rows,
  first_wrong,
  count_wrong,
  back_wrong,
  pins_before,
  gate_wrong,
  gate_place,
  sum_wrong,
  pins_at,
  pin_wrong,
  pin_place,
  output_wrong,
  output_place,
}
use Rattle.netlist.specs.Edges.{written}
use Rattle.settle.specs.Settling.{grow, tops_of}
use Rattle.clauses.specs.Clauses.{flat}
use Rattle.pairs.specs.Pairs.{asked, times_at, pair_list, flat_pairs, lent_pairs, pairs_for, pair_place, table_holds}
use Rattle.std.specs.Prelude.{Ok}
use Rattle.formula.specs.Formula.{clause_of, gate_clauses, late, pair_clauses, formula, pair_variable, formula_for}
use Rattle.formula.specs.Promise.{
  Building,
  refused,
  numbers_for,
  counts_for,
  built,
  building_rows,
  building,
}
use Rattle.formula.specs.Edges.{on, off, lines, mux_of_buffers}

-- a row: a file, the arrivals of its inputs, the delays of its pins where their gates end at 0, a target, and what a
-- call leaves, whose slices are as long as those lent
pub record Case : Type 0 where
  pub file : List ℕ
  pub arrivals : List ℕ
  pub falls : List ℕ
  pub target : ℕ
  pub leaves : Building

-- file, falls, target; variables, count of clauses, the table of pairs, the numbers; all inputs at 0
abbrev builds : List ℕ → List ℕ → ℕ → ℕ → ℕ → List ℕ → List ℤ → Case
builds file falls target variables clauses pairs numbers =
    record {
      file = file;
      arrivals = replicate (inputs file) 0;
      falls = falls;
      target = target;
      leaves =
          record {
            answer =
                Ok
                (record {
                  variables = variables;
                  pairs = length pairs / 3;
                  clauses = clauses;
                  numbers = length numbers;
                });
            pairs = pairs;
            formula = numbers;
          };
    }

-- file, arrivals, falls, target, the two rooms, and the refusal
abbrev refuses : List ℕ → List ℕ → List ℕ → ℕ → ℕ → ℕ → Refusal → Case
refuses file arrivals falls target pairs_room formula_room refusal =
    record {
      file = file;
      arrivals = arrivals;
      falls = falls;
      target = target;
      leaves = refused pairs_room formula_room refusal;
    }

-- ---- two inverters in a chain: a gate that ends at 1 has 3 and 2, one that ends at 0 has 1 and 4. The first one's top
-- is 3, the second one's 3 and 4: it ends at 0 where the first ends at 1

unfoldable pub inverters : List ℕ
inverters = written 1 ((2, 1, 0) ∷ (2, 1, 1) ∷ []) ((0, 3) ∷ (1, 2) ∷ []) (2 ∷ [])

abbrev chain_falls : List ℕ
chain_falls = 1 ∷ 4 ∷ []

abbrev chain_gates : List (List ℤ)
chain_gates = (on 1 ∷ on 2 ∷ []) ∷ (off 1 ∷ off 2 ∷ []) ∷ (on 2 ∷ on 3 ∷ []) ∷ (off 2 ∷ off 3 ∷ []) ∷ []

-- Pairs 4 and 5 are the first inverter's, ending at 0 and at 1, pairs 6 and 7 the second one's. Pair 4: its driver, the
-- input, is asked for after 0, and is not late there. Pair 5: it is asked for at 0, where it is late outright, so that
-- only the first clause stays. Pair 6: the first inverter late, by 4 or 5. Pair 7: it is asked for above its top
abbrev chain_pairs : List (List ℤ)
chain_pairs =
    (off 4 ∷ off 2 ∷ []) ∷ (off 4 ∷ []) ∷ (off 4 ∷ on 1 ∷ [])
    ∷ (off 5 ∷ on 2 ∷ [])
    ∷ (off 6 ∷ off 3 ∷ []) ∷ (off 6 ∷ on 4 ∷ on 5 ∷ []) ∷ (off 6 ∷ on 4 ∷ on 5 ∷ on 2 ∷ [])
    ∷ (off 7 ∷ on 3 ∷ []) ∷ (off 7 ∷ []) ∷ (off 7 ∷ on 2 ∷ []) ∷ []

-- above the top no pair and an empty clause of the outputs; at the top, and one below with the same clauses; at 0 the
-- output is late outright
unfoldable pub chain : List Case
chain =
    builds inverters chain_falls 8 3 5 [] (lines (chain_gates ++ ([] ∷ [])))
    ∷ builds inverters chain_falls 7 7 15 (1 ∷ 0 ∷ 3 ∷ 1 ∷ 1 ∷ 3 ∷ 2 ∷ 0 ∷ 7 ∷ 2 ∷ 1 ∷ 7 ∷ [])
    (lines (chain_gates ++ (chain_pairs ++ ((on 6 ∷ on 7 ∷ []) ∷ []))))
    ∷ builds inverters chain_falls 6 7 15 (1 ∷ 0 ∷ 2 ∷ 1 ∷ 1 ∷ 2 ∷ 2 ∷ 0 ∷ 6 ∷ 2 ∷ 1 ∷ 6 ∷ [])
    (lines (chain_gates ++ (chain_pairs ++ ((on 6 ∷ on 7 ∷ []) ∷ []))))
    ∷ builds inverters chain_falls 0 3 4 [] (lines chain_gates) ∷ []

-- ---- MUX of three BUFs at its top: ending at 1 each pin has 1, ending at 0 a BUF's has 2 and the MUX's 3

-- Pairs 8 and 9 are select's, 10 and 11 a's, 12 and 13 b's, 14 and 15 the MUX's. Pair 14 asks for its drivers at 2,
-- where each is late by its two pairs, in the second clause and in the cubes'; pair 15 at 4, where none is late
unfoldable pub multiplexer : List Case
multiplexer =
    builds mux_of_buffers (2 ∷ 2 ∷ 2 ∷ 3 ∷ 3 ∷ 3 ∷ []) 5 15 39
    (3 ∷ 0 ∷ 2 ∷ 3 ∷ 1 ∷ 2 ∷ 4 ∷ 0 ∷ 2 ∷ 4 ∷ 1 ∷ 2 ∷ 5 ∷ 0 ∷ 2 ∷ 5 ∷ 1 ∷ 2 ∷ 6 ∷ 0 ∷ 5 ∷ 6 ∷ 1 ∷ 5 ∷ [])
    (lines
    ((on 1 ∷ off 4 ∷ []) ∷ (off 1 ∷ on 4 ∷ []) ∷ (on 2 ∷ off 5 ∷ []) ∷ (off 2 ∷ on 5 ∷ [])
    ∷ (on 3 ∷ off 6 ∷ []) ∷ (off 3 ∷ on 6 ∷ [])
    ∷ (on 4 ∷ off 5 ∷ on 7 ∷ []) ∷ (on 4 ∷ on 5 ∷ off 7 ∷ []) ∷ (off 4 ∷ off 6 ∷ on 7 ∷ [])
    ∷ (off 4 ∷ on 6 ∷ off 7 ∷ [])
    ∷ (off 8 ∷ off 4 ∷ []) ∷ (off 9 ∷ on 4 ∷ []) ∷ (off 9 ∷ []) ∷ (off 9 ∷ on 1 ∷ [])
    ∷ (off 10 ∷ off 5 ∷ []) ∷ (off 11 ∷ on 5 ∷ []) ∷ (off 11 ∷ []) ∷ (off 11 ∷ on 2 ∷ [])
    ∷ (off 12 ∷ off 6 ∷ []) ∷ (off 13 ∷ on 6 ∷ []) ∷ (off 13 ∷ []) ∷ (off 13 ∷ on 3 ∷ [])
    ∷ (off 14 ∷ off 7 ∷ [])
    ∷ (off 14 ∷ on 8 ∷ on 9 ∷ on 10 ∷ on 11 ∷ on 12 ∷ on 13 ∷ [])
    ∷ (off 14 ∷ on 8 ∷ on 9 ∷ on 4 ∷ on 10 ∷ on 11 ∷ on 5 ∷ [])
    ∷ (off 14 ∷ on 8 ∷ on 9 ∷ on 4 ∷ on 10 ∷ on 11 ∷ off 5 ∷ [])
    ∷ (off 14 ∷ on 8 ∷ on 9 ∷ off 4 ∷ on 12 ∷ on 13 ∷ on 6 ∷ [])
    ∷ (off 14 ∷ on 8 ∷ on 9 ∷ off 4 ∷ on 12 ∷ on 13 ∷ off 6 ∷ [])
    ∷ (off 14 ∷ on 10 ∷ on 11 ∷ on 5 ∷ on 12 ∷ on 13 ∷ on 6 ∷ [])
    ∷ (off 14 ∷ on 10 ∷ on 11 ∷ off 5 ∷ on 12 ∷ on 13 ∷ off 6 ∷ [])
    ∷ (off 15 ∷ on 7 ∷ []) ∷ (off 15 ∷ [])
    ∷ (off 15 ∷ on 4 ∷ on 5 ∷ []) ∷ (off 15 ∷ on 4 ∷ off 5 ∷ []) ∷ (off 15 ∷ off 4 ∷ on 6 ∷ [])
    ∷ (off 15 ∷ off 4 ∷ off 6 ∷ []) ∷ (off 15 ∷ on 5 ∷ on 6 ∷ []) ∷ (off 15 ∷ off 5 ∷ off 6 ∷ [])
    ∷ (on 14 ∷ on 15 ∷ []) ∷ [])) ∷ []

-- ---- refusals

-- 19 for a list that is too short, too long or has a delay of 1,000; 7 and 16 before it, 10 and 9 behind: four pairs
-- take twelve numbers, and their formula 46
unfoldable pub orders : List Case
orders =
    refuses inverters (0 ∷ []) [] 7 0 0 (Fall 2)
    ∷ refuses inverters (0 ∷ []) (1 ∷ 4 ∷ 1 ∷ []) 7 0 0 (Fall 2)
    ∷ refuses inverters (0 ∷ []) (999 ∷ 1000 ∷ []) 7 0 0 (Fall 1)
    ∷ refuses inverters [] [] 7 0 0 (Arrival 1)
    ∷ refuses (written 1 [] [] (1 ∷ [])) (0 ∷ []) (0 ∷ []) 7 0 0 (Output 0)
    ∷ refuses inverters (0 ∷ []) chain_falls 7 11 45 Pairs
    ∷ refuses inverters (0 ∷ []) chain_falls 7 12 45 (Room 46) ∷ []

-- all of them
unfoldable pub cases : List Case
cases = chain ++ (multiplexer ++ orders)

-- each call leaves so
pub cases-hold :
    map
    (λ (c : Case).
    building c.file c.arrivals (apart c.falls) c.target (length c.leaves.pairs)
    (length c.leaves.formula)) cases
    ≡ map (λ (c : Case). c.leaves) cases
unfolding
    cases chain multiplexer orders inverters mux_of_buffers written netlist_rows arrival_rows fall_rows first_wrong
    count_wrong back_wrong pins_before gate_wrong gate_place sum_wrong pins_at pin_wrong pin_place output_wrong
    output_place pins_fit kind_of table_bytes shape_of gate_at pin_at pins_from cell_of cell_at netlist_at grow
    tops_of flat asked times_at pair_list flat_pairs lent_pairs pairs_for pair_place clause_of gate_clauses late
    pair_clauses formula pair_variable formula_for numbers_for counts_for built building_rows building
cases-hold = refl

-- the pairs that a table of so many numbers holds: a third as many, and 65,536 at most
pub capacities-hold :
    map (table_holds 3) (0 ∷ 2 ∷ 3 ∷ 196607 ∷ 196608 ∷ 196609 ∷ 196611 ∷ 4294967295 ∷ [])
    ≡ 0 ∷ 0 ∷ 1 ∷ 65535 ∷ 65536 ∷ 65536 ∷ 65536 ∷ 65536 ∷ []
capacities-hold = refl
