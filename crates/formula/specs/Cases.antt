-- The cases of rule X3 on the formula, on circuit A's bytes, as one statement over one table: a row is the target and
-- the lengths of the two lent slices, and the answer and the whole content of both slices that `build` is to leave.
-- Interface: Case, cases, hold.
use Rattle.std.specs.Prelude.{◌≡◌, refl, List, [], ◌∷◌, ◌++◌, map, ℕ, ℤ, pos, negsuc, replicate}
use Rattle.refusal.specs.declared.Refusal.TheVariants.{Pairs, Room}
use Rattle.netlist.specs.Kinds.{pins_fit, kind_of}
use Rattle.netlist.specs.File.{table_bytes, shape_of, gate_at, pin_at, cell_of, cell_at, netlist_at, pins_from}
use Rattle.netlist.specs.Open.{
  netlist_rows,
  arrival_rows,
  first_wrong,
  count_wrong,
  back_wrong,
  pins_before,
  gate_wrong,
  gate_place,
  sum_wrong,
  pins_at,
  pin_wrong,
  pin_place,
  output_wrong,
  output_place,
}
use Rattle.netlist.specs.Example.{circuit_a}
use Rattle.settle.specs.Settling.{grow, tops_of}
use Rattle.clauses.specs.Clauses.{flat}
use Rattle.pairs.specs.Pairs.{asked, times_at, pair_list, flat_pairs, lent_pairs, pairs_for, pair_place}
use Rattle.std.specs.Prelude.{Ok, Err}
use Rattle.formula.specs.Formula.{clause_of, gate_clauses, late, pair_clauses, formula, pair_variable, formula_for}
use Rattle.formula.specs.Promise.{Building, numbers_for, counts_for, built, building_rows, building}
use Rattle.formula.specs.Example.{printed}
use Rattle.netlist.specs.Netlist.{alike}

-- a row
pub record Case : Type 0 where
  pub target : ℕ
  pub pairs_room : ℕ
  pub formula_room : ℕ
  pub leaves : Building

-- the clauses of the three gates, which every target has first
unfoldable pub gate_lines : List ℤ
gate_lines =
    pos 1 ∷ negsuc 2 ∷ pos 0 ∷ negsuc 0 ∷ pos 3 ∷ pos 0
    ∷ pos 3 ∷ negsuc 3 ∷ pos 0 ∷ pos 2 ∷ negsuc 3 ∷ pos 0 ∷ negsuc 2 ∷ negsuc 1 ∷ pos 4 ∷ pos 0
    ∷ negsuc 3 ∷ pos 5 ∷ pos 0 ∷ negsuc 1 ∷ pos 5 ∷ pos 0 ∷ pos 4 ∷ pos 2 ∷ negsuc 4 ∷ pos 0 ∷ []

-- T = 3: the 48 numbers of rule X2, and three pairs; with one number more and two, they are zeroed;
-- T = 6: V is 5, and the last of 9 clauses is empty;
-- with room for 47 numbers: ROOM 48; with room for 5 numbers of pairs: PAIRS 0; both slices zeroed
unfoldable pub cases : List Case
cases =
    record {
      target = 3;
      pairs_room = 6;
      formula_room = 48;
      leaves =
          record {
            answer = Ok (record { variables = 8; pairs = 3; clauses = 15; numbers = 48 });
            pairs = 2 ∷ 1 ∷ 3 ∷ 2 ∷ 4 ∷ 3 ∷ [];
            formula = printed;
          };
    }
    ∷ record {
      target = 3;
      pairs_room = 7;
      formula_room = 50;
      leaves =
          record {
            answer = Ok (record { variables = 8; pairs = 3; clauses = 15; numbers = 48 });
            pairs = 2 ∷ 1 ∷ 3 ∷ 2 ∷ 4 ∷ 3 ∷ 0 ∷ [];
            formula = printed ++ (pos 0 ∷ pos 0 ∷ []);
          };
    }
    ∷ record {
      target = 6;
      pairs_room = 0;
      formula_room = 27;
      leaves =
          record {
            answer = Ok (record { variables = 5; pairs = 0; clauses = 9; numbers = 27 });
            pairs = [];
            formula = gate_lines ++ (pos 0 ∷ []);
          };
    }
    ∷ record {
      target = 3;
      pairs_room = 6;
      formula_room = 47;
      leaves =
          record {
            answer = Err (Room 48);
            pairs = replicate 6 0;
            formula = replicate 47 (pos 0);
          };
    }
    ∷ record {
      target = 3;
      pairs_room = 5;
      formula_room = 48;
      leaves =
          record {
            answer = Err Pairs;
            pairs = replicate 5 0;
            formula = replicate 48 (pos 0);
          };
    }
    ∷ []

-- the promise of `build` says so in each row
pub hold : map (λ (c : Case). building circuit_a (0 ∷ 0 ∷ []) alike c.target c.pairs_room c.formula_room) cases
    ≡ map (λ (c : Case). c.leaves) cases
unfolding
    circuit_a netlist_rows arrival_rows first_wrong count_wrong back_wrong pins_before gate_wrong gate_place
    sum_wrong pins_at pin_wrong pin_place output_wrong output_place pins_fit kind_of table_bytes shape_of gate_at
    pin_at pins_from cell_of cell_at netlist_at grow tops_of flat asked times_at pair_list flat_pairs lent_pairs
    pairs_for pair_place clause_of gate_clauses late pair_clauses formula pair_variable formula_for numbers_for
    counts_for built building_rows building printed gate_lines cases
hold = refl
