-- Certificate calls with two faults at once, where the earlier row answers: each neighbouring pair of 7, 16, 19, 8, 9,
-- 15, 10, 9, 12, 13, 9, 14; certificates of kinds that circuit A lacks, of late inputs, and of circuits whose gates
-- rise and fall with delays of their own. Rows of the proved table, beside Cases. Interface: edges.
use Rattle.std.specs.Prelude.{List, [], ◌∷◌, ◌++◌, ℕ, pos}
use Rattle.refusal.specs.declared.Refusal.TheVariants.{
  Gate,
  Output,
  Arrival,
  Fall,
  Vector,
  Room,
  Pairs,
  Refutation,
  Last,
  Step,
  Witness,
}
use Rattle.std.specs.Prelude.{Ok, Err}
use Rattle.netlist.specs.Netlist.{apart}
use Rattle.netlist.specs.Example.{circuit_a}
use Rattle.netlist.specs.Edges.{written, one_gate}
use Rattle.certificate.specs.Cases.{Case, lending, case, given, arriving, falling, wire}

-- on circuit A, which settles at 2 under 0,0 and at 1 under 0,1, and whose formula for 3 has 48 numbers; then NOR and
-- XNOR of two pins
unfoldable pub faults : List Case
faults =
    case (one_gate 10 (1 ∷ [])) 0 (2 ∷ []) [] (lending 0 0 0 0 0) (Err (Gate 0))
    ∷ case (written 1 [] [] (1 ∷ [])) 0 (2 ∷ []) [] (lending 0 0 0 0 0) (Err (Output 0))
    ∷ case circuit_a 2 (2 ∷ []) [] (lending 0 0 0 0 0) (Err (Vector 2))
    ∷ case circuit_a 2 (0 ∷ 2 ∷ []) [] (lending 4 5 0 0 0) (Err (Vector 1))
    ∷ case circuit_a 2 (0 ∷ 2 ∷ []) [] (lending 5 4 0 0 0) (Err (Vector 1))
    ∷ case circuit_a 2 (0 ∷ 1 ∷ []) [] (lending 4 5 0 0 0) (Err (Room 5))
    ∷ case circuit_a 2 (0 ∷ 1 ∷ []) [] (lending 5 4 0 0 0) (Err (Room 5))
    ∷ case circuit_a 2 (0 ∷ 1 ∷ []) [] (lending 5 5 5 0 0) (Err (Witness 1))
    ∷ case circuit_a 4294967295 (0 ∷ 0 ∷ []) [] (lending 5 5 5 0 0) (Err (Witness 2))
    ∷ case circuit_a 2 (0 ∷ 0 ∷ []) [] (lending 5 5 5 47 0) (Err Pairs)
    ∷ case circuit_a 2 (0 ∷ 0 ∷ []) [] (lending 5 5 6 47 0) (Err (Room 48))
    ∷ case circuit_a 2 (0 ∷ 0 ∷ []) (pos 0 ∷ pos 0 ∷ pos 9 ∷ []) (lending 5 5 6 48 0) (Err (Refutation 2))
    ∷ case circuit_a 2 (0 ∷ 0 ∷ []) (pos 0 ∷ pos 0 ∷ pos 8 ∷ []) (lending 5 5 6 48 0) (Err (Refutation 3))
    ∷ case circuit_a 2 (0 ∷ 0 ∷ []) (pos 0 ∷ pos 0 ∷ []) (lending 5 5 6 48 8) (Err (Last 0))
    ∷ case circuit_a 1 (0 ∷ 1 ∷ []) (pos 0 ∷ []) (lending 5 5 4 38 7) (Err (Room 8))
    ∷ case circuit_a 1 (0 ∷ 1 ∷ []) (pos 0 ∷ []) (lending 5 5 4 38 8) (Err (Step 0))
    ∷ case (one_gate 6 (2 ∷ 1 ∷ [])) 2 (1 ∷ 0 ∷ []) (pos 0 ∷ []) (lending 3 3 0 11 4) (Ok tt)
    ∷ case (one_gate 6 (2 ∷ 1 ∷ [])) 1 (1 ∷ 1 ∷ []) (pos 0 ∷ []) (lending 3 3 2 15 5) (Err (Step 0))
    ∷ case (one_gate 8 (2 ∷ 1 ∷ [])) 2 (1 ∷ 1 ∷ []) (pos 0 ∷ []) (lending 3 3 0 17 4) (Ok tt) ∷ []

-- late inputs. Circuit A with b at 4: its largest settling time is 6, and 5 is not; the input that is the output, at 7;
-- and 16, behind 7 and before 8
unfoldable pub late_inputs : List Case
late_inputs =
    arriving circuit_a (0 ∷ 4 ∷ []) 6 (1 ∷ 0 ∷ []) (pos 0 ∷ []) (lending 5 5 0 27 6) (Ok tt)
    ∷ arriving circuit_a (0 ∷ 4 ∷ []) 5 (0 ∷ 0 ∷ []) (pos 0 ∷ []) (lending 5 5 4 41 8) (Err (Step 0))
    ∷ arriving circuit_a (0 ∷ 4 ∷ []) 2 (0 ∷ 0 ∷ []) (pos 0 ∷ []) (lending 5 5 6 48 9) (Err (Witness 5))
    ∷ arriving wire (7 ∷ []) 7 (1 ∷ []) (pos 0 ∷ []) (lending 1 1 0 1 2) (Ok tt)
    ∷ arriving wire (7 ∷ []) 0 (1 ∷ []) (pos 0 ∷ []) (lending 1 1 0 1 2) (Err (Witness 7))
    ∷ arriving (written 1 [] [] (1 ∷ [])) [] 0 (2 ∷ []) [] (lending 0 0 0 0 0) (Err (Output 0))
    ∷ arriving circuit_a (0 ∷ []) 2 (2 ∷ []) [] (lending 0 0 0 0 0) (Err (Arrival 2))
    ∷ arriving circuit_a (9999 ∷ 10000 ∷ []) 2 (2 ∷ []) [] (lending 0 0 0 0 0) (Err (Arrival 1)) ∷ []

-- two inverters in a row, with the delays of their pins
unfoldable pub inverters : ℕ → ℕ → List ℕ
inverters first second = written 1 ((2, 1, 0) ∷ (2, 1, 1) ∷ []) ((0, first) ∷ (1, second) ∷ []) (2 ∷ [])

-- Rise and fall apart. Two inverters that rise in 1 and fall in 3 settle at 4, whatever the vector, since one of them
-- rises: neither 3 nor 6, which is what two delays of 3 give. Each slice one short. Two that differ: 8 is the largest
-- time, 2 is not. Circuit A with its own delays for both has its former delay, 2, by a longer formula, for which the
-- empty clause does not follow at once, and does after one step. And 19, behind 16 and before 8.
unfoldable pub sloped_delays : List Case
sloped_delays =
    falling (inverters 1 1) (3 ∷ 3 ∷ []) 4 (0 ∷ []) (pos 0 ∷ []) (lending 3 3 12 46 8) (Ok tt)
    ∷ falling (inverters 1 1) (3 ∷ 3 ∷ []) 3 (0 ∷ []) (pos 0 ∷ []) (lending 3 3 12 46 8) (Err (Witness 4))
    ∷ falling (inverters 1 1) (3 ∷ 3 ∷ []) 6 (0 ∷ []) (pos 0 ∷ []) (lending 3 3 12 46 8) (Err (Witness 4))
    ∷ case (inverters 3 3) 6 (0 ∷ []) (pos 0 ∷ []) (lending 3 3 0 13 4) (Ok tt)
    ∷ falling (inverters 1 1) (3 ∷ 3 ∷ []) 4 (0 ∷ []) (pos 0 ∷ []) (lending 3 3 11 46 8) (Err Pairs)
    ∷ falling (inverters 1 1) (3 ∷ 3 ∷ []) 4 (0 ∷ []) (pos 0 ∷ []) (lending 3 3 12 45 8) (Err (Room 46))
    ∷ falling (inverters 1 1) (3 ∷ 3 ∷ []) 4 (0 ∷ []) (pos 0 ∷ []) (lending 3 3 12 46 7) (Err (Room 8))
    ∷ falling (inverters 1 5) (3 ∷ 1 ∷ []) 8 (1 ∷ []) (pos 0 ∷ []) (lending 3 3 0 13 4) (Ok tt)
    ∷ falling (inverters 1 5) (3 ∷ 1 ∷ []) 7 (1 ∷ []) (pos 0 ∷ []) (lending 3 3 12 46 8) (Err (Witness 8))
    ∷ falling (inverters 1 5) (3 ∷ 1 ∷ []) 2 (0 ∷ []) (pos 0 ∷ []) (lending 3 3 12 41 8) (Err (Step 0))
    ∷ falling circuit_a (3 ∷ 1 ∷ 1 ∷ 1 ∷ 1 ∷ []) 2 (0 ∷ 0 ∷ []) (pos 0 ∷ []) (lending 5 5 18 95 12) (Err (Step 0))
    ∷ falling circuit_a (3 ∷ 1 ∷ 1 ∷ 1 ∷ 1 ∷ []) 2 (0 ∷ 0 ∷ []) (pos 2 ∷ pos 0 ∷ pos 0 ∷ []) (lending 5 5 18 95 12)
    (Ok tt)
    ∷ given circuit_a (0 ∷ []) (apart []) 2 (2 ∷ []) [] (lending 0 0 0 0 0) (Err (Arrival 2))
    ∷ falling circuit_a (3 ∷ 1 ∷ 1 ∷ 1000 ∷ []) 2 (2 ∷ []) [] (lending 0 0 0 0 0) (Err (Fall 5))
    ∷ falling circuit_a (3 ∷ 999 ∷ 1000 ∷ 1 ∷ 1000 ∷ []) 2 (2 ∷ []) [] (lending 0 0 0 0 0) (Err (Fall 2))
    ∷ falling circuit_a (3 ∷ 999 ∷ 1 ∷ 1 ∷ 1 ∷ []) 2 (2 ∷ []) [] (lending 0 0 0 0 0) (Err (Vector 2)) ∷ []

-- all of them
unfoldable pub edges : List Case
edges = faults ++ (late_inputs ++ sloped_delays)
