-- What it says that the rows of a certificate call pass: the vector has a value for each input and settles at the
-- delay; the formula's rows pass; the refutation has an empty clause. Each row is taken apart by its own test. Laws:
-- certificate-passes, refutation-passes. Assumes nothing.
use mathlib.Core.Path.{◌≡◌, refl}
use mathlib.Core.Bool.{not}
use mathlib.Core.List.{List, [], ◌∷◌, Memᴰ}
use Prim.Native.Nat.{ℕ, suc, ◌<◌}
use native.Mathlib.Omega.{arith}
use lib.Dec.{eqb}
use lib.IntN.{ℤ}
use lib.ListN.{length}
use borrow.Author.Tests.{eqb-true}
use Rattle.refusal.specs.declared.Refusal.TheVariants.{Witness, Last}
use Rattle.std.specs.Prelude.{Ok}
use Rattle.refusal.specs.Rows.{Row, checked, room_row}
use Rattle.refusal.proofs.Rows.{passed-by, first_passes, rest-passes}
use Rattle.netlist.specs.Netlist.{Circuit}
use Rattle.netlist.proofs.TableOrder.{not_back}
use Rattle.settle.specs.Settling.{circuit_time}
use Rattle.settle.specs.Promise.{bits, evaluation_rows}
use Rattle.settle.proofs.Checks.{vector-passes}
use Rattle.clauses.specs.Clauses.{Literal, clauses_of}
use Rattle.refute.specs.Rows.{refutation_form, last_row, refutation_rows, first_empty}
use Rattle.formula.specs.Promise.{counts_for, building_rows}
use Rattle.certificate.specs.Promise.{Rooms, witness_row, refuting_rows, certificate_rows}

-- what the rows of a certificate call say where they pass
pub record Passing (circuit : Circuit) (delay : ℕ) (vector : List ℕ) (refutation : List ℤ) (rooms : Rooms) : Type 0
  where
    pub long : length vector ≡ circuit.net.inputs
    pub settles : circuit_time circuit (bits vector) ≡ delay
    pub building : checked (building_rows circuit (suc delay) rooms.pairs rooms.formula) ≡ Ok tt
    pub testing :
        checked (refutation_rows (counts_for circuit (suc delay)).variables refutation rooms.propagation) ≡ Ok tt

pub certificate-passes : (circuit : Circuit) (delay : ℕ) (vector : List ℕ) (refutation : List ℤ) (rooms : Rooms) →
    checked (certificate_rows delay vector refutation rooms circuit) ≡ Ok tt → Passing circuit delay vector refutation
    rooms
certificate-passes circuit delay vector refutation rooms e =
    let evaluating = evaluation_rows circuit vector rooms.values rooms.times in
    let refuting =
    refuting_rows circuit (suc delay) refutation rooms.pairs rooms.formula rooms.propagation
    in
    let rows : List Row = witness_row circuit delay vector ∷ refuting in
    let time = circuit_time circuit (bits vector) in
    let witness = passed-by (not (eqb time delay)) (Witness time) refuting (rest-passes evaluating rows e) in
    let building = building_rows circuit (suc delay) rooms.pairs rooms.formula in
    let testing = refutation_rows (counts_for circuit (suc delay)).variables refutation rooms.propagation in
    record {
      long = vector-passes circuit vector rooms.values rooms.times (first_passes evaluating rows e);
      settles = eqb-true time delay (not_back (eqb time delay) witness.0);
      building = first_passes building testing witness.1;
      testing = rest-passes building testing witness.1;
    }

first-empty : (clauses : List (List Literal)) → first_empty clauses < length clauses → Memᴰ [] clauses
unfolding first_empty
first-empty [] h = absurd (omega arith)
first-empty ([] ∷ clauses) h = Memᴰ.head refl
first-empty ((l ∷ c) ∷ clauses) h = Memᴰ.tail (first-empty clauses (omega arith))

-- 13: an empty clause stands last
last-passes : (clauses : List (List Literal)) (more : List Row) → checked (last_row clauses ∷ more) ≡ Ok tt →
    Memᴰ [] clauses
unfolding last_row
last-passes clauses more e =
    let test = eqb (suc (first_empty clauses)) (length clauses) in
    let h =
    eqb-true (suc (first_empty clauses)) (length clauses)
    (not_back test (passed-by (not test) (Last (first_empty clauses)) more e).0)
    in
    first-empty clauses (omega arith)

-- 12, 13 and room for propagation: the refutation has an empty clause
pub refutation-passes : (variables : ℕ) (refutation : List ℤ) (room : ℕ) →
    checked (refutation_rows variables refutation room) ≡ Ok tt → Memᴰ [] (clauses_of refutation)
refutation-passes variables refutation room e =
    let roomy : List Row = room_row (suc variables) room ∷ [] in
    last-passes (clauses_of refutation) roomy
    (rest-passes (refutation_form variables refutation) (last_row (clauses_of refutation) ∷ roomy) e)
