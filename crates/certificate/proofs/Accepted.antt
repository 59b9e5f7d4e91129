-- What an accepted certificate says: a vector settles at d; were another to settle later, demand 3 would give a
-- solution of the formula for d+1, and a refutation that passes and has the empty clause leaves none. Laws: accepted,
-- numbers-accepted. Assumes nothing.
use mathlib.Core.Path.{◌≡◌, subst}
use mathlib.Core.Bool.{Bool}
use mathlib.Core.List.{List, [], Memᴰ}
use mathlib.Core.Logic.{◌⊎◌, inl, inr}
use Prim.Native.Nat.{ℕ, suc, ◌≤◌}
use native.Mathlib.Omega.{arith}
use lib.Dec.{T, leb, not_T, nleb→lt}
use lib.IntN.{ℤ}
use lib.ListN.{length}
use Rattle.basics.proofs.Truth.{decide}
use Rattle.netlist.specs.Netlist.{valid, Circuit}
use Rattle.netlist.specs.Holds.{Small}
use Rattle.settle.specs.Settling.{circuit_time}
use Rattle.settle.proofs.Nodes.{circuit-late, Arrives}
use Rattle.clauses.specs.Clauses.{Literal, clauses_of}
use Rattle.refute.specs.Propagation.{Judged, passes}
use Rattle.refute.proofs.Sound.{no-solution}
use Rattle.formula.specs.Formula.{formula_for}
use Rattle.formula.specs.Promise.{numbers_for}
use Rattle.certificate.specs.Largest.{Largest}
use Rattle.certificate.proofs.Demand.{demand-at}
use Rattle.certificate.proofs.Numbers.{numbers-read}

module _ (circuit : Circuit) (ok : T (valid circuit.net)) (as_many : Arrives circuit)
    (small : Small circuit.slopes) where
  -- a vector that settles at d, and a refutation of the formula for d+1 that passes
  pub accepted : (delay : ℕ) (vector : List Bool) → length vector ≡ circuit.net.inputs →
      circuit_time circuit vector ≡ delay → (refutation : List (List Literal)) →
      Judged (formula_for circuit (suc delay)) refutation passes → Memᴰ [] refutation →
      Largest circuit delay
  accepted delay vector as_long settles refutation judged empty =
      record {
        bound = λ other e. pick other e (decide (leb (suc delay) (circuit_time circuit other)));
        reached = (vector, as_long, settles);
      }
    where
      pick : (other : List Bool) → length other ≡ circuit.net.inputs →
          T (leb (suc delay) (circuit_time circuit other))
          ⊎ (T (leb (suc delay) (circuit_time circuit other)) → ⊥) → circuit_time circuit other ≤ delay
      pick other e (inl late) =
          let s =
          (demand-at circuit ok as_many small other e (suc delay)).1
          (subst T (circuit-late circuit other delay) late)
          in
          absurd
          (no-solution (formula_for circuit (suc delay)) refutation judged empty s.assignment s.solves)
      pick other e (inr late) =
          let h =
          nleb→lt (suc delay) (circuit_time circuit other)
          (not_T (leb (suc delay) (circuit_time circuit other)) late)
          in
          omega arith

-- the same over the very lists of numbers
pub numbers-accepted : (circuit : Circuit) → T (valid circuit.net) → Arrives circuit → Small circuit.slopes →
    (delay : ℕ) (vector : List Bool) →
    length vector ≡ circuit.net.inputs → circuit_time circuit vector ≡ delay → (refutation : List ℤ) →
    Judged (clauses_of (numbers_for circuit (suc delay))) (clauses_of refutation) passes →
    Memᴰ [] (clauses_of refutation) → Largest circuit delay
numbers-accepted circuit ok as_many small delay vector as_long settles refutation judged empty =
    accepted circuit ok as_many small delay vector as_long settles (clauses_of refutation)
    (subst (λ (formula : List (List Literal)). Judged formula (clauses_of refutation) passes)
    (numbers-read circuit ok (suc delay)) judged)
    empty
