-- Demand 3: the formula for a target speaks of the circuit. Interface: all of it.
use Rattle.std.specs.Prelude.{◌≡◌, Bool, false, List, ◌↔◌, ℕ, ◌<◌, T, leb, length, get_or}
use Rattle.basics.specs.Lists.{any}
use Rattle.netlist.specs.Netlist.{Netlist, Circuit}
use Rattle.settle.specs.Settling.{time_of}
use Rattle.clauses.specs.Clauses.{Literal, satisfies}
use Rattle.formula.specs.Formula.{node_variable, formula_for}

-- an input vector is completed to a solution of some clauses: the inputs' variables are the vector's, and each clause
-- has a literal that holds
pub record Completes (net : Netlist) (vector : List Bool) (clauses : List (List Literal)) : Type 0 where
  pub assignment : ℕ → Bool
  pub inputs : (n : ℕ) → n < net.inputs → assignment (node_variable n) ≡ get_or vector n false
  pub solves : T (satisfies assignment clauses)

-- to a solution of the formula for a target
abbrev pub Solution : Circuit → List Bool → ℕ → Type 0
Solution circuit vector target = Completes circuit.net vector (formula_for circuit target)

-- some output settles at the target or later under the vector
abbrev pub some_late : Circuit → List Bool → ℕ → Bool
some_late circuit vector target = any (λ o. leb target (time_of circuit vector o)) circuit.net.outputs

-- demand 3 of a circuit: "an input vector can be completed to a solution of the formula exactly when some output
-- settles at that time or later under it"
pub record Demand (circuit : Circuit) : Type 0 where
  pub completes : (vector : List Bool) → length vector ≡ circuit.net.inputs → (target : ℕ) →
      Solution circuit vector target ↔ T (some_late circuit vector target)
