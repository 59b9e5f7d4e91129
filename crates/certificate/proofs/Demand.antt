-- Demand 3 of every valid circuit, whatever its slopes: the facts of its nodes and pairs are those that Sound and
-- Complete ask for; the assignment of a vector gives a node's variable its value and the variable at a pair's place
-- whether the pair's rail fits its node's value and the node settles that late. Laws: demand-at (of one vector and
-- target), demand. Assumes nothing.
use mathlib.Core.Path.{◌≡◌, sym, ap, ◌∙◌, subst}
use mathlib.Core.Bool.{Bool, true, false, ◌&&◌, beq, cond}
use mathlib.Core.List.Memᴰ
use mathlib.Core.List.{List, Memᴰ}
use mathlib.Core.Logic.{◌↔◌}
use Prim.Native.Nat.{ℕ, zero, suc, ◌+◌, ◌-◌, ◌*◌, ◌%◌, ◌<◌}
use native.Mathlib.Omega.{arith}
use lib.Dec.{T, leb, ltb, eqb, ltb→lt, lt→ltb}
use lib.ListN.{length, get_or}
use Rattle.basics.proofs.Truth.{is_true, is_false, by-table-of-one}
use Rattle.netlist.specs.Netlist.{Cell, valid, nodes, node_count, Circuit, Slopes, alike, apart}
use Rattle.netlist.specs.Holds.{Small}
use Rattle.netlist.proofs.Valid.{valid-outputs}
use Rattle.settle.specs.Settling.{value_of, time_of, top_of}
use Rattle.settle.proofs.Nodes.{laid, runs, input-value, Arrives}
use Rattle.pairs.specs.Rails.{Rail, node_of, rails_at}
use Rattle.pairs.specs.Pairs.{times_for, pairs_for, pair_place}
use Rattle.pairs.proofs.Rails.{rail-node, rail-number}
use Rattle.pairs.proofs.Closed.{closed-for, place-for}
use Rattle.formula.specs.Formula.{node_variable, pair_variable, formula_for}
use Rattle.certificate.specs.Demand.{Solution, some_late, Demand}
use Rattle.certificate.proofs.Says.{fits}
use Rattle.certificate.proofs.Facts.{Known}
use Rattle.certificate.proofs.Complete.{complete}
use Rattle.certificate.proofs.Sound.{sound}

-- a rail fits a final value of its node, by the rail's number
abbrev number_fits : Slopes → ℕ → Bool → Bool
number_fits alike rail value = true
number_fits (apart falls) rail value = beq value (eqb (rail % 2) 1)

fits-number : (slopes : Slopes) (x : ℕ × Cell) (r : Rail) → Memᴰ r (rails_at slopes x) → (value : Bool) →
    number_fits slopes r.number value ≡ fits r value
fits-number alike x r (Memᴰ.head e) value = ap (λ (r : Rail). fits r value) (sym e)
fits-number alike x r (Memᴰ.tail m) value = absurd (Memᴰ.not-nil m)
fits-number (apart falls) x r (Memᴰ.head e) value =
    let even : x.0 * 2 % 2 ≡ 0 = omega arith in
    subst (λ (r : Rail). number_fits (apart falls) r.number value ≡ fits r value) (sym e)
    (ap (λ (n : ℕ). beq value (eqb n 1)) even
    ∙ by-table-of-one (λ a. beq a false) (λ a. beq a false && true) tt value)
fits-number (apart falls) x r (Memᴰ.tail (Memᴰ.head e)) value =
    let odd : (x.0 * 2 + 1) % 2 ≡ 1 = omega arith in
    subst (λ (r : Rail). number_fits (apart falls) r.number value ≡ fits r value) (sym e)
    (ap (λ (n : ℕ). beq value (eqb n 1)) odd
    ∙ by-table-of-one (λ a. beq a true) (λ a. beq a true && true) tt value)
fits-number (apart falls) x r (Memᴰ.tail (Memᴰ.tail m)) value = absurd (Memᴰ.not-nil m)

module _ (circuit : Circuit) (ok : T (valid circuit.net)) (as_many : Arrives circuit)
    (small : Small circuit.slopes) (vector : List Bool) (as_long : length vector ≡ circuit.net.inputs)
    (target : ℕ) where
  -- the facts that demand 3 rests on
  known : Known circuit.slopes circuit.net.inputs (node_count circuit.net) (nodes circuit.net)
      (value_of circuit.net vector) (time_of circuit vector)
      (top_of circuit) (times_for circuit target) circuit.net.outputs target
  known =
      record {
        laid = laid circuit.net ok;
        runs = runs circuit ok as_many small vector as_long;
        closed = closed-for circuit ok target;
        outputs-nodes = valid-outputs circuit.net ok;
      }

  -- a pair is true: its rail fits, and its node settles that late
  abbrev pair_holds : ℕ × ℕ → Bool
  pair_holds y =
      number_fits circuit.slopes y.0 (value_of circuit.net vector (node_of circuit.slopes y.0))
      && leb y.1 (time_of circuit vector (node_of circuit.slopes y.0))

  -- the assignment of the vector
  assignment : ℕ → Bool
  assignment zero = false
  assignment (suc n) =
      cond (ltb n (node_count circuit.net)) (value_of circuit.net vector n)
      (pair_holds (get_or (pairs_for circuit target) (n - node_count circuit.net) (0, 0)))

  assignment-node : (n : ℕ) → n < node_count circuit.net →
      assignment (node_variable n) ≡ value_of circuit.net vector n
  unfolding assignment
  assignment-node n h = rw (is_true (ltb n (node_count circuit.net)) (lt→ltb n (node_count circuit.net) h))

  assignment-pair : (x : ℕ × Cell) (r : Rail) → Memᴰ r (rails_at circuit.slopes x) → (t : ℕ) →
      Memᴰ t (times_for circuit target r.number) →
      assignment (pair_variable circuit target r.number t)
      ≡ (fits r (value_of circuit.net vector x.0) && leb t (time_of circuit vector x.0))
  unfolding assignment pair_variable
  assignment-pair x r i t m =
      let place : ℕ = pair_place r.number t (pairs_for circuit target) in
      let e : node_count circuit.net + place - node_count circuit.net ≡ place = omega arith in
      rw
      (is_false (ltb (node_count circuit.net + place) (node_count circuit.net))
      (λ u. let h = ltb→lt (node_count circuit.net + place) (node_count circuit.net) u in omega arith))
      (ap pair_holds
      (ap (λ (k : ℕ). get_or (pairs_for circuit target) k (0, 0)) e ∙ place-for circuit ok target r.number t m)
      ∙ ap
      (λ (n : ℕ).
      number_fits circuit.slopes r.number (value_of circuit.net vector n)
      && leb t (time_of circuit vector n))
      (rail-node circuit.slopes x.0 r.number (rail-number circuit.slopes x r i))
      ∙ ap (λ (b : Bool). b && leb t (time_of circuit vector x.0))
      (fits-number circuit.slopes x r i (value_of circuit.net vector x.0)))

  -- "an input vector can be completed to a solution of the formula exactly when some output settles at that time or
  -- later"
  pub demand-at : Solution circuit vector target ↔ T (some_late circuit vector target)
  unfolding formula_for
  demand-at = (to, of)
    where
      to : Solution circuit vector target → T (some_late circuit vector target)
      to s =
          sound known node_variable (pair_variable circuit target) s.assignment
          (λ n h. s.inputs n h ∙ sym (input-value circuit.net vector as_long n h)) s.solves

      of : T (some_late circuit vector target) → Solution circuit vector target
      of u =
          record {
            assignment = assignment;
            inputs = λ n h. assignment-node n (omega arith) ∙ input-value circuit.net vector as_long n h;
            solves =
                complete known node_variable (pair_variable circuit target) assignment assignment-node
                (λ x m r i t j. assignment-pair x r i t j) u;
          }

-- demand 3, as specs/Demand states it
pub demand : (circuit : Circuit) → T (valid circuit.net) → Arrives circuit → Small circuit.slopes →
    Demand circuit
demand circuit ok as_many small =
    record { completes = λ vector as_long target. demand-at circuit ok as_many small vector as_long target }
