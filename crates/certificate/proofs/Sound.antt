-- From a solution to a late output: in a solution whose inputs are the vector's, each node's variable is its value,
-- node after node, and each listed pair that is true is of a rail that fits its node's value and of a node that settles
-- that late, again node after node: its clauses name late drivers, and the gate argument makes the gate late. Law:
-- sound. Assumes nothing.
use mathlib.Core.Path.{◌≡◌, sym, ap, ◌∙◌, subst}
use mathlib.Core.Bool.{Bool, not, ◌&&◌, ◌||◌, beq, cond}
use mathlib.Core.List.{List, Memᴰ}
use mathlib.Core.Logic.{◌⊎◌, inl, inr}
use Prim.Native.Nat.{ℕ, zero, suc, ◌-◌, ◌≤◌, ◌<◌}
use native.Mathlib.Omega.{arith}
use lib.Dec.{T, leb, ltb, T_not, not_T, leb→le, le→leb, ltb→lt, nltb→le, leb-suc-zero}
use Rattle.basics.specs.Lists.{any, all}
use Rattle.basics.proofs.Truth.{
  decide,
  is_true,
  is_false,
  and_left,
  and_right,
  or_cases,
  agree,
  by-table-of-two,
}
use Rattle.basics.proofs.Lists.{all-at, any_at, any-mono}
use Rattle.basics.proofs.Order.{leb-minus}
use Rattle.netlist.specs.Netlist.{Cell, Pin, Slopes}
use Rattle.settle.specs.Settling.{gate_value, ready_at}
use Rattle.settle.proofs.Argument.{gate_value-cong}
use Rattle.pairs.specs.Rails.{Rail, rails_of, rails_at}
use Rattle.formula.specs.Formula.{gate_clauses, pair_clauses, formula}
use Rattle.certificate.proofs.Says.{
  solves,
  fits,
  late_true,
  driver_late_true,
  driver_fails,
  driver_true,
  told,
  rail_told,
  some_pair,
  late-with-mono,
  gate-says,
  pair-says,
  late-says,
  gates_solved,
  rail_solved,
  pairs_solved,
  formula-says,
}
use Rattle.certificate.proofs.Facts.{Listed, Known, rail-of, rail-with, driver-below, driver-in, settles-told}

module _ {slopes : Slopes} {I N : ℕ} {gates : List (ℕ × Cell)} {value : ℕ → Bool} {time top : ℕ → ℕ}
    {times : ℕ → List ℕ} {outputs : List ℕ} {target : ℕ}
    (known : Known slopes I N gates value time top times outputs target)
    {X : Type 0} (node : ℕ → X) (pair : ℕ → ℕ → X) (σ : X → Bool)
    (inputs_are : (n : ℕ) → n < I → σ (node n) ≡ value n)
    (solved : T (solves σ (formula slopes I top node pair gates times outputs target))) where
  abbrev gates_hold : Bool
  gates_hold = gates_solved slopes I top node pair σ gates

  abbrev pairs_hold : Bool
  pairs_hold = pairs_solved slopes I top node pair σ gates times

  -- a node is said to be late
  abbrev said_late : ℕ → ℕ → Bool
  said_late = late_true slopes I top node pair σ

  abbrev output_late : Bool
  output_late = any (λ o. said_late o target) outputs

  solved-parts : T (gates_hold && (pairs_hold && output_late))
  solved-parts = subst T (formula-says slopes I top node pair σ gates times outputs target) solved

  rest-solved : T (pairs_hold && output_late)
  rest-solved = and_right gates_hold (pairs_hold && output_late) solved-parts

  -- a gate's variable is the gate's value of its drivers' variables
  gate-solved : (n : ℕ) (g : Cell) → Memᴰ (n, g) gates →
      σ (node n) ≡ gate_value (driver_true node σ) g.kind g.pins
  gate-solved n g m =
      agree (σ (node n)) (gate_value (driver_true node σ) g.kind g.pins)
      (subst T (gate-says node σ g.kind g.pins n (known.laid.taken n g m))
      (all-at (λ x. solves σ (gate_clauses node x.1.kind x.1.pins x.0)) gates
      (and_left gates_hold (pairs_hold && output_late) solved-parts) (n, g) m))

  -- a listed pair that is true fits, and is told by its drivers
  pair-solved : (x : ℕ × Cell) → Memᴰ x gates → (r : Rail) → Memᴰ r (rails_at slopes x) → (t : ℕ) →
      Memᴰ t (times r.number) → T (σ (pair r.number t)) → T (rail_told slopes I top node pair σ r t)
  pair-solved x m r i t j u =
      go
      (or_cases (not (σ (pair r.number t))) (rail_told slopes I top node pair σ r t)
      (subst T (pair-says slopes I top node pair σ r t)
      (all-at (λ t. solves σ (pair_clauses slopes I top node pair r t)) (times r.number)
      (all-at (rail_solved slopes I top node pair σ times) (rails_at slopes x)
      (all-at (λ x. all (rail_solved slopes I top node pair σ times) (rails_at slopes x)) gates
      (and_left pairs_hold output_late rest-solved) x m) r i) t j)))
    where
      go : T (not (σ (pair r.number t))) ⊎ T (rail_told slopes I top node pair σ r t) →
          T (rail_told slopes I top node pair σ r t)
      go (inl v) = absurd (T_not (σ (pair r.number t)) v u)
      go (inr v) = v

  -- each node's variable is its value: by induction on the node, for those below m
  nodes-below : (m n : ℕ) → n < m → n < N → σ (node n) ≡ value n
  nodes-below zero n h k = absurd (omega arith)
  nodes-below (suc m) n h k = go (decide (ltb n I)) (λ p a b. nodes-below m p a b)
    where
      go : T (ltb n I) ⊎ (T (ltb n I) → ⊥) → ((p : ℕ) → p < m → p < N → σ (node p) ≡ value p) → σ (node n) ≡ value n
      go (inl u) r = inputs_are n (ltb→lt n I u)
      go (inr u) r =
          let w = known.laid.cover n (nltb→le n I (not_T (ltb n I) u)) k in
          gate-solved n w.0 w.1
          ∙ gate_value-cong (driver_true node σ) (λ (p : Pin). value p.driver) w.0.kind w.0.pins
          (λ p i.
          let a = known.laid.below n w.0 w.1 p i in
          r p.driver (omega arith) (omega arith))
          ∙ sym (known.runs.value-fixed n w.0 w.1)

  nodes-are : (n : ℕ) → n < N → σ (node n) ≡ value n
  nodes-are n h = nodes-below N n h h

  -- what is told of a gate by a rail that fits is so, where what is said of nodes below it is so
  told-late : (n : ℕ) (g : Cell) → Memᴰ (n, g) gates → (r : Rail) → Memᴰ r (rails_at slopes (n, g)) →
      T (fits r (value n)) → (t : ℕ) → Memᴰ (suc t) (times r.number) →
      ((p s : ℕ) → p < n → p < N → Listed slopes I top times p s → T (said_late p s) → T (leb s (time p))) →
      T (told slopes I top node pair σ (suc t) r.kind r.pins) → T (leb (suc t) (time n))
  told-late n g m r i f t j below u =
      subst T (sym (settles-told known.runs n g m r i f t))
      (late-with-mono
      (driver_late_true slopes I top node pair σ (suc t)) (λ p. leb (suc t) (ready_at time p))
      (driver_fails slopes I top node pair σ) (λ p b. not (beq (value p.driver) b))
      r.kind r.pins
      (λ p k w.
      subst T (leb-minus (suc t) p.delay (time p.driver))
      (below p.driver (suc t - p.delay) (driver-below known.laid slopes n g m r i p k)
      (driver-in known.laid slopes n g m r i p k)
      (known.closed.drivers-in (n, g) m r i (suc t) j p k) w))
      (λ p k b w.
      subst T (by-table-of-two (λ a b. beq a (not b)) (λ a b. not (beq a b)) tt (value p.driver) b)
      (rw (nodes-are p.driver (driver-in known.laid slopes n g m r i p k)) at w))
      u)

  -- a node that is said to be late is late: by induction on the node, for those below m
  late_below : (m n t : ℕ) → n < m → n < N → Listed slopes I top times n t → T (said_late n t) → T (leb t (time n))
  late_below zero n t h k l u = absurd (omega arith)
  late_below (suc m) n t h k l u =
      go (decide (ltb n I)) (subst T (late-says slopes I top node pair σ n t) u) (λ p s a b. late_below m p s a b)
    where
      -- by one of its rails, which fits its value
      rail : (t : ℕ) (g : Cell) → Memᴰ (n, g) gates → (r : Rail) → Memᴰ r (rails_at slopes (n, g)) →
          Memᴰ (suc t) (times r.number) → T (σ (pair r.number (suc t))) →
          ((p s : ℕ) → p < n → p < N → Listed slopes I top times p s → T (said_late p s) → T (leb s (time p))) →
          T (leb (suc t) (time n))
      rail t g i r j listed true below =
          let both = pair-solved (n, g) i r j (suc t) listed true in
          let fit = fits r (σ (node r.node)) in
          let late = told slopes I top node pair σ (suc t) r.kind r.pins in
          told-late n g i r j
          (subst (λ b. T (fits r b)) (ap (λ n. σ (node n)) (rail-of slopes (n, g) r j).node-is ∙ nodes-are n k)
          (and_left fit late both))
          t listed below (and_right fit late both)

      gate : I ≤ n → (t : ℕ) → Listed slopes I top times n t →
          T (leb t zero || leb t (top n) && some_pair slopes I top node pair σ n t) →
          ((p s : ℕ) → p < m → p < N → Listed slopes I top times p s → T (said_late p s) → T (leb s (time p))) →
          T (leb t (time n))
      gate i zero l v r = le→leb zero (time n) (omega arith)
      gate i (suc t) l v r =
          let x = rw (leb-suc-zero t) at v in
          let within = leb (suc t) (top n) in
          let some = some_pair slopes I top node pair σ n (suc t) in
          let w = known.laid.cover n i k in
          let y = any_at (λ rail. σ (pair rail (suc t))) (rails_of slopes n) (and_right within some x) in
          let z = rail-with slopes (n, w.0) y.0 y.1 in
          let q = l i (omega arith) (leb→le (suc t) (top n) (and_left within some x)) y.0 y.1 in
          rail t w.0 w.1 z.0 z.1 (subst (λ rail. Memᴰ (suc t) (times rail)) z.2 q)
          (subst (λ rail. T (σ (pair rail (suc t)))) z.2 y.2) (λ p s a. r p s (omega arith))

      go : T (ltb n I) ⊎ (T (ltb n I) → ⊥) →
          T
          (cond (ltb n I) (leb t (top n))
          (leb t zero || leb t (top n) && some_pair slopes I top node pair σ n t)) →
          ((p s : ℕ) → p < m → p < N → Listed slopes I top times p s → T (said_late p s) → T (leb s (time p))) →
          T (leb t (time n))
      go (inl a) v r =
          subst (λ x. T (leb t x)) (sym (known.runs.input-time n (ltb→lt n I a))) (rw (is_true (ltb n I) a) at v)
      go (inr a) v r = gate (nltb→le n I (not_T (ltb n I) a)) t l (rw (is_false (ltb n I) a) at v) r

  -- the formula is solved, so some output is late
  pub sound : T (any (λ o. leb target (time o)) outputs)
  sound =
      any-mono (λ o. said_late o target) (λ o. leb target (time o)) outputs
      (λ o m u.
      late_below N o target (known.outputs-nodes o m) (known.outputs-nodes o m) (known.closed.outputs-in o m) u)
      (and_right pairs_hold output_late rest-solved)
