-- From a late output to a solution: the assignment that gives each node its value and each listed pair whether its rail
-- fits that value and its node settles that late solves the formula. A gate that settles late has, by the gate argument
-- of the rail that fits, late pins and no cube in time, and that is what the pair's clauses say. Law: complete. Assumes
-- nothing.
use mathlib.Core.Path.{◌≡◌, sym, ap, ◌∙◌, subst}
use mathlib.Core.Bool.{Bool, not, ◌&&◌, ◌||◌, beq, cond}
use mathlib.Core.List.{List, Memᴰ}
use mathlib.Core.Logic.{◌⊎◌, inl, inr}
use Prim.Native.Nat.{ℕ, zero, suc, ◌-◌, ◌≤◌, ◌<◌}
use native.Mathlib.Omega.{arith}
use lib.Dec.{T, leb, ltb, not_T, leb→le, le→leb, ltb→lt, nltb→le, leb-zero, leb-suc-zero}
use Rattle.basics.specs.Lists.{any, all}
use Rattle.basics.proofs.Truth.{
  decide,
  both_ways,
  is_true,
  is_false,
  and_both,
  and_left,
  and_right,
  or_left,
  or_right,
  agrees,
  by-table-of-two,
}
use Rattle.basics.proofs.Lists.{all_of, any_at, any_of, any-mono}
use Rattle.basics.proofs.Order.{leb-minus}
use Rattle.netlist.specs.Netlist.{Cell, Pin, Slopes}
use Rattle.settle.specs.Settling.{gate_value, ready_at}
use Rattle.settle.proofs.Argument.{gate_value-cong}
use Rattle.pairs.specs.Rails.{Rail, rails_of, rails_at}
use Rattle.pairs.proofs.Rails.{rail-number}
use Rattle.formula.specs.Formula.{gate_clauses, pair_clauses, formula}
use Rattle.certificate.proofs.Says.{
  solves,
  fits,
  late_true,
  driver_late_true,
  driver_fails,
  driver_true,
  told,
  some_pair,
  late-with-mono,
  gate-says,
  pair-says,
  late-says,
  gates_solved,
  rail_solved,
  pairs_solved,
  formula-says,
}
use Rattle.certificate.proofs.Facts.{
  Listed,
  Known,
  rail-of,
  rail-with,
  rail-for,
  driver-in,
  pin-in,
  settles-told,
}

module _ {slopes : Slopes} {I N : ℕ} {gates : List (ℕ × Cell)} {value : ℕ → Bool} {time top : ℕ → ℕ}
    {times : ℕ → List ℕ} {outputs : List ℕ} {target : ℕ}
    (known : Known slopes I N gates value time top times outputs target)
    {X : Type 0} (node : ℕ → X) (pair : ℕ → ℕ → X) (σ : X → Bool)
    (nodes-are : (n : ℕ) → n < N → σ (node n) ≡ value n)
    (pairs-are : (x : ℕ × Cell) → Memᴰ x gates → (r : Rail) → Memᴰ r (rails_at slopes x) → (t : ℕ) →
    Memᴰ t (times r.number) → σ (pair r.number t) ≡ (fits r (value x.0) && leb t (time x.0))) where
  -- one of a gate's pairs at a listed time is true exactly where the gate settles then or after it: the pair of the
  -- rail that fits
  some-pair-is : (n : ℕ) (g : Cell) → Memᴰ (n, g) gates → (t : ℕ) →
      ((rail : ℕ) → Memᴰ rail (rails_of slopes n) → Memᴰ t (times rail)) →
      some_pair slopes I top node pair σ n t ≡ leb t (time n)
  some-pair-is n g m t listed = both_ways (some_pair slopes I top node pair σ n t) (leb t (time n)) to of
    where
      to : T (some_pair slopes I top node pair σ n t) → T (leb t (time n))
      to u =
          let y = any_at (λ rail. σ (pair rail t)) (rails_of slopes n) u in
          let z = rail-with slopes (n, g) y.0 y.1 in
          let q = subst (λ rail. Memᴰ t (times rail)) z.2 (listed y.0 y.1) in
          and_right (fits z.0 (value n)) (leb t (time n))
          (subst T (ap (λ rail. σ (pair rail t)) z.2 ∙ pairs-are (n, g) m z.0 z.1 t q) y.2)

      of : T (leb t (time n)) → T (some_pair slopes I top node pair σ n t)
      of u =
          let z = rail-for slopes (n, g) (value n) in
          let number = rail-number slopes (n, g) z.0 z.1 in
          any_of (λ rail. σ (pair rail t)) (rails_of slopes n) z.0.number number
          (subst T (sym (pairs-are (n, g) m z.0 z.1 t (listed z.0.number number)))
          (and_both (fits z.0 (value n)) (leb t (time n)) z.2 u))

  -- of a gate, t is 0, or beyond the top and no time, or a listed pair's
  gate-late-is : (n t : ℕ) → n < N → I ≤ n → Listed slopes I top times n t →
      (leb t zero || leb t (top n) && some_pair slopes I top node pair σ n t) ≡ leb t (time n)
  gate-late-is n zero h i l = sym (leb-zero (time n))
  gate-late-is n (suc t) h i l = rw (leb-suc-zero t) (cut (decide (leb (suc t) (top n))))
    where
      cut : T (leb (suc t) (top n)) ⊎ (T (leb (suc t) (top n)) → ⊥) →
          (leb (suc t) (top n) && some_pair slopes I top node pair σ n (suc t)) ≡ leb (suc t) (time n)
      cut (inl u) =
          let w = known.laid.cover n i h in
          rw (is_true (leb (suc t) (top n)) u)
          (some-pair-is n w.0 w.1 (suc t) (l i (omega arith) (leb→le (suc t) (top n) u)))
      cut (inr u) =
          rw (is_false (leb (suc t) (top n)) u)
          (sym
          (is_false (leb (suc t) (time n))
          (λ v.
          u
          (let a = leb→le (suc t) (time n) v in
          let b = known.runs.time-top n h in
          le→leb (suc t) (top n) (omega arith)))))

  -- that a node is late at t is true exactly where it settles at t or after it
  late_is : (n t : ℕ) → n < N → Listed slopes I top times n t →
      late_true slopes I top node pair σ n t ≡ leb t (time n)
  late_is n t h l = late-says slopes I top node pair σ n t ∙ go (decide (ltb n I))
    where
      go : T (ltb n I) ⊎ (T (ltb n I) → ⊥) →
          cond (ltb n I) (leb t (top n)) (leb t zero || leb t (top n) && some_pair slopes I top node pair σ n t)
          ≡ leb t (time n)
      go (inl u) =
          rw (is_true (ltb n I) u) (ap (λ x. leb t x) (sym (known.runs.input-time n (ltb→lt n I u))))
      go (inr u) = rw (is_false (ltb n I) u) (gate-late-is n t h (nltb→le n I (not_T (ltb n I) u)) l)

  gate-solved : (n : ℕ) (g : Cell) → Memᴰ (n, g) gates → T (solves σ (gate_clauses node g.kind g.pins n))
  gate-solved n g m =
      subst T (sym (gate-says node σ g.kind g.pins n (known.laid.taken n g m)))
      (agrees (σ (node n)) (gate_value (driver_true node σ) g.kind g.pins)
      (nodes-are n (known.laid.high n g m)
      ∙ known.runs.value-fixed n g m
      ∙ gate_value-cong (λ (p : Pin). value p.driver) (driver_true node σ) g.kind g.pins
      (λ p i. sym (nodes-are p.driver (pin-in known.laid n g m p i)))))

  -- a gate that settles late is told so by its drivers, by the rail that fits
  told-late : (n : ℕ) (g : Cell) → Memᴰ (n, g) gates → (r : Rail) → Memᴰ r (rails_at slopes (n, g)) →
      T (fits r (value n)) → (t : ℕ) → Memᴰ (suc t) (times r.number) →
      T (leb (suc t) (time n)) → T (told slopes I top node pair σ (suc t) r.kind r.pins)
  told-late n g m r i f t j v =
      late-with-mono
      (λ p. leb (suc t) (ready_at time p)) (driver_late_true slopes I top node pair σ (suc t))
      (λ p b. not (beq (value p.driver) b)) (driver_fails slopes I top node pair σ)
      r.kind r.pins
      (λ p k w.
      subst T
      (sym
      (late_is p.driver (suc t - p.delay) (driver-in known.laid slopes n g m r i p k)
      (known.closed.drivers-in (n, g) m r i (suc t) j p k)))
      (subst T (sym (leb-minus (suc t) p.delay (time p.driver))) w))
      (λ p k b w.
      rw (nodes-are p.driver (driver-in known.laid slopes n g m r i p k))
      (subst T
      (sym
      (by-table-of-two (λ a b. beq a (not b)) (λ a b. not (beq a b)) tt (value p.driver) b)) w))
      (subst T (settles-told known.runs n g m r i f t) v)

  pair-solved : (n : ℕ) (g : Cell) → Memᴰ (n, g) gates → (r : Rail) → Memᴰ r (rails_at slopes (n, g)) →
      (t : ℕ) → Memᴰ t (times r.number) → T (solves σ (pair_clauses slopes I top node pair r t))
  pair-solved n g m r i zero j = let a = known.closed.positive r.number zero j in absurd (omega arith)
  pair-solved n g m r i (suc t) j =
      subst T (sym (pair-says slopes I top node pair σ r (suc t)))
      (rw
      (pairs-are (n, g) m r i (suc t) j, (rail-of slopes (n, g) r i).node-is, nodes-are n (known.laid.high n g m))
      (pick (decide holds)))
    where
      fit : Bool
      fit = fits r (value n)

      holds : Bool
      holds = fit && leb (suc t) (time n)

      late : Bool
      late = told slopes I top node pair σ (suc t) r.kind r.pins

      pick : T holds ⊎ (T holds → ⊥) → T (not holds || fit && late)
      pick (inl v) =
          let f = and_left fit (leb (suc t) (time n)) v in
          or_right (not holds) (fit && late)
          (and_both fit late f (told-late n g m r i f t j (and_right fit (leb (suc t) (time n)) v)))
      pick (inr v) = or_left (not holds) (fit && late) (not_T holds v)

  -- some output is late, so the formula is solved
  pub complete : T (any (λ o. leb target (time o)) outputs) →
      T (solves σ (formula slopes I top node pair gates times outputs target))
  complete u =
      subst T (sym (formula-says slopes I top node pair σ gates times outputs target))
      (and_both (gates_solved slopes I top node pair σ gates)
      (pairs_solved slopes I top node pair σ gates times
      && any (λ o. late_true slopes I top node pair σ o target) outputs)
      (all_of (λ x. solves σ (gate_clauses node x.1.kind x.1.pins x.0)) gates
      (λ x m. gate-solved x.0 x.1 m))
      (and_both (pairs_solved slopes I top node pair σ gates times)
      (any (λ o. late_true slopes I top node pair σ o target) outputs)
      (all_of (λ x. all (rail_solved slopes I top node pair σ times) (rails_at slopes x)) gates
      (λ x m.
      all_of (rail_solved slopes I top node pair σ times) (rails_at slopes x)
      (λ r i.
      all_of (λ t. solves σ (pair_clauses slopes I top node pair r t)) (times r.number)
      (λ t j. pair-solved x.0 x.1 m r i t j))))
      (any-mono (λ o. leb target (time o)) (λ o. late_true slopes I top node pair σ o target) outputs
      (λ o m v. subst T (sym (late_is o target (known.outputs-nodes o m) (known.closed.outputs-in o m))) v) u)))
