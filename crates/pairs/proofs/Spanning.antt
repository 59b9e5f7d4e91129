-- The words in which marks stand: one, and those of a pin more, whose first pair has the earliest time and whose
-- last the latest. Laws: spans-one, nothing-asked, spans-pin. Assumes nothing.
use mathlib.Core.Path.{◌≡◌, refl, ap}
use mathlib.Core.Logic.{◌⊎◌, inl, inr}
use mathlib.Core.List.{List}
use Prim.Native.Nat.{ℕ, ◌+◌, ◌-◌, ◌*◌, ◌/◌, ◌<◌, ◌≤◌, min, max}
use native.Mathlib.Omega.{arith}
use native.Mathlib.Decide.{dec_lt}
use lib.ListN.{length, get_or}
use Rattle.pairs.specs.declared.Span.{Span}
use Rattle.pairs.specs.Table.{pair_at, Sorted, Precede, Marked, Adds, Spans, Within, PinAsks}
use Rattle.pairs.proofs.Flat.{at_mem}
use Rattle.pairs.proofs.Search.{sorted-le}
use Rattle.pairs.proofs.Marking.{adds_none}
use Rattle.pairs.proofs.Asking.{pin-here}

-- one mark
pub spans-one : {top time : ℕ} {before after : List ℕ} → time ≤ top → ((t : ℕ) → Marked before t → ⊥) →
    Adds before (λ t. t ≡ time) after → Spans top after (record { low = time / 64; high = time / 64 + 1 })
spans-one {top} {time} {before} {after} h none adds =
    record { low = λ t m. (is t (adds.only t m)).0; high = λ t m. (is t (adds.only t m)).1; within = omega arith }
  where
    is : (t : ℕ) → Marked before t ⊎ (t ≡ time) → (time / 64 ≤ t / 64) × (t / 64 < time / 64 + 1)
    is t (inl m) = absurd (none t m)
    is t (inr e) = (omega arith, omega arith)

-- what a pin asks for
module _ {l : List (ℕ × ℕ)} {n delay top begin end : ℕ} (sorted : Sorted l) (small : top < 1000000)
    (short : delay < 1000) (p : Precede l (n * 4294967296 + delay + 1) begin)
    (q : Precede l (n * 4294967296 + delay + top + 1) end) where
  -- pair k is one of the node, with a time after the delay
  here : (k : ℕ) → begin ≤ k → k < end →
      ((pair_at l k).0 ≡ n) × (delay < (pair_at l k).1) × ((pair_at l k).1 - delay ≤ top)
  here k a b = pin-here k (pair_at l k).1 sorted small short p q a b refl

  -- a time that is asked for is not before the first and not after the last
  between : (t : ℕ) → Within top (PinAsks l n delay) t →
      (begin < end) × ((pair_at l begin).1 - delay ≤ t) × (t ≤ (pair_at l (end - 1)).1 - delay)
  between t u = go (at_mem (0, 0) l (n, t + delay) u.has.has)
    where
      go : (j : ℕ) × (j < length l) × (get_or l j (0, 0) ≡ (n, t + delay)) →
          (begin < end) × ((pair_at l begin).1 - delay ≤ t) × (t ≤ (pair_at l (end - 1)).1 - delay)
      go i =
          let node : (pair_at l i.0).0 ≡ n = ap (λ (x : ℕ × ℕ). x.0) i.2 in
          let time : (pair_at l i.0).1 ≡ t + delay = ap (λ (x : ℕ × ℕ). x.1) i.2 in
          pick node time (dec_lt i.0 begin) (dec_lt i.0 end)
        where
          pick : (pair_at l i.0).0 ≡ n → (pair_at l i.0).1 ≡ t + delay → Dec (i.0 < begin) → Dec (i.0 < end) →
              (begin < end) × ((pair_at l begin).1 - delay ≤ t) × (t ≤ (pair_at l (end - 1)).1 - delay)
          pick node time (yes a) b = absurd (omega (arith, p.before i.0 a, u.some))
          pick node time (no a) (no b) = absurd (omega (arith, q.after i.0 (omega arith) i.1, u.few))
          pick node time (no a) (yes b) = (
            omega arith,
            omega (
              arith,
              sorted-le sorted begin i.0 (omega arith) i.1,
              (here begin (omega arith) (omega arith)).0,
            ),
            omega (
              arith,
              sorted-le sorted i.0 (end - 1) (omega arith) (omega (arith, q.within)),
              (here (end - 1) (omega arith) (omega arith)).0,
            ),
          )

  -- nothing where no pair is the pin's
  pub nothing-asked : {marks : List ℕ} → end ≤ begin → Adds marks (Within top (PinAsks l n delay)) marks
  nothing-asked h = adds_none (Within top (PinAsks l n delay)) (λ t u. omega (arith, (between t u).0))

  pub spans-pin : {a c : List ℕ} {span r : Span} → begin < end → Spans top a span →
      Adds a (Within top (PinAsks l n delay)) c → r.low ≡ min span.low (((pair_at l begin).1 - delay) / 64) →
      r.high ≡ max span.high (((pair_at l (end - 1)).1 - delay) / 64 + 1) → Spans top c r
  spans-pin {a} {c} {span} {r} h old adds e f =
      record {
        low = λ t m. omega (arith, first t (adds.only t m));
        high = λ t m. omega (arith, last t (adds.only t m));
        within = omega (arith, old.within, (here (end - 1) (omega arith) (omega arith)).2);
      }
    where
      first : (t : ℕ) → Marked a t ⊎ Within top (PinAsks l n delay) t →
          min span.low (((pair_at l begin).1 - delay) / 64) ≤ t / 64
      first t (inl m) = omega (arith, old.low t m)
      first t (inr u) = omega (arith, (between t u).1)

      last : (t : ℕ) → Marked a t ⊎ Within top (PinAsks l n delay) t →
          t / 64 < max span.high (((pair_at l (end - 1)).1 - delay) / 64 + 1)
      last t (inl m) = omega (arith, old.high t m)
      last t (inr u) = omega (arith, (between t u).2)
