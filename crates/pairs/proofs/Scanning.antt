-- The marks as they are read, from the last word down and in each word from the highest bit down: what is left is below
-- what was read, which was the largest. Laws: scanning-fresh, scanning-next, scanning-clear, scanning-none;
-- scanning-found, scanning-most, scanning-taken. Assumes nothing.
use mathlib.Core.Path.{◌≡◌, sym, ◌∙◌}
use mathlib.Core.Logic.{◌⊎◌, inl, inr}
use mathlib.Core.List.{List}
use Prim.Native.Nat.{ℕ, ◌+◌, ◌*◌, ◌-◌, ◌/◌, ◌%◌, ◌^◌, ◌<◌, ◌≤◌}
use native.Mathlib.Omega.{arith}
use native.Mathlib.Decide.{dec_lt, ℕ_discrete}
use lib.ListN.{length, get_or, set, length-set}
use lib.Pow.{pow_pos}
use Rattle.pairs.specs.Table.{bit_at, Marked, Adds, Highest, Spans}
use Rattle.pairs.specs.declared.Span.{Span}
use Rattle.pairs.proofs.Bits.{bit-none, less-below, less-above, top_above, top-here}
use Rattle.pairs.proofs.Marking.{to-bit, of-bit, to-other, of_other, of-set}

-- time t is left: a bit of the word that is read, or marked
abbrev pub Left : List ℕ → ℕ → ℕ → ℕ → Type 0
Left marks word bits t = ((t / 64 ≡ word) × (bit_at bits (t % 64) ≡ 1)) ⊎ Marked marks t

-- what is left are the times below b that have a property, and the marks are in the words from `low` to before the one
-- that is read
pub record Scanning (Has : ℕ → Type 0) (b : ℕ) (marks : List ℕ) (low word bits : ℕ) : Type 0 where
  pub room : word < length marks
  pub least : (t : ℕ) → Marked marks t → low ≤ t / 64
  pub before : (t : ℕ) → Marked marks t → t / 64 < word
  pub each : (t : ℕ) → Left marks word bits t → Has t × (t < b)
  pub all : (t : ℕ) → Has t → t < b → Left marks word bits t

-- no bit is left of 0
no-bit : (k : ℕ) → bit_at 0 k ≡ 1 → ⊥
no-bit k e = omega (arith, bit-none 0 k (pow_pos k))

module _ (Has : ℕ → Type 0) {marks : List ℕ} where
  -- nothing was marked, and then what has the property
  pub scanning-fresh : {old : List ℕ} {X : ℕ → Type 0} {top : ℕ} {span : Span} (b : ℕ) →
      ((t : ℕ) → Marked old t → ⊥) → Adds old X marks → ((t : ℕ) → X t → Has t × (t < b)) →
      ((t : ℕ) → Has t → t < b → X t) → Spans top marks span → span.high < length marks →
      Scanning Has b marks span.low span.high 0
  scanning-fresh {old} {X} {span = span} b h w f g spans r =
      record {
        room = r;
        least = spans.low;
        before = spans.high;
        each = λ t u. each t u;
        all = λ t u i. inr (w.new t (g t u i));
      }
    where
      has : (t : ℕ) → Marked marks t → X t
      has t m = pick (w.only t m)
        where
          pick : Marked old t ⊎ X t → X t
          pick (inl v) = absurd (h t v)
          pick (inr v) = v

      each : (t : ℕ) → Left marks span.high 0 t → Has t × (t < b)
      each t (inl u) = absurd (no-bit (t % 64) u.1)
      each t (inr m) = f t (has t m)

module _ {Has : ℕ → Type 0} {b : ℕ} {marks : List ℕ} {low : ℕ} where
  -- nothing is left
  pub scanning-clear : {word : ℕ} → Scanning Has b marks low word 0 → word ≤ low → (t : ℕ) → Marked marks t → ⊥
  scanning-clear w h t m = omega (arith, w.before t m, w.least t m)

  pub scanning-none : {word : ℕ} → Scanning Has b marks low word 0 → word ≤ low → (t : ℕ) → Has t → t < b → ⊥
  scanning-none {word} w h t u l = pick (w.all t u l)
    where
      pick : Left marks word 0 t → ⊥
      pick (inl v) = no-bit (t % 64) v.1
      pick (inr m) = scanning-clear w h t m

  -- the word before this one is read
  pub scanning-next : {word : ℕ} → Scanning Has b marks low word 0 → low < word →
      Scanning Has b (set marks (word - 1) 0) low (word - 1) (get_or marks (word - 1) 0)
  scanning-next {word} w h =
      record {
        room = rw length-set room;
        least = λ t m. w.least t (old t m (ℕ_discrete (t / 64) (word - 1))).1;
        before = λ t m. lower t (old t m (ℕ_discrete (t / 64) (word - 1)));
        each = λ t u. each t u;
        all = λ t u l. more t (w.all t u l) (ℕ_discrete (t / 64) (word - 1));
      }
    where
      room : word - 1 < length marks
      room = omega (arith, w.room)

      old : (t : ℕ) → Marked (set marks (word - 1) 0) t → Dec (t / 64 ≡ word - 1) →
          (t / 64 ≡ word - 1 → ⊥) × Marked marks t
      old t m (yes p) = absurd (no-bit (t % 64) (of-set marks (word - 1) 0 room t p m))
      old t m (no p) = (p, of_other marks (word - 1) 0 room t p m)

      lower : (t : ℕ) → (t / 64 ≡ word - 1 → ⊥) × Marked marks t → t / 64 < word - 1
      lower t u = omega (arith, u.0, w.before t u.1)

      each : (t : ℕ) → Left (set marks (word - 1) 0) (word - 1) (get_or marks (word - 1) 0) t → Has t × (t < b)
      each t (inl u) = w.each t (inr (of-bit t (word - 1) u.0 u.1))
      each t (inr m) = w.each t (inr (old t m (ℕ_discrete (t / 64) (word - 1))).1)

      more : (t : ℕ) → Left marks word 0 t → Dec (t / 64 ≡ word - 1) →
          Left (set marks (word - 1) 0) (word - 1) (get_or marks (word - 1) 0) t
      more t (inl u) p = absurd (no-bit (t % 64) u.1)
      more t (inr m) (yes p) = inl (p, to-bit (word - 1) p m)
      more t (inr m) (no p) = inr (to-other marks (word - 1) 0 room t p m)

  -- the highest bit is read: time t
  module _ {word bits k : ℕ} (w : Scanning Has b marks low word bits) (high : Highest bits k) (t : ℕ)
      (here : t ≡ word * 64 + k) where
    pub scanning-found : Has t × (t < b)
    scanning-found =
        w.each t
        (inl (omega (arith, high.within), rw place (top-here bits k high.least high.most)))
      where
        place : t % 64 ≡ k
        place = omega (arith, high.within)

    -- a time that is left is t, or below it and still left
    later : (s : ℕ) → Left marks word bits s → (s ≡ t) ⊎ ((s < t) × Left marks word (bits - 2 ^ k) s)
    later s (inr m) = inr (omega (arith, w.before s m), inr m)
    later s (inl u) = go (ℕ_discrete (s % 64) k) (dec_lt k (s % 64))
      where
        go : Dec (s % 64 ≡ k) → Dec (k < s % 64) → (s ≡ t) ⊎ ((s < t) × Left marks word (bits - 2 ^ k) s)
        go (yes q) l = inl (omega (arith, u.0))
        go (no q) (yes l) =
            absurd (omega (arith, u.1, top_above bits k high.least high.most (s % 64) l))
        go (no q) (no l) =
            inr (
              omega (arith, u.0),
              inl (u.0, less-below bits k high.least high.most (s % 64) (omega arith) ∙ u.1),
            )

    pub scanning-most : (s : ℕ) → Has s → s < b → s ≤ t
    scanning-most s h l = pick (later s (w.all s h l))
      where
        pick : (s ≡ t) ⊎ ((s < t) × Left marks word (bits - 2 ^ k) s) → s ≤ t
        pick (inl e) = omega arith
        pick (inr u) = omega (arith, u.0)

    pub scanning-taken : (rest : ℕ) → rest ≡ bits - 2 ^ k → Scanning Has t marks low word rest
    scanning-taken rest e =
        rw e
        (record {
          room = w.room;
          least = w.least;
          before = w.before;
          each = λ s u. each s u;
          all = λ s h l. all s l (later s (w.all s h (omega (arith, scanning-found.1))));
        })
      where
        each : (s : ℕ) → Left marks word (bits - 2 ^ k) s → Has s × (s < t)
        each s (inr m) = ((w.each s (inr m)).0, omega (arith, w.before s m))
        each s (inl u) = go (dec_lt (s % 64) k)
          where
            go : Dec (s % 64 < k) → Has s × (s < t)
            go (yes l) = (
              (w.each s (inl (u.0, sym (less-below bits k high.least high.most (s % 64) l) ∙ u.1))).0,
              omega (arith, u.0),
            )
            go (no l) =
                absurd (omega (arith, u.1, less-above bits k high.least high.most (s % 64) (omega arith)))

        all : (s : ℕ) → s < t → (s ≡ t) ⊎ ((s < t) × Left marks word (bits - 2 ^ k) s) →
            Left marks word (bits - 2 ^ k) s
        all s l (inl q) = absurd (omega arith)
        all s l (inr u) = u.1
