-- The numbers from a up, what a function makes of them, and entries with their numbers: lengths, entries and members.
-- Assumes nothing.
use mathlib.Core.Path.{◌≡◌, refl, ap, ◌∙◌, subst}
use mathlib.Core.List.Memᴰ
use mathlib.Core.List.{List, [], ◌∷◌, ◌++◌, map, Memᴰ}
use Prim.Native.Nat.{ℕ, zero, suc, ◌+◌, ◌≤◌, ◌<◌}
use native.Mathlib.Omega.{arith}
use lib.ListN.{length, get_or, drop}
use Rattle.basics.specs.Lists.{up_from, numbered}

-- ---- the n numbers from a up

pub length-up_from : (a n : ℕ) → length (up_from a n) ≡ n
length-up_from a zero = refl
length-up_from a (suc n) = ap suc (length-up_from (suc a) n)

-- the members lie between a and a + n
pub up_from-within : (a n s : ℕ) → Memᴰ s (up_from a n) → (a ≤ s) × (s < a + n)
up_from-within a zero s m = absurd (Memᴰ.not-nil m)
up_from-within a (suc n) s (Memᴰ.head e) = (omega arith, omega arith)
up_from-within a (suc n) s (Memᴰ.tail m) = let w = up_from-within (suc a) n s m in (omega arith, omega arith)

-- n numbers and then m more
pub up_from-append : (a n m : ℕ) → up_from a (n + m) ≡ up_from a n ++ up_from (a + n) m
up_from-append a zero m =
    let e : 0 + m ≡ m = omega arith in
    let f : a ≡ a + 0 = omega arith in
    ap (up_from a) e ∙ ap (λ (k : ℕ). up_from k m) f
up_from-append a (suc n) m =
    let e : suc n + m ≡ suc (n + m) = omega arith in
    let f : suc a + n ≡ a + suc n = omega arith in
    ap (up_from a) e
    ∙ ap (λ (t : List ℕ). a ∷ t) (up_from-append (suc a) n m ∙ ap (λ (k : ℕ). up_from (suc a) n ++ up_from k m) f)

module _ {A : Type 0} where
  pub length-map-up_from : (f : ℕ → A) (a n : ℕ) → length (map f (up_from a n)) ≡ n
  length-map-up_from f a zero = refl
  length-map-up_from f a (suc n) = ap suc (length-map-up_from f (suc a) n)

  -- entry i is made of a + i
  pub map-up_from-at : (f : ℕ → A) (a n i : ℕ) (d : A) → i < n → get_or (map f (up_from a n)) i d ≡ f (a + i)
  map-up_from-at f a zero i d h = absurd (omega arith)
  map-up_from-at f a (suc n) zero d h = let e : a ≡ a + 0 = omega arith in ap f e
  map-up_from-at f a (suc n) (suc i) d h =
      let e : suc a + i ≡ a + suc i = omega arith in
      map-up_from-at f (suc a) n i d (omega arith) ∙ ap f e

-- ---- entries with their numbers, counted from n

module _ {A : Type 0} where
  pub length-numbered : (n : ℕ) (l : List A) → length (numbered n l) ≡ length l
  length-numbered n [] = refl
  length-numbered n (x ∷ l) = ap suc (length-numbered (suc n) l)

  -- entry i stands there under the number n + i
  pub numbered-has : (n : ℕ) (l : List A) (i : ℕ) (d : A) → i < length l →
      Memᴰ (n + i, get_or l i d) (numbered n l)
  numbered-has n [] i d h = absurd (omega arith)
  numbered-has n (x ∷ l) zero d h =
      let e : n + 0 ≡ n = omega arith in
      Memᴰ.head (ap (λ (k : ℕ). (k, x)) e)
  numbered-has n (x ∷ l) (suc i) d h =
      let e : suc n + i ≡ n + suc i = omega arith in
      Memᴰ.tail
      (subst (λ (k : ℕ). Memᴰ (k, get_or l i d) (numbered (suc n) l)) e (numbered-has (suc n) l i d (omega arith)))

  -- and nothing else does
  pub numbered-only : (n : ℕ) (l : List A) (d : A) (y : ℕ × A) → Memᴰ y (numbered n l) →
      (i : ℕ) × (i < length l) × (y ≡ (n + i, get_or l i d))
  numbered-only n [] d y m = absurd (Memᴰ.not-nil m)
  numbered-only n (x ∷ l) d y (Memᴰ.head e) =
      let z : n ≡ n + 0 = omega arith in
      (0, omega arith, e ∙ ap (λ (k : ℕ). (k, x)) z)
  numbered-only n (x ∷ l) d y (Memᴰ.tail m) =
      let w = numbered-only (suc n) l d y m in
      let z : suc n + w.0 ≡ n + suc w.0 = omega arith in
      (suc w.0, omega (arith, w.1), w.2 ∙ ap (λ (k : ℕ). (k, get_or l w.0 d)) z)

  -- from entry i on they are numbered from n + i
  pub drop-numbered : (i n : ℕ) (l : List A) → drop i (numbered n l) ≡ numbered (n + i) (drop i l)
  drop-numbered zero n l = let e : n ≡ n + 0 = omega arith in ap (λ (k : ℕ). numbered k l) e
  drop-numbered (suc i) n [] = refl
  drop-numbered (suc i) n (x ∷ l) =
      let e : suc n + i ≡ n + suc i = omega arith in
      drop-numbered i (suc n) l ∙ ap (λ (k : ℕ). numbered k (drop i l)) e
