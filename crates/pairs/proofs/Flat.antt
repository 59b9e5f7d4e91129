-- Pairs as numbers and back: two numbers a pair, so that pair k stands at 2k and 2k + 1. Laws: pairs-flat, flat-length,
-- pairs-length, pairs-at, key_here, time-here; mem-at, at_mem; zeros-at; part. Assumes nothing.
use mathlib.Core.Path.{◌≡◌, refl, sym, ap}
use mathlib.Core.List.{List, [], ◌∷◌, Memᴰ}
use Prim.Native.Nat.{ℕ, zero, suc, ◌+◌, ◌*◌, ◌-◌, ◌/◌, ◌<◌}
use native.Mathlib.Omega.{arith}
use native.Mathlib.Decide.{dec_lt}
use lib.ListN.{
  length,
  get_or,
  take,
  drop,
  replicate,
  length-drop,
  length-replicate,
  get_or-replicate,
  get_or-eq_default,
}
use lib.Seq.{take_all}
use Rattle.pairs.specs.Pairs.{flat_pairs}
use Rattle.pairs.specs.Table.{pairs_in, pair_at, key_of}

-- ---- members and places

module _ {A : Type 0} (d : A) where
  pub mem-at : (l : List A) (k : ℕ) → k < length l → Memᴰ (get_or l k d) l
  mem-at [] k h = absurd (omega arith)
  mem-at (x ∷ l) zero h = Memᴰ.head refl
  mem-at (x ∷ l) (suc k) h = Memᴰ.tail (mem-at l k (omega arith))

  pub at_mem : (l : List A) (x : A) → Memᴰ x l → (k : ℕ) × (k < length l) × (get_or l k d ≡ x)
  at_mem [] x none = elim none [ ]
  at_mem (y ∷ l) x (Memᴰ.head e) = (0, omega arith, sym e)
  at_mem (y ∷ l) x (Memᴰ.tail m) = let w = at_mem l x m in (suc w.0, omega (arith, w.1), w.2)

-- each of some zeros, and what is read after them
pub zeros-at : (n k : ℕ) → ◌≡◌ {A = ℕ} (get_or (replicate n 0) k 0) 0
zeros-at n k = go (dec_lt k n)
  where
    go : Dec (k < n) → ◌≡◌ {A = ℕ} (get_or (replicate n 0) k 0) 0
    go (yes h) = get_or-replicate {A = ℕ} n k 0 0 h
    go (no h) = get_or-eq_default (replicate n 0) 0 {n = k} (rw length-replicate (omega arith))

-- a part up to the end
pub part : (t : List ℕ) (k : ℕ) → take (length t - k) (drop k t) ≡ drop k t
part t k = take_all (length t - k) (drop k t) (omega (arith, length-drop k t))

-- ---- numbers as pairs

pub pairs-length : (l : List ℕ) → length (pairs_in l) ≡ length l / 2
unfolding pairs_in
pairs-length [] = refl
pairs-length (a ∷ []) = refl
pairs-length (a ∷ b ∷ l) = omega (arith, pairs-length l)

pub pairs-at : (l : List ℕ) (k : ℕ) → k < length l / 2 →
    pair_at (pairs_in l) k ≡ (get_or l (k * 2) 0, get_or l (k * 2 + 1) 0)
unfolding pairs_in
pairs-at [] k h = absurd (omega arith)
pairs-at (a ∷ []) k h = absurd (omega arith)
pairs-at (a ∷ b ∷ l) zero h = refl
pairs-at (a ∷ b ∷ l) (suc k) h =
    let e : suc k * 2 ≡ suc (suc (k * 2)) = omega arith in
    let f : suc k * 2 + 1 ≡ suc (suc (k * 2 + 1)) = omega arith in
    rw (f, e) (pairs-at l k (omega arith))

pub pairs-flat : (l : List (ℕ × ℕ)) → pairs_in (flat_pairs l) ≡ l
unfolding pairs_in flat_pairs
pairs-flat [] = refl
pairs-flat (x ∷ l) = ap (λ (t : List (ℕ × ℕ)). x ∷ t) (pairs-flat l)

pub flat-length : (l : List (ℕ × ℕ)) → length (flat_pairs l) ≡ length l * 2
unfolding flat_pairs
flat-length [] = refl
flat-length (x ∷ l) = omega (arith, flat-length l)

-- ---- what is read at a pair's two places

pub key_here : (l : List ℕ) (k : ℕ) → k < length l / 2 →
    get_or l (k * 2) 0 * 4294967296 + get_or l (k * 2 + 1) 0 ≡ key_of (pair_at (pairs_in l) k)
key_here l k h = rw (pairs-at l k h)

pub time-here : (l : List ℕ) (k : ℕ) → k < length l / 2 → get_or l (k * 2 + 1) 0 ≡ (pair_at (pairs_in l) k).1
time-here l k h = rw (pairs-at l k h)
