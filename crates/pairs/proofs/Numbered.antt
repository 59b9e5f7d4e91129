-- Entries with their numbers, counted from k: the numbers are those from k up, and each is taken. Assumes nothing.
use mathlib.Core.Path.{ap}
use mathlib.Core.List.Memᴰ
use mathlib.Core.List.{List, [], ◌∷◌, Memᴰ}
use Prim.Native.Nat.{ℕ, suc, ◌+◌, ◌≤◌, ◌<◌}
use native.Mathlib.Omega.{arith}
use native.Mathlib.Decide.{ℕ_discrete}
use mathlib.Core.Path.{◌≡◌}
use lib.ListN.{length}
use Rattle.basics.specs.Lists.{numbered}

module _ {A : Type 0} where
  pub numbered-from : (k : ℕ) (l : List A) (n : ℕ) (x : A) → Memᴰ (n, x) (numbered k l) → k ≤ n
  numbered-from k [] n x m = absurd (Memᴰ.not-nil m)
  numbered-from k (y ∷ l) n x (Memᴰ.head q) = let e = ap (λ (z : ℕ × A). z.0) q in omega arith
  numbered-from k (y ∷ l) n x (Memᴰ.tail m) = let e = numbered-from (suc k) l n x m in omega arith

  pub numbered_below : (k : ℕ) (l : List A) (n : ℕ) (x : A) → Memᴰ (n, x) (numbered k l) → n < k + length l
  numbered_below k [] n x m = absurd (Memᴰ.not-nil m)
  numbered_below k (y ∷ l) n x (Memᴰ.head q) = let e = ap (λ (z : ℕ × A). z.0) q in omega arith
  numbered_below k (y ∷ l) n x (Memᴰ.tail m) = let e = numbered_below (suc k) l n x m in omega arith

  pub numbered-at : (k : ℕ) (l : List A) (n : ℕ) → k ≤ n → n < k + length l →
      (x : A) × Memᴰ (n, x) (numbered k l)
  numbered-at k [] n h l = absurd (omega arith)
  numbered-at k (y ∷ l) n h b = go (ℕ_discrete n k) (λ u v. numbered-at (suc k) l n u v)
    where
      go : Dec (n ≡ k) → (suc k ≤ n → n < suc k + length l → (x : A) × Memᴰ (n, x) (numbered (suc k) l)) →
          (x : A) × Memᴰ (n, x) (numbered k (y ∷ l))
      go (yes e) r = (y, Memᴰ.head (ap (λ (z : ℕ). (z, y)) e))
      go (no e) r = let w = r (omega arith) (omega arith) in (w.0, Memᴰ.tail w.1)
