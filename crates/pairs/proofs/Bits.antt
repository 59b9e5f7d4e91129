-- The bits of a word: what setting one, and taking the highest away, leave of the others. Laws: one_shifted,
-- highest-of; bit-none; set_here, set_other; top-here, top_above; less-below, less-above. Assumes nothing.
use mathlib.Core.Path.{◌≡◌, sym, ap, ◌∙◌}
use Prim.Native.Nat.{ℕ, suc, ◌+◌, ◌*◌, ◌-◌, ◌/◌, ◌%◌, ◌^◌, ◌<◌, ◌≤◌, max}
use native.Mathlib.Omega.{arith}
use native.Mathlib.Nat.{add-mul-div_right, pow-suc, div-eq_of_lt, div_self}
use native.Mathlib.Decide.{dec_lt}
use lib.Bits.{bit_or, or_shr, or_step}
use lib.Pow.{pow-add, pow_pos, pow_mono, pow-lt, shl_exact}
use Rattle.pairs.specs.Table.{bit_at, Highest}

-- 1 shifted by less than a word
pub one_shifted : (k : ℕ) → k < 64 → (1 * 2 ^ k) % 18446744073709551616 ≡ 2 ^ k
one_shifted k h = shl_exact 1 k 64 (omega arith) (omega arith) ∙ omega arith

-- the highest bit, by the powers of two on both sides of the word
pub highest-of : {w k : ℕ} → 2 ^ k ≤ w → w < 2 * 2 ^ k → k < 64 → Highest w k
highest-of {w} {k} h l i = record { within = i; least = h; most = rw (pow-suc 2 k) (omega arith) }

-- a word below a power has no bit at its place
pub bit-none : (w k : ℕ) → w < 2 ^ k → bit_at w k ≡ 0
bit-none w k h = ap (λ (x : ℕ). x % 2) (div-eq_of_lt h)

-- a power added alters no bit below its place
below : (r j i : ℕ) → i < j → bit_at (r + 2 ^ j) i ≡ bit_at r i
below r j i h =
    let d = j - i - 1 in
    let e : j ≡ suc (j - i - 1) + i = omega arith in
    let p : 2 ^ j ≡ 2 ^ (j - i - 1) * 2 * 2 ^ i =
    ap (λ (x : ℕ). 2 ^ x) e ∙ pow-add 2 (suc d) i ∙ ap (λ (x : ℕ). x * 2 ^ i) (pow-suc 2 d)
    in
    let q : (r + 2 ^ j) / 2 ^ i ≡ r / 2 ^ i + 2 ^ (j - i - 1) * 2 =
    ap (λ (x : ℕ). (r + x) / 2 ^ i) p ∙ add-mul-div_right r (2 ^ d * 2) (pow_pos i)
    in
    omega (arith, q)

-- ---- a bit is set

bit-or : (a b j : ℕ) → bit_at (bit_or a b) j ≡ max (bit_at a j) (bit_at b j)
bit-or a b j =
    ap (λ (x : ℕ). x % 2) (or_shr a b j ∙ or_step (a / 2 ^ j) (b / 2 ^ j)) ∙ omega arith

-- a power of two has one bit
power-here : (k : ℕ) → bit_at (2 ^ k) k ≡ 1
power-here k = ap (λ (x : ℕ). x % 2) (div_self (pow_pos k))

power-other : (j k : ℕ) → (j ≡ k → ⊥) → bit_at (2 ^ k) j ≡ 0
power-other j k h = go (dec_lt j k)
  where
    go : Dec (j < k) → bit_at (2 ^ k) j ≡ 0
    go (yes l) =
        let e : 2 ^ k ≡ 0 + 2 ^ k = omega arith in
        ap (λ (x : ℕ). bit_at x j) e ∙ below 0 k j l ∙ bit-none 0 j (pow_pos j)
    go (no l) = bit-none (2 ^ k) j (pow-lt (omega arith))

pub set_here : (w k : ℕ) → bit_at (bit_or w (2 ^ k)) k ≡ 1
set_here w k = omega (arith, bit-or w (2 ^ k) k, power-here k)

pub set_other : (w j k : ℕ) → (j ≡ k → ⊥) → bit_at (bit_or w (2 ^ k)) j ≡ bit_at w j
set_other w j k h = omega (arith, bit-or w (2 ^ k) j, power-other j k h)

-- ---- the highest bit is taken away

module _ (w k : ℕ) (least : 2 ^ k ≤ w) (most : w < 2 ^ suc k) where
  -- the word is the bit and what is less than it
  rest : w - 2 ^ k < 2 ^ k
  rest = omega (arith, pow-suc 2 k)

  pub less-below : (i : ℕ) → i < k → bit_at (w - 2 ^ k) i ≡ bit_at w i
  less-below i h =
      let e : w - 2 ^ k + 2 ^ k ≡ w = omega arith in
      sym (below (w - 2 ^ k) k i h) ∙ ap (λ (x : ℕ). bit_at x i) e

  pub less-above : (i : ℕ) → k ≤ i → bit_at (w - 2 ^ k) i ≡ 0
  less-above i h = bit-none (w - 2 ^ k) i (omega (arith, rest, pow_mono h))

  pub top_above : (i : ℕ) → k < i → bit_at w i ≡ 0
  top_above i h = bit-none w i (omega (arith, pow_mono h))

  pub top-here : bit_at w k ≡ 1
  top-here =
      let e : w ≡ w - 2 ^ k + 1 * 2 ^ k = omega arith in
      let q : w / 2 ^ k ≡ (w - 2 ^ k) / 2 ^ k + 1 =
      ap (λ (x : ℕ). x / 2 ^ k) e ∙ add-mul-div_right (w - 2 ^ k) 1 (pow_pos k)
      in
      omega (arith, q, div-eq_of_lt rest)
