-- Times marked in words of 64 bits: a mark as a bit, what a stored word leaves, and marks that are added one after
-- the other. Laws: no-mark, no-marks, to-bit, of-bit, of-set, to-other, of_other; adds_none, adds_same,
-- adds_then, adds_one. Assumes nothing.
use mathlib.Core.Path.{◌≡◌, sym, ap, ◌∙◌}
use mathlib.Core.Logic.{◌⊎◌, inl, inr}
use mathlib.Core.List.{List}
use Prim.Native.Nat.{ℕ, ◌/◌, ◌%◌, ◌^◌, ◌<◌}
use native.Mathlib.Omega.{arith}
use native.Mathlib.Decide.{ℕ_discrete}
use lib.Bits.{bit_or}
use lib.ListN.{length, get_or, set, replicate}
use lib.Seq.{get_or-set_same, get_or-set_other}
use lib.Pow.{pow_pos}
use Rattle.pairs.specs.Table.{bit_at, Marked, Adds}
use Rattle.pairs.proofs.Flat.{zeros-at}
use Rattle.pairs.proofs.Bits.{bit-none, set_here, set_other}

-- a word without bits holds no mark
pub no-mark : {marks : List ℕ} {t : ℕ} → get_or marks (t / 64) 0 ≡ 0 → Marked marks t → ⊥
no-mark {marks} {t} e m =
    let z : bit_at (get_or marks (t / 64) 0) (t % 64) ≡ 0 =
    ap (λ (w : ℕ). bit_at w (t % 64)) e ∙ bit-none 0 (t % 64) (pow_pos (t % 64))
    in
    omega (arith, m.is)

-- zeros hold none
pub no-marks : (n t : ℕ) → Marked (replicate n 0) t → ⊥
no-marks n t m = no-mark (zeros-at n (t / 64)) m

-- ---- marks are added

pub adds_none : {marks : List ℕ} (Has : ℕ → Type 0) → ((t : ℕ) → Has t → ⊥) → Adds marks Has marks
adds_none Has h = record { old = λ t m. m; new = λ t u. absurd (h t u); only = λ t m. inl m }

-- the same under another name
pub adds_same : {a b : List ℕ} {X : ℕ → Type 0} (Has : ℕ → Type 0) → ((t : ℕ) → X t → Has t) →
    ((t : ℕ) → Has t → X t) → Adds a X b → Adds a Has b
adds_same {a} {b} {X} Has f g w =
    record { old = w.old; new = λ t u. w.new t (g t u); only = λ t m. pick t (w.only t m) }
  where
    pick : (t : ℕ) → Marked a t ⊎ X t → Marked a t ⊎ Has t
    pick t (inl m) = inl m
    pick t (inr u) = inr (f t u)

-- one property's marks, and then another's
pub adds_then : {a b c : List ℕ} {X Y : ℕ → Type 0} (Has : ℕ → Type 0) → Adds a X b → Adds b Y c →
    ((t : ℕ) → X t → Has t) → ((t : ℕ) → Y t → Has t) → ((t : ℕ) → Has t → X t ⊎ Y t) → Adds a Has c
adds_then {a} {b} {c} {X} {Y} Has v w f g k =
    record {
      old = λ t m. w.old t (v.old t m);
      new = λ t u. next t (k t u);
      only = λ t m. first t (w.only t m);
    }
  where
    next : (t : ℕ) → X t ⊎ Y t → Marked c t
    next t (inl u) = w.old t (v.new t u)
    next t (inr u) = w.new t u

    second : (t : ℕ) → Marked a t ⊎ X t → Marked a t ⊎ Has t
    second t (inl m) = inl m
    second t (inr u) = inr (f t u)

    first : (t : ℕ) → Marked b t ⊎ Y t → Marked a t ⊎ Has t
    first t (inl m) = second t (v.only t m)
    first t (inr u) = inr (g t u)

-- ---- a word is stored

module _ (marks : List ℕ) (i v : ℕ) (h : i < length marks) where
  to_set : (t : ℕ) → t / 64 ≡ i → bit_at v (t % 64) ≡ 1 → Marked (set marks i v) t
  to_set t e b =
      record {
        is =
            ap (λ (j : ℕ). bit_at (get_or (set marks i v) j 0) (t % 64)) e
            ∙ ap (λ (w : ℕ). bit_at w (t % 64)) (get_or-set_same marks i v 0 h)
            ∙ b;
      }

  pub of-set : (t : ℕ) → t / 64 ≡ i → Marked (set marks i v) t → bit_at v (t % 64) ≡ 1
  of-set t e m =
      ap (λ (w : ℕ). bit_at w (t % 64)) (sym (get_or-set_same marks i v 0 h))
      ∙ ap (λ (j : ℕ). bit_at (get_or (set marks i v) j 0) (t % 64)) (sym e)
      ∙ m.is

  pub to-other : (t : ℕ) → (t / 64 ≡ i → ⊥) → Marked marks t → Marked (set marks i v) t
  to-other t n m =
      record { is = ap (λ (w : ℕ). bit_at w (t % 64)) (get_or-set_other marks i (t / 64) v 0 n) ∙ m.is }

  pub of_other : (t : ℕ) → (t / 64 ≡ i → ⊥) → Marked (set marks i v) t → Marked marks t
  of_other t n m =
      record { is = ap (λ (w : ℕ). bit_at w (t % 64)) (sym (get_or-set_other marks i (t / 64) v 0 n)) ∙ m.is }

-- a mark is a bit of its word
pub to-bit : {marks : List ℕ} {t : ℕ} (i : ℕ) → t / 64 ≡ i → Marked marks t → bit_at (get_or marks i 0) (t % 64) ≡ 1
to-bit {marks} {t} i e m = ap (λ (j : ℕ). bit_at (get_or marks j 0) (t % 64)) (sym e) ∙ m.is

pub of-bit : {marks : List ℕ} (t i : ℕ) → t / 64 ≡ i → bit_at (get_or marks i 0) (t % 64) ≡ 1 → Marked marks t
of-bit {marks} t i e b = record { is = ap (λ (j : ℕ). bit_at (get_or marks j 0) (t % 64)) e ∙ b }

-- one time is marked
module _ (marks : List ℕ) (time : ℕ) (h : time / 64 < length marks) where
  abbrev word : ℕ
  word = get_or marks (time / 64) 0

  abbrev more : ℕ
  more = bit_or (get_or marks (time / 64) 0) (2 ^ (time % 64))

  old-mark : (t : ℕ) → Marked marks t → Dec (t / 64 ≡ time / 64) → Dec (t % 64 ≡ time % 64) →
      Marked (set marks (time / 64) more) t
  old-mark t m (yes p) (yes q) = to_set marks (time / 64) more h t p (rw q (set_here word (time % 64)))
  old-mark t m (yes p) (no q) =
      to_set marks (time / 64) more h t p (set_other word (t % 64) (time % 64) q ∙ to-bit (time / 64) p m)
  old-mark t m (no p) q = to-other marks (time / 64) more h t p m

  new-mark : (t : ℕ) → t ≡ time → Marked (set marks (time / 64) more) t
  new-mark t q =
      let e : t % 64 ≡ time % 64 = omega arith in
      to_set marks (time / 64) more h t (omega arith) (rw e (set_here word (time % 64)))

  only-mark : (t : ℕ) → Marked (set marks (time / 64) more) t → Dec (t / 64 ≡ time / 64) →
      Dec (t % 64 ≡ time % 64) → Marked marks t ⊎ (t ≡ time)
  only-mark t m (yes p) (yes q) = inr (omega arith)
  only-mark t m (yes p) (no q) =
      inl
      (of-bit t (time / 64) p
      (sym (set_other word (t % 64) (time % 64) q) ∙ of-set marks (time / 64) more h t p m))
  only-mark t m (no p) q = inl (of_other marks (time / 64) more h t p m)

  -- by the power of two of its bit
  pub adds_one : (power : ℕ) → power ≡ 2 ^ (time % 64) →
      Adds marks (λ t. t ≡ time) (set marks (time / 64) (bit_or (get_or marks (time / 64) 0) power))
  adds_one power e =
      rw e
      (record {
        old = λ t m. old-mark t m (ℕ_discrete (t / 64) (time / 64)) (ℕ_discrete (t % 64) (time % 64));
        new = new-mark;
        only = λ t m. only-mark t m (ℕ_discrete (t / 64) (time / 64)) (ℕ_discrete (t % 64) (time % 64));
      })
