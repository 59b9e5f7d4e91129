-- What marks say of literals, and what an assignment changes in them. Assumes nothing.
use Rattle.std.proofs.Common.{◌≡◌, refl, sym, ap, ap₂, subst, ◌∙◌, Bool, true, false, not, cond, List, []}
use Rattle.std.proofs.Common.{◌∷◌, ◌⊎◌, inl, inr, ◌≢◌, ⊎_elim, ℕ, zero, suc, ◌+◌, ◌<◌, ◌≤◌, arith}
use Rattle.std.proofs.Common.{le_of_suc-le-suc, not-suc-le-zero, T, eqb, eqb→eq, length, get_or, set}
use Rattle.std.proofs.Common.{length-set, replicate, get_or-set_same}
use mathlib.Core.Bool.{beq}
use lib.Dec.{eqb_refl}
use Rattle.basics.proofs.Truth.{decide, agree, agrees, and_both, and_left, and_right}
use Rattle.clauses.specs.Clauses.{Literal, opposite}
use Rattle.refute.specs.Passes.{same, wanted, is_true, is_free, assign}

-- no test comes out both ways
pub both : {A : Type 0} {b : Bool} → b ≡ true → b ≡ false → A
both p q = let w : ◌≡◌ {A = ℕ} 0 1 = cc in absurd (omega arith)

-- ---- literals

pub same-is : (l m : Literal) → T (same l m) → l ≡ m
same-is l m t =
    ap₂ (λ (b : Bool) (n : ℕ). (b, n)) (agree l.0 m.0 (and_left (beq l.0 m.0) (eqb l.1 m.1) t))
    (eqb→eq l.1 m.1 (and_right (beq l.0 m.0) (eqb l.1 m.1) t))

pub same-itself : (l : Literal) → T (same l l)
same-itself l = and_both (beq l.0 l.0) (eqb l.1 l.1) (agrees l.0 l.0 refl) (eqb_refl l.1)

pub same_or_not : (l m : Literal) → (l ≡ m) ⊎ (l ≢ m)
same_or_not l m =
    ⊎_elim (λ t. inl (same-is l m t)) (λ n. inr (λ e. n (subst (λ x. T (same l x)) e (same-itself l))))
    (decide (same l m))

pub opposite-twice : (l : Literal) → opposite (opposite l) ≡ l
opposite-twice l = ap (λ (b : Bool). (b, l.1)) (go l.0)
  where
    go : (b : Bool) → not (not b) ≡ b
    go true = refl
    go false = refl

-- ---- what marks say

module _ (marks : List ℕ) (l : Literal) where
  pub true-mark : T (is_true marks l) → get_or marks l.1 0 ≡ wanted l
  unfolding is_true
  true-mark t = eqb→eq (get_or marks l.1 0) (wanted l) t

  pub mark-true : get_or marks l.1 0 ≡ wanted l → T (is_true marks l)
  unfolding is_true
  mark-true e = subst (λ (n : ℕ). T (eqb n (wanted l))) (sym e) (eqb_refl (wanted l))

  pub free-mark : T (is_free marks l) → get_or marks l.1 0 ≡ 0
  unfolding is_free
  free-mark t = eqb→eq (get_or marks l.1 0) 0 t

  pub mark-free : get_or marks l.1 0 ≡ 0 → T (is_free marks l)
  unfolding is_free
  mark-free e = subst (λ (n : ℕ). T (eqb n 0)) (sym e) tt

-- the two marks of a variable
pub wanted-bound : (l : Literal) → (1 ≤ wanted l) × (wanted l ≤ 2) × (wanted (opposite l) + wanted l ≡ 3)
wanted-bound l = go l.0
  where
    go : (b : Bool) → (1 ≤ cond b 1 2) × (cond b 1 2 ≤ 2) × (cond (not b) 1 2 + cond b 1 2 ≡ 3)
    go true = (omega arith, omega arith, refl)
    go false = (omega arith, omega arith, refl)

-- a literal and its opposite are not both true
pub not-both : (marks : List ℕ) (l : Literal) → T (is_true marks l) → T (is_true marks (opposite l)) → ⊥
not-both marks l t u =
    let e = true-mark marks l t in
    let f = true-mark marks (opposite l) u in
    omega (arith, (wanted-bound l).2)

-- a free literal is not true, nor is its opposite
pub free-not-true : (marks : List ℕ) (l : Literal) → T (is_free marks l) → T (is_true marks l) → ⊥
free-not-true marks l t u =
    let e = free-mark marks l t in
    let f = true-mark marks l u in
    omega (arith, (wanted-bound l).0)

pub free-not-false : (marks : List ℕ) (l : Literal) → T (is_free marks l) → T (is_true marks (opposite l)) → ⊥
unfolding is_free
free-not-false marks l t u = free-not-true marks (opposite l) t u

-- no mark but 0, 1 and 2
abbrev pub Tidy : List ℕ → Type 0
Tidy marks = (k : ℕ) → get_or marks k 0 ≤ 2

-- a literal that is neither true nor free is false
pub denied : (marks : List ℕ) → Tidy marks → (l : Literal) → (T (is_true marks l) → ⊥) → (T (is_free marks l) → ⊥) →
    T (is_true marks (opposite l))
denied marks tidy l n f =
    let a : get_or marks l.1 0 ≡ wanted l → ⊥ = λ e. n (mark-true marks l e) in
    let b : get_or marks l.1 0 ≡ 0 → ⊥ = λ e. f (mark-free marks l e) in
    mark-true marks (opposite l) (omega (arith, (wanted-bound l).0, (wanted-bound l).1, (wanted-bound l).2, tidy l.1))

-- ---- what an assignment changes

set_cases : (a : List ℕ) (i t k : ℕ) →
    (get_or (set a i t) k 0 ≡ get_or a k 0) ⊎ ((k ≡ i) × (get_or (set a i t) k 0 ≡ t))
set_cases [] i t k = inl refl
set_cases (x ∷ a) zero t zero = inr (refl, refl)
set_cases (x ∷ a) zero t (suc k) = inl refl
set_cases (x ∷ a) (suc i) t zero = inl refl
set_cases (x ∷ a) (suc i) t (suc k) = ⊎_elim (λ e. inl e) (λ r. inr (ap suc r.0, r.1)) (set_cases a i t k)

pub assign-length : (marks : List ℕ) (l : Literal) → length (assign marks l) ≡ length marks
unfolding assign
assign-length marks l = length-set marks l.1 (wanted l)

pub assign-tidy : (marks : List ℕ) (l : Literal) → Tidy marks → Tidy (assign marks l)
unfolding assign
assign-tidy marks l tidy k =
    ⊎_elim (λ e. omega (arith, tidy k)) (λ r. omega (arith, r.1, (wanted-bound l).1))
    (set_cases marks l.1 (wanted l) k)

-- two literals of one variable are one, or opposite
one-variable : (l m : Literal) → m.1 ≡ l.1 → (m ≡ l) ⊎ (m ≡ opposite l)
one-variable l m e = go l.0 m.0 refl refl
  where
    go : (a b : Bool) → l.0 ≡ a → m.0 ≡ b → (m ≡ l) ⊎ (m ≡ opposite l)
    go true true p q = inl (ap₂ (λ (b : Bool) (n : ℕ). (b, n)) (q ∙ sym p) e)
    go true false p q = inr (ap₂ (λ (b : Bool) (n : ℕ). (b, n)) (q ∙ sym (ap not p)) e)
    go false true p q = inr (ap₂ (λ (b : Bool) (n : ℕ). (b, n)) (q ∙ sym (ap not p)) e)
    go false false p q = inl (ap₂ (λ (b : Bool) (n : ℕ). (b, n)) (q ∙ sym p) e)

-- what is true then was so, or is the literal
pub assign-cases : (marks : List ℕ) (l m : Literal) → T (is_true (assign marks l) m) → (m ≡ l) ⊎ T (is_true marks m)
unfolding assign
assign-cases marks l m t =
    let e = true-mark (set marks l.1 (wanted l)) m t in
    ⊎_elim (λ k. inr (mark-true marks m (sym k ∙ e))) (λ r. which r (one-variable l m r.0) e)
    (set_cases marks l.1 (wanted l) m.1)
  where
    which : (m.1 ≡ l.1) × (get_or (set marks l.1 (wanted l)) m.1 0 ≡ wanted l) →
        (m ≡ l) ⊎ (m ≡ opposite l) → get_or (set marks l.1 (wanted l)) m.1 0 ≡ wanted m →
        (m ≡ l) ⊎ T (is_true marks m)
    which r (inl q) e = inl q
    which r (inr q) e = absurd (omega (arith, (wanted-bound l).2, (wanted-bound l).0, r.1, ap wanted q))

-- what is true stays so, where the opposite was not true
pub assign-keeps : (marks : List ℕ) (l : Literal) → (T (is_true marks (opposite l)) → ⊥) → (m : Literal) →
    T (is_true marks m) → T (is_true (assign marks l) m)
unfolding assign
assign-keeps marks l n m t =
    ⊎_elim (λ k. mark-true (set marks l.1 (wanted l)) m (k ∙ true-mark marks m t))
    (λ r. which r (one-variable l m r.0)) (set_cases marks l.1 (wanted l) m.1)
  where
    which : (m.1 ≡ l.1) × (get_or (set marks l.1 (wanted l)) m.1 0 ≡ wanted l) →
        (m ≡ l) ⊎ (m ≡ opposite l) → T (is_true (set marks l.1 (wanted l)) m)
    which r (inl q) = mark-true (set marks l.1 (wanted l)) m (r.1 ∙ sym (ap wanted q))
    which r (inr q) = absurd (n (subst (λ x. T (is_true marks x)) q t))

-- the literal is true
pub assign-there : (marks : List ℕ) (l : Literal) → l.1 < length marks → T (is_true (assign marks l) l)
unfolding assign
assign-there marks l h =
    mark-true (set marks l.1 (wanted l)) l (get_or-set_same marks l.1 (wanted l) 0 h)

-- ---- how many are free

-- 1 for a pass that made a mark
abbrev pub nat_of : Bool → ℕ
nat_of true = 1
nat_of false = 0

abbrev pub one-if-zero : ℕ → ℕ
one-if-zero zero = 1
one-if-zero (suc n) = 0

-- the number of variables that are free
unfoldable pub zeros : List ℕ → ℕ
zeros [] = 0
zeros (x ∷ xs) = one-if-zero x + zeros xs

pub zeros-bound : (marks : List ℕ) → zeros marks ≤ length marks
unfolding zeros
zeros-bound [] = omega arith
zeros-bound (zero ∷ marks) = omega (arith, zeros-bound marks)
zeros-bound (suc n ∷ marks) = omega (arith, zeros-bound marks)

zeros-set : (marks : List ℕ) (i v : ℕ) → i < length marks → get_or marks i 0 ≡ 0 → 1 ≤ v →
    zeros (set marks i v) + 1 ≡ zeros marks
unfolding zeros
zeros-set [] i v h e p = absurd (not-suc-le-zero h)
zeros-set (x ∷ marks) zero zero h e p = absurd (omega arith)
zeros-set (x ∷ marks) zero (suc v) h e p = rw e (omega arith)
zeros-set (x ∷ marks) (suc i) v h e p = omega (arith, zeros-set marks i v (le_of_suc-le-suc h) e p)

pub zeros-assign : (marks : List ℕ) (l : Literal) → l.1 < length marks → T (is_free marks l) →
    zeros (assign marks l) + 1 ≡ zeros marks
unfolding assign
zeros-assign marks l h f = zeros-set marks l.1 (wanted l) h (free-mark marks l f) (wanted-bound l).0

-- ---- at the start

pub zeros-tidy : (n : ℕ) → Tidy (replicate n 0)
zeros-tidy zero k = omega arith
zeros-tidy (suc n) zero = omega arith
zeros-tidy (suc n) (suc k) = zeros-tidy n k

zeros-at : (n k : ℕ) → ◌≡◌ {A = ℕ} (get_or (replicate n 0) k 0) 0
zeros-at zero k = refl
zeros-at (suc n) zero = refl
zeros-at (suc n) (suc k) = zeros-at n k

-- nothing is true
pub zeros-none : (n : ℕ) (l : Literal) → T (is_true (replicate n 0) l) → ⊥
zeros-none n l t =
    let e = true-mark (replicate n 0) l t in
    omega (arith, zeros-at n l.1, (wanted-bound l).0)
