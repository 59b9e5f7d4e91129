-- What follows by unit propagation holds wherever the stored clauses hold: all that is forced is true there, so no
-- stored clause can be false. Hence a refutation that passes leaves the formula no solution. Assumes nothing.
use Rattle.std.proofs.Common.{◌≡◌, sym, subst, Bool, true, not, List, [], ◌∷◌, ◌++◌, ◌⊎◌, inl, inr, ◌≢◌, ℕ, T}
use Rattle.std.proofs.Common.{T_not}
use mathlib.Core.Bool.{beq}
use mathlib.Core.List.Memᴰ
use mathlib.Core.List.{Memᴰ}
use lib.Dec.{not_T}
use Rattle.basics.specs.Lists.{any}
use Rattle.basics.proofs.Truth.{decide, and_both, by-table-of-two}
use Rattle.basics.proofs.Lists.{all-at, any_at, any_of, all_join, map-mem}
use Rattle.clauses.specs.Clauses.{Literal, opposite, literal_holds, satisfies}
use Rattle.refute.specs.Propagation.{assertions, Forced, given, unit, Follows, clash, conflict, passes}
use Rattle.refute.specs.Propagation.{Judged}
use Rattle.refute.proofs.Marks.{same_or_not}

module _ (σ : ℕ → Bool) where
  -- a literal holds where its opposite does not
  opposite-holds : (l : Literal) → literal_holds σ (opposite l) ≡ not (literal_holds σ l)
  opposite-holds l = by-table-of-two (λ a b. beq a (not b)) (λ a b. not (beq a b)) tt (σ l.1) l.0

  not-both : (l : Literal) → T (literal_holds σ l) → T (literal_holds σ (opposite l)) → ⊥
  not-both l t u = T_not (literal_holds σ l) (subst T (opposite-holds l) u) t

  -- what is forced holds
  forced-holds : (stored : List (List Literal)) (asserted : List Literal) → T (satisfies σ stored) →
      ((l : Literal) → Memᴰ l asserted → T (literal_holds σ l)) → (l : Literal) → Forced stored asserted l →
      T (literal_holds σ l)
  forced-holds stored asserted s a l (given m) = a l m
  forced-holds stored asserted s a l (unit c i j others) =
      let w = any_at (literal_holds σ) c (all-at (any (literal_holds σ)) stored s c i) in
      pick w.0 w.1 w.2 (same_or_not w.0 l)
      (λ n. forced-holds stored asserted s a (opposite w.0) (others w.0 w.1 n))
    where
      pick : (m : Literal) → Memᴰ m c → T (literal_holds σ m) → (m ≡ l) ⊎ (m ≢ l) →
          (m ≢ l → T (literal_holds σ (opposite m))) → T (literal_holds σ l)
      pick m k t (inl e) f = subst (λ x. T (literal_holds σ x)) e t
      pick m k t (inr n) f = absurd (not-both m t (f n))

  -- what follows holds wherever the stored clauses do
  pub follows-holds : (stored : List (List Literal)) (c : List Literal) → Follows stored c →
      T (satisfies σ stored) → T (any (literal_holds σ) c)
  follows-holds stored c h s = go h (decide (any (literal_holds σ) c))
    where
      asserted : (T (any (literal_holds σ) c) → ⊥) → (l : Literal) → Memᴰ l (assertions c) →
          T (literal_holds σ l)
      asserted n l m =
          let w = map-mem opposite c l m in
          subst (λ x. T (literal_holds σ x)) (sym w.2)
          (subst T (sym (opposite-holds w.0))
          (not_T (literal_holds σ w.0) (λ t. n (any_of (literal_holds σ) c w.0 w.1 t))))

      go : Follows stored c → T (any (literal_holds σ) c) ⊎ (T (any (literal_holds σ) c) → ⊥) →
          T (any (literal_holds σ) c)
      go h (inl t) = t
      go (clash {l = l} i j) (inr n) = absurd (not-both l (asserted n l i) (asserted n (opposite l) j))
      go (conflict d i r) (inr n) =
          let w = any_at (literal_holds σ) d (all-at (any (literal_holds σ)) stored s d i) in
          absurd
          (not-both w.0 w.2
          (forced-holds stored (assertions c) s (asserted n) (opposite w.0) (r w.0 w.1)))

  -- each clause of a refutation that passes holds wherever the formula does
  pub passes-holds : (refutation stored : List (List Literal)) → Judged stored refutation passes →
      T (satisfies σ stored) → (c : List Literal) → Memᴰ c refutation → T (any (literal_holds σ) c)
  unfolding Judged
  passes-holds [] stored h s c m = absurd (Memᴰ.not-nil m)
  passes-holds (d ∷ refutation) stored h s c (Memᴰ.head e) =
      subst (λ x. T (any (literal_holds σ) x)) (sym e) (follows-holds stored d h.0 s)
  passes-holds (d ∷ refutation) stored h s c (Memᴰ.tail m) =
      passes-holds refutation (stored ++ (d ∷ [])) h.1
      (all_join (any (literal_holds σ)) stored (d ∷ []) s
      (and_both (any (literal_holds σ) d) true (follows-holds stored d h.0 s) tt))
      c m

-- a refutation that passes and has the empty clause leaves the formula no solution
pub no-solution : (formula refutation : List (List Literal)) → Judged formula refutation passes →
    Memᴰ [] refutation → (σ : ℕ → Bool) → T (satisfies σ formula) → ⊥
no-solution formula refutation h m σ s = passes-holds σ refutation formula h s [] m
