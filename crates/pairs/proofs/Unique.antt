-- A rising list is known by its members: the list of the pairs is the one that rises and has the least set's members.
-- And a rising list within another is no longer. Laws: pairs-unique; pairs-asked, asked-pairs, time-asked, asked-time;
-- rising-unique, rising-short. Assumes nothing.
use mathlib.Core.Path.{◌≡◌, refl, sym, ap₂, subst, ◌∙◌}
use mathlib.Core.List.Memᴰ
use mathlib.Core.List.{
  List,
  [],
  ◌∷◌,
  map,
  Memᴰ,
}
use mathlib.Core.Logic.{◌↔◌, ◌⊎◌, inl, inr}
use Prim.Native.Nat.{ℕ, ◌+◌, ◌≤◌, ◌<◌}
use native.Mathlib.Omega.{arith}
use lib.Dec.{T}
use lib.ListN.{length}
use Rattle.basics.specs.Lists.{up_from, numbered}
use Rattle.basics.proofs.Lists.{mem-map, map-mem, concat_map-mem, mem-concat_map, keep-in, keep-passes, up_from-mem}
use Rattle.netlist.specs.Netlist.{Cell}
use Rattle.pairs.specs.Pairs.{asked, Asked, times_at, pair_list}
use Rattle.pairs.specs.Rising.{Before, Above, Rising}
use Rattle.pairs.proofs.Numbered.{numbered-at}
use Rattle.pairs.proofs.Least.{Down, least-set, pair-facts, asked-is-pair, asked-below}
use Rattle.pairs.proofs.Rising.{before-irreflexive, before-transitive, above_at, pairs-rising}

-- ---- rising lists and their members

module _ {A : Type 0} (Less : A → A → Type 0)
    (irreflexive : (x : A) → Less x x → ⊥)
    (transitive : (x y z : A) → Less x y → Less y z → Less x z) where
  -- a member of the longer list that is not its head is in its tail
  in_tail : (a b : A) (l m : List A) → Above Less a l → a ≡ b → (x : A) → Memᴰ x l → Memᴰ x (b ∷ m) →
      Memᴰ x m
  in_tail a b l m r e x i (Memᴰ.head q) =
      absurd (irreflexive a (subst (λ (z : A). Less a z) (q ∙ sym e) (above_at Less a l r x i)))
  in_tail a b l m r e x i (Memᴰ.tail j) = j

  pub rising-unique : (l m : List A) → Rising Less l → Rising Less m →
      ((x : A) → Memᴰ x l → Memᴰ x m) → ((x : A) → Memᴰ x m → Memᴰ x l) → l ≡ m
  rising-unique [] [] r s f g = refl
  rising-unique [] (b ∷ m) r s f g = absurd (Memᴰ.not-nil (g b (Memᴰ.head refl)))
  rising-unique (a ∷ l) [] r s f g = absurd (Memᴰ.not-nil (f a (Memᴰ.head refl)))
  rising-unique (a ∷ l) (b ∷ m) r s f g =
      ap₂ (λ (x : A) (y : List A). x ∷ y) same
      (rising-unique l m r.1 s.1
      (λ x i. in_tail a b l m r.0 same x i (f x (Memᴰ.tail i)))
      (λ x i. in_tail b a m l s.0 (sym same) x i (g x (Memᴰ.tail i))))
    where
      same : a ≡ b
      same = pick (f a (Memᴰ.head refl)) (g b (Memᴰ.head refl))
        where
          pick : Memᴰ a (b ∷ m) → Memᴰ b (a ∷ l) → a ≡ b
          pick (Memᴰ.head e) j = e
          pick (Memᴰ.tail i) (Memᴰ.head e) = sym e
          pick (Memᴰ.tail i) (Memᴰ.tail j) =
              absurd
              (irreflexive a (transitive a b a (above_at Less a l r.0 b j) (above_at Less b m s.0 a i)))

  -- a rising list within another is no longer
  pub rising-short : (l m : List A) → Rising Less l → Rising Less m →
      ((x : A) → Memᴰ x l → Memᴰ x m) → length l ≤ length m
  rising-short [] m r s f = omega arith
  rising-short (a ∷ l) [] r s f = absurd (Memᴰ.not-nil (f a (Memᴰ.head refl)))
  rising-short (a ∷ l) (b ∷ m) r s f =
      go (Memᴰ.cases_cons (f a (Memᴰ.head refl))) (λ g. rising-short l m r.1 s.1 g)
      (λ g. rising-short (a ∷ l) m r s.1 g)
    where
      go : (a ≡ b) ⊎ Memᴰ a m →
          (((x : A) → Memᴰ x l → Memᴰ x m) → length l ≤ length m) →
          (((x : A) → Memᴰ x (a ∷ l) → Memᴰ x m) → length (a ∷ l) ≤ length m) →
          length (a ∷ l) ≤ length (b ∷ m)
      go (inl e) k h = let w = k (λ x i. in_tail a b l m r.0 e x i (f x (Memᴰ.tail i))) in omega arith
      go (inr e) k h = let w = h (λ x i. pick x (Memᴰ.cases_cons i) (Memᴰ.cases_cons (f x i))) in omega arith
        where
          pick : (x : A) → (x ≡ a) ⊎ Memᴰ x l → (x ≡ b) ⊎ Memᴰ x m → Memᴰ x m
          pick x i (inr u) = u
          pick x (inl i) (inl u) = subst (λ (y : A). Memᴰ y m) (sym i) e
          pick x (inr i) (inl u) =
              absurd
              (irreflexive a
              (transitive a x a (above_at Less a l r.0 x i)
              (subst (λ (y : A). Less y a) (sym u) (above_at Less b m s.0 a e))))

-- ---- the members of the list of the pairs

module _ (I : ℕ) (top : ℕ → ℕ) (outputs : List ℕ) (target : ℕ) (gates : List Cell)
    (down : Down I gates) where
  -- a time of a node is a pair that is asked for
  pub time-asked : (f t : ℕ) → Memᴰ t (times_at I top outputs target gates f) →
      T (asked I top outputs target I gates f t)
  unfolding times_at
  time-asked f t m = keep-passes (asked I top outputs target I gates f) (up_from 1 (top f)) t m

  -- and back
  pub asked-time : (f t : ℕ) → T (asked I top outputs target I gates f t) →
      Memᴰ t (times_at I top outputs target gates f)
  unfolding times_at
  asked-time f t u =
      let w = pair-facts I top f t (asked-is-pair I top outputs target I gates f t u) in
      keep-in (asked I top outputs target I gates f) (up_from 1 (top f)) t
      (up_from-mem 1 (top f) t (omega (arith, w.1)) (omega (arith, w.2))) u

  -- each pair of the list is in the least set
  pub pairs-asked : (x : ℕ × ℕ) → Memᴰ x (pair_list I top outputs target gates) →
      Asked I top outputs target (numbered I gates) x.0 x.1
  unfolding pair_list
  pairs-asked x m =
      let times = times_at I top outputs target gates in
      let w = concat_map-mem (λ y. map (λ t. (y.0, t)) (times y.0)) (numbered I gates) x m in
      let u = map-mem (λ t. (w.0.0, t)) (times w.0.0) x w.2 in
      subst (λ (y : ℕ × ℕ). Asked I top outputs target (numbered I gates) y.0 y.1) (sym u.2)
      ((least-set I top outputs target gates down w.0.0 u.0).0 (time-asked w.0.0 u.0 u.1))

  module _ (high : (o : ℕ) → Memᴰ o outputs → o < I + length gates) where
    -- each of the least set is in the list
    pub asked-pairs : (f t : ℕ) → Asked I top outputs target (numbered I gates) f t →
        Memᴰ (f, t) (pair_list I top outputs target gates)
    unfolding pair_list
    asked-pairs f t a =
        let times = times_at I top outputs target gates in
        let u = (least-set I top outputs target gates down f t).1 a in
        let j = pair-facts I top f t (asked-is-pair I top outputs target I gates f t u) in
        let w = numbered-at I gates f j.0 (asked-below I top outputs target gates down high f t a) in
        mem-concat_map (λ y. map (λ s. (y.0, s)) (times y.0)) (numbered I gates) (f, w.0) (f, t) w.1
        (mem-map (λ s. (f, s)) (times f) t (asked-time f t u))

    -- a list that rises and has just the least set's members is the list of the pairs
    pub pairs-unique : (l : List (ℕ × ℕ)) → Rising Before l →
        ((f t : ℕ) → Memᴰ (f, t) l ↔ Asked I top outputs target (numbered I gates) f t) →
        l ≡ pair_list I top outputs target gates
    pairs-unique l r h =
        rising-unique Before before-irreflexive before-transitive l (pair_list I top outputs target gates) r
        (pairs-rising I top outputs target gates)
        (λ x m. asked-pairs x.0 x.1 ((h x.0 x.1).0 m)) (λ x m. (h x.0 x.1).1 (pairs-asked x m))
