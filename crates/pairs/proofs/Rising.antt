-- The list of the pairs rises: each node's times are kept of the numbers from 1 up, and the nodes rise.
-- Laws: pairs-rising; before-irreflexive, before-transitive; above_at, above_of, rising-append, rising-keep.
-- Assumes nothing.
use mathlib.Core.Path.{◌≡◌, refl, sym, ap, subst}
use mathlib.Core.Bool.{Bool, true, false, cond}
use mathlib.Core.List.Memᴰ
use mathlib.Core.List.{List, [], ◌∷◌, ◌++◌, map, Memᴰ}
use mathlib.Core.Logic.{◌⊎◌, inl, inr}
use Prim.Native.Nat.{ℕ, zero, suc, ◌<◌}
use native.Mathlib.Omega.{arith}
use Rattle.basics.specs.Lists.{keep, concat_map, up_from, numbered}
use Rattle.basics.proofs.Lists.{map-mem, concat_map-mem, keep-within}
use Rattle.netlist.specs.Netlist.{Cell}
use Rattle.netlist.proofs.Ranges.{up_from-within}
use Rattle.pairs.specs.Pairs.{asked, times_at, pair_list}
use Rattle.pairs.specs.Rising.{Before, Above, Rising}
use Rattle.pairs.proofs.Numbered.{numbered-from}

-- ---- the order of the pairs

pub before-irreflexive : (x : ℕ × ℕ) → Before x x → ⊥
before-irreflexive x (inl h) = omega arith
before-irreflexive x (inr h) = let k = h.1 in omega arith

pub before-transitive : (x y z : ℕ × ℕ) → Before x y → Before y z → Before x z
before-transitive x y z (inl h) (inl k) = inl (omega arith)
before-transitive x y z (inl h) (inr k) = inl (omega arith)
before-transitive x y z (inr h) (inl k) = inl (omega arith)
before-transitive x y z (inr h) (inr k) = inr (omega arith)

-- ---- lists that rise

module _ {A : Type 0} (Less : A → A → Type 0) where
  pub above_at : (a : A) (l : List A) → Above Less a l → (x : A) → Memᴰ x l → Less a x
  above_at a [] h x none = elim none [ ]
  above_at a (y ∷ l) h x (Memᴰ.head e) = subst (λ (z : A). Less a z) (sym e) h.0
  above_at a (y ∷ l) h x (Memᴰ.tail m) = above_at a l h.1 x m

  pub above_of : (a : A) (l : List A) → ((x : A) → Memᴰ x l → Less a x) → Above Less a l
  above_of a [] h = tt
  above_of a (x ∷ l) h = (h x (Memᴰ.head refl), above_of a l (λ y m. h y (Memᴰ.tail m)))

  pub rising-append : (l m : List A) → Rising Less l → Rising Less m →
      ((x y : A) → Memᴰ x l → Memᴰ y m → Less x y) → Rising Less (l ++ m)
  rising-append [] m r s h = s
  rising-append (a ∷ l) m r s h = (
    above_of a (l ++ m) (λ x i. pick x (Memᴰ.append_cases l i)),
    rising-append l m r.1 s (λ x y i j. h x y (Memᴰ.tail i) j),
  )
    where
      pick : (x : A) → Memᴰ x l ⊎ Memᴰ x m → Less a x
      pick x (inl i) = above_at a l r.0 x i
      pick x (inr i) = h a x (Memᴰ.head refl) i

  pub rising-keep : (f : A → Bool) (l : List A) → Rising Less l → Rising Less (keep f l)
  rising-keep f [] r = tt
  rising-keep f (a ∷ l) r = go (f a) (rising-keep f l r.1)
    where
      go : (b : Bool) → Rising Less (keep f l) → Rising Less (cond b (a ∷ keep f l) (keep f l))
      go true s = (above_of a (keep f l) (λ x m. above_at a l r.0 x (keep-within f l x m)), s)
      go false s = s

up_from-rising : (a n : ℕ) → Rising ◌<◌ (up_from a n)
up_from-rising a zero = tt
up_from-rising a (suc n) =
    (above_of ◌<◌ a (up_from (suc a) n) (λ x m. (up_from-within (suc a) n x m).0), up_from-rising (suc a) n)

-- ---- the pairs of one node, and of all

node-rising : (f : ℕ) (times : List ℕ) → Rising ◌<◌ times → Rising Before (map (λ t. (f, t)) times)
node-rising f [] r = tt
node-rising f (t ∷ times) r = (
  above_of Before (f, t) (map (λ t. (f, t)) times)
      (λ x m.
      let w = map-mem (λ t. (f, t)) times x m in
      subst (λ (y : ℕ × ℕ). Before (f, t) y) (sym w.2) (inr (refl, above_at ◌<◌ t times r.0 w.0 w.1))),
  node-rising f times r.1,
)

-- each node with its times
abbrev rows : (ℕ → List ℕ) → List (ℕ × Cell) → List (ℕ × ℕ)
rows times gates = concat_map (λ x. map (λ t. (x.0, t)) (times x.0)) gates

rows-rising : (times : ℕ → List ℕ) → ((n : ℕ) → Rising ◌<◌ (times n)) → (k : ℕ) (gates : List Cell) →
    Rising Before (rows times (numbered k gates))
rows-rising times r k [] = tt
rows-rising times r k (g ∷ gs) =
    rising-append Before (map (λ t. (k, t)) (times k)) (rows times (numbered (suc k) gs))
    (node-rising k (times k) (r k)) (rows-rising times r (suc k) gs)
    (λ x y i j.
    let w = map-mem (λ t. (k, t)) (times k) x i in
    let v = concat_map-mem (λ z. map (λ t. (z.0, t)) (times z.0)) (numbered (suc k) gs) y j in
    let u = map-mem (λ t. (v.0.0, t)) (times v.0.0) y v.2 in
    let h = numbered-from (suc k) gs v.0.0 v.0.1 v.1 in
    let e : x.0 ≡ k = ap (λ (z : ℕ × ℕ). z.0) w.2 in
    let f : y.0 ≡ v.0.0 = ap (λ (z : ℕ × ℕ). z.0) u.2 in
    inl (omega arith))

-- the list of the pairs rises, by node and then by time
pub pairs-rising : (I : ℕ) (top : ℕ → ℕ) (outputs : List ℕ) (target : ℕ) (gates : List Cell) →
    Rising Before (pair_list I top outputs target gates)
unfolding pair_list times_at
pairs-rising I top outputs target gates =
    rows-rising (times_at I top outputs target gates)
    (λ f. rising-keep ◌<◌ (asked I top outputs target I gates f) (up_from 1 (top f)) (up_from-rising 1 (top f))) I gates
