-- What `any`, `all`, `keep`, `concat_map`, `map` and `up_from` say of the members of a list. Assumes nothing.
use mathlib.Core.Path.{◌≡◌, refl, sym, ap, ap₂, ◌∙◌, subst}
use mathlib.Core.Bool.{Bool, true, false, ◌&&◌, ◌||◌, cond}
use mathlib.Core.List.Memᴰ
use mathlib.Core.List.{
  List,
  [],
  ◌∷◌,
  ◌++◌,
  map,
  append_assoc,
  Memᴰ,
  head-eq_of_cons-eq,
  tail-eq_of_cons-eq,
}
use mathlib.Core.Logic.{◌⊎◌, inl, inr}
use Prim.Native.Nat.{ℕ, zero, suc, ◌+◌, ◌≤◌, ◌<◌}
use native.Mathlib.Omega.{arith}
use native.Mathlib.Decide.{ℕ_discrete}
use lib.Dec.{T}
use Rattle.basics.specs.Lists.{any, all, keep, concat_map, up_from}
use Rattle.basics.proofs.Truth.{or_left, or_right, or_cases, and_both, and_left, and_right, by-table-of-three}

-- ---- any and all

module _ {A : Type 0} where
  pub any-cong : (f g : A → Bool) (l : List A) → ((x : A) → Memᴰ x l → f x ≡ g x) → any f l ≡ any g l
  any-cong f g [] h = refl
  any-cong f g (x ∷ xs) h =
      ap₂ (λ a b. a || b) (h x (Memᴰ.head refl)) (any-cong f g xs (λ y m. h y (Memᴰ.tail m)))

  pub all-cong : (f g : A → Bool) (l : List A) → ((x : A) → Memᴰ x l → f x ≡ g x) → all f l ≡ all g l
  all-cong f g [] h = refl
  all-cong f g (x ∷ xs) h =
      ap₂ (λ a b. a && b) (h x (Memᴰ.head refl)) (all-cong f g xs (λ y m. h y (Memᴰ.tail m)))

  pub all-at : (f : A → Bool) (l : List A) → T (all f l) → (x : A) → Memᴰ x l → T (f x)
  all-at f [] t x none = elim none [ ]
  all-at f (y ∷ ys) t x (Memᴰ.head e) = subst (λ z. T (f z)) (sym e) (and_left (f y) (all f ys) t)
  all-at f (y ∷ ys) t x (Memᴰ.tail m) = all-at f ys (and_right (f y) (all f ys) t) x m

  pub all_of : (f : A → Bool) (l : List A) → ((x : A) → Memᴰ x l → T (f x)) → T (all f l)
  all_of f [] h = tt
  all_of f (y ∷ ys) h =
      and_both (f y) (all f ys) (h y (Memᴰ.head refl)) (all_of f ys (λ x m. h x (Memᴰ.tail m)))

  pub any_of : (f : A → Bool) (l : List A) (x : A) → Memᴰ x l → T (f x) → T (any f l)
  any_of f [] x none t = elim none [ ]
  any_of f (y ∷ ys) x (Memᴰ.head e) t = or_left (f y) (any f ys) (subst (λ z. T (f z)) e t)
  any_of f (y ∷ ys) x (Memᴰ.tail m) t = or_right (f y) (any f ys) (any_of f ys x m t)

  pub any_at : (f : A → Bool) (l : List A) → T (any f l) → (x : A) × Memᴰ x l × T (f x)
  any_at f [] t = absurd t
  any_at f (y ∷ ys) t = go (or_cases (f y) (any f ys) t) (λ s. any_at f ys s)
    where
      go : T (f y) ⊎ T (any f ys) → (T (any f ys) → (x : A) × Memᴰ x ys × T (f x)) →
          (x : A) × Memᴰ x (y ∷ ys) × T (f x)
      go (inl h) r = (y, Memᴰ.head refl, h)
      go (inr h) r = let w = r h in (w.0, Memᴰ.tail w.1, w.2)

  pub any-mono : (f g : A → Bool) (l : List A) → ((x : A) → Memᴰ x l → T (f x) → T (g x)) →
      T (any f l) → T (any g l)
  any-mono f g l h t = let w = any_at f l t in any_of g l w.0 w.1 (h w.0 w.1 w.2)

  pub all-mono : (f g : A → Bool) (l : List A) → ((x : A) → Memᴰ x l → T (f x) → T (g x)) →
      T (all f l) → T (all g l)
  all-mono f g l h t = all_of g l (λ x m. h x m (all-at f l t x m))

  pub any_append : (f : A → Bool) (l m : List A) → any f (l ++ m) ≡ (any f l || any f m)
  any_append f [] m = refl
  any_append f (x ∷ xs) m =
      ap (λ b. f x || b) (any_append f xs m)
      ∙ by-table-of-three (λ a b c. a || (b || c)) (λ a b c. a || b || c) tt (f x) (any f xs) (any f m)

  pub all_append : (f : A → Bool) (l m : List A) → all f (l ++ m) ≡ (all f l && all f m)
  all_append f [] m = refl
  all_append f (x ∷ xs) m = ap (λ b. f x && b) (all_append f xs m) ∙ go (f x) (all f xs) (all f m)
    where
      go : (a b c : Bool) → (a && (b && c)) ≡ (a && b && c)
      go true b c = refl
      go false b c = refl

  pub all_join : (f : A → Bool) (l m : List A) → T (all f l) → T (all f m) → T (all f (l ++ m))
  all_join f l m t u = subst T (sym (all_append f l m)) (and_both (all f l) (all f m) t u)

-- ---- concat_map and map

module _ {A B : Type 0} where
  pub concat_map-append : (f : A → List B) (l m : List A) → concat_map f (l ++ m) ≡ concat_map f l ++ concat_map f m
  concat_map-append f [] m = refl
  concat_map-append f (x ∷ l) m =
      ap (λ (t : List B). f x ++ t) (concat_map-append f l m)
      ∙ sym (append_assoc (f x) (concat_map f l) (concat_map f m))

  pub all-concat_map : (p : B → Bool) (f : A → List B) (l : List A) →
      all p (concat_map f l) ≡ all (λ x. all p (f x)) l
  all-concat_map p f [] = refl
  all-concat_map p f (x ∷ xs) =
      all_append p (f x) (concat_map f xs) ∙ ap (λ b. all p (f x) && b) (all-concat_map p f xs)

  pub all-concat_map-of : (p : B → Bool) (f : A → List B) (l : List A) →
      ((x : A) → Memᴰ x l → T (all p (f x))) → T (all p (concat_map f l))
  all-concat_map-of p f l h = subst T (sym (all-concat_map p f l)) (all_of (λ x. all p (f x)) l h)

  pub any-concat_map : (p : B → Bool) (f : A → List B) (l : List A) →
      any p (concat_map f l) ≡ any (λ x. any p (f x)) l
  any-concat_map p f [] = refl
  any-concat_map p f (x ∷ xs) =
      any_append p (f x) (concat_map f xs) ∙ ap (λ b. any p (f x) || b) (any-concat_map p f xs)

  pub any-map : (p : B → Bool) (f : A → B) (l : List A) → any p (map f l) ≡ any (λ x. p (f x)) l
  any-map p f [] = refl
  any-map p f (x ∷ xs) = ap (λ b. p (f x) || b) (any-map p f xs)

  pub mem-map : (f : A → B) (l : List A) (x : A) → Memᴰ x l → Memᴰ (f x) (map f l)
  mem-map f [] x none = elim none [ ]
  mem-map f (y ∷ l) x (Memᴰ.head e) = Memᴰ.head (ap f e)
  mem-map f (y ∷ l) x (Memᴰ.tail m) = Memᴰ.tail (mem-map f l x m)

  pub map-mem : (f : A → B) (l : List A) (y : B) → Memᴰ y (map f l) → (x : A) × Memᴰ x l × (y ≡ f x)
  map-mem f [] y m = absurd (Memᴰ.not-nil m)
  map-mem f (z ∷ l) y (Memᴰ.head e) = (z, Memᴰ.head refl, e)
  map-mem f (z ∷ l) y (Memᴰ.tail m) = let w = map-mem f l y m in (w.0, Memᴰ.tail w.1, w.2)

  -- two lists made of one list are equal: so are the entries made of each member
  pub map_each : (f g : A → B) (l : List A) → map f l ≡ map g l → (x : A) → Memᴰ x l → f x ≡ g x
  map_each f g [] e x m = absurd (Memᴰ.not-nil m)
  map_each f g (y ∷ l) e x (Memᴰ.head q) = subst (λ z. f z ≡ g z) (sym q) (head-eq_of_cons-eq e)
  map_each f g (y ∷ l) e x (Memᴰ.tail m) = map_each f g l (tail-eq_of_cons-eq e) x m

  pub concat_map-mem : (f : A → List B) (l : List A) (y : B) → Memᴰ y (concat_map f l) →
      (x : A) × Memᴰ x l × Memᴰ y (f x)
  concat_map-mem f [] y m = absurd (Memᴰ.not-nil m)
  concat_map-mem f (x ∷ l) y m = go (Memᴰ.append_cases (f x) m) (λ i. concat_map-mem f l y i)
    where
      go : Memᴰ y (f x) ⊎ Memᴰ y (concat_map f l) →
          (Memᴰ y (concat_map f l) → (z : A) × Memᴰ z l × Memᴰ y (f z)) →
          (z : A) × Memᴰ z (x ∷ l) × Memᴰ y (f z)
      go (inl i) r = (x, Memᴰ.head refl, i)
      go (inr i) r = let w = r i in (w.0, Memᴰ.tail w.1, w.2)

  pub mem-concat_map : (f : A → List B) (l : List A) (x : A) (y : B) → Memᴰ x l → Memᴰ y (f x) →
      Memᴰ y (concat_map f l)
  mem-concat_map f [] x y none i = elim none [ ]
  mem-concat_map f (z ∷ l) x y (Memᴰ.head e) i =
      Memᴰ.append_left (concat_map f l) (subst (λ a. Memᴰ y (f a)) e i)
  mem-concat_map f (z ∷ l) x y (Memᴰ.tail m) i = Memᴰ.append_right (f z) (mem-concat_map f l x y m i)

-- ---- keep

module _ {A : Type 0} (f : A → Bool) where
  pub keep-in : (l : List A) (x : A) → Memᴰ x l → T (f x) → Memᴰ x (keep f l)
  keep-in [] x none t = elim none [ ]
  keep-in (y ∷ l) x (Memᴰ.head e) t = go (f y) (subst (λ z. T (f z)) e t)
    where
      go : (b : Bool) → T b → Memᴰ x (cond b (y ∷ keep f l) (keep f l))
      go true u = Memᴰ.head e
      go false u = absurd u
  keep-in (y ∷ l) x (Memᴰ.tail m) t = go (f y) (keep-in l x m t)
    where
      go : (b : Bool) → Memᴰ x (keep f l) → Memᴰ x (cond b (y ∷ keep f l) (keep f l))
      go true i = Memᴰ.tail i
      go false i = i

  pub keep-passes : (l : List A) (x : A) → Memᴰ x (keep f l) → T (f x)
  keep-passes [] x m = absurd (Memᴰ.not-nil m)
  keep-passes (y ∷ l) x m = go (f y) refl m (λ i. keep-passes l x i)
    where
      go : (b : Bool) → f y ≡ b → Memᴰ x (cond b (y ∷ keep f l) (keep f l)) →
          (Memᴰ x (keep f l) → T (f x)) → T (f x)
      go true e (Memᴰ.head q) r = subst T (sym (ap f q ∙ e)) tt
      go true e (Memᴰ.tail i) r = r i
      go false e i r = r i

  pub keep-within : (l : List A) (x : A) → Memᴰ x (keep f l) → Memᴰ x l
  keep-within [] x m = m
  keep-within (y ∷ l) x m = go (f y) m (λ i. keep-within l x i)
    where
      go : (b : Bool) → Memᴰ x (cond b (y ∷ keep f l) (keep f l)) →
          (Memᴰ x (keep f l) → Memᴰ x l) → Memᴰ x (y ∷ l)
      go true (Memᴰ.head q) r = Memᴰ.head q
      go true (Memᴰ.tail i) r = Memᴰ.tail (r i)
      go false i r = Memᴰ.tail (r i)

-- ---- the numbers from a up

pub up_from-mem : (a n s : ℕ) → a ≤ s → s < a + n → Memᴰ s (up_from a n)
up_from-mem a zero s h l = absurd (omega arith)
up_from-mem a (suc n) s h l = go (ℕ_discrete s a) (λ x y. up_from-mem (suc a) n s x y)
  where
    go : Dec (s ≡ a) → (suc a ≤ s → s < suc a + n → Memᴰ s (up_from (suc a) n)) →
        Memᴰ s (a ∷ up_from (suc a) n)
    go (yes e) r = Memᴰ.head e
    go (no e) r = Memᴰ.tail (r (omega arith) (omega arith))
