-- The first wrong entry of a list: of one list after another, of the numbers from a place on, and of the entries of a
-- slice, searched one at a time. What is left to search gives the same answer as the whole did. Assumes nothing.
use mathlib.Core.Path.{◌≡◌, refl, sym, ap, ◌∙◌}
use mathlib.Core.Bool.{Bool, true, false, cond}
use mathlib.Core.List.Memᴰ
use mathlib.Core.List.{List, [], ◌∷◌, ◌++◌, map, Memᴰ}
use Prim.Native.Nat.{ℕ, zero, suc, ◌+◌, ◌-◌, ◌≤◌, ◌<◌}
use native.Mathlib.Omega.{arith}
use native.Mathlib.Numerals.{add-one}
use lib.Dec.{ltb}
use lib.ListN.{length, get_or, drop, drop_of_length-le}
use lib.Seq.{drop-cons}
use borrow.Author.Tests.{ltb-false}
use Rattle.basics.specs.Lists.{up_from}
use Rattle.std.specs.Prelude.{Some, None, position, unwrap_or}
use Rattle.std.proofs.lemmas.List.Recursion.{is_position_or_len}
use Rattle.std.specs.List.{position_or_len}
use Rattle.netlist.specs.Open.{first_wrong}

module _ {A : Type 0} (wrong : A → Bool) where
  pub first-here : (x : A) (l : List A) → wrong x ≡ true → first_wrong wrong (x ∷ l) ≡ 0
  unfolding first_wrong
  first-here x l e = ap (λ (b : Bool). cond b 0 (suc (first_wrong wrong l))) e

  pub first-later : (x : A) (l : List A) → wrong x ≡ false → first_wrong wrong (x ∷ l) ≡ suc (first_wrong wrong l)
  unfolding first_wrong
  first-later x l e = ap (λ (b : Bool). cond b 0 (suc (first_wrong wrong l))) e

  pub first-none : first_wrong wrong [] ≡ 0
  unfolding first_wrong
  first-none = refl

  pub first-within : (l : List A) → first_wrong wrong l ≤ length l
  first-within [] = omega (arith, first-none)
  first-within (x ∷ l) = go (wrong x) refl (first-within l)
    where
      go : (b : Bool) → wrong x ≡ b → first_wrong wrong l ≤ length l → first_wrong wrong (x ∷ l) ≤ suc (length l)
      go true e h = omega (arith, first-here x l e)
      go false e h = omega (arith, first-later x l e)

  -- it stands in the first of two lists
  pub first-in-left : (l m : List A) → first_wrong wrong l < length l → first_wrong wrong (l ++ m) ≡ first_wrong wrong l
  first-in-left [] m h = absurd (omega arith)
  first-in-left (x ∷ l) m h = go (wrong x) refl (λ k. first-in-left l m k)
    where
      go : (b : Bool) → wrong x ≡ b →
          (first_wrong wrong l < length l → first_wrong wrong (l ++ m) ≡ first_wrong wrong l) →
          first_wrong wrong (x ∷ (l ++ m)) ≡ first_wrong wrong (x ∷ l)
      go true e r = first-here x (l ++ m) e ∙ sym (first-here x l e)
      go false e r =
          let k : first_wrong wrong l < length l = omega (arith, first-later x l e) in
          first-later x (l ++ m) e ∙ ap suc (r k) ∙ sym (first-later x l e)

  -- it stands in the second of two lists, or nowhere
  pub first-in-right : (l m : List A) → length l ≤ first_wrong wrong l →
      first_wrong wrong (l ++ m) ≡ length l + first_wrong wrong m
  first-in-right [] m h = omega arith
  first-in-right (x ∷ l) m h = go (wrong x) refl (λ k. first-in-right l m k)
    where
      go : (b : Bool) → wrong x ≡ b →
          (length l ≤ first_wrong wrong l → first_wrong wrong (l ++ m) ≡ length l + first_wrong wrong m) →
          first_wrong wrong (x ∷ (l ++ m)) ≡ suc (length l) + first_wrong wrong m
      go true e r = absurd (omega (arith, first-here x l e))
      go false e r =
          let k : length l ≤ first_wrong wrong l = omega (arith, first-later x l e) in
          omega (arith, first-later x (l ++ m) e, r k)

  -- where there is none, each entry passes
  pub none-wrong : (l : List A) → length l ≤ first_wrong wrong l → (y : A) → Memᴰ y l → wrong y ≡ false
  none-wrong [] h y m = absurd (Memᴰ.not-nil m)
  none-wrong (x ∷ l) h y m = go (wrong x) refl m (λ k i. none-wrong l k y i)
    where
      go : (b : Bool) → wrong x ≡ b → Memᴰ y (x ∷ l) →
          (length l ≤ first_wrong wrong l → Memᴰ y l → wrong y ≡ false) → wrong y ≡ false
      go true e i r = absurd (omega (arith, first-here x l e))
      go false e (Memᴰ.head q) r = ap wrong q ∙ e
      go false e (Memᴰ.tail i) r = r (omega (arith, first-later x l e)) i

-- the library's search for the first entry that passes a test finds the same place
first-found : {A : Type 0} (wrong : A → Bool) (l : List A) → position_or_len wrong l ≡ first_wrong wrong l
unfolding first_wrong
first-found wrong l =
    sym (is_position_or_len (first_wrong wrong) wrong refl (λ x xs. ap (cond (wrong x) 0) (omega arith)) l)

pub first-position : {A : Type 0} (wrong : A → Bool) (l : List A) →
    unwrap_or (position wrong l) (length l) ≡ first_wrong wrong l
first-position wrong l = go (ltb (position_or_len wrong l) (length l)) refl
  where
    go : (b : Bool) → ltb (position_or_len wrong l) (length l) ≡ b →
        unwrap_or (cond b (Some (position_or_len wrong l)) None) (length l) ≡ first_wrong wrong l
    go true e = first-found wrong l
    go false e =
        let far : length l ≤ position_or_len wrong l = ltb-false _ _ e in
        omega (arith, first-found wrong l, first-within wrong l)

pub first-of-map : {A B : Type 0} (wrong : B → Bool) (f : A → B) (l : List A) →
    first_wrong wrong (map f l) ≡ first_wrong (λ x. wrong (f x)) l
first-of-map wrong f [] = first-none wrong ∙ sym (first-none (λ x. wrong (f x)))
first-of-map wrong f (x ∷ l) = go (wrong (f x)) refl (first-of-map wrong f l)
  where
    go : (b : Bool) → wrong (f x) ≡ b → first_wrong wrong (map f l) ≡ first_wrong (λ x. wrong (f x)) l →
        first_wrong wrong (f x ∷ map f l) ≡ first_wrong (λ x. wrong (f x)) (x ∷ l)
    go true e r = first-here wrong (f x) (map f l) e ∙ sym (first-here (λ x. wrong (f x)) x l e)
    go false e r =
        first-later wrong (f x) (map f l) e ∙ ap suc r ∙ sym (first-later (λ x. wrong (f x)) x l e)

-- ---- a search of `count` numbers from `from` on that has come to `at`

pub record Searching (wrong : ℕ → Bool) (from count at : ℕ) : Type 0 where
  pub low : from ≤ at
  pub high : at ≤ from + count
  pub left : at + first_wrong wrong (up_from at (from + count - at)) ≡ from + first_wrong wrong (up_from from count)

pub searching-starts : (wrong : ℕ → Bool) (from count : ℕ) → Searching wrong from count from
searching-starts wrong from count =
    let e : from + count - from ≡ count = omega arith in
    record {
      low = omega arith;
      high = omega arith;
      left = ap (λ (n : ℕ). from + first_wrong wrong (up_from from n)) e;
    }

module _ {wrong : ℕ → Bool} {from count at : ℕ} (s : Searching wrong from count at) where
  -- what is left begins with `at`
  left-cons : at < from + count → up_from at (from + count - at) ≡ at ∷ up_from (suc at) (from + count - (at + 1))
  left-cons h = let e : from + count - at ≡ suc (from + count - (at + 1)) = omega arith in ap (up_from at) e

  -- `at` passes
  pub searching-more : at < from + count → wrong at ≡ false → Searching wrong from count (at + 1)
  searching-more h e =
      let k : ℕ = from + count - (at + 1) in
      let f : at + 1 ≡ suc at = omega arith in
      record {
        low = omega (arith, s.low);
        high = omega arith;
        left =
            ap (λ (m : ℕ). m + first_wrong wrong (up_from m k)) f
            ∙ (let z : suc at + first_wrong wrong (up_from (suc at) k)
            ≡ at + suc (first_wrong wrong (up_from (suc at) k)) =
            omega arith
            in
            z)
            ∙ ap (λ (m : ℕ). at + m) (sym (first-later wrong at (up_from (suc at) k) e))
            ∙ ap (λ (l : List ℕ). at + first_wrong wrong l) (sym (left-cons h))
            ∙ s.left;
      }

  -- `at` is wrong
  pub searching-found : at < from + count → wrong at ≡ true → at ≡ from + first_wrong wrong (up_from from count)
  searching-found h e =
      let k : ℕ = from + count - (at + 1) in
      let z : at ≡ at + 0 = omega arith in
      z
      ∙ ap (λ (m : ℕ). at + m) (sym (first-here wrong at (up_from (suc at) k) e))
      ∙ ap (λ (l : List ℕ). at + first_wrong wrong l) (sym (left-cons h))
      ∙ s.left

  -- nothing is left
  pub searching-ends : from + count ≤ at → at ≡ from + first_wrong wrong (up_from from count)
  searching-ends h =
      let e : from + count - at ≡ 0 = omega arith in
      let z : at ≡ at + 0 = omega arith in
      z
      ∙ ap (λ (m : ℕ). at + m) (sym (first-none wrong))
      ∙ ap (λ (m : ℕ). at + first_wrong wrong (up_from at m)) (sym e)
      ∙ s.left

-- ---- a search of a list's entries that has come to i

pub record Looking {A : Type 0} (wrong : A → Bool) (l : List A) (i : ℕ) : Type 0 where
  pub upto : i ≤ length l
  pub left : first_wrong wrong l ≡ i + first_wrong wrong (drop i l)

pub looking-starts : {A : Type 0} (wrong : A → Bool) (l : List A) → Looking wrong l 0
looking-starts wrong l = record { upto = omega arith; left = omega arith }

module _ {A : Type 0} {wrong : A → Bool} {l : List A} {i : ℕ} (b : Looking wrong l i) (d : A) where
  -- entry i is wrong
  pub looking-found : i < length l → wrong (get_or l i d) ≡ true → i ≡ first_wrong wrong l
  looking-found h w =
      let e : first_wrong wrong (drop i l) ≡ 0 =
      ap (first_wrong wrong) (drop-cons l i d h) ∙ first-here wrong (get_or l i d) (drop (suc i) l) w
      in
      omega (arith, b.left)

  -- entry i passes
  pub looking-more : i < length l → wrong (get_or l i d) ≡ false → Looking wrong l (i + 1)
  looking-more h w =
      let e : first_wrong wrong (drop i l) ≡ suc (first_wrong wrong (drop (i + 1) l)) =
      ap (first_wrong wrong) (drop-cons l i d h)
      ∙ first-later wrong (get_or l i d) (drop (suc i) l) w
      ∙ ap (λ (n : ℕ). suc (first_wrong wrong (drop n l))) (sym (add-one i))
      in
      record { upto = omega arith; left = omega (arith, b.left) }

  -- nothing is left
  pub looking-ends : length l ≤ i → i ≡ first_wrong wrong l
  looking-ends h =
      let e : first_wrong wrong (drop i l) ≡ 0 =
      ap (first_wrong wrong) (drop_of_length-le l {i = i} h) ∙ first-none wrong
      in
      omega (arith, b.left)

-- ---- a list none of whose entries is over a bound

pub within-bound : (most : ℕ) (l : List ℕ) → length l ≤ first_wrong (ltb most) l → (k : ℕ) → get_or l k 0 ≤ most
within-bound most [] h k = omega arith
within-bound most (x ∷ l) h k = go (ltb most x) refl k (λ r. within-bound most l r)
  where
    go : (b : Bool) → ltb most x ≡ b → (k : ℕ) →
        (length l ≤ first_wrong (ltb most) l → (k : ℕ) → get_or l k 0 ≤ most) → get_or (x ∷ l) k 0 ≤ most
    go true e k r = absurd (omega (arith, first-here (ltb most) x l e))
    go false e zero r = ltb-false most x e
    go false e (suc k) r = r (omega (arith, first-later (ltb most) x l e)) k
