-- Truth values: the test of a Bool as a fact, its cases, and laws by their truth tables. Assumes nothing.
use mathlib.Core.Path.{◌≡◌, refl, sym, subst}
use mathlib.Core.Bool.{Bool, true, false, ◌&&◌, ◌||◌, beq}
use mathlib.Core.Logic.{◌⊎◌, inl, inr}
use lib.Dec.{T}

-- two tests that imply each other are equal
pub both_ways : (a b : Bool) → (T a → T b) → (T b → T a) → a ≡ b
both_ways true true f g = refl
both_ways true false f g = absurd (f tt)
both_ways false true f g = absurd (g tt)
both_ways false false f g = refl

-- a test that passes is true
pub is_true : (a : Bool) → T a → a ≡ true
is_true true t = refl
is_true false t = absurd t

-- a test that is true passes
pub holds : {a : Bool} → a ≡ true → T a
holds e = subst T (sym e) tt

-- a test that does not pass is false
pub is_false : (a : Bool) → (T a → ⊥) → a ≡ false
is_false true f = absurd (f tt)
is_false false f = refl

-- a test passes or not
pub decide : (a : Bool) → T a ⊎ (T a → ⊥)
decide true = inl tt
decide false = inr (λ t. t)

pub or_left : (a b : Bool) → T a → T (a || b)
or_left true b t = tt
or_left false b t = absurd t

pub or_right : (a b : Bool) → T b → T (a || b)
or_right true b t = tt
or_right false b t = t

pub or_cases : (a b : Bool) → T (a || b) → T a ⊎ T b
or_cases true b t = inl tt
or_cases false b t = inr t

pub and_both : (a b : Bool) → T a → T b → T (a && b)
and_both true b s t = t
and_both false b s t = absurd s

pub and_left : (a b : Bool) → T (a && b) → T a
and_left true b t = tt
and_left false b t = t

pub and_right : (a b : Bool) → T (a && b) → T b
and_right true b t = t
and_right false b t = absurd t

-- two Bools that agree are equal
pub agree : (a b : Bool) → T (beq a b) → a ≡ b
agree true true t = refl
agree true false t = absurd t
agree false true t = absurd t
agree false false t = refl

-- two equal Bools agree
pub agrees : (a b : Bool) → a ≡ b → T (beq a b)
agrees a b e = subst (λ x. T (beq a x)) e (itself a)
  where
    itself : (a : Bool) → T (beq a a)
    itself true = tt
    itself false = tt

-- ---- laws by truth table: `by-table-of-three (λ a b c. ..) (λ a b c. ..) tt a b c`

abbrev pub same-of-one : (Bool → Bool) → (Bool → Bool) → Bool
same-of-one f g = beq (f true) (g true) && beq (f false) (g false)

abbrev pub same-of-two : (Bool → Bool → Bool) → (Bool → Bool → Bool) → Bool
same-of-two f g = same-of-one (f true) (g true) && same-of-one (f false) (g false)

abbrev pub same-of-three : (Bool → Bool → Bool → Bool) → (Bool → Bool → Bool → Bool) → Bool
same-of-three f g = same-of-two (f true) (g true) && same-of-two (f false) (g false)

abbrev pub same-of-four : (Bool → Bool → Bool → Bool → Bool) → (Bool → Bool → Bool → Bool → Bool) → Bool
same-of-four f g = same-of-three (f true) (g true) && same-of-three (f false) (g false)

pub by-table-of-one : (f g : Bool → Bool) → T (same-of-one f g) → (a : Bool) → f a ≡ g a
by-table-of-one f g t true =
    agree (f true) (g true) (and_left (beq (f true) (g true)) (beq (f false) (g false)) t)
by-table-of-one f g t false =
    agree (f false) (g false) (and_right (beq (f true) (g true)) (beq (f false) (g false)) t)

pub by-table-of-two : (f g : Bool → Bool → Bool) → T (same-of-two f g) → (a b : Bool) → f a b ≡ g a b
by-table-of-two f g t true =
    by-table-of-one (f true) (g true)
    (and_left (same-of-one (f true) (g true)) (same-of-one (f false) (g false)) t)
by-table-of-two f g t false =
    by-table-of-one (f false) (g false)
    (and_right (same-of-one (f true) (g true)) (same-of-one (f false) (g false)) t)

pub by-table-of-three : (f g : Bool → Bool → Bool → Bool) → T (same-of-three f g) → (a b c : Bool) → f a b c ≡ g a b c
by-table-of-three f g t true =
    by-table-of-two (f true) (g true)
    (and_left (same-of-two (f true) (g true)) (same-of-two (f false) (g false)) t)
by-table-of-three f g t false =
    by-table-of-two (f false) (g false)
    (and_right (same-of-two (f true) (g true)) (same-of-two (f false) (g false)) t)

pub by-table-of-four : (f g : Bool → Bool → Bool → Bool → Bool) → T (same-of-four f g) →
    (a b c d : Bool) → f a b c d ≡ g a b c d
by-table-of-four f g t true =
    by-table-of-three (f true) (g true)
    (and_left (same-of-three (f true) (g true)) (same-of-three (f false) (g false)) t)
by-table-of-four f g t false =
    by-table-of-three (f false) (g false)
    (and_right (same-of-three (f true) (g true)) (same-of-three (f false) (g false)) t)
