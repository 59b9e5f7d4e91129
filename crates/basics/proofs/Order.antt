-- Tests of order against sums, differences, the larger and the smaller of two numbers. Assumes nothing.
use mathlib.Core.Path.{◌≡◌, refl, ap}
use mathlib.Core.Bool.{Bool, true, false, not, ◌&&◌, ◌||◌}
use Prim.Native.Nat.{ℕ, ◌+◌, ◌-◌, ◌<◌, max, min}
use lib.Dec.{leb, leb→le, le→leb, nleb→lt}
use native.Mathlib.Omega.{arith}
use Rattle.basics.proofs.Truth.{both_ways, is_true, is_false, holds, and_both, and_left, and_right}

pub leb-minus : (t d a : ℕ) → leb (t - d) a ≡ leb t (a + d)
leb-minus t d a =
    both_ways (leb (t - d) a) (leb t (a + d))
    (λ s. let h = leb→le (t - d) a s in le→leb t (a + d) (omega arith))
    (λ s. let h = leb→le t (a + d) s in le→leb (t - d) a (omega arith))

pub leb-max : (t a b : ℕ) → leb t (max a b) ≡ (leb t a || leb t b)
leb-max t a b = go (leb t a) (leb t b) refl refl
  where
    go : (x y : Bool) → leb t a ≡ x → leb t b ≡ y → leb t (max a b) ≡ (x || y)
    go true y e f = is_true (leb t (max a b)) (let h = leb→le t a (holds e) in le→leb t (max a b) (omega arith))
    go false true e f = is_true (leb t (max a b)) (let h = leb→le t b (holds f) in le→leb t (max a b) (omega arith))
    go false false e f =
        is_false (leb t (max a b)) λ s.
        let h = leb→le t (max a b) s in
        let p : a < t = nleb→lt t a (holds (ap not e)) in
        let q : b < t = nleb→lt t b (holds (ap not f)) in
        omega arith

pub leb-min : (t a b : ℕ) → leb t (min a b) ≡ (leb t a && leb t b)
leb-min t a b =
    both_ways (leb t (min a b)) (leb t a && leb t b)
    (λ s.
    let h = leb→le t (min a b) s in
    and_both (leb t a) (leb t b) (le→leb t a (omega arith)) (le→leb t b (omega arith)))
    (λ s.
    let h = leb→le t a (and_left (leb t a) (leb t b) s) in
    let k = leb→le t b (and_right (leb t a) (leb t b) s) in
    le→leb t (min a b) (omega arith))
