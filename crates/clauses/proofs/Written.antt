-- A run of writes: the slice keeps its length, and two runs one behind the other are one. Assumes nothing.
use mathlib.Core.Path.{◌≡◌, refl, ap, ◌∙◌}
use mathlib.Core.List.{List, [], ◌∷◌, ◌++◌}
use Prim.Native.Nat.{ℕ, suc, ◌+◌}
use native.Mathlib.Omega.{arith}
use native.Mathlib.Nat.{add-zero}
use lib.IntN.{ℤ}
use lib.ListN.{length, set, length-set}
use Rattle.clauses.specs.Codes.{decoded, written}

pub written-length : (f : List ℤ) (at : ℕ) (xs : List ℕ) → length (written f at xs) ≡ length f
unfolding written
written-length f at [] = refl
written-length f at (x ∷ xs) =
    written-length (set f at (decoded x)) (at + 1) xs ∙ length-set f at (decoded x)

pub written-append : (f : List ℤ) (at : ℕ) (xs ys : List ℕ) →
    written (written f at xs) (at + length xs) ys ≡ written f at (xs ++ ys)
unfolding written
written-append f at [] ys = ap (λ (n : ℕ). written f n ys) (add-zero at)
written-append f at (x ∷ xs) ys =
    let e : at + suc (length xs) ≡ at + 1 + length xs = omega arith in
    ap (λ (n : ℕ). written (written (set f at (decoded x)) (at + 1) xs) n ys) e
    ∙ written-append (set f at (decoded x)) (at + 1) xs ys
