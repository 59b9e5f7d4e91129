-- The pins from a number on, one after the other. Laws: pins-all, pins-next, pins-none. Assumes nothing.
use mathlib.Core.Path.{◌≡◌, ap, ap₂, ◌∙◌}
use mathlib.Core.List.{List, [], ◌∷◌, map}
use Prim.Native.Nat.{ℕ, suc, ◌+◌, ◌-◌, ◌≤◌, ◌<◌}
use native.Mathlib.Omega.{arith}
use Rattle.basics.specs.Lists.{up_from}
use Rattle.netlist.specs.declared.Shape.{Shape}
use Rattle.netlist.specs.File.{pin_at, pins_from}

module _ (file : List ℕ) (shape : Shape) (first count : ℕ) where
  -- before the first, all are left
  pub pins-all : pins_from file shape first count ≡ pins_from file shape (first + 0) (count - 0)
  pins-all =
      let e : first ≡ first + 0 = omega arith in
      let f : count ≡ count - 0 = omega arith in
      ap₂ (pins_from file shape) e f

  -- pin i, and those after it
  pub pins-next : (i : ℕ) → i < count →
      pins_from file shape (first + i) (count - i)
      ≡ pin_at file shape (first + i) ∷ pins_from file shape (first + (i + 1)) (count - (i + 1))
  unfolding pins_from
  pins-next i h =
      let e : count - i ≡ suc (count - (i + 1)) = omega arith in
      let f : suc (first + i) ≡ first + (i + 1) = omega arith in
      ap (λ (n : ℕ). map (pin_at file shape) (up_from (first + i) n)) e
      ∙ ap (λ (n : ℕ). pin_at file shape (first + i) ∷ map (pin_at file shape) (up_from n (count - (i + 1)))) f

  -- after the last, none is left
  pub pins-none : (i : ℕ) → count ≤ i → pins_from file shape (first + i) (count - i) ≡ []
  unfolding pins_from
  pins-none i h =
      let e : count - i ≡ 0 = omega arith in
      ap (λ (n : ℕ). map (pin_at file shape) (up_from (first + i) n)) e
