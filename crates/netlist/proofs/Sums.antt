-- The sum of the pin counts of the first gates: one gate more, never less, and small. Assumes nothing.
use mathlib.Core.Path.{◌≡◌, refl, sym, ap, ◌∙◌, subst}
use mathlib.Core.List.{List}
use Prim.Native.Nat.{ℕ, zero, suc, ◌+◌, ◌-◌, ◌*◌, ◌≤◌, ◌<◌}
use native.Mathlib.Omega.{arith}
use native.Mathlib.Numerals.{add-one}
use Rattle.netlist.specs.declared.Shape.{Shape}
use Rattle.netlist.specs.File.{count_at}
use Rattle.netlist.specs.Open.{pins_before}

module _ (file : List ℕ) (shape : Shape) where
  pub pins-before-none : pins_before file shape 0 ≡ 0
  unfolding pins_before
  pins-before-none = refl

  pub pins-before-next : (n : ℕ) → pins_before file shape (suc n) ≡ pins_before file shape n + count_at file shape n
  unfolding pins_before
  pins-before-next n = refl

  -- the sum never falls
  pins-before-grows : (n k : ℕ) → pins_before file shape n ≤ pins_before file shape (k + n)
  pins-before-grows n zero =
      let e : 0 + n ≡ n = omega arith in
      subst (λ (m : ℕ). pins_before file shape n ≤ pins_before file shape m) (sym e) (omega arith)
  pins-before-grows n (suc k) =
      let e : suc (k + n) ≡ suc k + n = omega arith in
      subst (λ (m : ℕ). pins_before file shape n ≤ pins_before file shape m) e
      (omega (arith, pins-before-grows n k, pins-before-next (k + n)))

  pub pins-before-up : (n m : ℕ) → n ≤ m → pins_before file shape n ≤ pins_before file shape m
  pins-before-up n m h =
      let e : (m - n) + n ≡ m = omega arith in
      subst (λ (k : ℕ). pins_before file shape n ≤ pins_before file shape k) e (pins-before-grows n (m - n))

-- a running sum, at a gate
pub record Summing (file : List ℕ) (shape : Shape) (sum gate : ℕ) : Type 0 where
  pub within : gate ≤ shape.gates
  pub is : sum ≡ pins_before file shape gate
  pub small : sum ≤ gate * 255

pub summing-starts : (file : List ℕ) (shape : Shape) → Summing file shape 0 0
summing-starts file shape =
    record { within = omega arith; is = sym (pins-before-none file shape); small = omega arith }

pub summing-more : {file : List ℕ} {shape : Shape} {sum gate count : ℕ} → Summing file shape sum gate →
    gate < shape.gates → count ≡ count_at file shape gate → count < 256 →
    Summing file shape (sum + count) (gate + 1)
summing-more {file} {shape} {sum} {gate} {count} s h e l =
    record {
      within = omega arith;
      is =
          rw (add-one gate)
          (let i = s.is in omega (arith, pins-before-next file shape gate));
      small = omega (arith, s.small);
    }

-- a sum over the gates up to the last is the sum of all
pub sum-of-all : (file : List ℕ) (shape : Shape) {sum gate : ℕ} → sum ≡ pins_before file shape gate →
    gate ≤ shape.gates → shape.gates ≤ gate → sum ≡ pins_before file shape shape.gates
sum-of-all file shape {sum} {gate} s l h =
    let e : gate ≡ shape.gates = omega arith in
    s ∙ ap (pins_before file shape) e
