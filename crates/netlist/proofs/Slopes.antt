-- A gate's pins with the delays for its final value, and with the larger ones: the same drivers, as many of them,
-- delays that are small; and the pins themselves where the list has their own delays. And a list of so many small
-- delays passes row 19. Laws: pins-for-length, pins-for-only, slowest-only, pins-for-equal, slowest-equal, small-
-- passes. Assumes nothing.
use mathlib.Core.Path.{◌≡◌, refl, ap, ap₂, ◌∙◌}
use mathlib.Core.Bool.{Bool, true, false}
use mathlib.Core.List.{List, [], ◌∷◌, map, Memᴰ}
use Prim.Native.Nat.{ℕ, suc, ◌≤◌, max}
use borrow.Author.Tests.{eq-eqb, le-ltb}
use lib.Dec.{ltb}
use native.Mathlib.Omega.{arith}
use lib.ListN.{length, get_or}
use Rattle.basics.proofs.Lists.{map-mem}
use Rattle.netlist.specs.Netlist.{Pin, Slopes, alike, apart, delayed, fall_of, pins_for, slowest}
use Rattle.std.specs.Prelude.{Ok}
use Rattle.refusal.specs.Rows.{checked}
use Rattle.netlist.specs.Open.{first_wrong, fall_rows}
use Rattle.netlist.specs.Holds.{Small}
use Rattle.netlist.proofs.FirstWrong.{first-none, first-later}

-- a list of pins with other delays
module _ (delay : Pin → ℕ) where
  delayed-length : (ps : List Pin) → length (map (delayed delay) ps) ≡ length ps
  delayed-length [] = refl
  delayed-length (p ∷ ps) = ap suc (delayed-length ps)

  -- where each keeps its own, they are the same pins
  delayed-same : (ps : List Pin) → ((p : Pin) → Memᴰ p ps → delay p ≡ p.delay) → map (delayed delay) ps ≡ ps
  delayed-same [] same = refl
  delayed-same (p ∷ ps) same =
      ap₂ (λ (d : ℕ) (qs : List Pin). record { driver = p.driver; delay = d; number = p.number } ∷ qs)
      (same p (Memᴰ.head refl))
      (delayed-same ps (λ q m. same q (Memᴰ.tail m)))

-- as many pins
pub pins-for-length : (slopes : Slopes) (v : Bool) (ps : List Pin) → length (pins_for slopes v ps) ≡ length ps
pins-for-length alike v ps = refl
pins-for-length (apart falls) true ps = refl
pins-for-length (apart falls) false ps = delayed-length (fall_of falls) ps

-- each of them is a pin of the gate, by its driver and its number, and has its delay or the small one of the list
pub pins-for-only : (slopes : Slopes) → Small slopes → (v : Bool) (ps : List Pin) (q : Pin) →
    Memᴰ q (pins_for slopes v ps) →
    (p : Pin) × Memᴰ p ps × (q.driver ≡ p.driver) × (q.delay ≤ max p.delay 999)
pins-for-only alike small v ps q m = (q, m, refl, omega arith)
pins-for-only (apart falls) small true ps q m = (q, m, refl, omega arith)
pins-for-only (apart falls) small false ps q m =
    let w = map-mem (delayed (fall_of falls)) ps q m in (
      w.0,
      w.1,
      ap (λ (x : Pin). x.driver) w.2,
      omega (arith, ap (λ (x : Pin). x.delay) w.2, small w.0.number),
    )

-- so is each with the larger delay
pub slowest-only : (slopes : Slopes) → Small slopes → (ps : List Pin) (q : Pin) → Memᴰ q (slowest slopes ps) →
    (p : Pin) × Memᴰ p ps × (q.driver ≡ p.driver) × (q.delay ≤ max p.delay 999)
slowest-only alike small ps q m = (q, m, refl, omega arith)
slowest-only (apart falls) small ps q m =
    let w = map-mem (delayed (λ p. max p.delay (fall_of falls p))) ps q m in (
      w.0,
      w.1,
      ap (λ (x : Pin). x.driver) w.2,
      omega (arith, ap (λ (x : Pin). x.delay) w.2, small w.0.number),
    )

-- ---- a list that has each pin's own delay

module _ (falls : List ℕ) (ps : List Pin) (same : (p : Pin) → Memᴰ p ps → fall_of falls p ≡ p.delay) where
  -- gives the pins themselves, whatever the gate's final value
  pub pins-for-equal : (v : Bool) → pins_for (apart falls) v ps ≡ ps
  pins-for-equal true = refl
  pins-for-equal false = delayed-same (fall_of falls) ps same

  -- and the larger delays are theirs
  pub slowest-equal : slowest (apart falls) ps ≡ ps
  slowest-equal =
      delayed-same (λ p. max p.delay (fall_of falls p)) ps (λ p m. let e = same p m in omega arith)

-- ---- row 19

-- where no entry is over a bound, none is wrong
none_over : (most : ℕ) (l : List ℕ) → ((k : ℕ) → get_or l k 0 ≤ most) → first_wrong (ltb most) l ≡ length l
none_over most [] small = first-none (ltb most)
none_over most (x ∷ l) small =
    first-later (ltb most) x l (le-ltb most x (small 0)) ∙ ap suc (none_over most l (λ k. small (suc k)))

-- so many small delays pass
pub small-passes : (pins : ℕ) (falls : List ℕ) → length falls ≡ pins → Small (apart falls) →
    checked (fall_rows pins falls) ≡ Ok tt
unfolding fall_rows
small-passes pins falls long small =
    rw (none_over 999 falls small, long, eq-eqb pins pins refl, le-ltb pins pins (omega arith)) refl
