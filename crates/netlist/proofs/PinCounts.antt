-- A pin count that a kind's number allows is one that the kind takes: each range of numbers in turn. Assumes nothing.
use mathlib.Core.Path.{◌≡◌, refl}
use mathlib.Core.Bool.{Bool, true, false, ◌&&◌, cond}
use Prim.Native.Nat.{ℕ, ◌≤◌}
use native.Mathlib.Omega.{arith}
use lib.Dec.{T, eqb, ltb, leb, le→leb, leb→le, eqb→eq}
use borrow.Author.Tests.{ltb-true, ltb-false}
use Rattle.basics.proofs.Truth.{and_both, and_left, and_right}
use Rattle.netlist.specs.Netlist.{takes}
use Rattle.netlist.specs.Kinds.{kind_of, controlling, forced, inverts, pins_fit}
use Rattle.netlist.specs.declared.Kind.TheVariants.{Simple, Parity, Mux}

-- a pin count that is allowed is one that the kind takes
pub kind-takes : (kind n : ℕ) → T (pins_fit kind n) → T (takes (kind_of kind) n)
unfolding kind_of pins_fit
kind-takes kind n = go (ltb kind 1) (ltb kind 3) (ltb kind 7) (ltb kind 9) (ltb kind 10) refl refl
  where
    simple : 1 ≤ n → n ≤ 8 → T (takes (Simple (controlling kind) (forced kind)) n)
    simple l u = and_both (leb 1 n) (leb n 8) (le→leb 1 n l) (le→leb n 8 u)

    go : (none one eight two three : Bool) → ltb kind 3 ≡ one → ltb kind 7 ≡ eight →
        T
        (cond none false
        (cond one (eqb n 1)
        (cond eight (leb 2 n && leb n 8) (cond two (eqb n 2) (cond three (eqb n 3) false))))) →
        T (takes (cond eight (Simple (controlling kind) (forced kind)) (cond two (Parity (inverts kind)) Mux)) n)
    go true one eight two three e f t = absurd t
    go false true true two three e f t = let q = eqb→eq n 1 t in simple (omega arith) (omega arith)
    go false true false two three e f t = absurd (omega (arith, ltb-true kind 3 e, ltb-false kind 7 f))
    go false false true two three e f t =
        let l = leb→le 2 n (and_left (leb 2 n) (leb n 8) t) in
        simple (omega arith) (leb→le n 8 (and_right (leb 2 n) (leb n 8) t))
    go false false false true three e f t = t
    go false false false false true e f t = t
    go false false false false false e f t = absurd t
