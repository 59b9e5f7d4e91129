-- The nine kinds, each by comparison of its number: its pins, and what a gate of the kind does (section K). In order
-- they are BUF, NOT, AND, NAND, OR, NOR, XOR, XNOR, MUX, from 1 to 9. Interface: all of it.
use Rattle.std.specs.Prelude.{Bool, true, false, not, ◌&&◌, cond, ℕ, ◌%◌, eqb, leb, ltb}
use Rattle.netlist.specs.declared.Kind.{Kind}
use Rattle.netlist.specs.declared.Kind.TheVariants.{Simple, Parity, Mux}

-- a gate of the kind can have so many pins: BUF and NOT one, AND to NOR two to eight, XOR and XNOR two, MUX three
unfoldable pub pins_fit : ℕ → ℕ → Bool
pins_fit kind count =
    cond (ltb kind 1) false
    (cond (ltb kind 3) (eqb count 1)
    (cond (ltb kind 7) (leb 2 count && leb count 8)
    (cond (ltb kind 9) (eqb count 2) (cond (ltb kind 10) (eqb count 3) false))))

-- c of a simple kind: one pin at 1 decides OR and NOR, one at 0 the others
abbrev pub controlling : ℕ → Bool
controlling kind = ltb 4 kind

-- the kinds with even numbers invert: NOT, NAND, NOR, XNOR
abbrev pub inverts : ℕ → Bool
inverts kind = eqb (kind % 2) 0

-- k of a simple kind, the value that a pin at c gives: c itself, or its opposite where the kind inverts
abbrev pub forced : ℕ → Bool
forced kind = cond (inverts kind) (not (controlling kind)) (controlling kind)

-- what a gate of the kind does; where its two pins are equal, XOR gives 0 and XNOR 1
unfoldable pub kind_of : ℕ → Kind
kind_of kind =
    cond (ltb kind 7) (Simple (controlling kind) (forced kind)) (cond (ltb kind 9) (Parity (inverts kind)) Mux)

-- a Bool as a number
abbrev pub bit : Bool → ℕ
bit true = 1
bit false = 0
