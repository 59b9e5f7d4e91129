-- The table of refusals (rule T1): the number and the place of each case. Interface: all of it.
use Rattle.std.specs.Prelude.{ℕ, List, ◌++◌, codes}
use Rattle.std.specs.Fmt.{decimal}
use Rattle.refusal.specs.declared.Refusal.{Refusal}
use Rattle.refusal.specs.declared.Refusal.TheVariants.{
  Short,
  Version,
  Count,
  Back,
  Gate,
  Pin,
  Output,
  Vector,
  Room,
  Pairs,
  Formula,
  Refutation,
  Last,
  Step,
  Witness,
  Arrival,
  Fall,
}

-- column "Number"
abbrev pub number_of : Refusal → ℕ
number_of (Short length) = 1
number_of (Version version) = 2
number_of (Count which) = 3
number_of Back = 4
number_of (Gate gate) = 5
number_of (Pin pin) = 6
number_of (Output position) = 7
number_of (Vector position) = 8
number_of (Room needed) = 9
number_of Pairs = 10
number_of (Formula index) = 11
number_of (Refutation index) = 12
number_of (Last clause) = 13
number_of (Step clause) = 14
number_of (Witness time) = 15
number_of (Arrival position) = 16
number_of (Fall pin) = 19

-- column "Its place"
abbrev pub place_of : Refusal → ℕ
place_of (Short length) = length
place_of (Version version) = version
place_of (Count which) = which
place_of Back = 0
place_of (Gate gate) = gate
place_of (Pin pin) = pin
place_of (Output position) = position
place_of (Vector position) = position
place_of (Room needed) = needed
place_of Pairs = 0
place_of (Formula index) = index
place_of (Refutation index) = index
place_of (Last clause) = clause
place_of (Step clause) = clause
place_of (Witness time) = time
place_of (Arrival position) = position
place_of (Fall pin) = pin

-- a space and a number
abbrev pub number_text : ℕ → List ℕ
number_text number = codes " " ++ decimal number

-- as it is printed: the words `refused number place`
abbrev pub refusal_text : Refusal → List ℕ
refusal_text refusal = codes "refused" ++ (number_text (number_of refusal) ++ number_text (place_of refusal))
