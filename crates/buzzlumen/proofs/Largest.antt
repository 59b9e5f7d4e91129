-- Number 0 is acceptance: no refusal has it. Assumes nothing.
use mathlib.Core.Path.{◌≡◌, refl}
use native.Mathlib.Omega.{arith}
use Rattle.refusal.specs.declared.Refusal.{Refusal}
use Rattle.refusal.specs.declared.Refusal.TheVariants.{
  Short,
  Version,
  Count,
  Back,
  Gate,
  Pin,
  Output,
  Vector,
  Room,
  Pairs,
  Formula,
  Refutation,
  Last,
  Step,
  Witness,
  Arrival,
  Fall,
}
use Rattle.refusal.specs.Table.{number_of}
use Rattle.std.specs.Prelude.{Ok, Err}
use Rattle.refusal.specs.Rows.{Checked}
use Rattle.buzzlumen.specs.Answers.{checked_of}

-- a refusal's number is not 0
numbered : (refusal : Refusal) → number_of refusal ≡ 0 → ⊥
numbered (Short n) e = omega arith
numbered (Version n) e = omega arith
numbered (Count n) e = omega arith
numbered Back e = omega arith
numbered (Gate n) e = omega arith
numbered (Pin n) e = omega arith
numbered (Output n) e = omega arith
numbered (Vector n) e = omega arith
numbered (Room n) e = omega arith
numbered Pairs e = omega arith
numbered (Formula n) e = omega arith
numbered (Refutation n) e = omega arith
numbered (Last n) e = omega arith
numbered (Step n) e = omega arith
numbered (Witness n) e = omega arith
numbered (Arrival n) e = omega arith
numbered (Fall n) e = omega arith

-- the answer whose number is 0
pub only-accepted : (answer : Checked) → (checked_of answer).number ≡ 0 → answer ≡ Ok tt
only-accepted (Ok tt) e = refl
only-accepted (Err refusal) e = absurd (numbered refusal e)
