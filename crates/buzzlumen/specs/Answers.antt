-- The library's answers as the numbers that a C host reads: 0 for acceptance, or the refusal's number and place, and
-- then every other field is 0. Interface: all of it.
use Rattle.std.specs.Prelude.{◌≡◌, List, ℕ, ◌<◌, ℤ}
use Rattle.refusal.specs.Table.{number_of, place_of}
use Rattle.std.specs.Prelude.{Result, Ok, Err}
use Rattle.refusal.specs.Rows.{Checked}
use Rattle.refusal.specs.declared.Refusal.{Refusal}
use Rattle.formula.specs.declared.Counts.{Counts}
use Rattle.netlist.specs.Netlist.{Slopes}
use Rattle.netlist.specs.File.{circuit_of}
use Rattle.settle.specs.Promise.{Evaluation}
use Rattle.formula.specs.Promise.{Building}
use Rattle.certificate.specs.Largest.{Largest}
use Rattle.certificate.specs.Promise.{Rooms, Judges, leaving}
use Rattle.buzzlumen.specs.declared.Evaluated.{Evaluated}
use Rattle.buzzlumen.specs.declared.Formed.{Formed}
use Rattle.buzzlumen.specs.declared.Answer.{Answer}

-- the answer of an evaluation
abbrev pub evaluated_of : Result ℕ Refusal → Evaluated
evaluated_of (Ok time) = record { number = 0; time = time; place = 0 }
evaluated_of (Err refusal) = record { number = number_of refusal; time = 0; place = place_of refusal }

-- an evaluation's answer as numbers, and what it leaves in the lent slices
pub record Evaluates (promised : Evaluation) (numbers : Evaluated) (values times : List ℕ) : Type 0 where
  pub numbers-are : numbers ≡ evaluated_of promised.answer
  pub values-are : values ≡ promised.values
  pub times-are : times ≡ promised.times

-- the answer of a check, or of a certificate call
abbrev pub checked_of : Checked → Answer
checked_of (Ok _) = record { number = 0; place = 0 }
checked_of (Err refusal) = record { number = number_of refusal; place = place_of refusal }

-- the numbers of the check's answer, of which `Promised` holds
pub record Says (Promised : Checked → Type 0) (numbers : Answer) : Type 0 where
  pub answer : Checked
  pub promised : Promised answer
  pub is : numbers ≡ checked_of answer

-- the answer of a building call
abbrev pub formed_of : Result Counts Refusal → Formed
formed_of (Ok counts) =
    record {
      number = 0;
      variables = counts.variables;
      place = 0;
      clauses = counts.clauses;
      numbers = counts.numbers;
      pairs = counts.pairs;
    }
formed_of (Err refusal) =
    record { number = number_of refusal; variables = 0; place = place_of refusal; clauses = 0; numbers = 0; pairs = 0 }

-- a building call's answer as numbers, and what it leaves in the lent slices
pub record Builds (promised : Building) (numbers : Formed) (pairs : List ℕ) (formula : List ℤ) : Type 0 where
  pub numbers-are : numbers ≡ formed_of promised.answer
  pub pairs-are : pairs ≡ promised.pairs
  pub formula-is : formula ≡ promised.formula

-- the variables of an answer fit 32 bits; every answer of a building call is so (proofs/Small)
abbrev pub Small : Result Counts Refusal → Type 0
Small (Ok counts) = counts.variables < 4294967296
Small (Err refusal) = Unit {0}

-- the numbers of a certificate call's answer and what it leaves in the lent slices; number 0 means that the delay is
-- the largest settling time
pub record Certifies (file arrivals : List ℕ) (slopes : Slopes) (delay : ℕ) (vector : List ℕ) (refutation : List ℤ)
    (rooms : Rooms) (values times pairs : List ℕ) (formula : List ℤ) (propagation : List ℕ) (numbers : Answer) :
    Type 0 where
  pub answer : Checked
  pub judges : Judges file arrivals slopes delay vector refutation rooms
      (leaving answer values times pairs formula propagation)
  pub is : numbers ≡ checked_of answer
  pub largest : numbers.number ≡ 0 → Largest (circuit_of file arrivals slopes) delay
