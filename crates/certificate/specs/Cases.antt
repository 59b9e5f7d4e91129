-- The cases of rule X3 on certificates as one table: circuit A, an output that is an input, and the rooms just below
-- what is needed. proofs/Examples has that each row's call has the row's answer. Interface: Case, cases.
use Rattle.std.specs.Prelude.{List, [], ◌∷◌, ℕ, ℤ, pos, replicate}
use Rattle.refusal.specs.declared.Refusal.TheVariants.{Vector, Room, Pairs, Refutation, Last, Step, Witness}
use Rattle.std.specs.Prelude.{Ok, Err}
use Rattle.refusal.specs.Rows.{Checked}
use Rattle.netlist.specs.Netlist.{Slopes, alike, apart}
use Rattle.netlist.specs.File.{inputs}
use Rattle.netlist.specs.Example.{circuit_a}
use Rattle.certificate.specs.Promise.{Rooms}

-- one certificate call and its answer
pub record Case : Type 0 where
  pub file : List ℕ
  pub arrivals : List ℕ
  pub slopes : Slopes
  pub delay : ℕ
  pub vector : List ℕ
  pub refutation : List ℤ
  pub rooms : Rooms
  pub answer : Checked

-- the rooms, in the order of the slices
abbrev pub lending : ℕ → ℕ → ℕ → ℕ → ℕ → Rooms
lending values times pairs formula propagation =
    record { values = values; times = times; pairs = pairs; formula = formula; propagation = propagation }

-- a call and its answer
abbrev pub given : List ℕ → List ℕ → Slopes → ℕ → List ℕ → List ℤ → Rooms → Checked → Case
given file arrivals slopes delay vector refutation rooms answer =
    record {
      file = file;
      arrivals = arrivals;
      slopes = slopes;
      delay = delay;
      vector = vector;
      refutation = refutation;
      rooms = rooms;
      answer = answer;
    }

-- with one delay a pin
abbrev pub arriving : List ℕ → List ℕ → ℕ → List ℕ → List ℤ → Rooms → Checked → Case
arriving file arrivals = given file arrivals alike

-- with other delays for gates that end at 0, all inputs at 0
abbrev pub falling : List ℕ → List ℕ → ℕ → List ℕ → List ℤ → Rooms → Checked → Case
falling file falls = given file (replicate (inputs file) 0) (apart falls)

-- all inputs at 0
abbrev pub case : List ℕ → ℕ → List ℕ → List ℤ → Rooms → Checked → Case
case file = arriving file (replicate (inputs file) 0)

-- one input that is the output, and no gate
unfoldable pub wire : List ℕ
wire = 0 ∷ 0 ∷ 2 ∷ 0 ∷ 0 ∷ 0 ∷ 1 ∷ 0 ∷ 0 ∷ 0 ∷ 0 ∷ 0 ∷ 1 ∷ 0 ∷ 1 ∷ 0 ∷ []

-- First the rows of rule X3: circuit A with its certificate, with another vector, with another delay; and the input
-- that is an output.
-- Then, for circuit A's certificate: each slice one short, a vector that is none, and refutations that are none.
unfoldable pub cases : List Case
cases =
    case circuit_a 2 (0 ∷ 0 ∷ []) (pos 0 ∷ []) (lending 5 5 6 48 9) (Ok tt)
    ∷ case circuit_a 2 (0 ∷ 1 ∷ []) (pos 0 ∷ []) (lending 5 5 6 48 9) (Err (Witness 1))
    ∷ case circuit_a 5 (0 ∷ 0 ∷ []) (pos 0 ∷ []) (lending 5 5 6 48 9) (Err (Witness 2))
    ∷ case wire 0 (1 ∷ []) (pos 0 ∷ []) (lending 1 1 0 1 2) (Ok tt)
    ∷ case circuit_a 2 (0 ∷ 0 ∷ []) (pos 0 ∷ []) (lending 4 5 6 48 9) (Err (Room 5))
    ∷ case circuit_a 2 (0 ∷ 0 ∷ []) (pos 0 ∷ []) (lending 5 4 6 48 9) (Err (Room 5))
    ∷ case circuit_a 2 (0 ∷ 0 ∷ []) (pos 0 ∷ []) (lending 5 5 5 48 9) (Err Pairs)
    ∷ case circuit_a 2 (0 ∷ 0 ∷ []) (pos 0 ∷ []) (lending 5 5 6 47 9) (Err (Room 48))
    ∷ case circuit_a 2 (0 ∷ 0 ∷ []) (pos 0 ∷ []) (lending 5 5 6 48 8) (Err (Room 9))
    ∷ case circuit_a 2 (0 ∷ 2 ∷ []) (pos 0 ∷ []) (lending 5 5 6 48 9) (Err (Vector 1))
    ∷ case circuit_a 2 (0 ∷ []) (pos 0 ∷ []) (lending 5 5 6 48 9) (Err (Vector 2))
    ∷ case circuit_a 2 (0 ∷ 0 ∷ []) [] (lending 5 5 6 48 9) (Err (Refutation 0))
    ∷ case circuit_a 2 (0 ∷ 0 ∷ []) (pos 9 ∷ pos 0 ∷ []) (lending 5 5 6 48 9) (Err (Refutation 0))
    ∷ case circuit_a 2 (0 ∷ 0 ∷ []) (pos 1 ∷ pos 0 ∷ []) (lending 5 5 6 48 9) (Err (Last 1))
    ∷ case circuit_a 2 (0 ∷ 0 ∷ []) (pos 0 ∷ pos 0 ∷ []) (lending 5 5 6 48 9) (Err (Last 0))
    ∷ case circuit_a 1 (0 ∷ 1 ∷ []) (pos 0 ∷ []) (lending 5 5 6 48 9) (Err (Step 0)) ∷ []
