-- `formula::Writer::put_parts` meets its contract: code after code, each puts its part. Assumes nothing.
use mathlib.Core.Bool.{true}
use lib.ListN.{get_or}
use Rattle.formula.specs.Emission.{code_run}
use Rattle.formula.proofs.Emission as E
use Rattle.formula.proofs.Writer.put_parts.Given as goal

abbrev pub invariant-loop-i : goal.invariant-loop-i
invariant-loop-i l =
    E.Putting 1 (λ j. code_run true (get_or l.read.lates j 0)) l.i l.initial.self l.self
