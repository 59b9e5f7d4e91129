-- `formula::Writer::put_parts` meets its contract: code after code, each puts its part. Assumes nothing.
use mathlib.Core.Bool.{true}
use mathlib.Core.Path.{ap}
use native.Mathlib.Omega.{arith}
use Rattle.formula.specs.Emission.{code_run}
use Rattle.formula.proofs.Emission as E
use Rattle.formula.proofs.Writer.put_parts.Goals as goal

pub loop-i-init : goal.loop-i-init
loop-i-init c = E.putting-starts _ _ _ c.requires.1.fewer

pub loop-i-preserved : goal.loop-i-preserved
loop-i-preserved c =
    E.putting-more c.loop-i.invariant
    (E.puts-as 1 c.put_part.ensures (ap (code_run true) c.late_at.ensures.0) (omega arith))
