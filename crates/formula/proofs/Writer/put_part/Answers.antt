-- `formula::Writer::put_part` meets its contract: a code below 2 is no literal. Assumes nothing.
use mathlib.Core.Path.{refl}
use native.Mathlib.Omega.{arith}
use borrow.Author.Tests.{lt-ltb}
use Rattle.formula.proofs.Emission as E
use Rattle.formula.proofs.Writer.put_part.Goals as goal

pub returns-then-code-lt2 : goal.returns-then-code-lt2
returns-then-code-lt2 c =
    rw (lt-ltb c.args.code 2 c.if-code-lt2.true)
    (E.puts-as 1 (E.puts_none _ c.requires.0.fewer) refl (omega arith))
