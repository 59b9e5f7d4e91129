-- `formula::Writer::control_clauses` meets its contract: the kind decides which run it is. Assumes nothing.
use mathlib.Core.Path.{refl}
use native.Mathlib.Omega.{arith}
use Rattle.formula.proofs.Emission.{puts_none, puts-as}
use Rattle.formula.proofs.Writer.control_clauses.Goals as goal

pub returns-in-Parity : goal.returns-in-Parity
returns-in-Parity c = rw c.in-Parity.is (puts-as 48 (puts_none _ c.requires.2.fewer) refl (omega arith))
