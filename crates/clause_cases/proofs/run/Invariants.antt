-- It ends: each case takes a number at least.
use Rattle.std.proofs.Common.{length}
use Rattle.clause_cases.proofs.run.Given as goal

abbrev pub decreases-loop-rest : goal.decreases-loop-rest
decreases-loop-rest g l = length l.rest
