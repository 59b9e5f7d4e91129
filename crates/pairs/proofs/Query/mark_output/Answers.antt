-- `pairs::Query::mark_output` meets its contract: the target is marked where an output asks for it. Assumes nothing.
use native.Mathlib.Omega.{arith}
use Rattle.pairs.proofs.Asking.{output-found}
use Rattle.pairs.proofs.Spanning.{spans-one}
use Rattle.pairs.proofs.Query.mark_output.Goals as goal

pub returns : goal.returns
returns c = (
  output-found (omega arith) (omega arith) (c.is_output.ensures.0 c.if-not-is_output.false) c.mark.ensures,
  spans-one (omega arith) c.requires.1 c.mark.ensures,
)
