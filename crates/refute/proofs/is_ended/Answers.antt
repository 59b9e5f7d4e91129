-- `refute::is_ended` meets its contract: a number is 0 where its magnitude is. Assumes nothing.
use Rattle.std.proofs.Common.{sym, ◌∙◌}
use Rattle.basics.proofs.Truth.{holds}
use Rattle.refute.proofs.Walking as W
use Rattle.refute.proofs.is_ended.Goals as goal

pub returns-then-is_empty : goal.returns-then-is_empty
returns-then-is_empty c = c.if-is_empty.true ∙ W.ended-empty c.args.list.now (holds (sym c.if-is_empty.ensures))

pub returns-else-is_empty : goal.returns-else-is_empty
returns-else-is_empty c = W.ended_by c.args.list.now _ c.variable_at.ensures.0
