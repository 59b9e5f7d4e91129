-- `reader::length_from` meets its contract: the clause goes from the place to the next 0. Assumes nothing.
use Rattle.std.proofs.Common.{refl}
use Rattle.reader.proofs.Lengths as L
use Rattle.reader.proofs.length_from.Goals as goal

pub returns-then-list-at-clause-value : goal.returns-then-list-at-clause-value
returns-then-list-at-clause-value c = L.past_end _ _ c.if-list-at.true

pub returns-in-Some-clause-value : goal.returns-in-Some-clause-value
returns-in-Some-clause-value c = L.to-zero c.in-Some.ensures.1 c.in-Some.ensures.0

pub returns-in-None-clause-value : goal.returns-in-None-clause-value
returns-in-None-clause-value c = L.no-zero-left c.in-None.ensures refl
