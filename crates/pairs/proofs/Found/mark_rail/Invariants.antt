-- `pairs::Found::mark_rail` meets its contract: what the pairs before place k ask for is marked. Assumes nothing.
use Rattle.pairs.specs.Table.{pairs_in, Adds}
use Rattle.pairs.proofs.Asking.{PinTo}
use Rattle.pairs.proofs.Found.mark_rail.Given as goal

abbrev pub invariant-loop-k : goal.invariant-loop-k
invariant-loop-k l = Adds l.initial.marks (PinTo (pairs_in l.pairs) l.rail l.delay l.top l.k) l.marks
