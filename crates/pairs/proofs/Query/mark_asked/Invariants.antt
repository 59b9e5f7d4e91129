-- `pairs::Query::mark_asked` meets its contract: what the outputs and the pins walked by ask for is marked. Assumes
-- nothing.
use Rattle.netlist.specs.Netlist.{slopes_of}
use Rattle.pairs.specs.Table.{pairs_in, Spans}
use Rattle.pairs.proofs.Walking.{Walking}
use Rattle.pairs.proofs.Query.mark_asked.Given as goal

abbrev pub invariant-loop-at : goal.invariant-loop-at
invariant-loop-at l =
    Walking (pairs_in l.found.pairs.now) l.self.accepted.now.file.now l.self.accepted.now.shape
    (slopes_of l.self.accepted.now.form) l.self.target l.f l.top l.self.fanout.now.links l.initial.marks l.marks l.at
    × Spans l.top l.marks l.span

abbrev pub decreases-loop-at : goal.decreases-loop-at
decreases-loop-at l =
    l.at
