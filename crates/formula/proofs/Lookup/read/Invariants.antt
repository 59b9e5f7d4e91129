-- `formula::Lookup::read` meets its contract: entry after entry, what it asks for is stored. Assumes nothing.
use Rattle.formula.specs.Late.{Reads}
use Rattle.formula.proofs.Lookup.read.Given as goal

abbrev pub invariant-loop-i : goal.invariant-loop-i
invariant-loop-i l =
    Reads l.self.source l.side l.first l.i l.t l.read.nodes l.read.lates l.sure
