-- `pairs::Query::fill` meets its contract: the rails from one on are done; of the next, the words from one on; and of
-- its word, the bits from one on. Assumes nothing.
use mathlib.Core.Path.{◌≡◌}
use lib.ListN.{length}
use Rattle.netlist.specs.Netlist.{slopes_of}
use Rattle.pairs.proofs.Finding.{Past, Finding}
use Rattle.pairs.proofs.Query.fill.Given as goal

abbrev pub invariant-loop-rail : goal.invariant-loop-rail
invariant-loop-rail l =
    (length l.ends ≡ length l.fn.ends)
    × Past l.self.accepted.now.file.now l.self.accepted.now.shape l.self.accepted.now.arrivals.now
    (slopes_of l.self.accepted.now.form) l.self.target l.fn.table l.table l.ends l.at l.rail l.marks

abbrev pub invariant-loop-word : goal.invariant-loop-word
invariant-loop-word l =
    Finding l.self.accepted.now.file.now l.self.accepted.now.shape l.self.accepted.now.arrivals.now
    (slopes_of l.self.accepted.now.form) l.self.target l.fn.table l.table l.ends l.at l.rail l.marks l.low l.word 0

abbrev pub invariant-loop-bits : goal.invariant-loop-bits
invariant-loop-bits l =
    Finding l.self.accepted.now.file.now l.self.accepted.now.shape l.self.accepted.now.arrivals.now
    (slopes_of l.self.accepted.now.form) l.self.target l.fn.table l.table l.ends l.at l.rail l.marks l.low l.word
    l.bits

abbrev pub decreases-loop-bits : goal.decreases-loop-bits
decreases-loop-bits l = l.bits
