-- `pairs::Fanout::link` meets its contract: the pins of the first i gates are linked. Assumes nothing.
use Rattle.netlist.specs.Open.{pins_before}
use Rattle.pairs.specs.Query.{Linked}
use Rattle.pairs.proofs.Fanout.link.Given as goal

abbrev pub invariant-loop-i : goal.invariant-loop-i
invariant-loop-i l = Linked l.accepted l.i l.self (pins_before l.accepted.file.now l.accepted.shape l.i)
