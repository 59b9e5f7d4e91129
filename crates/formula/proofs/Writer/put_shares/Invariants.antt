-- `formula::Writer::put_shares` meets its contract: driver after driver, each puts its run. Assumes nothing.
use Rattle.netlist.specs.Netlist.{slopes_of}
use Rattle.formula.specs.Emission.{share_most, stored_at, share_run}
use Rattle.formula.proofs.Emission as E
use Rattle.formula.proofs.Writer.put_shares.Given as goal

abbrev pub invariant-loop-i : goal.invariant-loop-i
invariant-loop-i l =
    E.Putting share_most
    (λ j. share_run l.share l.c l.k l.own (stored_at (slopes_of l.form) l.read.nodes l.read.lates j)) l.i l.initial.self
    l.self
