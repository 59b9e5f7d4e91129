-- `netlist::gate_at` meets its contract: the callees' results make the record. Assumes nothing.
use borrow.Author.Rules.{rules}
use Rattle.netlist.specs.File.{gate_at}
use Rattle.netlist.proofs.gate_at.Goals as goal

pub returns : goal.returns
unfolding gate_at
returns c = (cc, search rules, search rules)
