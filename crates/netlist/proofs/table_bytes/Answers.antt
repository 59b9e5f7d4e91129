-- `netlist::table_bytes` meets its contract: the three counts are those of the trailer. Assumes nothing.
use borrow.Author.Rules.{rules}
use Rattle.netlist.specs.File.{table_bytes}
use Rattle.netlist.proofs.table_bytes.Goals as goal

pub returns : goal.returns
unfolding table_bytes
returns c = (search rules, search rules)
