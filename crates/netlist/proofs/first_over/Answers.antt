-- `netlist::first_over` meets its contract: the place that is found is that of the first entry over the bound. Assumes
-- nothing.
use Rattle.std.proofs.Common.{ltb}
use Rattle.netlist.proofs.FirstWrong.{first-position}
use Rattle.netlist.proofs.first_over.Goals as goal

pub returns : goal.returns
returns c = cc (first-position (ltb c.args.most) c.args.entries.now)
