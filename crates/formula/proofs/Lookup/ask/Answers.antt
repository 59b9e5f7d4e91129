-- `formula::Lookup::ask` meets its contract: the form decides which rails are asked. Assumes nothing.
use mathlib.Core.Path.{ap}
use Rattle.netlist.specs.Netlist.{slopes_of}
use Rattle.formula.proofs.Asking.{rail-asks, rail-single, rail-fall, rail-rise}
use Rattle.formula.proofs.Lookup.ask.Goals as goal

pub late_code-requires : goal.late_code-requires
late_code-requires c =
    rail-asks c.args.self.ready c.requires.0 _ (rail-single c.args.asked.node (ap slopes_of c.in-Single.is))

pub late_code-requires-in-RiseFall : goal.late_code-requires-in-RiseFall
late_code-requires-in-RiseFall c =
    rail-asks c.args.self.ready c.requires.0 _ (rail-fall c.args.asked.node (ap slopes_of c.in-RiseFall.is))

pub late_code-requires-in-RiseFall-2 : goal.late_code-requires-in-RiseFall-2
late_code-requires-in-RiseFall-2 c =
    rail-asks c.args.self.ready c.requires.0 _ (rail-rise c.args.asked.node (ap slopes_of c.in-RiseFall.is))
