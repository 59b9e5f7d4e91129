-- `formula::build_accepted` meets its contract: too many pairs is a row of the promise; else `write` ends it. Assumes
-- nothing.
use Rattle.netlist.specs.Accepts.{circuit_in}
use Rattle.formula.proofs.Rows.{listed-none}
use Rattle.formula.proofs.build_accepted.Goals as goal

pub returns-in-None : goal.returns-in-None
returns-in-None c =
    listed-none (circuit_in c.args.accepted.now) c.args.target _ _ _ _ _ c.table.ensures c.in-None.is c.zero.ensures
