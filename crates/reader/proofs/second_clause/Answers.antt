-- `reader::second_clause` meets its contract: what the three calls say together, with the law that after one step a
-- reader gives the second clause. Assumes nothing.
use Rattle.std.proofs.Common.{◌∙◌}
use Rattle.reader.proofs.Agree.{second}
use Rattle.reader.proofs.second_clause.Goals as goal

pub returns-clause-second : goal.returns-clause-second
returns-clause-second c =
    let part =
    rw (c.step.ensures.formula, c.step.ensures.at, c.read.ensures.formula, c.read.ensures.at) at c.clause.ensures in
    part.holds ∙ second c.args.formula.now
