-- `pairs::Query::find` meets its contract: either array has a word for each time up to the target that is no later than
-- the largest top, and holds no mark. Assumes nothing.
use native.Mathlib.Omega.{arith}
use Rattle.pairs.proofs.Marking.{no-marks}
use Rattle.pairs.proofs.Query.find.Goals as goal

pub find_in-requires : goal.find_in-requires
find_in-requires c =
    let few = c.if-self-lt16000.true in
    let given = c.requires in
    (given.0, given.1, no-marks 251, λ t h l. omega arith, given.2)

pub find_in-requires-2 : goal.find_in-requires-2
find_in-requires-2 c =
    let given = c.requires in
    (given.0, given.1, no-marks 7151, λ t h l. omega arith, given.2)
