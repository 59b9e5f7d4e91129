-- `pairs::Found::begin` meets its contract: so many pairs from the end. Assumes nothing.
use native.Mathlib.Omega.{arith}
use Rattle.pairs.proofs.Flat.{pairs-length}
use Rattle.pairs.proofs.Ending.{ended-rail}
use Rattle.pairs.proofs.Found.begin.Goals as goal

pub overflow_sub-result-2 : goal.overflow_sub-result-2
overflow_sub-result-2 c =
    let found = c.args.self.now in
    omega (
      arith,
      (ended-rail c.args.rail found.ended c.requires.0 c.requires.0 (omega arith)).few,
      pairs-length found.pairs.now,
    )

pub returns : goal.returns
returns c =
    let found = c.args.self.now in
    let ends = ended-rail c.args.rail found.ended c.requires.0 c.requires.0 (omega arith) in
    rw (← pairs-length found.pairs.now) ends.from
