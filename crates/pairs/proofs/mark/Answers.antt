-- `pairs::mark` meets its contract: the time's bit is set in its word. Assumes nothing.
use Prim.Native.Nat.{◌%◌, ◌<◌}
use native.Mathlib.Omega.{arith}
use Rattle.pairs.proofs.Bits.{one_shifted}
use Rattle.pairs.proofs.Marking.{adds_one}
use Rattle.pairs.proofs.mark.Goals as goal

pub returns : goal.returns
returns c =
    let bit : c.args.time % 64 < 64 = omega arith in
    adds_one c.args.marks.now c.args.time c.requires _ (one_shifted _ bit)
