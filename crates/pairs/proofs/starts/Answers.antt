-- `pairs::starts` meets its contract: each node below `node` has its start. Assumes nothing.
use Prim.Native.Nat.{◌*◌}
use native.Mathlib.Omega.{arith}
use lib.ListN.{take}
use lib.Seq.{length-take-le}
use Rattle.pairs.proofs.Flat.{pairs-length}
use Rattle.pairs.proofs.Search.{searching-starts}
use Rattle.pairs.proofs.starts.Goals as goal

pub pairs_before-requires : goal.pairs_before-requires
pairs_before-requires c =
    let pairs = take (c.args.count * 2) c.args.table.now in
    let all = length-take-le (c.args.count * 2) c.args.table.now c.requires.1 in
    (c.requires.0, searching-starts _ _ _ (omega (arith, pairs-length pairs)))
