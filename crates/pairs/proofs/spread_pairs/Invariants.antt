-- `pairs::spread_pairs` meets its contract: the pairs from k on are stored, those before it are still to be read.
-- Assumes nothing.
use Prim.Native.Nat.{◌*◌}
use lib.ListN.{take}
use Rattle.pairs.specs.Table.{pairs_in}
use Rattle.pairs.proofs.Spreading.{Spreading}
use Rattle.pairs.proofs.spread_pairs.Given as goal

abbrev pub invariant-loop-k : goal.invariant-loop-k
invariant-loop-k l =
    Spreading (pairs_in (take (l.count * 2) l.initial.table)) l.initial.table l.table l.count l.k
