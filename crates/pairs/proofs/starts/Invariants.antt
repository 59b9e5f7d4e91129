-- `pairs::starts` meets its contract: each node below `node` has its start. Assumes nothing.
use Prim.Native.Nat.{ℕ, ◌*◌, ◌<◌}
use lib.ListN.{get_or, take}
use Rattle.pairs.specs.Table.{pairs_in, Precede}
use Rattle.pairs.proofs.starts.Given as goal

abbrev pub invariant-loop-node : goal.invariant-loop-node
invariant-loop-node l =
    (k : ℕ) → k < l.node → Precede (pairs_in (take (l.count * 2) l.table)) (k * 4294967296) (get_or l.starts k 0)
