-- `pairs::pairs_before` meets its contract: the search by halves, whose gap falls at each turn. Assumes nothing.
use Prim.Native.Nat.{◌-◌, ◌/◌, ◌≤◌}
use lib.ListN.{length}
use Rattle.pairs.specs.Table.{pairs_in, Searching}
use Rattle.pairs.proofs.pairs_before.Given as goal

abbrev pub invariant-loop-low : goal.invariant-loop-low
invariant-loop-low l =
    (l.high ≤ length l.pairs / 2) × Searching (pairs_in l.pairs) l.key l.low l.high

abbrev pub decreases-loop-low : goal.decreases-loop-low
decreases-loop-low l =
    l.high - l.low
