-- `lent::zero_rest`: the entries before the loop's place are zero. Assumes nothing.
use Rattle.std.proofs.Common.{◌≡◌, take, replicate}
use Rattle.lent.proofs.zero_rest.Given as goal

abbrev pub invariant-loop-place : goal.invariant-loop-place
invariant-loop-place g l =
    take l.place-index l.place-items ≡ replicate l.place-index g.T.Number.zero
