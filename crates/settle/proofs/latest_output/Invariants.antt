-- `settle::latest_output` meets its contract: the latest so far and the outputs that are left give the largest time.
-- Assumes nothing.
use Rattle.settle.proofs.Whole as L
use Rattle.settle.proofs.latest_output.Given as goal

abbrev pub invariant-loop-position : goal.invariant-loop-position
invariant-loop-position l = L.Passing l.accepted l.times l.latest l.position
