-- `settle::settle_nodes` meets its contract: the slices hold the first nodes of the netlist's values and times, and
-- each gate's signal over these nodes is its own entry. Assumes nothing.
use Rattle.settle.specs.Promise.{bits}
use Rattle.settle.proofs.Gates as L
use Rattle.settle.proofs.settle_nodes.Given as goal

abbrev pub invariant-loop-number : goal.invariant-loop-number
invariant-loop-number g l =
    L.Gating l.accepted (bits l.vector) l.fn.values l.fn.times l.values l.times l.number
