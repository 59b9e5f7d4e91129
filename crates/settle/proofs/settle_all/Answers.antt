-- `settle::settle_all` meets its contract: all nodes, the largest time of the outputs, and zeros behind the nodes.
-- Assumes nothing.
use Rattle.settle.specs.Promise.{bits}
use Rattle.settle.specs.Steps.{Done}
use Rattle.settle.proofs.Whole as L
use Rattle.settle.proofs.settle_all.Goals as goal
use Rattle.settle.proofs.settle_all.Goals.{in-Single, in-RiseFall}

pub returns : goal.returns
returns c =
    let done :
    Done c.args.accepted.now (bits c.args.vector.now) c.args.values.now c.args.times.now c.match-accepted.values
    c.match-accepted.times =
    elim c.match-accepted.branch [
      | in-Single w ↦ rw (w.values-is, w.times-is) w.settle_nodes.ensures
      | in-RiseFall w ↦ rw (w.values-is, w.times-is) w.settle_nodes-in-RiseFall.ensures
    ]
    in
    L.settled_is c.requires done _ c.nodes-nodes.result _ _ c.nodes-nodes.ensures c.latest_output-time.ensures
    c.zero_rest.ensures
    c.zero_rest-2.ensures
