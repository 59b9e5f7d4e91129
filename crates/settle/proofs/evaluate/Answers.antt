-- `settle::evaluate` meets its contract: what is accepted is evaluated, and what is not is refused. Assumes nothing.
use lib.ListN.{length}
use Rattle.netlist.specs.Netlist.{slopes_of}
use Rattle.settle.proofs.Checks as L
use Rattle.settle.proofs.evaluate.Goals as goal

pub returns-in-Ok : goal.returns-in-Ok
returns-in-Ok c =
    rw
    (L.of-taken c.args.file.now c.args.arrivals.now (slopes_of c.args.form) c.args.vector.now
    (length c.args.values.now) (length c.args.times.now) c.in-Ok.ensures)
    c.evaluate_accepted.ensures

pub returns-in-Err : goal.returns-in-Err
returns-in-Err c =
    rw
    (L.of-refused c.args.file.now c.args.arrivals.now (slopes_of c.args.form) c.args.vector.now
    (length c.args.values.now) (length c.args.times.now) c.in-Err.ensures)
    c.refuse.ensures
