-- `settle::evaluate_accepted` meets its contract: the checks decide between a refusal and the settled nodes.
-- Assumes nothing.
use mathlib.Core.Path.{sym, ◌∙◌}
use lib.ListN.{length}
use Rattle.netlist.specs.Accepts.{circuit_in}
use Rattle.settle.proofs.Checks as L
use Rattle.settle.proofs.evaluate_accepted.Goals as goal

pub settle_all-requires : goal.settle_all-requires
settle_all-requires c =
    L.usable c.args.accepted.now c.args.vector.now _ _ (sym c.check_given.ensures ∙ c.in-Ok.is)

pub returns-in-Ok : goal.returns-in-Ok
returns-in-Ok c =
    rw (
      L.by-checks (circuit_in c.args.accepted.now) c.args.vector.now (length c.args.values.now)
          (length c.args.times.now) c.check_given.ensures,
      c.in-Ok.is,
    )
    c.settle_all.ensures

pub returns-in-Err : goal.returns-in-Err
returns-in-Err c =
    rw (
      L.by-checks (circuit_in c.args.accepted.now) c.args.vector.now (length c.args.values.now)
          (length c.args.times.now) c.check_given.ensures,
      c.in-Err.is,
    )
    c.refuse.ensures
