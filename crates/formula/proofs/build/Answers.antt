-- `formula::build` meets its contract: what `accept` answers decides the row. Assumes nothing.
use mathlib.Core.Path.{refl}
use lib.ListN.{length}
use Rattle.netlist.specs.Netlist.{slopes_of}
use Rattle.formula.proofs.Rows.{of-refused, of-taken}
use Rattle.formula.proofs.build.Goals as goal

pub returns-in-Ok : goal.returns-in-Ok
returns-in-Ok c =
    let args = c.args in
    rw (of-taken args.file.now args.arrivals.now (slopes_of args.form) args.target (length args.pairs.now)
    (length args.formula.now) c.in-Ok.ensures)
    c.build_accepted.ensures

pub returns-in-Err : goal.returns-in-Err
returns-in-Err c =
    let args = c.args in
    rw (of-refused args.file.now args.arrivals.now (slopes_of args.form) args.target (length args.pairs.now)
    (length args.formula.now) c.in-Err.ensures)
    (record { answer-is = refl; pairs-are = c.zero.ensures; formula-is = c.zero-in-Err.ensures })
