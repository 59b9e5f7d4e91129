-- `formula::Writer::mux_control` meets its contract: twice three clauses, one after the other. Assumes nothing.
use Rattle.formula.proofs.Emission.{puts_then}
use Rattle.formula.proofs.Writer.mux_control.Goals as goal

pub returns : goal.returns
returns c =
    puts_then (puts_then c.two_cubes.ensures c.two_cubes-2.ensures) c.two_cubes-3.ensures
