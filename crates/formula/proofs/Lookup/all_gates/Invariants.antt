-- `formula::Lookup::all_gates` meets its contract: gate after gate, each puts its run. Assumes nothing.
use Rattle.formula.specs.Emission.{gate_most}
use Rattle.formula.specs.Late.{file_in, shape_in, gate_run}
use Rattle.formula.proofs.Emission as E
use Rattle.formula.proofs.Lookup.all_gates.Given as goal

abbrev pub invariant-loop-i : goal.invariant-loop-i
invariant-loop-i l =
    E.Putting gate_most (gate_run (file_in l.self.source) (shape_in l.self.source)) l.i l.initial.writer l.writer
