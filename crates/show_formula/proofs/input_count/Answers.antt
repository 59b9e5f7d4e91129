-- An accepted netlist has at most 64 inputs.
use Rattle.std.proofs.Common.{arith, sym, ◌∙◌}
use Rattle.netlist.proofs.AcceptedFile.{holds}
use Rattle.show_formula.proofs.input_count.Goals as goal

pub returns-in-Ok : goal.returns-in-Ok
returns-in-Ok c =
    let h = holds _ _ (sym c.open.ensures ∙ c.in-Ok.is) in
    omega (arith, h.counts.inputs-few)
