-- `show_times::node_count` is safe: an accepted netlist has at most 64 inputs and 448 gates. Assumes nothing.
use Rattle.netlist.proofs.AcceptedFile.{holds}
use mathlib.Core.Path.{sym, ◌∙◌}
use native.Mathlib.Omega.{arith}
use Rattle.show_times.proofs.node_count.Goals as goal

pub overflow_add-result : goal.overflow_add-result
overflow_add-result c =
    let h = holds _ _ (sym c.open.ensures ∙ c.in-Ok.is) in
    omega (arith, h.counts.inputs-few, h.counts.gates-few)
