-- `pairs::Query::is_output` meets its contract: no output before i is the node. Assumes nothing.
use mathlib.Core.Path.{◌≡◌}
use Prim.Native.Nat.{ℕ, ◌<◌}
use Rattle.netlist.specs.File.{output_at}
use Rattle.pairs.proofs.Query.is_output.Given as goal

abbrev pub invariant-loop-i : goal.invariant-loop-i
invariant-loop-i l =
    (k : ℕ) → k < l.i → output_at l.self.accepted.now.file.now l.self.accepted.now.shape k ≡ l.node → ⊥
