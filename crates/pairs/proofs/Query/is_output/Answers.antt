-- `pairs::Query::is_output` meets its contract: no output before i is the node. Assumes nothing.
use mathlib.Core.Path.{refl, sym, subst, ◌∙◌}
use mathlib.Core.List.{Memᴰ}
use Prim.Native.Nat.{ℕ}
use native.Mathlib.Omega.{arith}
use Rattle.netlist.specs.File.{netlist_at}
use Rattle.netlist.proofs.Entries.{output-has, output-only}
use Rattle.pairs.proofs.Query.is_output.Goals as goal

pub returns-then-output-node : goal.returns-then-output-node
returns-then-output-node c =
    let file = c.args.self.now.accepted.now.file.now in
    let shape = c.args.self.now.accepted.now.shape in (
      λ _. subst (λ (n : ℕ). Memᴰ n (netlist_at file shape).outputs)
          (sym c.output.ensures.value ∙ c.if-output-node.true) (output-has file shape c.loop-i.i (omega arith)),
      λ _. refl,
    )

pub returns : goal.returns
returns c = (
  λ h. cc,
  λ m.
      let w =
      output-only c.args.self.now.accepted.now.file.now c.args.self.now.accepted.now.shape c.args.node m in
      absurd (c.loop-i.invariant w.0 (omega (arith, w.1)) (sym w.2)),
)
