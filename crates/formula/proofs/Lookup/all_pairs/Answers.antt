-- `formula::Lookup::all_pairs` meets its contract: pair after pair of the table, each puts its run; the gate is that of
-- the pair's node, read now or kept from the pair before. Assumes nothing.
use mathlib.Core.Path.{◌≡◌, sym, ap, ◌∙◌}
use Prim.Native.Nat.{ℕ, ◌-◌}
use native.Mathlib.Omega.{arith}
use Rattle.netlist.specs.File.{gate_at}
use Rattle.pairs.specs.Rails.{node_of}
use Rattle.formula.specs.Emission.{gate_most}
use Rattle.formula.specs.Late.{file_in, shape_in, slopes_in}
use Rattle.formula.proofs.PairClauses.{Here, stands_here, gated, variable-here, pair-here}
use Rattle.formula.proofs.Emission as E
use Rattle.formula.proofs.Lookup.all_pairs.Goals as goal
use Rattle.formula.proofs.Lookup.all_pairs.Goals.{
  After-pair_at-pair,
  Joined-node-last,
  then-node-last,
  else-node-last,
}

-- what stands there
here : (c : After-pair_at-pair) → Here c.args.self.source c.loop-k.k c.pair_at-pair.result
here c = stands_here c.loop-k.k c.pair_at-pair.result c.requires.0 c.loop-k-test.true c.pair_at-pair.ensures

-- the gate is that of the rail's node, read now or kept from the pair before
gate-known : (c : Joined-node-last) →
    (c.if-node-last.last ≡ c.node_of-node.result)
    × (c.if-node-last.gate
    ≡ gate_at (file_in c.args.self.source) (shape_in c.args.self.source)
    (node_of (slopes_in c.args.self.source) c.pair_at-pair.result.rail - (shape_in c.args.self.source).inputs))
gate-known c =
    let source = c.args.self.source in
    let node = c.node_of-node.ensures in
    let there = stands_here c.loop-k.k c.pair_at-pair.result c.requires.0 c.loop-k-test.true c.pair_at-pair.ensures in
    elim c.if-node-last.branch [
      | then-node-last w ↦ (
        w.last-is,
        w.gate-is
            ∙ w.gate-gate.ensures.value
            ∙ ap (λ (n : ℕ). gate_at (file_in source) (shape_in source) (n - (shape_in source).inputs)) node,
      )
      | else-node-last w ↦ (
        w.last-is ∙ sym w.if-node-last.false,
        w.gate-is
            ∙ c.loop-k.invariant.1 (omega (arith, w.if-node-last.false, node, there.stands.low))
            ∙ ap (λ (n : ℕ). gate_at (file_in source) (shape_in source) (n - (shape_in source).inputs))
            (sym w.if-node-last.false ∙ node),
      )
    ]

pub loop-k-init : goal.loop-k-init
loop-k-init c = (
  E.putting-starts _ _ _ c.requires.1.fewer,
  λ h. absurd (omega (arith, c.args.self.source.accepted.given.holds.counts.inputs-some)),
)

pub overflow_sub-node : goal.overflow_sub-node
overflow_sub-node c =
    let stands = (here (goal.at.overflow_sub-node c).After-pair_at-pair).stands in
    omega (arith, stands.low)

pub gate-gate-requires : goal.gate-gate-requires
gate-gate-requires c =
    let stands = (here (goal.at.gate-gate-requires c).After-pair_at-pair).stands in
    omega (arith, stands.low, stands.high)

pub pair_variable-requires : goal.pair_variable-requires
pair_variable-requires c =
    let slices = c.args.self.ready.slices in
    (slices, omega (arith, slices.pairs-few, c.loop-k-test.true))

pub pair_clauses-requires : goal.pair_clauses-requires
pair_clauses-requires c =
    let stands = (here (goal.at.pair_clauses-requires c).After-pair_at-pair).stands in
    let slices = c.args.self.ready.slices in
    let gate = (gate-known (goal.at.pair_clauses-requires c).Joined-node-last).1 in (
      gated c.if-node-last.gate stands gate,
      omega (arith, slices.nodes-few, stands.high),
      variable-here c.if-node-last.gate stands gate c.pair_variable.ensures,
      omega (arith, slices.nodes-few, slices.pairs-few, c.loop-k-test.true),
      E.putting-fits 65536 c.requires.1 c.loop-k.invariant.0 (omega (arith, slices.pairs-few, c.loop-k-test.true)),
    )

pub loop-k-preserved : goal.loop-k-preserved
loop-k-preserved c =
    let source = c.args.self.source in
    let there = here (goal.at.loop-k-preserved c).After-pair_at-pair in
    let gate = gate-known (goal.at.loop-k-preserved c).Joined-node-last in (
      E.putting-more c.loop-k.invariant.0
          (E.puts-as gate_most c.pair_clauses.ensures
          (pair-here c.if-node-last.gate there.stands gate.1 there.is)
          (omega arith)),
      λ h.
          gate.1
          ∙ ap
          (λ (n : ℕ). gate_at (file_in source) (shape_in source) (n - (shape_in source).inputs))
          (sym c.node_of-node.ensures ∙ sym gate.0),
    )
