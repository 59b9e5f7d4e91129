-- `formula::Lookup::all_gates` meets its contract: gate after gate, each puts its run. Assumes nothing.
use native.Mathlib.Omega.{arith}
use Rattle.formula.specs.Emission.{gate_most}
use Rattle.formula.specs.Late.{file_in, shape_in}
use Rattle.formula.proofs.Gates.{gate-run}
use Rattle.formula.proofs.PairClauses.{gated-now}
use Rattle.formula.proofs.Emission as E
use Rattle.formula.proofs.Lookup.all_gates.Goals as goal

pub loop-i-init : goal.loop-i-init
loop-i-init c = E.putting-starts _ _ _ c.requires.fewer

pub gate_clauses-requires : goal.gate_clauses-requires
gate_clauses-requires c =
    let counts = c.args.self.source.accepted.given.holds.counts in (
      gated-now c.gate.result c.args.self.ready c.loop-i-test.true c.gate.ensures.value,
      omega (arith, counts.inputs-few, counts.gates-few),
      E.putting-fits 448 c.requires c.loop-i.invariant (omega (arith, counts.gates-few)),
    )

pub loop-i-preserved : goal.loop-i-preserved
loop-i-preserved c =
    let source = c.args.self.source in
    E.putting-more c.loop-i.invariant
    (E.puts-as gate_most c.gate_clauses.ensures
    (gate-run (file_in source) (shape_in source) c.loop-i.i c.gate.result c.gate.ensures.value) (omega arith))
