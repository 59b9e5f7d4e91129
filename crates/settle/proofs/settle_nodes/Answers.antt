-- `settle::settle_nodes` meets its contract: the slices hold the first nodes of the netlist's values and times, and
-- each gate's signal over these nodes is its own entry. Assumes nothing.
use Rattle.settle.proofs.Gates as L
use Rattle.settle.proofs.settle_nodes.Goals as goal

pub loop-number-init : goal.loop-number-init
loop-number-init g c = L.gating-starts _ _ c.requires.usable c.copy.ensures c.copy-2.ensures

pub invariant_of-before : goal.invariant_of-before
invariant_of-before g c =
    record {
      sloped = rw c.requires.form c.args.accepted.sloped;
      binary = L.gating-binary _ _ c.requires.usable c.loop-number.invariant;
      paired = L.gating-paired _ _ c.requires.usable c.loop-number.invariant c.loop-number-test.true;
      early = L.gating-early _ _ c.requires.usable c.loop-number.invariant;
    }

pub gate-signal-requires : goal.gate-signal-requires
gate-signal-requires g c =
    let inv = c.loop-number.invariant in
    let test = c.loop-number-test.true in (
      L.gating-wired _ _ c.requires.usable inv test c.gate.result c.gate.ensures.value,
      L.gating-takes _ _ c.requires.usable inv test c.gate.result c.gate.ensures.value,
    )

pub loop-number-preserved : goal.loop-number-preserved
loop-number-preserved g c =
    L.gating-more _ _ c.requires.usable c.loop-number.invariant c.loop-number-test.true c.gate.result
    c.gate.ensures.value
    c.gate-signal.result
    c.from.result
    c.requires.form
    c.gate-signal.ensures
    c.from.ensures

pub returns : goal.returns
returns g c = L.gating-ends _ _ c.requires.usable c.loop-number.invariant c.loop-number-test.false
