-- `netlist::Layout::check_gates` meets its contract: no gate before `gate` is wrong, and `before` is the sum of their
-- pin counts. Assumes nothing.
use mathlib.Core.Path.{sym, ◌∙◌}
use native.Mathlib.Omega.{arith}
use Rattle.netlist.proofs.FirstWrong as First
use Rattle.netlist.proofs.Sums as Sums
use Rattle.netlist.proofs.Tables as Tables
use Rattle.netlist.proofs.layout.Layout.check_gates.Goals as goal

pub loop-gate-init : goal.loop-gate-init
loop-gate-init c = (Sums.summing-starts _ _, First.searching-starts _ _ _)

pub returns-then-gate_wrong : goal.returns-then-gate_wrong
returns-then-gate_wrong c =
    Tables.gate-refuses c.loop-gate.invariant.0 c.loop-gate.invariant.1 c.loop-gate-test.true
    (sym c.gate_wrong.ensures ∙ c.if-gate_wrong.true)

pub loop-gate-preserved : goal.loop-gate-preserved
loop-gate-preserved c =
    let inv = c.loop-gate.invariant in
    let count = c.count-before.ensures in
    let right = sym c.gate_wrong.ensures ∙ c.if-gate_wrong.false in
    (Sums.summing-more inv.0 c.loop-gate-test.true count.0 count.1, First.searching-more inv.1 (omega arith) right)

pub returns-then-before-self : goal.returns-then-before-self
returns-then-before-self c =
    Tables.sum-refuses c.loop-gate.invariant.0 c.loop-gate.invariant.1 c.loop-gate-test.false c.if-before-self.true

pub returns : goal.returns
returns c =
    Tables.gates-pass c.loop-gate.invariant.0 c.loop-gate.invariant.1 c.loop-gate-test.false c.if-before-self.false
