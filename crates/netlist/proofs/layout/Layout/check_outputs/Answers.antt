-- `netlist::Layout::check_outputs` meets its contract: no output before `position` is wrong. Assumes nothing.
use mathlib.Core.Path.{sym, ◌∙◌}
use native.Mathlib.Omega.{arith}
use Rattle.netlist.proofs.FirstWrong as First
use Rattle.netlist.proofs.Tables as Tables
use Rattle.netlist.proofs.layout.Layout.check_outputs.Goals as goal

pub returns-then-output_wrong : goal.returns-then-output_wrong
returns-then-output_wrong c =
    Tables.output-refuses _ _ c.loop-position.invariant c.loop-position-test.true
    (sym c.output_wrong.ensures ∙ c.if-output_wrong.true)

pub loop-position-preserved : goal.loop-position-preserved
loop-position-preserved c =
    First.searching-more c.loop-position.invariant (omega arith)
    (sym c.output_wrong.ensures ∙ c.if-output_wrong.false)

pub returns : goal.returns
returns c = Tables.outputs-pass _ _ c.loop-position.invariant c.loop-position-test.false
