-- `netlist::Layout::output_wrong` meets its contract: the tests of row 7. Assumes nothing.
use Rattle.netlist.proofs.Rows as Rows
use Rattle.netlist.proofs.layout.Layout.output_wrong.Goals as goal

pub returns-then-self-node : goal.returns-then-self-node
returns-then-self-node c = Rows.output-beyond _ _ _ c.output_at-node.ensures.0 c.if-self-node.true

pub returns-then-position-lt1 : goal.returns-then-position-lt1
returns-then-position-lt1 c =
    Rows.output-first _ _ _ c.output_at-node.ensures.0 c.if-self-node.false c.if-position-lt1.true

pub returns : goal.returns
returns c =
    Rows.output-next _ _ _ c.output_at-node.ensures.0 c.output_at.ensures.0
    c.if-self-node.false c.if-position-lt1.false
