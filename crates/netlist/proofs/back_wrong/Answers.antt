-- `netlist::back_wrong` meets its contract: the two tests of row 4. Assumes nothing.
use Rattle.netlist.proofs.Rows as Rows
use Rattle.netlist.proofs.back_wrong.Goals as goal

pub returns-then-back-table_bytes : goal.returns-then-back-table_bytes
returns-then-back-table_bytes c =
    Rows.back-differs _ c.four_bytes-back.ensures.value c.table_bytes.ensures.0 c.if-back-table_bytes.true

pub returns : goal.returns
returns c = Rows.back-equal _ c.four_bytes-back.ensures.value c.table_bytes.ensures.0 c.if-back-table_bytes.false
