-- `netlist::check_falls` meets its contract: each return is a row of the table, after the tests before it failed.
-- Assumes nothing.
use borrow.Author.Tests.{lt-ltb, le-ltb, eq-eqb, ne_eqb}
use Rattle.netlist.specs.Open.{fall_rows}
use Rattle.netlist.proofs.check_falls.Goals as goal

pub returns-then-falls-pins : goal.returns-then-falls-pins
unfolding fall_rows
returns-then-falls-pins c = simp (ne_eqb _ _ c.if-falls-pins.true)

pub returns-then-wrong-falls : goal.returns-then-wrong-falls
unfolding fall_rows
returns-then-wrong-falls c =
    simp (
      eq-eqb _ _ c.if-falls-pins.false,
      ← c.first_over-wrong.ensures,
      lt-ltb _ _ c.if-wrong-falls.true,
    )

pub returns : goal.returns
unfolding fall_rows
returns c =
    simp (
      eq-eqb _ _ c.if-falls-pins.false,
      ← c.first_over-wrong.ensures,
      le-ltb _ _ c.if-wrong-falls.false,
    )
