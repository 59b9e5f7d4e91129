-- `netlist::check_arrivals` meets its contract: each return is a row of the table, after the tests before it failed.
-- Assumes nothing.
use borrow.Author.Tests.{lt-ltb, le-ltb, eq-eqb, ne_eqb}
use Rattle.netlist.specs.Open.{arrival_rows}
use Rattle.netlist.proofs.check_arrivals.Goals as goal

pub returns-then-arrivals-inputs : goal.returns-then-arrivals-inputs
unfolding arrival_rows
returns-then-arrivals-inputs c = simp (ne_eqb _ _ c.if-arrivals-inputs.true)

pub returns-then-wrong-arrivals : goal.returns-then-wrong-arrivals
unfolding arrival_rows
returns-then-wrong-arrivals c =
    simp (
      eq-eqb _ _ c.if-arrivals-inputs.false,
      ← c.first_over-wrong.ensures,
      lt-ltb _ _ c.if-wrong-arrivals.true,
    )

pub returns : goal.returns
unfolding arrival_rows
returns c =
    simp (
      eq-eqb _ _ c.if-arrivals-inputs.false,
      ← c.first_over-wrong.ensures,
      le-ltb _ _ c.if-wrong-arrivals.false,
    )
