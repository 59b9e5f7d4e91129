-- `formula::Writer::cube_clause` meets its contract: a driver that is late outright leaves the clause out; else six
-- runs, one after the other. Assumes nothing.
use mathlib.Core.Path.{◌≡◌, refl, ap₂}
use native.Mathlib.Omega.{arith}
use borrow.Author.Tests.{eq-eqb, ne_eqb}
use Rattle.netlist.specs.Netlist.{slopes_of}
use Rattle.formula.specs.declared.Asked.{Asked}
use Rattle.formula.specs.Emission.{cube_run, pair_of_pins}
use Rattle.formula.proofs.Emission.{puts_none, puts_then, puts-as, puts-by}
use Rattle.formula.proofs.Writer.cube_clause.Goals as goal
use Rattle.formula.proofs.Writer.cube_clause.Goals.{After-asked_at-two}

-- what is put by what was stored
stored : (c : After-asked_at-two) →
    cube_run c.args.pair c.asked_at-one.result c.args.a
    c.asked_at-two.result c.args.b
    ≡ pair_of_pins (slopes_of c.args.form) c.args.pair
    c.args.read.now.nodes c.args.read.now.lates
    c.args.x c.args.a c.args.y
    c.args.b
stored c =
    let args = c.args in
    ap₂ (λ (x y : Asked). cube_run args.pair x args.a y args.b) c.asked_at-one.ensures.0
    c.asked_at-two.ensures.0

pub returns-then-one-eq1 : goal.returns-then-one-eq1
returns-then-one-eq1 c =
    puts-by (stored (goal.at.returns-then-one-eq1 c).After-asked_at-two)
    (rw (eq-eqb _ 1 c.if-one-eq1.true) (puts-as 8 (puts_none _ c.requires.3.fewer) refl (omega arith)))

pub returns-then-two-eq1 : goal.returns-then-two-eq1
returns-then-two-eq1 c =
    puts-by (stored (goal.at.returns-then-two-eq1 c).After-asked_at-two)
    (rw (ne_eqb _ 1 c.if-one-eq1.false, eq-eqb _ 1 c.if-two-eq1.true)
    (puts-as 8 (puts_none _ c.requires.3.fewer) refl (omega arith)))

pub returns : goal.returns
returns c =
    puts-by (stored (goal.at.returns c).After-asked_at-two)
    (rw (ne_eqb _ 1 c.if-one-eq1.false, ne_eqb _ 1 c.if-two-eq1.false)
    (puts_then
    (puts_then
    (puts_then c.put_literal.ensures c.put_literal_late.ensures)
    c.put_literal_late-2.ensures)
    c.put_end.ensures))
