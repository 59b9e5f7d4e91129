-- `formula::write` meets its contract: what was put are the formula's numbers; the two ends are rows of the promise.
-- Assumes nothing.
use mathlib.Core.Path.{sym, ap, ◌∙◌}
use Prim.Native.Nat.{ℕ}
use native.Mathlib.Omega.{arith}
use lib.ListN.{take}
use lib.Seq.{length-take-le}
use Rattle.netlist.specs.Netlist.{slopes_of}
use Rattle.netlist.specs.Accepts.{circuit_in}
use Rattle.pairs.proofs.Topping.{tops-long}
use Rattle.formula.specs.Formula.{formula_for}
use Rattle.formula.proofs.Emission.{emits-length}
use Rattle.formula.proofs.Numbers.{Numbered}
use Rattle.formula.proofs.Rows.{
  few-held,
  front,
  spread-fits,
  source-ready,
  source-numbers,
  wrote_none,
  wrote-all,
}
use Rattle.formula.proofs.write.Goals as goal
use Rattle.formula.proofs.write.Goals.{After-emit-emitted}

-- what was put are the formula's numbers
numbers : (c : After-emit-emitted) →
    Numbered (formula_for (circuit_in c.args.accepted) c.args.target) c.args.formula.now c.emit-emitted.new.formula
    c.emit-emitted.result
numbers c =
    source-numbers _ c.args.target
    (ap (λ (n : ℕ). take n c.args.tops.now) c.nodes-nodes.ensures ∙ c.requires.0.is)
    (front c.args.accepted c.args.target c.args.pairs.now c.args.count c.requires.1)
    c.emit-emitted.ensures

pub slice_bounds-source-end : goal.slice_bounds-source-end
slice_bounds-source-end c =
    let accepted = c.args.accepted in
    let long = tops-long (slopes_of accepted.form) accepted.given accepted.sloped c.requires.0 in
    sym (length-take-le _ _ (omega (arith, c.nodes-nodes.ensures, long)))

pub emit-emitted-requires : goal.emit-emitted-requires
emit-emitted-requires c =
    let few = few-held c.args.accepted c.args.target c.args.pairs.now c.args.count c.requires.1 in
    source-ready _ c.args.target
    (ap (λ (n : ℕ). take n c.args.tops.now) c.nodes-nodes.ensures ∙ c.requires.0.is)
    (front c.args.accepted c.args.target c.args.pairs.now c.args.count c.requires.1)
    (omega (arith, c.requires.1.0, few.1))

pub spread-requires : goal.spread-requires
spread-requires c = spread-fits c.args.accepted c.args.target c.args.pairs.now c.args.count c.requires.1

pub returns-then-formula-numbers : goal.returns-then-formula-numbers
returns-then-formula-numbers c =
    wrote_none c.args.accepted c.args.target c.args.pairs.now c.args.count c.requires.1 c.args.formula.now _
    c.emit-emitted.result (numbers (goal.at.returns-then-formula-numbers c).After-emit-emitted)
    (emits-length c.emit-emitted.ensures) _ _ c.if-formula-numbers.true c.zero.ensures
    c.zero-then-formula-numbers.ensures

pub returns : goal.returns
returns c =
    rw c.nodes-nodes.ensures
    (wrote-all c.args.accepted c.args.target c.args.pairs.now c.args.count c.requires.1 c.args.formula.now _
    c.emit-emitted.result (numbers (goal.at.returns c).After-emit-emitted) (emits-length c.emit-emitted.ensures) _ _
    c.if-formula-numbers.false c.spread.ensures c.zero_rest.ensures)
