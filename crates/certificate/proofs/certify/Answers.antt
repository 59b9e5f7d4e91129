-- `certificate::certify` meets its contract: a refusal of a step is that of all rows, since those before it passed; and
-- where the formula is built, the test is of its numbers. A time at which a vector settles is small, so one more fits.
-- Assumes nothing.
use Rattle.std.proofs.Common.{rules, arith, refl, add-one, ◌+◌, ◌≤◌}
use Rattle.settle.specs.Steps.{latest}
use Rattle.netlist.specs.Accepts.{circuit_in}
use Rattle.certificate.proofs.Steps.{
  time-small,
  FormulaFront,
  formula-front,
  answers-refused,
  unaccepted,
  unsettled,
  late,
  unbuilt,
  tested,
  leaves-all,
}
use Rattle.certificate.proofs.certify.Goals as goal
use Rattle.certificate.proofs.certify.Goals.{In_ok-counts}

-- the formula's numbers at the front of their slice
front : (c : In_ok-counts) →
    FormulaFront (circuit_in c.in_ok-accepted.accepted) (c.args.delay + 1) c.in_ok-counts.counts
    c.build_accepted.new.formula
front c =
    let b = c.build_accepted.ensures in
    formula-front _ _ c.in_ok-accepted.accepted.given.holds.valid b.answer-is b.formula-is (search rules)

pub overflow_add-delay : goal.overflow_add-delay
overflow_add-delay c =
    let a = c.in_ok-accepted.accepted in
    let h : c.in_ok-time.time ≤ latest =
    time-small a _ _ _ a.given a.sloped c.evaluate_accepted.ensures.answer-is (search rules)
    in
    omega (arith, c.if-time-delay.false)

pub returns-in_err-accepted-clause-answers : goal.returns-in_err-accepted-clause-answers
returns-in_err-accepted-clause-answers c =
    answers-refused {refusal = c.in_err-accepted.field-0.0} (search rules)
    (unaccepted _ _ _ _ _ _ _ c.in_err-accepted.ensures)

pub returns-in_err-time-clause-answers : goal.returns-in_err-time-clause-answers
returns-in_err-time-clause-answers c =
    answers-refused {refusal = c.in_err-time.field-0.0} (search rules)
    (unsettled _ _ _ _ c.in_ok-accepted.ensures c.evaluate_accepted.ensures.answer-is (search rules))

pub returns-then-time-delay-clause-answers : goal.returns-then-time-delay-clause-answers
returns-then-time-delay-clause-answers c =
    answers-refused refl
    (late _ _ _ _ c.in_ok-accepted.ensures c.evaluate_accepted.ensures.answer-is (search rules) c.if-time-delay.true)

pub returns-in_err-counts-clause-answers : goal.returns-in_err-counts-clause-answers
returns-in_err-counts-clause-answers c =
    answers-refused {refusal = c.in_err-counts.field-0.0} (search rules)
    (unbuilt _ _ _ _ c.in_ok-accepted.ensures c.evaluate_accepted.ensures.answer-is (search rules) c.if-time-delay.false
    (add-one _) c.build_accepted.ensures.answer-is (search rules))

pub slice_bounds-numbers-end : goal.slice_bounds-numbers-end
slice_bounds-numbers-end c = (front (goal.at.slice_bounds-numbers-end c).In_ok-counts).fit

pub slice_bounds-numbers-end-2 : goal.slice_bounds-numbers-end-2
slice_bounds-numbers-end-2 c = (front (goal.at.slice_bounds-numbers-end-2 c).In_ok-counts).front_long

pub test-requires : goal.test-requires
test-requires c = (front (goal.at.test-requires c).In_ok-counts).well-formed

pub returns-clause-answers : goal.returns-clause-answers
returns-clause-answers c =
    tested _ _ _ _ c.in_ok-accepted.ensures c.evaluate_accepted.ensures.answer-is (search rules) c.if-time-delay.false
    (add-one _) c.build_accepted.ensures.answer-is (search rules)
    (front (goal.at.returns-clause-answers c).In_ok-counts) c.test.ensures.tested

pub returns-clause-leaves : goal.returns-clause-leaves
returns-clause-leaves c =
    let e = c.evaluate_accepted.ensures in
    let b = c.build_accepted.ensures in
    leaves-all _ _ c.args.refutation.now _ c.in_ok-accepted.ensures (add-one _) e.values-are e.times-are b.pairs-are
    b.formula-is c.test.ensures.propagation_after
