-- `refute::assert_opposites` meets its contract: what is left to assert comes to the same. Assumes nothing.
use Rattle.std.proofs.Common.{◌≡◌, ◌∙◌, ◌/◌, ◌<◌, length, get_or, pos, rules}
use Rattle.clauses.specs.Codes.{code_of}
use Rattle.refute.specs.Reading.{outcome}
use Rattle.refute.proofs.Reading as R
use Rattle.refute.proofs.assert_opposites.Goals as goal
use Rattle.refute.proofs.assert_opposites.Goals.{After-code_of-code}

-- the code is that of the number at the place
code_is : (c : After-code_of-code) →
    c.code_of-code.result ≡ code_of (get_or c.args.clause.now c.loop-number.number-index (pos 0))
code_is c = search rules

-- the variable has a mark
within : (c : After-code_of-code) → c.code_of-code.result / 2 < length c.loop-number.marks
within c =
    rw c.loop-number.invariant.long (R.code-within _ _ _ (code_is c) (c.requires c.loop-number.number-index))

pub bounds-marks-variable : goal.bounds-marks-variable
bounds-marks-variable c = within (goal.at.bounds-marks-variable c).After-code_of-code

pub returns-then-marks-variable : goal.returns-then-marks-variable
unfolding outcome
returns-then-marks-variable c =
    R.asserting-clash _ c.loop-number.invariant c.loop-number-test.true
    (code_is (goal.at.returns-then-marks-variable c).After-code_of-code)
    (c.if-marks-variable.true ∙ c.mark_of-mark.ensures)

pub bounds-marks-variable-in-loop-number : goal.bounds-marks-variable-in-loop-number
bounds-marks-variable-in-loop-number c =
    within (goal.at.bounds-marks-variable-in-loop-number c).After-code_of-code

pub loop-number-preserved : goal.loop-number-preserved
loop-number-preserved c =
    R.asserting-more _ _ c.loop-number.invariant c.loop-number-test.true
    (code_is (goal.at.loop-number-preserved c).After-code_of-code) c.mark_of-mark.ensures
    c.if-marks-variable.false

pub returns : goal.returns
unfolding outcome
returns c = R.asserting-ends c.loop-number.invariant c.loop-number-test.false
