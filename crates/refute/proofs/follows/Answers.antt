-- `refute::follows` meets its contract: at each of its four loops what is left to do comes to the answer; a pass
-- that goes on leaves fewer variables free. Assumes nothing.
use Rattle.std.proofs.Common.{ℕ, ℤ, List, Bor, ◌≡◌, refl, [], ◌∷◌, length, get_or, rules}
use Rattle.refute.specs.Reading.{Stored}
use Rattle.refute.proofs.Passing as P
use Rattle.refute.proofs.Reading as R
use Rattle.refute.proofs.Scanning as S
use Rattle.refute.proofs.follows.Goals as goal
use Rattle.refute.proofs.follows.Goals.{At-loop-start, Left-loop-marks, else-loop-marks-test}
use Rattle.refute.proofs.follows.Goals.{then-loop-marks-test+in-Quiet, in-Forces, in-Quiet-scan}

-- the list at an index of the two
abbrev list_of : Bor (List ℤ) → Bor (List ℤ) → ℕ → List ℤ
list_of formula earlier index = (get_or (formula ∷ earlier ∷ []) index record { ref_ptr = (0, 0); now = [] }).now

-- it is a stored one
stored : (c : At-loop-start) →
    Stored (length c.loop-start.marks) (list_of c.args.formula c.args.earlier c.loop-list.list-index)
stored c =
    let long : length c.loop-start.marks ≡ length c.args.marks.now = search rules in
    rw long
    (P.stored_at c.loop-list.list-index (P.chosen _ _ _ _ c.loop-list-test.true) c.requires.formula
    c.requires.earlier)

-- a whole clause was read, or left where there was nothing more to say
read_through : (c : Left-loop-marks) →
    S.Read (list_of c.args.formula c.args.earlier c.loop-list.list-index) c.loop-start.marks c.loop-start.start
    c.loop-marks-test.scan c.loop-marks-test.at
read_through c =
    elim c.loop-marks-test.branch [
      | else-loop-marks-test w ↦
          rw (w.scan-is, w.at-is)
          (S.closes c.loop-marks.invariant _ c.variable_at.ensures.0 w.loop-marks-test.false)
      | then-loop-marks-test+in-Quiet w ↦
          rw (w.scan-is, w.at-is)
          (S.read-quiet c.loop-marks.invariant _ c.variable_at.ensures.0 w.loop-marks-test.true w.look-scan.ensures
          w.in-Quiet.is
          w.clause_end-at.ensures.next w.clause_end-at.ensures.within)
    ]

pub returns-then-assert_opposites : goal.returns-then-assert_opposites
returns-then-assert_opposites c =
    P.follows-clash _ _ _ _ _ c.requires.clear c.assert_opposites.ensures c.if-assert_opposites.true

pub passes-init : goal.passes-init
passes-init c = P.running-starts _ _ _

pub loop-marks-init : goal.loop-marks-init
loop-marks-init c = S.begun-starts _ _ _ c.loop-start-test.true

pub look-scan-requires-clause-marked : goal.look-scan-requires-clause-marked
look-scan-requires-clause-marked c =
    R.code-within _ _ _ refl
    ((stored (goal.at.look-scan-requires-clause-marked c).At-loop-start).fits c.loop-marks.at)

pub clause_end-at-requires-clause-within : goal.clause_end-at-requires-clause-within
clause_end-at-requires-clause-within c =
    S.goes_on c.loop-marks.invariant _ c.variable_at.ensures.0 c.loop-marks-test.true
    (stored (goal.at.clause_end-at-requires-clause-within c).At-loop-start).ends

pub loop-marks-preserved : goal.loop-marks-preserved
loop-marks-preserved c =
    S.begun-more c.loop-marks.invariant _ c.variable_at.ensures.0 c.loop-marks-test.true
    c.look-scan.ensures
    (stored (goal.at.loop-marks-preserved c).At-loop-start).ends c.in_default.not-Quiet

pub bounds-marks-code : goal.bounds-marks-code
bounds-marks-code c =
    P.unit-within c.loop-start.invariant (read_through (goal.at.bounds-marks-code c).Left-loop-marks)
    (stored (goal.at.bounds-marks-code c).At-loop-start).fits c.in-Forces.is

pub loop-start-preserved : goal.loop-start-preserved
loop-start-preserved c =
    let r = read_through (goal.at.loop-start-preserved c).Left-loop-marks in
    elim c.match-scan-2.branch [
      | in-Forces w ↦
          rw (w.marks-is, w.changed-is)
          (P.visiting-unit c.loop-start.invariant r (stored (goal.at.loop-start-preserved c).At-loop-start).fits
          w.in-Forces.is w.mark_of.ensures)
      | in-Quiet-scan w ↦
          rw (w.marks-is, w.changed-is) (P.visiting-quiet c.loop-start.invariant r w.in-Quiet-scan.is)
    ]

pub loop-list-preserved : goal.loop-list-preserved
loop-list-preserved c =
    P.passing-next c.loop-list.invariant c.loop-list-test.true (P.chosen _ _ _ _ c.loop-list-test.true)
    c.loop-start.invariant c.loop-start-test.false

pub passes-preserved : goal.passes-preserved
passes-preserved c =
    P.running_more c.passes.invariant c.loop-list.invariant c.loop-list-test.false c.if-not-changed.false

pub returns-in-Refuted : goal.returns-in-Refuted
returns-in-Refuted c =
    P.follows-passes _ _ _ _ _ _ _ c.requires.clear c.assert_opposites.ensures c.if-assert_opposites.false
    (P.hit-ends c.passes.invariant
    (P.passing-hit c.loop-list.invariant c.loop-list-test.true (P.chosen _ _ _ _ c.loop-list-test.true)
    (P.visiting-hit c.loop-start.invariant (read_through (goal.at.returns-in-Refuted c).Left-loop-marks)
    c.in-Refuted.is)))

pub returns-then-not-changed : goal.returns-then-not-changed
returns-then-not-changed c =
    P.follows-passes _ _ _ _ _ _ _ c.requires.clear c.assert_opposites.ensures c.if-assert_opposites.false
    (P.still-ends c.passes.invariant c.loop-list.invariant c.loop-list-test.false c.if-not-changed.true)
