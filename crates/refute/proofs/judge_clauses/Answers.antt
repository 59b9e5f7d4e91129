-- `refute::judge_clauses` meets its contract: at each clause the marks are clear, and the verdict on what is left is
-- the whole verdict. Assumes nothing.
use Rattle.std.proofs.Common.{◌≡◌, sym, ◌∙◌, ◌-◌, ◌++◌, length, take, drop, rules}
use Rattle.clauses.specs.Clauses.{clauses_of}
use Rattle.refute.specs.Passes.{follows}
use Rattle.refute.specs.Reading.{literals_of}
use Rattle.refute.proofs.Judging as J
use Rattle.refute.proofs.Reading as R
use Rattle.refute.proofs.judge_clauses.Goals as goal
use Rattle.refute.proofs.judge_clauses.Goals.{After-follows-found}

-- what the test said
tested : (c : After-follows-found) →
    c.follows-found.result
    ≡ follows (length c.args.marks.now)
    (clauses_of c.args.formula.now ++ clauses_of (take c.loop-end.start c.args.refutation.now))
    (literals_of (take (c.in-Some.end - c.loop-end.start) (drop c.loop-end.start c.args.refutation.now)))
tested c = rw c.loop-end.auto.marks at c.follows-found.ensures

pub loop-end-init : goal.loop-end-init
loop-end-init c = record { clear = c.requires.clear; judging = J.judging-starts _ _ _ }

pub follows-found-requires-clause-earlier : goal.follows-found-requires-clause-earlier
follows-found-requires-clause-earlier c =
    rw c.loop-end.auto.marks
    (J.earlier_stored _ _ _ c.requires.refutation c.loop-end.invariant.judging.ends)

pub follows-found-requires-clause-clause : goal.follows-found-requires-clause-clause
follows-found-requires-clause-clause c =
    rw c.loop-end.auto.marks (R.within-take _ _ _ (R.within-drop _ _ _ c.requires.refutation))

pub returns-then-not-found-clause-value : goal.returns-then-not-found-clause-value
returns-then-not-found-clause-value c =
    J.judged-stop c.loop-end.invariant.judging c.in-Some.ensures.1 c.in-Some.ensures.0
    (sym c.if-not-found.true ∙ tested (goal.at.returns-then-not-found-clause-value c).After-follows-found)

pub loop-end-preserved : goal.loop-end-preserved
loop-end-preserved c = record {
  clear = search rules;
  judging = J.judging-more c.loop-end.invariant.judging c.in-Some.ensures.1 c.in-Some.ensures.0
      (sym c.if-not-found.false ∙ tested (goal.at.loop-end-preserved c).After-follows-found);
}

pub returns-clause-value : goal.returns-clause-value
returns-clause-value c = J.judged-all c.loop-end.invariant.judging c.in_default.ensures
