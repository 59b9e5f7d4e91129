-- `refute::judge_clauses` meets its contract: at each clause the marks are clear, and the verdict on what is left is
-- the whole verdict. Assumes nothing.
use Rattle.std.proofs.Common.{length, ◌-◌, ◌≡◌, replicate}
use Rattle.refute.proofs.Judging as J
use Rattle.refute.proofs.judge_clauses.Given as goal

abbrev pub invariant-loop-end : goal.invariant-loop-end
invariant-loop-end l = record {
  clear : l.marks ≡ replicate (length l.initial.marks) 0;
  judging : J.Judging (length l.initial.marks) l.formula l.refutation l.start l.number;
}

abbrev pub decreases-loop-end : goal.decreases-loop-end
decreases-loop-end l = length l.refutation - l.start
