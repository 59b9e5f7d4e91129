-- `refute::follows` meets its contract: at each of its four loops what is left to do comes to the answer; a pass
-- that goes on leaves fewer variables free. Assumes nothing.
use Rattle.std.proofs.Common.{length, ◌-◌}
use Rattle.refute.proofs.Marks.{zeros}
use Rattle.refute.proofs.Passing as P
use Rattle.refute.proofs.Scanning as S
use Rattle.refute.proofs.follows.Given as goal

abbrev pub invariant-loop-marks : goal.invariant-loop-marks
invariant-loop-marks l = S.Begun l.list l.marks l.start l.scan l.at

abbrev pub decreases-loop-marks : goal.decreases-loop-marks
decreases-loop-marks l = length l.list - l.at

abbrev pub invariant-loop-start : goal.invariant-loop-start
invariant-loop-start l = P.Visiting l.list l.initial.marks l.initial.changed l.marks l.changed l.start

abbrev pub decreases-loop-start : goal.decreases-loop-start
decreases-loop-start l = length l.list - l.start

abbrev pub invariant-loop-list : goal.invariant-loop-list
invariant-loop-list l = P.Passing l.formula l.earlier l.initial.marks l.marks l.changed l.list-index

abbrev pub invariant-passes : goal.invariant-passes
invariant-passes l = P.Running l.formula l.earlier l.initial.marks l.marks

abbrev pub decreases-passes : goal.decreases-passes
decreases-passes l = zeros l.marks
