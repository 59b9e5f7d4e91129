-- `refute::find` meets its contract: the parts passed and those still to pass are the number. Assumes nothing.
use Rattle.std.proofs.Common.{length, ◌-◌}
use Rattle.refute.proofs.Cutting as C
use Rattle.refute.proofs.find.Given as goal

abbrev pub invariant-loop-zero : goal.invariant-loop-zero
invariant-loop-zero l = C.Finding l.list l.number l.start l.left

abbrev pub decreases-loop-zero : goal.decreases-loop-zero
decreases-loop-zero l = length l.list - l.start
