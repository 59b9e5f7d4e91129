-- `lent::copy`: the entries before i are copied. Assumes nothing.
use Rattle.lent.proofs.Filling as F
use Rattle.lent.proofs.copy.Given as goal

abbrev pub invariant-loop-i : goal.invariant-loop-i
invariant-loop-i g l =
    F.Filled l.from l.initial.slice l.slice l.i
