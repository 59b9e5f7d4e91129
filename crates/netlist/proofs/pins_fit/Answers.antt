-- `netlist::pins_fit` meets its contract: the ranges of the kinds, in order. Assumes nothing.
use Rattle.std.proofs.Common.{arith}
use Rattle.std.proofs.lemmas.Bool.Decides.{nat_tests}
use Rattle.netlist.specs.Kinds.{pins_fit}
use Rattle.netlist.proofs.pins_fit.Goals as goal

pub returns-in-1 : goal.returns-in-1
unfolding pins_fit
returns-in-1 c = grind (arith, nat_tests)

pub returns-in-3-to-6 : goal.returns-in-3-to-6
unfolding pins_fit
returns-in-3-to-6 c = grind (arith, nat_tests, c.contains.ensures.value)

pub returns-in-7 : goal.returns-in-7
unfolding pins_fit
returns-in-7 c = grind (arith, nat_tests)

pub returns-in-9 : goal.returns-in-9
unfolding pins_fit
returns-in-9 c = grind (arith, nat_tests)

pub returns-in_default : goal.returns-in_default
unfolding pins_fit
returns-in_default c = grind (arith, nat_tests)

pub returns-in_default-2 : goal.returns-in_default-2
unfolding pins_fit
returns-in_default-2 c = grind (arith, nat_tests)
