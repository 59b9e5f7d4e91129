-- `netlist::count_wrong` meets its contract: the tests of row 3, in order. Assumes nothing.
use Rattle.std.proofs.Common.{arith}
use Rattle.std.proofs.lemmas.Bool.Decides.{nat_tests}
use Rattle.netlist.specs.Open.{count_wrong}
use Rattle.netlist.proofs.count_wrong.Goals as goal

pub returns-then-not-contains : goal.returns-then-not-contains
unfolding count_wrong
returns-then-not-contains c = grind (arith, nat_tests)

pub returns-then-shape-gt448 : goal.returns-then-shape-gt448
unfolding count_wrong
returns-then-shape-gt448 c = grind (arith, nat_tests)

pub returns-then-shape-gt2048 : goal.returns-then-shape-gt2048
unfolding count_wrong
returns-then-shape-gt2048 c = grind (arith, nat_tests)

pub returns-then-not-contains-2 : goal.returns-then-not-contains-2
unfolding count_wrong
returns-then-not-contains-2 c = grind (arith, nat_tests)

pub returns : goal.returns
unfolding count_wrong
returns c = grind (arith, nat_tests)
