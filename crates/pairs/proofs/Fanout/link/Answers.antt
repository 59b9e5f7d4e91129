-- `pairs::Fanout::link` meets its contract: the pins of the first i gates are linked. Assumes nothing.
use native.Mathlib.Omega.{arith}
use Rattle.netlist.proofs.Sums.{pins-before-none}
use Rattle.pairs.proofs.Linking.{drives-none, drives-all, last-pin}
use Rattle.pairs.proofs.Fanout.link.Goals as goal

pub loop-i-init : goal.loop-i-init
loop-i-init c =
    record { chains = rw (pins-before-none _ _) (drives-none c.requires); long = omega arith }

pub returns : goal.returns
returns c =
    record {
      chains =
          drives-all c.loop-i.invariant.chains (omega arith)
          (last-pin c.args.accepted.now.given.holds _ (omega arith));
      long = c.loop-i.invariant.long;
    }
