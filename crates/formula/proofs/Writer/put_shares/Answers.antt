-- `formula::Writer::put_shares` meets its contract: driver after driver, each puts its run. Assumes nothing.
use mathlib.Core.Path.{ap}
use native.Mathlib.Omega.{arith}
use Rattle.formula.specs.Emission.{share_most, share_run}
use Rattle.formula.proofs.Emission as E
use Rattle.formula.proofs.Writer.put_shares.Goals as goal

pub loop-i-init : goal.loop-i-init
loop-i-init c = E.putting-starts _ _ _ c.requires.2.fewer

pub loop-i-preserved : goal.loop-i-preserved
loop-i-preserved c =
    let args = c.args in
    E.putting-more c.loop-i.invariant
    (E.puts-as share_most c.put_share.ensures
    (ap (share_run args.share args.c args.k args.own) c.asked_at.ensures.0)
    (omega arith))
