-- `pairs::spread_pairs` meets its contract: the pairs from k on are stored, those before it are still to be read.
-- Assumes nothing.
use mathlib.Core.Path.{refl}
use native.Mathlib.Omega.{arith}
use Rattle.pairs.proofs.Spreading.{spreading-starts, spreading-more, spreading-ends}
use Rattle.pairs.proofs.spread_pairs.Goals as goal

pub loop-k-init : goal.loop-k-init
loop-k-init c = spreading-starts _ _ c.requires

pub loop-k-preserved : goal.loop-k-preserved
loop-k-preserved c = spreading-more c.loop-k.invariant _ _ (omega arith) refl refl c.put_three.ensures

pub returns : goal.returns
returns c falls = spreading-ends falls c.loop-k.invariant (omega arith)
