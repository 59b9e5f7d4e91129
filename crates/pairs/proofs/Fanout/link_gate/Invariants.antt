-- `pairs::Fanout::link_gate` meets its contract: the pins of the gates before and the first k pins are linked. Assumes
-- nothing.
use mathlib.Core.Path.{◌≡◌}
use Prim.Native.Nat.{◌+◌}
use lib.ListN.{length}
use Rattle.pairs.specs.Table.{Chains}
use Rattle.pairs.proofs.Linking.{DrivesTo}
use Rattle.pairs.proofs.Fanout.link_gate.Given as goal

abbrev pub invariant-loop-k : goal.invariant-loop-k
invariant-loop-k l =
    (length l.self.heads ≡ 512)
    × Chains (DrivesTo l.accepted.file.now l.accepted.shape l.number l.gate.first l.k) l.self.heads l.self.links
    (l.gate.first + l.k)
