-- `Before::simple` meets its contract: the pins from `left` on are scanned, each with the delay that it has if it
-- counts. Assumes nothing.
use Rattle.settle.specs.Steps.{simple_pin}
use Rattle.settle.proofs.Pins as L
use Rattle.settle.proofs.Before.simple.Given as goal

abbrev pub invariant-loop-left : goal.invariant-loop-left
invariant-loop-left g l =
    L.Scanning (simple_pin (g.D.Delays.slopes l.self.delays) l.self.values.now l.c l.k) l.self.accepted.now l.first
    l.count
    l.self.values.now l.self.times.now l.c l.scan l.left
