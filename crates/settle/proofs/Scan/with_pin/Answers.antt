-- `Scan::with_pin` meets its contract: each return is one case of the definition. Assumes nothing.
use Rattle.std.proofs.Common.{rules, ◌≡◌}
use Rattle.settle.specs.Steps.{with_pin, earlier}
use Rattle.settle.proofs.Scan.with_pin.Goals as goal

pub returns-then-not-controls : goal.returns-then-not-controls
unfolding with_pin
returns-then-not-controls c = rw (c.if-not-controls.true, c.max-last.ensures)

pub returns : goal.returns
unfolding with_pin
returns c =
    let first : c.map_or.result ≡ earlier c.args.self.first c.args.ready = search rules in
    rw (c.if-not-controls.false, c.max-last.ensures, first)
