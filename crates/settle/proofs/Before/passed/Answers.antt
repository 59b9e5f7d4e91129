-- `Before::passed` meets its contract, by whether the data pins agree. Assumes nothing.
use Rattle.settle.specs.Steps.{pin_in, chosen_signal}
use Rattle.settle.proofs.Slopes as L
use Rattle.settle.proofs.Before.passed.Goals as goal

pub returns-then-chosen-other : goal.returns-then-chosen-other
unfolding chosen_signal
returns-then-chosen-other g c =
    let a = c.args.self.now.accepted.now in
    let e =
    L.passed-by _ _ _ (pin_in a c.args.select) (pin_in a c.args.chosen) (pin_in a c.args.other) c.value-ends.ensures
    c.signal-select.ensures c.signal-chosen.ensures c.signal-other.ensures
    in
    rw (c.min.ensures, c.max.ensures, c.max-own.ensures) (rw c.if-chosen-other.true at e)

pub returns : goal.returns
unfolding chosen_signal
returns g c =
    let a = c.args.self.now.accepted.now in
    let e =
    L.passed-by _ _ _ (pin_in a c.args.select) (pin_in a c.args.chosen) (pin_in a c.args.other) c.value-ends.ensures
    c.signal-select.ensures c.signal-chosen.ensures c.signal-other.ensures
    in
    rw (c.max-own.ensures) (rw c.if-chosen-other.false at e)
