-- `Before::mux` meets its contract: select says which data pin is passed on. Assumes nothing.
use mathlib.Core.Path.{sym, ◌∙◌}
use Rattle.settle.proofs.Pins as L
use Rattle.settle.proofs.Slopes as Ends
use Rattle.settle.proofs.Before.mux.Goals as goal

pub returns-then-value : goal.returns-then-value
returns-then-value g c =
    rw (c.passed.ensures, L.three-pins) (Ends.mux-b _ _ _ _ _ _ (sym c.value.ensures ∙ c.if-value.true))

pub returns : goal.returns
returns g c = rw (c.passed-2.ensures, L.three-pins) (Ends.mux-a _ _ _ _ _ _ (sym c.value.ensures ∙ c.if-value.false))
