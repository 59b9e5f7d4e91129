-- `formula::Source::moment_at` meets its contract: the side decides what is read. Assumes nothing.
use mathlib.Core.Path.{ap, ◌∙◌}
use Prim.Native.Nat.{ℕ, ◌-◌}
use Rattle.netlist.specs.File.{pin_at}
use Rattle.formula.proofs.Source.moment_at.Goals as goal

pub returns-in-Pins : goal.returns-in-Pins
unfolding pin_at
returns-in-Pins c =
    rw c.in-Pins.is (
      c.driver.ensures.value,
      c.saturating_sub.ensures ∙ ap (λ (d : ℕ). c.args.t - d) c.delay.ensures.value,
      c.driver.ensures.small,
    )

pub returns-in-Falls : goal.returns-in-Falls
unfolding pin_at
returns-in-Falls c =
    rw c.in-Falls.is (
      c.driver-in-Falls.ensures.value,
      c.saturating_sub-in-Falls.ensures,
      c.driver-in-Falls.ensures.small,
    )
