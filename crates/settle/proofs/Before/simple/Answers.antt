-- `Before::simple` meets its contract: the pins from `left` on are scanned, each with the delay that it has if it
-- counts. Assumes nothing.
use mathlib.Core.Path.{refl, ap, sym, ◌∙◌}
use mathlib.Core.Bool.{not}
use Prim.Native.Nat.{◌+◌, ◌-◌}
use Rattle.settle.specs.declared.Scan.{Scan}
use Rattle.settle.specs.Steps.{pin_in}
use Rattle.netlist.specs.File.{pin_at}
use Rattle.settle.proofs.Pins as L
use Rattle.settle.proofs.Slopes as Ends
use Rattle.settle.proofs.Before.simple.Goals as goal

pub loop-left-init : goal.loop-left-init
loop-left-init g c = L.scanning-starts _ _ _ _ _ _ _

pub loop-left-preserved : goal.loop-left-preserved
unfolding pin_at
loop-left-preserved g c =
    L.scanning-more c.loop-left.invariant c.loop-left-test.true c.with_pin-scan.result
    (Ends.simple-more _ _ _ _ _ c.loop-left.scan
    (pin_in c.args.self.now.accepted.now (c.args.first + (c.loop-left.left - 1)))
    c.args.self.now.binary
    c.from-byte.ensures
    c.driver.ensures.value
    refl
    c.signal.ensures
    c.with_pin-scan.ensures)

pub returns-in-Some : goal.returns-in-Some
returns-in-Some g c =
    Ends.simple-controlled _ _ _ _ _ _
    (ap (λ (x : Scan). x.first) (sym (L.scanning-ends c.loop-left.invariant c.loop-left-test.false)) ∙ c.in-Some.is)

pub returns-in-None : goal.returns-in-None
returns-in-None g c =
    let e = L.scanning-ends c.loop-left.invariant c.loop-left-test.false in
    ap (λ (x : Scan). record { value = not c.args.k; at = x.last }) e
    ∙ Ends.simple-free _ _ _ _ _ _ (ap (λ (x : Scan). x.first) (sym e) ∙ c.in-None.is)
