-- With all inputs at 0 the rules say what they say without arrivals: an input is late at 0 outright, and at no other
-- time. (That it settles at 0 and has top 0 is in settle: zero-time, zero-top; that no refusal is added, in netlist:
-- zero-opens.) Law: zero-late. Assumes nothing.
use mathlib.Core.Path.{◌≡◌, refl}
use mathlib.Core.Bool.{cond}
use Prim.Native.Nat.{ℕ, ◌<◌}
use borrow.Author.Tests.{lt-ltb}
use lib.Dec.{leb}
use Rattle.netlist.specs.Netlist.{Netlist, at_zero, alike}
use Rattle.settle.specs.Settling.{top_of}
use Rattle.settle.proofs.Nodes.{zero-top}
use Rattle.formula.specs.Formula.{sure, never, late}

pub zero-late : {X : Type 0} (net : Netlist) (node : ℕ → X) (pair : ℕ → ℕ → X) (n rail t : ℕ) → n < net.inputs →
    late alike net.inputs (top_of (at_zero net)) node pair n rail t ≡ cond (leb t 0) sure never
unfolding late
zero-late net node pair n rail t h = rw (lt-ltb n net.inputs h, zero-top net n h) refl
