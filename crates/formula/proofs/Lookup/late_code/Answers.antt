-- `formula::Lookup::late_code` meets its contract: each way out is a case of "late at t". Assumes nothing.
use native.Mathlib.Omega.{arith}
use Rattle.formula.proofs.Late.{positive, late-input, late-input-not, late-zero, late-beyond, late-pair}
use Rattle.formula.proofs.Lookup.late_code.Goals as goal

pub returns-then-t-top : goal.returns-then-t-top
returns-then-t-top c = late-input c.if-node-self.true (omega arith)

pub returns-then-node-self : goal.returns-then-node-self
returns-then-node-self c = late-input-not c.if-node-self.true (omega arith)

pub returns-then-t-eq0 : goal.returns-then-t-eq0
returns-then-t-eq0 c = late-zero c.if-node-self.false c.if-t-eq0.true

pub returns-then-top-t : goal.returns-then-top-t
returns-then-top-t c =
    late-beyond c.if-node-self.false (positive _ c.if-t-eq0.false)
    (omega arith)

pub returns : goal.returns
returns c =
    rw c.pair_variable.ensures
    (late-pair c.requires.slices c.if-node-self.false (positive _ c.if-t-eq0.false)
    (omega arith) c.place_of-place.ensures)
