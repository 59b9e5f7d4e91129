-- `refute::clause` meets its contract: what the span names is the numbered part. Assumes nothing.
use Rattle.std.proofs.Common.{refl, sym, ◌∙◌}
use Rattle.refute.proofs.Cutting as C
use Rattle.refute.proofs.clause.Goals as goal

pub returns-in-Formula : goal.returns-in-Formula
returns-in-Formula c = C.part_of (sym c.in-Formula.is ∙ c.span_of.ensures.span) refl refl

pub returns-in-Refutation : goal.returns-in-Refutation
returns-in-Refutation c = C.part_of (sym c.in-Refutation.is ∙ c.span_of.ensures.span) refl refl
