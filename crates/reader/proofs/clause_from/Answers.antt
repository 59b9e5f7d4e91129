-- `reader::clause_from` meets its contract: the clause at the place, or the empty part at the end. Assumes nothing.
use Rattle.std.proofs.Common.{refl}
use Rattle.reader.proofs.Lengths as L
use Rattle.reader.proofs.clause_from.Goals as goal

pub returns-then-length-eq0 : goal.returns-then-length-eq0
returns-then-length-eq0 c = L.no_part c.length_from-length.ensures.value c.if-length-eq0.true refl refl

pub returns : goal.returns
returns c = L.part-is c.length_from-length.ensures.value c.if-length-eq0.false refl refl
