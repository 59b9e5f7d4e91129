-- `formula::Writer::put_end` meets its contract: one token more, and one clause. Assumes nothing.
use Rattle.clauses.specs.Codes.{written}
use borrow.Author.Rules.{rules}
use Rattle.formula.proofs.Writer.put_end.Goals as goal

pub returns : goal.returns
unfolding written
returns c = search rules
