-- `formula::Writer::put_code` meets its contract: one token more. Assumes nothing.
use Rattle.clauses.specs.Codes.{written}
use borrow.Author.Rules.{rules}
use Rattle.formula.proofs.Writer.put_code.Goals as goal

pub returns : goal.returns
unfolding written
returns c = search rules
