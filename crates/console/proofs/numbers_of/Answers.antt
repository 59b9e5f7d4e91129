-- With the number of each word at its place the slice is the list of these numbers.
use Rattle.std.proofs.Common.{arith, ap, ◌∙◌}
use Rattle.console.specs.Reading.{words_of}
use Rattle.console.proofs.Numbers.{words_of-entries}
use Rattle.console.proofs.numbers_of.Goals as goal

pub returns : goal.returns
returns g c =
    words_of-entries _ g.T.FromWord.number_of c.args.bytes.now c.loop-k.numbers
    (λ j below. c.loop-k.invariant j (omega arith))
    ∙ ap (words_of g.T.FromWord.number_of c.args.bytes.now) c.loop-k.auto.numbers
