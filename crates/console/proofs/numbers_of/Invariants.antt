-- The numbers below the place are those of their words.
use Rattle.std.proofs.Common.{◌≡◌, ℕ, ◌*◌, ◌<◌, get_or}
use Rattle.lent.specs.Bytes.{four_bytes}
use Rattle.console.proofs.numbers_of.Given as goal

abbrev pub invariant-loop-k : goal.invariant-loop-k
invariant-loop-k g l =
    (j : ℕ) → j < l.k
    → get_or l.numbers j (g.T.FromWord.number_of 0) ≡ g.T.FromWord.number_of (four_bytes l.bytes (j * 4))
