-- The formula's room is too long to be written out: its length is that of what it repeats.
use Rattle.std.proofs.Common.{sym}
use Rattle.std.specs.Prelude.{pos}
use Rattle.std.proofs.lemmas.List.{length-replicate}
use Rattle.judge_delay.proofs.answer.Goals as goal

pub slice_bounds-judge-end-4 : goal.slice_bounds-judge-end-4
slice_bounds-judge-end-4 g c = sym (length-replicate 524288 (pos 0))
