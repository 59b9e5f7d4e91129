-- The buffer is too long to be written out: its length is that of what it repeats.
use Rattle.std.proofs.Common.{ℕ, sym}
use Rattle.std.proofs.lemmas.List.{length-replicate}
use Rattle.check_refutation.proofs.main.Goals as goal

pub slice_bounds-read-end : goal.slice_bounds-read-end
slice_bounds-read-end c = sym (length-replicate {0} {A = ℕ} 524289 0)

pub slice_bounds-input-end : goal.slice_bounds-input-end
slice_bounds-input-end c = c.in_ok-got.ensures.bound.0

pub slice_bounds-answer-end : goal.slice_bounds-answer-end
slice_bounds-answer-end c = c.in_ok-got.ensures.bound.1
