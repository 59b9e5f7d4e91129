-- `buzzlumen::buzzlumen_build_rise_fall` meets its contract: what `formula::build` promises, with the answer
-- as numbers. Assumes nothing.
use Rattle.buzzlumen.proofs.Small.{small}
use Rattle.buzzlumen.proofs.buzzlumen_build_rise_fall.Goals as goal

pub of-requires : goal.of-requires
of-requires c = rw c.build.ensures.answer-is (small _ _ _ _ _ _)
