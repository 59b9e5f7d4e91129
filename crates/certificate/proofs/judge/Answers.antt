-- `certificate::judge` meets its contract: what is answered implies that an accepted delay is the largest settling
-- time. Assumes nothing.
use Rattle.certificate.proofs.Granted.{answers-largest}
use Rattle.certificate.proofs.judge.Goals as goal

pub returns-else-is_err-clause-largest : goal.returns-else-is_err-clause-largest
returns-else-is_err-clause-largest c = answers-largest _ _ _ _ _ _ _ c.certify-judged.ensures.answers
