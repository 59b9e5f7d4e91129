-- One write more stands behind what was written.
use Rattle.std.proofs.Common.{rules, subst}
use Rattle.std.specs.Io.KnownBytes.{Appends}
use Rattle.std.proofs.KnownBytes.{Appends-trans}
use Rattle.console.proofs.Written.{written_front}
use Rattle.console.proofs.print.Goals as goal

pub loop-done-preserved : goal.loop-done-preserved
loop-done-preserved g c = record {
  upto = search rules;
  written = subst (Appends _ _) (written_front c.loop-done.done c.in_ok-taken.taken c.args.words.now)
      (Appends-trans _ _ _ _ _ c.loop-done.invariant.written c.in_ok-taken.ensures.bytes);
}
