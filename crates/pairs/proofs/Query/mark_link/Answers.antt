-- `pairs::Query::mark_link` meets its contract, form by form: one rail asks, or one for each final value. Assumes
-- nothing.
use Rattle.pairs.proofs.Asking.{links-none, links-more}
use Rattle.pairs.proofs.Query.mark_link.Goals as goal

pub returns-in-Single : goal.returns-in-Single
returns-in-Single c =
    let marked = c.mark_rail in
    rw c.in-Single.is
    (links-more _ (rw c.delay-delay.ensures.value at marked.ensures.0) (links-none _), marked.ensures.1)

pub returns-in-RiseFall : goal.returns-in-RiseFall
returns-in-RiseFall c =
    let second = c.mark_rail-in-RiseFall in
    rw c.in-RiseFall.is (
      links-more _ c.mark_rail-first.ensures.0
          (links-more _ (rw c.delay-delay.ensures.value at second.ensures.0) (links-none _)),
      second.ensures.1,
    )
