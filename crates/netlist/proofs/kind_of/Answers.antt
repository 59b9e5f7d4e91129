-- `netlist::kind_of` meets its contract: the ranges of the kinds, in order. Assumes nothing.
use borrow.Author.Tests.{lt-ltb, le-ltb}
use Rattle.netlist.specs.Kinds.{kind_of}
use Rattle.netlist.proofs.kind_of.Goals as goal

pub returns-then-inverted : goal.returns-then-inverted
unfolding kind_of
returns-then-inverted c =
    simp (
      lt-ltb _ _ c.if-kind-lt7.true,
      ← c.inverts-inverted.ensures,
      c.if-inverted.true,
    )

pub returns-else-inverted : goal.returns-else-inverted
unfolding kind_of
returns-else-inverted c =
    simp (
      lt-ltb _ _ c.if-kind-lt7.true,
      ← c.inverts-inverted.ensures,
      c.if-inverted.false,
    )

pub returns-then-kind-lt9 : goal.returns-then-kind-lt9
unfolding kind_of
returns-then-kind-lt9 c =
    simp (
      le-ltb _ _ c.if-kind-lt7.false,
      lt-ltb _ _ c.if-kind-lt9.true,
      c.inverts-inverted.ensures,
    )

pub returns : goal.returns
unfolding kind_of
returns c = simp (le-ltb _ _ c.if-kind-lt7.false, le-ltb _ _ c.if-kind-lt9.false)
