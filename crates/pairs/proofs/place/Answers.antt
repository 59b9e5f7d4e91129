-- `pairs::place` meets its contract: the pair that is guessed is the node's, so that its time tells; and the search for
-- the pair's key, among its node's pairs, ends at the pair's place. Assumes nothing.
use mathlib.Core.Path.{sym, ◌∙◌}
use Prim.Native.Nat.{◌*◌}
use native.Mathlib.Omega.{arith}
use lib.ListN.{take}
use lib.Seq.{length-take-le}
use Rattle.pairs.proofs.Flat.{pairs-length}
use Rattle.pairs.proofs.Search.{
  searching-node,
  node-precede,
  lists-sorted,
  lists-long,
  place_found,
}
use Rattle.pairs.proofs.place.Goals as goal

pub overflow_mul-pairs : goal.overflow_mul-pairs
overflow_mul-pairs c = omega (arith, lists-long c.requires.0.lists)

pub slice_bounds-pairs-end : goal.slice_bounds-pairs-end
slice_bounds-pairs-end c = sym (length-take-le _ _ (lists-long c.requires.0.lists))

pub time_at-requires : goal.time_at-requires
time_at-requires c =
    let pairs = take (c.args.count * 2) c.args.table.now in
    omega (arith, pairs-length pairs, c.requires.1.high.within)

pub returns-then-time_at-time : goal.returns-then-time_at-time
returns-then-time_at-time c =
    let given = c.requires in
    place_found _ given.0
    (node-precede _ _ _ (lists-sorted given.0.lists) given.1 c.if-low-guess.true c.if-guess-high.true
    (sym c.time_at.ensures ∙ c.if-time_at-time.true))

pub pairs_before-requires : goal.pairs_before-requires
pairs_before-requires c =
    let given = c.requires in
    let found = given.0 in
    (lists-sorted found.lists, searching-node _ _ (found.lists.times-small _ found.here) given.1)

pub returns : goal.returns
returns c = place_found _ c.requires.0 c.pairs_before.ensures
