-- `settle::check_given` meets its contract: each return is a row of the table, after the tests before it failed.
-- Assumes nothing.
use Rattle.std.proofs.Common.{rules, ◌≡◌, ℕ, ◌<◌, true, false, length, get_or}
use lib.Dec.{ltb}
use Rattle.settle.proofs.Checks as L
use Rattle.settle.proofs.check_given.Goals as goal

pub returns-then-vector-inputs : goal.returns-then-vector-inputs
returns-then-vector-inputs c =
    L.length-refused c.args.accepted.now _ _ _ _ c.nodes-nodes.ensures c.if-vector-inputs.true

pub returns-in-Some : goal.returns-in-Some
returns-in-Some c =
    let within : c.in-Some.wrong < length c.args.vector.now = search rules in
    let bad : ltb 1 (get_or c.args.vector.now c.in-Some.wrong 0) ≡ true = search rules in
    let good : (k : ℕ) → k < c.in-Some.wrong → ltb 1 (get_or c.args.vector.now k 0) ≡ false = λ k h. search rules in
    L.byte-refused c.args.accepted.now _ _ _ _ c.nodes-nodes.ensures c.in-Some.wrong c.if-vector-inputs.false within
    bad good

pub returns-then-values_room-nodes : goal.returns-then-values_room-nodes
returns-then-values_room-nodes c =
    let good : (k : ℕ) → k < length c.args.vector.now → ltb 1 (get_or c.args.vector.now k 0) ≡ false =
    λ k h. search rules
    in
    L.room-refused c.args.accepted.now _ _ _ _ c.nodes-nodes.ensures c.if-vector-inputs.false good
    c.then-values_room-nodes.either

pub returns : goal.returns
returns c =
    let good : (k : ℕ) → k < length c.args.vector.now → ltb 1 (get_or c.args.vector.now k 0) ≡ false =
    λ k h. search rules
    in
    L.all-pass c.args.accepted.now _ _ _ _ c.nodes-nodes.ensures c.if-vector-inputs.false good
    c.if-values_room-nodes.false c.if-times_room-nodes.false
