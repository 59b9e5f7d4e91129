-- For each input one answer and one content of each lent slice: two results that meet the promise are the same, since
-- the promise is an equation for each of the three. Assumes nothing.
use mathlib.Core.Path.{◌≡◌, sym, ◌∙◌}
use mathlib.Core.List.{List}
use Prim.Native.Nat.{ℕ}
use lib.IntN.{ℤ}
use Rattle.std.specs.Prelude.{Result}
use Rattle.refusal.specs.declared.Refusal.{Refusal}
use Rattle.formula.specs.declared.Counts.{Counts}
use Rattle.formula.specs.Promise.{Meets, building}
use Rattle.netlist.specs.Netlist.{Slopes}

pub build-unique : (file arrivals : List ℕ) (slopes : Slopes) (target pairs_room formula_room : ℕ)
    (answer answer' : Result Counts Refusal) (pairs pairs' : List ℕ) (formula formula' : List ℤ) →
    Meets (building file arrivals slopes target pairs_room formula_room) answer pairs formula →
    Meets (building file arrivals slopes target pairs_room formula_room) answer' pairs' formula' →
    (answer ≡ answer') × ((pairs ≡ pairs') × (formula ≡ formula'))
build-unique file arrivals slopes target pairs_room formula_room answer answer' pairs pairs' formula formula' a b =
    (a.answer-is ∙ sym b.answer-is, (a.pairs-are ∙ sym b.pairs-are, a.formula-is ∙ sym b.formula-is))
