-- For each input the promise leaves one answer and one content of each slice: two outcomes that both meet it are equal.
-- Assumes nothing.
use mathlib.Core.Path.{◌≡◌, sym, ◌∙◌}
use mathlib.Core.List.{List}
use Prim.Native.Nat.{ℕ}
use Rattle.std.specs.Prelude.{Result}
use Rattle.refusal.specs.declared.Refusal.{Refusal}
use Rattle.settle.specs.Promise.{Evaluation, Meets, evaluation}
use Rattle.netlist.specs.Netlist.{Slopes}

-- two outcomes of one promise
pub same_outcome : {promised : Evaluation} {a b : Result ℕ Refusal} {values times values' times' : List ℕ} →
    Meets promised a values times → Meets promised b values' times' →
    (a ≡ b) × (values ≡ values') × (times ≡ times')
same_outcome m n =
    (m.answer-is ∙ sym n.answer-is, m.values-are ∙ sym n.values-are, m.times-are ∙ sym n.times-are)

-- so two calls of `evaluate` on the same file, arrivals, vector and rooms end alike
pub unique : (file arrivals : List ℕ) (slopes : Slopes) (vector : List ℕ) (values_room times_room : ℕ)
    {a b : Result ℕ Refusal}
    {values times values' times' : List ℕ} →
    Meets (evaluation file arrivals slopes vector values_room times_room) a values times →
    Meets (evaluation file arrivals slopes vector values_room times_room) b values' times' →
    (a ≡ b) × (values ≡ values') × (times ≡ times')
unique file arrivals slopes vector values_room times_room m n = same_outcome m n
