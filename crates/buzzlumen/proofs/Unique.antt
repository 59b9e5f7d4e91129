-- Each exported promise leaves one answer and one content of each lent slice. Laws: evaluates-unique, builds-unique,
-- says-unique, certifies-unique. Assumes nothing.
use mathlib.Core.Path.{◌≡◌, sym, ap, ◌∙◌}
use mathlib.Core.List.{List}
use Prim.Native.Nat.{ℕ}
use lib.IntN.{ℤ}
use Rattle.netlist.specs.Netlist.{Slopes}
use Rattle.settle.specs.Promise.{Evaluation}
use Rattle.formula.specs.Promise.{Building}
use Rattle.refute.specs.Promise.{Checks}
use Rattle.refute.proofs.Unique.{checks-unique}
use Rattle.certificate.specs.Promise.{Rooms, Judgement, leaving}
use Rattle.certificate.proofs.Unique.{judges-unique}
use Rattle.buzzlumen.specs.Answers.{checked_of, Evaluates, Builds, Says, Certifies}
use Rattle.buzzlumen.specs.declared.Evaluated.{Evaluated}
use Rattle.buzzlumen.specs.declared.Formed.{Formed}
use Rattle.buzzlumen.specs.declared.Answer.{Answer}

-- one answer of an evaluation, and one content of each slice
pub evaluates-unique : {promised : Evaluation} {a b : Evaluated} {values times values' times' : List ℕ} →
    Evaluates promised a values times → Evaluates promised b values' times' →
    (a ≡ b) × (values ≡ values') × (times ≡ times')
evaluates-unique p q =
    (p.numbers-are ∙ sym q.numbers-are, p.values-are ∙ sym q.values-are, p.times-are ∙ sym q.times-are)

-- of a building call
pub builds-unique : {promised : Building} {a b : Formed} {pairs pairs' : List ℕ} {formula formula' : List ℤ} →
    Builds promised a pairs formula → Builds promised b pairs' formula' →
    (a ≡ b) × (pairs ≡ pairs') × (formula ≡ formula')
builds-unique p q =
    (p.numbers-are ∙ sym q.numbers-are, p.pairs-are ∙ sym q.pairs-are, p.formula-is ∙ sym q.formula-is)

-- one answer of a check
pub says-unique : (variables : ℕ) (formula refutation : List ℤ) (room : ℕ) {a b : Answer} →
    Says (Checks variables formula refutation room) a → Says (Checks variables formula refutation room) b → a ≡ b
says-unique variables formula refutation room p q =
    p.is
    ∙ ap checked_of (checks-unique variables formula refutation room p.promised q.promised)
    ∙ sym q.is

-- one answer of a certificate call, and one content of each slice
module _ (file arrivals : List ℕ) (slopes : Slopes) (delay : ℕ) (vector : List ℕ) (refutation : List ℤ) (rooms : Rooms)
    {values times pairs : List ℕ} {formula : List ℤ} {propagation : List ℕ} {a : Answer}
    {values' times' pairs' : List ℕ} {formula' : List ℤ} {propagation' : List ℕ} {b : Answer}
    (p : Certifies file arrivals slopes delay vector refutation rooms values times pairs formula propagation a)
    (q : Certifies file arrivals slopes delay vector refutation rooms values' times' pairs' formula' propagation' b)
  where
    one : leaving p.answer values times pairs formula propagation
        ≡ leaving q.answer values' times' pairs' formula' propagation'
    one = judges-unique file arrivals slopes delay vector refutation rooms _ _ p.judges q.judges

    pub certifies-unique :
        (a ≡ b)
        × (values ≡ values')
        × (times ≡ times')
        × (pairs ≡ pairs')
        × (formula ≡ formula')
        × (propagation ≡ propagation')
    certifies-unique = (
      p.is ∙ ap (λ (j : Judgement). checked_of j.answer) one ∙ sym q.is,
      ap (λ (j : Judgement). j.values) one,
      ap (λ (j : Judgement). j.times) one,
      ap (λ (j : Judgement). j.pairs) one,
      ap (λ (j : Judgement). j.formula) one,
      ap (λ (j : Judgement). j.propagation) one,
    )
