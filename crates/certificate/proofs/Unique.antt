-- The promise of judge leaves one answer and one content of each lent slice. Law: judges-unique. Assumes nothing.
use mathlib.Core.Path.{◌≡◌, sym, ap, ◌∙◌, subst}
use mathlib.Core.List.{List}
use Prim.Native.Nat.{ℕ}
use lib.IntN.{ℤ}
use Rattle.refusal.specs.Rows.{Checked}
use Rattle.netlist.specs.Netlist.{Slopes}
use Rattle.netlist.specs.File.{circuit_of}
use Rattle.refute.proofs.Unique.{answers-unique}
use Rattle.certificate.specs.Promise.{Rooms, Judgement, Meets, leaving, judgement_of, Judges}

-- judgements of the same parts
same_parts : {a a' : Checked} {v v' t t' p p' g g' : List ℕ} {f f' : List ℤ} → a ≡ a' → v ≡ v' → t ≡ t' → p ≡ p' →
    f ≡ f' → g ≡ g' → leaving a v t p f g ≡ leaving a' v' t' p' f' g'
same_parts a v t p f g = cc

same : {a b promised : Judgement} → Meets promised a → Meets promised b → a ≡ b
same p q =
    same_parts (p.answer-is ∙ sym q.answer-is) (p.values-are ∙ sym q.values-are)
    (p.times-are ∙ sym q.times-are) (p.pairs-are ∙ sym q.pairs-are) (p.formula-is ∙ sym q.formula-is)
    (p.propagation-is ∙ sym q.propagation-is)

-- one answer and one content of the slices, of any bytes, any slopes, any delay, any vector and any refutation
pub judges-unique : (file arrivals : List ℕ) (slopes : Slopes) (delay : ℕ) (vector : List ℕ) (refutation : List ℤ)
    (rooms : Rooms) (a b : Judgement) → Judges file arrivals slopes delay vector refutation rooms a →
    Judges file arrivals slopes delay vector refutation rooms b → a ≡ b
judges-unique file arrivals slopes delay vector refutation rooms a b p q =
    same
    (subst (λ (promised : Judgement). Meets promised a)
    (ap (judgement_of (circuit_of file arrivals slopes) delay vector rooms) (answers-unique p.answers q.answers))
    p.meets)
    q.meets
