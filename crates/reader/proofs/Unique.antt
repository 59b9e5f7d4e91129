-- The contracts leave one answer each: two parts given at one place hold the same numbers and lie at the same point,
-- two readers of one slice at one place are the same, and so are two places of the next 0. The other answers are
-- equations. Assumes nothing.
use Rattle.std.proofs.Common.{◌≡◌, sym, ap₂, ◌∙◌, List, ℕ, ◌<◌, arith, ℤ, Bor}
use native.Mathlib.Decide.{dec_lt}
use Rattle.refute.specs.Reading.{NextZero}
use Rattle.reader.specs.Reading.{PartAt}
use Rattle.reader.specs.declared.Reader.{Reader}

pub one-part : {slice : Bor (List ℤ)} {at : ℕ} (p q : Bor (List ℤ)) → PartAt slice at p → PartAt slice at q →
    (p.now ≡ q.now) × (p.ref_ptr ≡ q.ref_ptr)
one-part p q a b = (a.holds ∙ sym b.holds, a.lies ∙ sym b.lies)

pub one_reader : (p q : Reader) → p.formula ≡ q.formula → p.at ≡ q.at → p ≡ q
one_reader p q e f = ap₂ (λ (s : Bor (List ℤ)) (n : ℕ). record { formula = s; at = n }) e f

-- of two places of the next 0 neither is before the other
not-before : {list : List ℤ} {from m n : ℕ} → NextZero list from m → NextZero list from n → m < n → ⊥
not-before {m = m} a b h = b.none_before m a.above h (a.there (omega (arith, b.upto)))

pub one-zero : {list : List ℤ} {from m n : ℕ} → NextZero list from m → NextZero list from n → m ≡ n
one-zero {m = m} {n = n} a b = go (dec_lt m n) (dec_lt n m)
  where
    go : Dec (m < n) → Dec (n < m) → m ≡ n
    go (yes h) r = absurd (not-before a b h)
    go (no h) (yes r) = absurd (not-before b a r)
    go (no h) (no r) = omega arith
