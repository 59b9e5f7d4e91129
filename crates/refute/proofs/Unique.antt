-- One verdict on each refutation, one answer to each check and one part for each number: two that meet the promise are
-- equal. None asks that a verdict can be computed. Assumes nothing.
use Rattle.std.proofs.Common.{◌≡◌, refl, sym, ap, ◌∙◌, List, [], ◌∷◌, ◌++◌, ℕ, zero, suc, ℤ, Bor}
use Rattle.refusal.specs.Rows.{Checked, Row}
use Rattle.refusal.proofs.Rows.{apart}
use Rattle.clauses.specs.Clauses.{Literal}
use Rattle.refute.specs.Parts.{ClausePart}
use Rattle.refute.specs.Propagation.{Verdict, passes, stops, Judged}
use Rattle.refute.specs.Passes.{next}
use Rattle.refute.specs.Reading.{answer_of}
use Rattle.refute.specs.Promise.{Answers, malformed, passed, stopped, Checks, Tested}

-- one verdict
pub judged-unique : (refutation stored : List (List Literal)) (v w : Verdict) → Judged stored refutation v →
    Judged stored refutation w → v ≡ w
unfolding Judged
judged-unique [] stored passes passes h k = refl
judged-unique [] stored passes (stops j) h k = absurd k
judged-unique [] stored (stops i) w h k = absurd h
judged-unique (c ∷ cs) stored passes passes h k = refl
judged-unique (c ∷ cs) stored passes (stops zero) h k = absurd (k h.0)
judged-unique (c ∷ cs) stored passes (stops (suc j)) h k =
    ap next (judged-unique cs (stored ++ (c ∷ [])) passes (stops j) h.1 k.1)
judged-unique (c ∷ cs) stored (stops zero) passes h k = absurd (h k.0)
judged-unique (c ∷ cs) stored (stops zero) (stops zero) h k = refl
judged-unique (c ∷ cs) stored (stops zero) (stops (suc j)) h k = absurd (h k.0)
judged-unique (c ∷ cs) stored (stops (suc i)) passes h k =
    ap next (judged-unique cs (stored ++ (c ∷ [])) (stops i) passes h.1 k.1)
judged-unique (c ∷ cs) stored (stops (suc i)) (stops zero) h k = absurd (k h.0)
judged-unique (c ∷ cs) stored (stops (suc i)) (stops (suc j)) h k =
    ap next (judged-unique cs (stored ++ (c ∷ [])) (stops i) (stops j) h.1 k.1)

-- one answer
pub answers-unique : {rows : List Row} {stored refutation : List (List Literal)} {a b : Checked} →
    Answers rows stored refutation a → Answers rows stored refutation b → a ≡ b
answers-unique (malformed p) (malformed q) = sym p ∙ q
answers-unique (malformed p) (passed q k) = apart p q
answers-unique (malformed p) (stopped q k) = apart p q
answers-unique (passed p h) (malformed q) = apart q p
answers-unique (passed p h) (passed q k) = refl
answers-unique {stored = stored} {refutation} (passed p h) (stopped {i = i} q k) =
    ap answer_of (judged-unique refutation stored passes (stops i) h k)
answers-unique (stopped p h) (malformed q) = apart q p
answers-unique {stored = stored} {refutation} (stopped {i = i} p h) (passed q k) =
    ap answer_of (judged-unique refutation stored (stops i) passes h k)
answers-unique {stored = stored} {refutation} (stopped {i = i} p h) (stopped {i = j} q k) =
    ap answer_of (judged-unique refutation stored (stops i) (stops j) h k)

-- one answer to a separate check
pub checks-unique : (variables : ℕ) (formula refutation : List ℤ) (room : ℕ) {a b : Checked} →
    Checks variables formula refutation room a → Checks variables formula refutation room b → a ≡ b
checks-unique variables formula refutation room p q = answers-unique p q

-- one answer to the test that a certificate asks for
pub tested-unique : (variables : ℕ) (formula refutation : List ℤ) (room : ℕ) {a b : Checked} →
    Tested variables formula refutation room a → Tested variables formula refutation room b → a ≡ b
tested-unique variables formula refutation room p q = answers-unique p q

-- one part for a clause's number: its numbers, and where it lies
pub clause-unique : {formula refutation : Bor (List ℤ)} {number : ℕ} (p q : Bor (List ℤ)) →
    ClausePart formula refutation number p → ClausePart formula refutation number q → (p.now ≡ q.now) ×
    (p.ref_ptr ≡ q.ref_ptr)
clause-unique p q a b = (a.held ∙ sym b.held, a.lies ∙ sym b.lies)
