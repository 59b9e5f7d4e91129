-- The walk over a refutation's clauses, and what the rows and the verdict come to. At each clause the verdict on
-- what is left, with the clauses passed among the stored ones, is the verdict on the whole. Assumes nothing.
use Rattle.std.proofs.Common.{◌≡◌, refl, sym, ap, subst, ◌∙◌, Bool, true, false, ◌&&◌, ◌||◌, not, cond, List}
use Rattle.std.proofs.Common.{[], ◌∷◌, ◌++◌, append-nil, append_assoc, ⊎_elim, ℕ, zero, suc, ◌+◌, ◌-◌, ◌<◌}
use Rattle.std.proofs.Common.{◌≤◌, arith, add-zero, zero-add, T, leb, ltb, eqb, leb→le, le→leb, ℤ, pos}
use Rattle.std.proofs.Common.{negsuc, length, take, drop, replicate, length-take, take-append-drop, take-add}
use Rattle.std.proofs.Common.{ltb-false, le-ltb, Ok, Err}
use mathlib.Core.List.Memᴰ
use mathlib.Core.List.{Memᴰ}
use Rattle.basics.specs.Lists.{all}
use Rattle.basics.proofs.Truth.{and_left, and_right, holds, and_both, is_true}
use Rattle.refusal.specs.declared.Refusal.{Refusal}
use Rattle.refusal.specs.declared.Refusal.TheVariants.{Step, Formula, Refutation, Room}
use Rattle.refusal.specs.Rows.{Row, checked, room_row, Checked}
use Rattle.refusal.proofs.Rows.{passed-by, refused-first, passed_first, first_passes, rest-passes}
use Rattle.clauses.specs.Clauses.{Literal, clauses_from, clauses_of}
use Rattle.refute.specs.Propagation.{Verdict, passes, stops, Judged}
use Rattle.refute.specs.Passes.{follows, next, verdict}
use Rattle.refute.specs.Promise.{Answers, malformed, passed, stopped, Checks, Tested}
use Rattle.refute.specs.Reading.{literals_of, Within, Stored, NextZero, answer_of}
use Rattle.refute.specs.Rows.{magnitude, first_beyond, ended, formula_rows, most_variables, refutation_form}
use Rattle.refute.specs.Rows.{last_row, refutation_rows, check_rows, WellFormed}
use Rattle.refute.proofs.Agree.{Small, verdict-is}
use Rattle.refute.proofs.Reading.{within-take}
use Rattle.refute.proofs.Walking.{ended_at, part-reads, no-clause, next-clause}

-- ---- from clause to clause

-- the verdict, with n clauses before
abbrev onward : ℕ → Verdict → Verdict
onward n passes = passes
onward n (stops i) = stops (n + i)

onward-next : (n : ℕ) (v : Verdict) → onward n (next v) ≡ onward (n + 1) v
onward-next n passes = refl
onward-next n (stops i) = let e : n + suc i ≡ n + 1 + i = omega arith in ap stops e

-- the clauses up to a place are whole, and what is left comes to the verdict
pub record Judging (room : ℕ) (formula refutation : List ℤ) (at number : ℕ) : Type 0 where
  pub upto : at ≤ length refutation
  pub few : number ≤ at
  pub ends : T (ended (take at refutation))
  pub whole : (zs : List ℤ) →
      clauses_of (take at refutation ++ zs) ≡ clauses_of (take at refutation) ++ clauses_of zs
  pub left : onward number
      (verdict room (clauses_of formula ++ clauses_of (take at refutation)) (clauses_of (drop at refutation)))
      ≡ verdict room (clauses_of formula) (clauses_of refutation)

pub judging-starts : (room : ℕ) (formula refutation : List ℤ) → Judging room formula refutation 0 0
unfolding clauses_from ended
judging-starts room formula refutation =
    record {
      upto = omega arith;
      few = omega arith;
      ends = tt;
      whole = λ zs. refl;
      left =
          go (verdict room (clauses_of formula ++ []) (clauses_of refutation))
          ∙ ap (λ (s : List (List Literal)). verdict room s (clauses_of refutation)) (append-nil (clauses_of formula));
    }
  where
    go : (v : Verdict) → onward 0 v ≡ v
    go passes = refl
    go (stops i) = ap stops (zero-add i)

module _ {room : ℕ} {formula refutation : List ℤ} {at number : ℕ} (b : Judging room formula refutation at number) where
  -- no clause is left
  pub judged-all : NextZero refutation at (length refutation) →
      (Ok tt) ≡ answer_of (verdict room (clauses_of formula) (clauses_of refutation))
  unfolding verdict
  judged-all z =
      ap answer_of
      (sym
      (ap
      (λ (cs : List (List Literal)).
      onward number (verdict room (clauses_of formula ++ clauses_of (take at refutation)) cs))
      (no-clause z (omega arith)))
      ∙ b.left)

  module _ {to : ℕ} (z : NextZero refutation at to) (h : to < length refutation) where
    abbrev part : List ℤ
    part = take (to - at) (drop at refutation)

    by-clause : (f : Bool) →
        follows room (clauses_of formula ++ clauses_of (take at refutation)) (literals_of part) ≡ f →
        onward number
        (cond f
        (next
        (verdict room (clauses_of formula ++ clauses_of (take at refutation) ++ (literals_of part ∷ []))
        (clauses_of (drop (to + 1) refutation))))
        (stops 0))
        ≡ verdict room (clauses_of formula) (clauses_of refutation)
    unfolding verdict
    by-clause f e =
        sym
        (ap
        (λ (t : Bool).
        onward number
        (cond t
        (next
        (verdict room (clauses_of formula ++ clauses_of (take at refutation) ++ (literals_of part ∷ []))
        (clauses_of (drop (to + 1) refutation))))
        (stops 0)))
        e)
        ∙ sym
        (ap
        (λ (cs : List (List Literal)).
        onward number (verdict room (clauses_of formula ++ clauses_of (take at refutation)) cs))
        (next-clause z h))
        ∙ b.left

    -- the clause does not follow
    pub judged-stop :
        false ≡ follows room (clauses_of formula ++ clauses_of (take at refutation)) (literals_of part) →
        Err (Step number) ≡ answer_of (verdict room (clauses_of formula) (clauses_of refutation))
    judged-stop e =
        ap (λ (n : ℕ). Err (Step n)) (sym (add-zero number)) ∙ ap answer_of (by-clause false (sym e))

    taken : take (to + 1) refutation ≡ take at refutation ++ take (suc (to - at)) (drop at refutation)
    taken =
        ap (λ (n : ℕ). take n refutation) (let e : to + 1 ≡ at + suc (to - at) = omega (arith, z.above) in e)
        ∙ take-add at (suc (to - at)) refutation

    reads : (zs : List ℤ) →
        clauses_of (take (to + 1) refutation ++ zs)
        ≡ clauses_of (take at refutation) ++ (literals_of part ∷ clauses_of zs)
    reads zs =
        ap (λ (t : List ℤ). clauses_of (t ++ zs)) taken
        ∙ ap clauses_of (append_assoc (take at refutation) (take (suc (to - at)) (drop at refutation)) zs)
        ∙ b.whole (take (suc (to - at)) (drop at refutation) ++ zs)
        ∙ ap (λ (cs : List (List Literal)). clauses_of (take at refutation) ++ cs) (part-reads z h [] zs)

    grown : clauses_of (take (to + 1) refutation) ≡ clauses_of (take at refutation) ++ (literals_of part ∷ [])
    unfolding clauses_from
    grown = ap clauses_of (sym (append-nil (take (to + 1) refutation))) ∙ reads []

    -- the clause follows
    pub judging-more :
        true ≡ follows room (clauses_of formula ++ clauses_of (take at refutation)) (literals_of part) →
        Judging room formula refutation (to + 1) (number + 1)
    judging-more e =
        record {
          upto = omega arith;
          few = omega (arith, b.few, z.above);
          ends = ended_at refutation to h (z.there h);
          whole = λ zs.
              reads zs
              ∙ sym
              (append_assoc (clauses_of (take at refutation)) (literals_of part ∷ []) (clauses_of zs))
              ∙ ap (λ (cs : List (List Literal)). cs ++ clauses_of zs) (sym grown);
          left =
              ap
              (λ (cs : List (List Literal)).
              onward (number + 1)
              (verdict room cs (clauses_of (drop (to + 1) refutation))))
              (ap (λ (cs : List (List Literal)). clauses_of formula ++ cs) grown
              ∙ sym (append_assoc (clauses_of formula) (clauses_of (take at refutation)) (literals_of part ∷ [])))
              ∙ sym
              (onward-next number
              (verdict room (clauses_of formula ++ clauses_of (take at refutation) ++ (literals_of part ∷ []))
              (clauses_of (drop (to + 1) refutation))))
              ∙ by-clause true (sym e);
        }

-- ---- numbers within the marks

-- the clauses passed are stored ones
pub earlier_stored : (refutation : List ℤ) (at room : ℕ) → Within room refutation → T (ended (take at refutation)) →
    Stored room (take at refutation)
earlier_stored refutation at room w t = record { fits = within-take room at refutation w; ends = t }

-- the variables of the clauses of such a list have marks
small-from : (room : ℕ) (zs : List ℤ) (begun : List Literal) → Within room zs →
    ((l : Literal) → Memᴰ l begun → l.1 < room) → Small room (clauses_from begun zs)
unfolding clauses_from
small-from room [] begun w f c i l j = absurd (Memᴰ.not-nil i)
small-from room (pos zero ∷ zs) begun w f c i l j =
    go i (λ k. small-from room zs [] (λ m. w (suc m)) (λ x y. absurd (Memᴰ.not-nil y)) c k l j)
  where
    go : Memᴰ c (begun ∷ clauses_of zs) → (Memᴰ c (clauses_of zs) → l.1 < room) → l.1 < room
    go (Memᴰ.head e) rest = f l (subst (λ (x : List Literal). Memᴰ l x) e j)
    go (Memᴰ.tail k) rest = rest k
small-from room (pos (suc n) ∷ zs) begun w f c i l j =
    small-from room zs (begun ++ ((true, suc n) ∷ [])) (λ m. w (suc m)) more c i l j
  where
    more : (m : Literal) → Memᴰ m (begun ++ ((true, suc n) ∷ [])) → m.1 < room
    more m k =
        ⊎_elim (λ p. f m p)
        (λ p. subst (λ (y : Literal). y.1 < room) (sym (Memᴰ.eq_of_singleton p)) (w 0))
        (Memᴰ.append_cases begun k)
small-from room (negsuc n ∷ zs) begun w f c i l j =
    small-from room zs (begun ++ ((false, suc n) ∷ [])) (λ m. w (suc m)) more c i l j
  where
    more : (m : Literal) → Memᴰ m (begun ++ ((false, suc n) ∷ [])) → m.1 < room
    more m k =
        ⊎_elim (λ p. f m p)
        (λ p. subst (λ (y : Literal). y.1 < room) (sym (Memᴰ.eq_of_singleton p)) (w 0))
        (Memᴰ.append_cases begun k)

pub small : (room : ℕ) (zs : List ℤ) → Within room zs → Small room (clauses_of zs)
small room zs w = small-from room zs [] w (λ l i. absurd (Memᴰ.not-nil i))

-- ---- what the rows say where they pass

all-within : (variables : ℕ) (zs : List ℤ) → T (all (λ (z : ℤ). leb (magnitude z) variables) zs) →
    Within (suc variables) zs
all-within variables [] t k = omega arith
all-within variables (z ∷ zs) t zero =
    let h =
    leb→le (magnitude z) variables
    (and_left (leb (magnitude z) variables) (all (λ (z : ℤ). leb (magnitude z) variables) zs) t) in
    omega arith
all-within variables (z ∷ zs) t (suc k) =
    all-within variables zs
    (and_right (leb (magnitude z) variables) (all (λ (z : ℤ). leb (magnitude z) variables) zs) t) k

beyond-all : (variables : ℕ) (zs : List ℤ) → length zs ≤ first_beyond variables zs →
    T (all (λ (z : ℤ). leb (magnitude z) variables) zs)
unfolding first_beyond
beyond-all variables [] h = tt
beyond-all variables (z ∷ zs) h =
    go (ltb variables (magnitude z)) refl h (λ l. beyond-all variables zs l)
  where
    go : (b : Bool) → ltb variables (magnitude z) ≡ b →
        suc (length zs) ≤ cond b 0 (suc (first_beyond variables zs)) →
        (length zs ≤ first_beyond variables zs → T (all (λ (z : ℤ). leb (magnitude z) variables) zs)) →
        T (leb (magnitude z) variables && all (λ (z : ℤ). leb (magnitude z) variables) zs)
    go true e h rest = absurd (omega arith)
    go false e h rest =
        and_both (leb (magnitude z) variables) (all (λ (z : ℤ). leb (magnitude z) variables) zs)
        (le→leb (magnitude z) variables (ltb-false variables (magnitude z) e)) (rest (omega arith))

pub formula-passes : (variables : ℕ) (formula : List ℤ) → checked (formula_rows variables formula) ≡ Ok tt →
    WellFormed variables formula
unfolding formula_rows
formula-passes variables formula e =
    let last : List Row = (not (ended formula), Formula (length formula)) ∷ [] in
    let beyond = ltb (first_beyond variables formula) (length formula) in
    let p = passed-by (ltb most_variables variables) (Formula 0)
    ((beyond, Formula (first_beyond variables formula)) ∷ last) e in
    let q = passed-by beyond (Formula (first_beyond variables formula)) last p.1 in
    record {
      few = ltb-false most_variables variables p.0;
      within = beyond-all variables formula (ltb-false (first_beyond variables formula) (length formula) q.0);
      last = holds (not_back (ended formula) (passed-by (not (ended formula)) (Formula (length formula)) [] q.1).0);
    }
  where
    not_back : (b : Bool) → not b ≡ false → b ≡ true
    not_back true e = refl
    not_back false e = let w : ◌≡◌ {A = ℕ} 0 1 = cc in absurd (omega arith)

beyond-length : (variables : ℕ) (zs : List ℤ) → T (all (λ (z : ℤ). leb (magnitude z) variables) zs) →
    first_beyond variables zs ≡ length zs
unfolding first_beyond
beyond-length variables [] t = refl
beyond-length variables (z ∷ zs) t =
    let a = leb (magnitude z) variables in
    let b = all (λ (y : ℤ). leb (magnitude y) variables) zs in
    ap (λ (s : Bool). cond s 0 (suc (first_beyond variables zs)))
    (le-ltb variables (magnitude z) (leb→le (magnitude z) variables (and_left a b t)))
    ∙ ap suc (beyond-length variables zs (and_right a b t))

-- and a well-formed formula passes row 11
pub formula-accepted : (variables : ℕ) (formula : List ℤ) → WellFormed variables formula →
    checked (formula_rows variables formula) ≡ Ok tt
unfolding formula_rows
formula-accepted variables formula w =
    rw (
      le-ltb _ variables w.few,
      beyond-length variables formula w.within,
      le-ltb (length formula) (length formula) (omega arith),
      is_true (ended formula) w.last,
    )

pub formula-within : {variables : ℕ} {formula : List ℤ} → WellFormed variables formula → Within (suc variables) formula
formula-within {variables} {formula} w = all-within variables formula w.within

pub formula-stored : {variables room : ℕ} {formula : List ℤ} → suc variables ≡ room → WellFormed variables formula →
    Stored room formula
formula-stored {formula = formula} k w =
    record { fits = subst (λ (m : ℕ). Within m formula) k (formula-within w); ends = w.last }

refutation-passes : (variables : ℕ) (refutation : List ℤ) → checked (refutation_form variables refutation) ≡ Ok tt →
    Within (suc variables) refutation
unfolding refutation_form
refutation-passes variables refutation e =
    let beyond = first_beyond variables refutation in
    all-within variables refutation
    (beyond-all variables refutation
    (ltb-false beyond (length refutation)
    (passed-by (ltb beyond (length refutation)) (Refutation beyond)
    ((eqb (length refutation) 0 || not (ended refutation), Refutation (length refutation)) ∷ []) e).0))

-- the rows before 14 have nothing to say against the refutation
pub record Fit (variables : ℕ) (refutation : List ℤ) (room : ℕ) : Type 0 where
  pub within : Within (suc variables) refutation
  pub roomy : variables < room

module _ (variables : ℕ) (refutation : List ℤ) (room : ℕ) where
  -- 13, and then room
  abbrev after_form : List Row
  after_form = last_row (clauses_of refutation) ∷ room_row (suc variables) room ∷ []

  pub rows_pass : checked (refutation_rows variables refutation room) ≡ Ok tt → Fit variables refutation room
  rows_pass e =
      let rest = rest-passes (refutation_form variables refutation) after_form e in
      let roomy = rest-passes (last_row (clauses_of refutation) ∷ []) (room_row (suc variables) room ∷ []) rest in
      record {
        within =
            refutation-passes variables refutation
            (first_passes (refutation_form variables refutation) after_form e);
        roomy =
            ltb-false room (suc variables) (passed-by (ltb room (suc variables)) (Room (suc variables)) [] roomy).0;
      }

-- ---- the promise

pub answered : {rows : List Row} {stored refutation : List (List Literal)} (v : Verdict) (a : Checked) →
    checked rows ≡ Ok tt → Judged stored refutation v → a ≡ answer_of v → Answers rows stored refutation a
answered {rows} {stored} {refutation} passes a p j e =
    subst (Answers rows stored refutation) (sym e) (passed p j)
answered {rows} {stored} {refutation} (stops i) a p j e =
    subst (Answers rows stored refutation) (sym e) (stopped p j)

-- the verdict that the clauses' walk came to, as the promise's
pub judged-answer : {rows : List Row} {answer : Checked} (room : ℕ) (formula refutation : List ℤ) →
    checked rows ≡ Ok tt →
    Within room formula → Within room refutation →
    answer ≡ answer_of (verdict room (clauses_of formula) (clauses_of refutation)) →
    Answers rows (clauses_of formula) (clauses_of refutation) answer
judged-answer {answer = answer} room formula refutation p f r e =
    answered (verdict room (clauses_of formula) (clauses_of refutation)) answer p
    (verdict-is room (clauses_of refutation) (clauses_of formula) (small room formula f) (small room refutation r)) e

-- ---- the slice that is lent

take-zeros : (k n : ℕ) → ◌≡◌ {A = List ℕ} (take k (replicate n 0))
    (replicate (length (take k (replicate {A = ℕ} n 0))) 0)
take-zeros zero n = refl
take-zeros (suc k) zero = refl
take-zeros (suc k) (suc n) = ap (λ (t : List ℕ). 0 ∷ t) (take-zeros k n)

pub part-clear : (k n : ℕ) (slice : List ℕ) → slice ≡ replicate n 0 → take k slice ≡ replicate (length (take k slice)) 0
part-clear k n slice e =
    subst (λ (t : List ℕ). take k t ≡ replicate (length (take k t)) 0) (sym e) (take-zeros k n)

-- the marks are the first V+1 of the slice
pub marks-long : {variables : ℕ} {refutation : List ℤ} (slice : List ℕ) → Fit variables refutation (length slice) →
    suc variables ≡ length (take (variables + 1) slice)
marks-long {variables} slice f = omega (arith, length-take (variables + 1) slice, f.roomy)

-- what came back, with the rest of the slice
pub lent_back : (k n : ℕ) (slice back : List ℕ) → slice ≡ replicate n 0 →
    back ≡ replicate (length (take k slice)) 0 → back ++ drop k slice ≡ replicate n 0
lent_back k n slice back e b =
    ap (λ (t : List ℕ). t ++ drop k slice) (b ∙ sym (part-clear k n slice e)) ∙ take-append-drop k slice ∙ e

-- the test's answer as the promise's
pub tested-answer : {rows : List Row} {answer : Checked} {variables n room : ℕ} {formula refutation : List ℤ} →
    suc variables ≡ room → WellFormed variables formula → Fit variables refutation n → checked rows ≡ Ok tt →
    answer ≡ answer_of (verdict room (clauses_of formula) (clauses_of refutation)) →
    Answers rows (clauses_of formula) (clauses_of refutation) answer
tested-answer {room = room} {formula} {refutation} k w f p a =
    judged-answer room formula refutation p (subst (λ (m : ℕ). Within m formula) k (formula-within w))
    (subst (λ (m : ℕ). Within m refutation) k f.within) a

-- ---- row 11 before the others

-- rows that say the same have the same answers
pub answers-as : {rows more : List Row} {stored refutation : List (List Literal)} {a : Checked} →
    checked rows ≡ checked more → Answers rows stored refutation a → Answers more stored refutation a
answers-as e (malformed p) = malformed (sym e ∙ p)
answers-as e (passed p j) = passed (sym e ∙ p) j
answers-as e (stopped p j) = stopped (sym e ∙ p) j

module _ (variables : ℕ) (formula refutation : List ℤ) (room : ℕ) where
  pub formula-refuses : {refusal : Refusal} → checked (formula_rows variables formula) ≡ Err refusal →
      checked (check_rows variables formula refutation room) ≡ Err refusal
  formula-refuses e = refused-first (formula_rows variables formula) (refutation_rows variables refutation room) e

  pub formula-leaves : {answer : Checked} → checked (formula_rows variables formula) ≡ Ok tt →
      Tested variables formula refutation room answer → Checks variables formula refutation room answer
  formula-leaves e t =
      answers-as (sym (passed_first (formula_rows variables formula) (refutation_rows variables refutation room) e)) t
