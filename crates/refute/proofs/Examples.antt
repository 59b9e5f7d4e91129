-- Every check has an answer, and it is computed; so the worked examples are one computation over their rows, read as
-- the order-free promise. Assumes nothing.
use Rattle.std.proofs.Common.{◌≡◌, refl, subst, Bool, ◌&&◌, List, map, ℕ, suc, T, ltb, ltb→lt, ℤ, Ok, Err}
use mathlib.Core.List.{Memᴰ}
use Rattle.basics.specs.Lists.{all}
use Rattle.basics.proofs.Truth.{and_left, and_right}
use Rattle.basics.proofs.Lists.{all-at, map_each}
use Rattle.refusal.specs.Rows.{checked, unless_refused, Checked}
use Rattle.refusal.proofs.Rows.{first_passes, rest-passes}
use Rattle.clauses.specs.Clauses.{Literal, clauses_from, clauses_of}
use Rattle.refute.specs.Propagation.{Follows}
use Rattle.refute.specs.Examples.{Case, cases, Following, followings}
use Rattle.refute.specs.Passes.{is_true, is_free, assign, say, pass, refutes, assert, follows, verdict}
use Rattle.refute.specs.Promise.{malformed, Checks}
use Rattle.refute.specs.Reading.{answer_of}
use Rattle.refute.specs.Rows.{first_beyond, ended, formula_rows, refutation_form, first_empty, last_row}
use Rattle.refute.specs.Rows.{refutation_rows, check_rows}
use Rattle.refute.proofs.Agree.{Small, follows_is}
use Rattle.refute.proofs.Judging.{formula-passes, formula-within, rows_pass, judged-answer}

-- the answer to a check
abbrev pub answer_to : ℕ → List ℤ → List ℤ → ℕ → Checked
answer_to variables formula refutation room =
    unless_refused (checked (check_rows variables formula refutation room)) Err
    (answer_of (verdict (suc variables) (clauses_of formula) (clauses_of refutation)))

-- it meets the promise, whatever is checked
pub answer-exists : (variables : ℕ) (formula refutation : List ℤ) (room : ℕ) →
    Checks variables formula refutation room (answer_to variables formula refutation room)
answer-exists variables formula refutation room = go (checked (check_rows variables formula refutation room)) refl
  where
    go : (rows : Checked) → checked (check_rows variables formula refutation room) ≡ rows →
        Checks variables formula refutation room
        (unless_refused rows Err (answer_of (verdict (suc variables) (clauses_of formula) (clauses_of refutation))))
    go (Err refusal) e = malformed e
    go (Ok tt) e =
        judged-answer (suc variables) formula refutation e
        (formula-within
        (formula-passes variables formula
        (first_passes (formula_rows variables formula) (refutation_rows variables refutation room) e)))
        (rows_pass variables refutation room
        (rest-passes (formula_rows variables formula) (refutation_rows variables refutation room) e)).within
        refl

-- ---- the rows

abbrev Meets : Case → Type 0
Meets c = Checks c.variables c.formula c.refutation c.room c.answer

-- what a row's check comes to
abbrev pub answered : Case → Checked
answered c = answer_to c.variables c.formula c.refutation c.room

-- rows that are computed have their answers as the promise means it
pub computed-hold : (rows : List Case) → map answered rows ≡ map (λ (c : Case). c.answer) rows → (c : Case) →
    Memᴰ c rows → Meets c
computed-hold rows e c i =
    subst (Checks c.variables c.formula c.refutation c.room)
    (map_each answered (λ (d : Case). d.answer) rows e c i)
    (answer-exists c.variables c.formula c.refutation c.room)

computed : map answered cases ≡ map (λ (c : Case). c.answer) cases
unfolding cases clauses_from first_beyond ended formula_rows refutation_form first_empty last_row is_true is_free
    assign say pass refutes assert follows verdict
computed = refl

-- each row's check has the row's answer
pub cases-hold : (c : Case) → Memᴰ c cases → Meets c
cases-hold = computed-hold cases computed

-- ---- clauses that follow

abbrev fits : ℕ → List (List Literal) → Bool
fits room cs = all (all (λ (l : Literal). ltb l.1 room)) cs

fits-small : (room : ℕ) (cs : List (List Literal)) → T (fits room cs) → Small room cs
fits-small room cs t c i l j =
    ltb→lt l.1 room
    (all-at (λ (l : Literal). ltb l.1 room) c (all-at (all (λ (l : Literal). ltb l.1 room)) cs t c i) l j)

abbrev follows-all : Following → Bool
follows-all f =
    fits f.room (clauses_of f.formula) && fits f.room (clauses_of f.clause)
    && all (follows f.room (clauses_of f.formula)) (clauses_of f.clause)

computed-follows : T (all follows-all followings)
unfolding followings clauses_from is_true is_free assign say pass refutes assert follows
computed-follows = tt

-- each row's clause follows, in whatever order clauses are visited
pub followings-hold : (f : Following) → Memᴰ f followings → (c : List Literal) →
    Memᴰ c (clauses_of f.clause) → Follows (clauses_of f.formula) c
followings-hold f i c j =
    let t = all-at follows-all followings computed-follows f i in
    let a = fits f.room (clauses_of f.formula) in
    let b = fits f.room (clauses_of f.clause) in
    let d = all (follows f.room (clauses_of f.formula)) (clauses_of f.clause) in
    let ab = and_left (a && b) d t in
    (follows_is f.room (clauses_of f.formula) c
    (fits-small f.room (clauses_of f.formula) (and_left a b ab))
    (λ l k. fits-small f.room (clauses_of f.clause) (and_right a b ab) c j l k)
    ).0
    (all-at (follows f.room (clauses_of f.formula)) (clauses_of f.clause) (and_right (a && b) d t) c j)
