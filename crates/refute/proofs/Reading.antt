-- A list read number by number: what a number's code says of its literal, and the assertions of a clause. Assumes
-- nothing.
use Rattle.std.proofs.Common.{◌≡◌, refl, sym, ap, ap₂, subst, ◌∙◌, Bool, cond, List, [], ◌∷◌, ◌++◌, ℕ, zero}
use Rattle.std.proofs.Common.{suc, ◌+◌, ◌-◌, ◌/◌, ◌%◌, ◌<◌, ◌≤◌, arith, add-one, ℤ, pos, negsuc, length}
use Rattle.std.proofs.Common.{get_or, set, take, drop, length-set, drop_of_length-le, length-take, drop-cons}
use Rattle.std.proofs.Common.{get_or-take, get_or-drop, eq-eqb, ne_eqb}
use mathlib.Core.List.{Memᴰ}
use lib.ListN.{get_or-eq_default}
use native.Mathlib.Decide.{dec_lt}
use mathlib.Core.List.Memᴰ
use Rattle.clauses.specs.Clauses.{Literal, opposite, clauses_from, clauses_of}
use Rattle.clauses.specs.Codes.{code_of, literal_code}
use Rattle.refute.specs.Passes.{wanted, is_true, assign, contradict, marked, assert}
use Rattle.refute.specs.Reading.{literal_of, literals_of, Within}
use Rattle.refute.specs.Rows.{magnitude}

-- ---- a number and its code

-- what the code x of a number z says of its literal
pub record Coded (z : ℤ) (x : ℕ) : Type 0 where
  pub variable : x / 2 ≡ (literal_of z).1
  pub size : x / 2 ≡ magnitude z
  pub mark : x % 2 + 1 ≡ wanted (literal_of z)
  pub other : 2 - x % 2 ≡ wanted (opposite (literal_of z))
  pub is : x ≡ literal_code (literal_of z)

pub coded : (z : ℤ) (x : ℕ) → x ≡ code_of z → Coded z x
unfolding code_of
coded (pos n) x e =
    record {
      variable = omega arith;
      size = omega arith;
      mark = omega arith;
      other = omega arith;
      is = e;
    }
coded (negsuc n) x e =
    record {
      variable = omega arith;
      size = omega arith;
      mark = omega arith;
      other = omega arith;
      is = omega arith;
    }

-- the variable that is read for a number is its magnitude, and 0 just for a 0
pub variable-size : (z : ℤ) (v : ℕ) → v ≡ code_of z / 2 → v ≡ magnitude z
variable-size z v e = e ∙ (coded z (code_of z) refl).size

pub variable-none : (z : ℤ) (v : ℕ) → v ≡ code_of z / 2 → v ≡ 0 → code_of z ≡ 0
unfolding code_of
variable-none (pos n) v e q = omega arith
variable-none (negsuc n) v e q = absurd (omega arith)

pub variable-some : (z : ℤ) (v : ℕ) → v ≡ code_of z / 2 → (v ≡ 0 → ⊥) → code_of z ≡ 0 → ⊥
variable-some z v e n q = n (e ∙ ap (λ (x : ℕ). x / 2) q)

-- the number at a place, and those after it
pub next-number : (zs : List ℤ) (i : ℕ) → i < length zs → drop i zs ≡ get_or zs i (pos 0) ∷ drop (i + 1) zs
next-number zs i h = rw (add-one i) (drop-cons zs i (pos 0) h)

-- a clause grows by a literal, and ends at a 0
pub clause-grows : (begun : List Literal) (z : ℤ) (zs : List ℤ) → (code_of z ≡ 0 → ⊥) →
    clauses_from begun (z ∷ zs) ≡ clauses_from (begun ++ (literal_of z ∷ [])) zs
unfolding clauses_from code_of
clause-grows begun (pos zero) zs n = absurd (n refl)
clause-grows begun (pos (suc k)) zs n = refl
clause-grows begun (negsuc k) zs n = refl

pub clause-ends : (begun : List Literal) (z : ℤ) (zs : List ℤ) → code_of z ≡ 0 →
    clauses_from begun (z ∷ zs) ≡ begun ∷ clauses_of zs
unfolding clauses_from code_of
clause-ends begun (pos zero) zs e = refl
clause-ends begun (pos (suc k)) zs e = absurd (omega arith)
clause-ends begun (negsuc k) zs e = absurd (omega arith)

-- ---- the assertions of a clause

-- the loop's invariant: what is left to assert
pub record Asserting (clause : List ℤ) (before marks : List ℕ) (i : ℕ) : Type 0 where
  pub upto : i ≤ length clause
  pub long : length marks ≡ length before
  pub left : assert marks (literals_of (drop i clause)) ≡ assert before (literals_of clause)

assert-next : (marks : List ℕ) (clause : List ℤ) (i : ℕ) → i < length clause →
    assert marks (literals_of (drop i clause))
    ≡ cond (is_true marks (literal_of (get_or clause i (pos 0)))) contradict
    (assert (assign marks (opposite (literal_of (get_or clause i (pos 0))))) (literals_of (drop (i + 1) clause)))
unfolding assert
assert-next marks clause i h = ap (λ (zs : List ℤ). assert marks (literals_of zs)) (next-number clause i h)

pub asserting-clash : {clause : List ℤ} {before marks : List ℕ} {i : ℕ} (x : ℕ) → Asserting clause before marks i →
    i < length clause → x ≡ code_of (get_or clause i (pos 0)) → get_or marks (x / 2) 0 ≡ x % 2 + 1 →
    assert before (literals_of clause) ≡ contradict
unfolding is_true
asserting-clash {clause} {before} {marks} {i} x b h e m =
    let k = coded (get_or clause i (pos 0)) x e in
    let t : get_or marks (literal_of (get_or clause i (pos 0))).1 0 ≡ wanted (literal_of (get_or clause i (pos 0))) =
    ap (λ (v : ℕ). get_or marks v 0) (sym k.variable) ∙ m ∙ k.mark in
    sym b.left ∙ assert-next marks clause i h
    ∙ ap
    (λ (q : Bool).
    cond q contradict
    (assert (assign marks (opposite (literal_of (get_or clause i (pos 0))))) (literals_of (drop (i + 1) clause))))
    (eq-eqb _ _ t)

pub asserting-more : {clause : List ℤ} {before marks : List ℕ} {i : ℕ} (x m : ℕ) → Asserting clause before marks i →
    i < length clause → x ≡ code_of (get_or clause i (pos 0)) → m ≡ x % 2 + 1 → (get_or marks (x / 2) 0 ≡ m → ⊥) →
    Asserting clause before (set marks (x / 2) (3 - m)) (i + 1)
unfolding is_true assign
asserting-more {clause} {before} {marks} {i} x m b h e q n =
    let k = coded (get_or clause i (pos 0)) x e in
    let f : get_or marks (literal_of (get_or clause i (pos 0))).1 0 ≡ wanted (literal_of (get_or clause i (pos 0))) →
    ⊥ =
    λ t. n (ap (λ (v : ℕ). get_or marks v 0) k.variable ∙ t ∙ sym (q ∙ k.mark)) in
    let o : 3 - m ≡ wanted (opposite (literal_of (get_or clause i (pos 0)))) = omega (arith, k.other) in
    record {
      upto = omega arith;
      long = length-set marks (x / 2) (3 - m) ∙ b.long;
      left =
          ap₂ (λ (v w : ℕ). assert (set marks v w) (literals_of (drop (i + 1) clause))) k.variable o
          ∙ sym
          (assert-next marks clause i h
          ∙ ap
          (λ (q : Bool).
          cond q contradict
          (assert (assign marks (opposite (literal_of (get_or clause i (pos 0))))) (literals_of (drop (i + 1) clause))))
          (ne_eqb _ _ f))
          ∙ b.left;
    }

pub asserting-ends : {clause : List ℤ} {before marks : List ℕ} {i : ℕ} → Asserting clause before marks i →
    length clause ≤ i → assert before (literals_of clause) ≡ marked marks
unfolding assert
asserting-ends {clause} {before} {marks} {i} b h =
    sym b.left ∙ ap (λ (zs : List ℤ). assert marks (literals_of zs)) (drop_of_length-le clause {i = i} h)

-- ---- numbers within the marks

-- a code within the marks
pub code-within : (z : ℤ) (n x : ℕ) → x ≡ code_of z → magnitude z < n → x / 2 < n
code-within z n x e h = omega (arith, (coded z x e).size)

zero-within : (room : ℕ) (zs : List ℤ) → Within room zs → 0 < room
zero-within room zs w =
    subst (λ (z : ℤ). magnitude z < room) (get_or-eq_default zs (pos 0) {n = length zs} (omega arith))
    (w (length zs))

pub within-drop : (room n : ℕ) (zs : List ℤ) → Within room zs → Within room (drop n zs)
within-drop room n zs w k =
    subst (λ (z : ℤ). magnitude z < room) (sym (get_or-drop n zs k (pos 0))) (w (n + k))

pub within-take : (room n : ℕ) (zs : List ℤ) → Within room zs → Within room (take n zs)
within-take room n zs w k = go (dec_lt k n)
  where
    go : Dec (k < n) → magnitude (get_or (take n zs) k (pos 0)) < room
    go (yes h) = subst (λ (z : ℤ). magnitude z < room) (sym (get_or-take n zs k (pos 0) h)) (w k)
    go (no h) =
        subst (λ (z : ℤ). magnitude z < room)
        (sym (get_or-eq_default (take n zs) (pos 0) {n = k} (omega (arith, length-take n zs))))
        (zero-within room zs w)

-- the variables of the literals of such a list have marks
pub literals-within : (room : ℕ) (zs : List ℤ) → Within room zs → (l : Literal) → Memᴰ l (literals_of zs) → l.1 < room
literals-within room [] w l m = absurd (Memᴰ.not-nil m)
literals-within room (z ∷ zs) w l (Memᴰ.head e) =
    rw (e, ← (coded z (code_of z) refl).variable, (coded z (code_of z) refl).size) (w 0)
literals-within room (z ∷ zs) w l (Memᴰ.tail m) = literals-within room zs (λ k. w (suc k)) l m
