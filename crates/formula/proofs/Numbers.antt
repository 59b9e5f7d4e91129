-- What was put from the first place on, with room for all, are the numbers of the clauses. Assumes nothing.
use mathlib.Core.Path.{◌≡◌, refl, sym, ap, ap₂, ◌∙◌}
use mathlib.Core.Bool.{Bool, true, false, cond}
use mathlib.Core.List.{List, [], ◌∷◌, ◌++◌, map, map-append, append_assoc, append-nil}
use Prim.Native.Nat.{ℕ, suc, ◌+◌, ◌*◌, ◌/◌, ◌%◌, ◌≤◌, ◌<◌}
use native.Mathlib.Omega.{arith}
use native.Mathlib.Numerals.{add-one}
use lib.IntN.{ℤ, pos, neg_ℤ}
use lib.ListN.{length, take, set, length-map, length-set}
use lib.Seq.{take-suc-set}
use borrow.Author.Tests.{eq-eqb, ne_eqb}
use Rattle.clauses.specs.Clauses.{Literal, literal_number, flat}
use Rattle.clauses.specs.Codes.{decoded, literal_code, written}
use Rattle.formula.specs.declared.Emitted.{Emitted}
use Rattle.formula.specs.Emission.{Token, ended, token_code, ends, wants, tokens_of, start, Emits}

-- ---- a clause list's tokens and its numbers

-- a literal's code says its number
literal-decoded : (l : Literal) → decoded (literal_code l) ≡ literal_number l
unfolding decoded
literal-decoded l = go l.0 l.1
  where
    go : (b : Bool) (n : ℕ) → decoded (cond b (n * 2) (n * 2 + 1)) ≡ cond b (pos n) (neg_ℤ (pos n))
    go true n =
        let e : n * 2 % 2 ≡ 0 = omega arith in
        let h : n * 2 / 2 ≡ n = omega arith in
        rw (eq-eqb (n * 2 % 2) 0 e, h)
    go false n =
        let e : (n * 2 + 1) % 2 ≡ 1 = omega arith in
        let h : (n * 2 + 1) / 2 ≡ n = omega arith in
        rw (ne_eqb ((n * 2 + 1) % 2) 0 (λ z. absurd (omega arith)), h)

clause-decoded : (c : List Literal) → map decoded (map token_code (map wants c)) ≡ map literal_number c
clause-decoded [] = refl
clause-decoded (l ∷ c) = ap₂ (λ (x : ℤ) (xs : List ℤ). x ∷ xs) (literal-decoded l) (clause-decoded c)

pub tokens-flat : (cs : List (List Literal)) → map decoded (map token_code (tokens_of cs)) ≡ flat cs
unfolding tokens_of flat decoded
tokens-flat [] = refl
tokens-flat (c ∷ cs) =
    ap (map decoded) (map-append token_code (map wants c) (ended ∷ tokens_of cs))
    ∙ map-append decoded (map token_code (map wants c)) (map token_code (ended ∷ tokens_of cs))
    ∙ ap₂ (λ (xs ys : List ℤ). xs ++ (pos 0 ∷ ys)) (clause-decoded c) (tokens-flat cs)

pub tokens-length : (cs : List (List Literal)) → length (tokens_of cs) ≡ length (flat cs)
tokens-length cs =
    sym (length-map (map token_code (tokens_of cs)) decoded ∙ length-map (tokens_of cs) token_code)
    ∙ ap length (tokens-flat cs)

clause-ends : (c : List Literal) (ts : List Token) → ends (map wants c ++ ts) ≡ ends ts
clause-ends [] ts = refl
clause-ends (l ∷ c) ts = clause-ends c ts

pub tokens-ends : (cs : List (List Literal)) → ends (tokens_of cs) ≡ length cs
unfolding tokens_of
tokens-ends [] = refl
tokens-ends (c ∷ cs) = clause-ends c (ended ∷ tokens_of cs) ∙ ap suc (tokens-ends cs)

-- ---- writing with room

written-take : (f : List ℤ) (at : ℕ) (codes : List ℕ) → at + length codes ≤ length f →
    take (at + length codes) (written f at codes) ≡ take at f ++ map decoded codes
unfolding written
written-take f at [] h =
    let e : at + 0 ≡ at = omega arith in
    ap (λ (n : ℕ). take n f) e ∙ sym (append-nil (take at f))
written-take f at (x ∷ codes) h =
    let e : at + suc (length codes) ≡ at + 1 + length codes = omega arith in
    let s : at < length f = omega arith in
    let l : at + 1 + length codes ≤ length (set f at (decoded x)) = omega (arith, length-set f at (decoded x)) in
    ap (λ (n : ℕ). take n (written (set f at (decoded x)) (at + 1) codes)) e
    ∙ written-take (set f at (decoded x)) (at + 1) codes l
    ∙ ap (λ (t : List ℤ). t ++ map decoded codes)
    (ap (λ (n : ℕ). take n (set f at (decoded x))) (add-one at) ∙ take-suc-set f at (decoded x) s)
    ∙ append_assoc (take at f) (decoded x ∷ []) (map decoded codes)

-- all that the answer says of a run from the first place on
pub record Numbered (cs : List (List Literal)) (before after : List ℤ) (to : Emitted) : Type 0 where
  pub numbers : to.numbers ≡ length (flat cs)
  pub clauses : to.clauses ≡ length cs
  pub prefix : to.numbers ≤ length before → take to.numbers after ≡ flat cs

pub emits-numbers : {most : ℕ} (cs : List (List Literal)) {before after : List ℤ} {to : Emitted} →
    Emits most (tokens_of cs) before start after to → Numbered cs before after to
emits-numbers cs {before} {after} {to} e =
    let n : to.numbers ≡ length (map token_code (tokens_of cs)) =
    e.numbers ∙ omega (arith, length-map (tokens_of cs) token_code)
    in
    let z : 0 + length (map token_code (tokens_of cs)) ≡ to.numbers = omega arith in
    record {
      numbers = omega (arith, e.numbers, tokens-length cs);
      clauses = omega (arith, e.clauses, tokens-ends cs);
      prefix =
          λ h.
          ap₂ (λ (m : ℕ) (l : List ℤ). take m l) (sym z) e.is
          ∙ written-take before 0 (map token_code (tokens_of cs)) (omega arith)
          ∙ tokens-flat cs;
    }
