-- Laws of the walks over a list of numbers: the first that is beyond the variables, the first 0, and from clause to
-- clause. Assumes nothing.
use Rattle.std.proofs.Common.{◌≡◌, refl, sym, ap, subst, ◌∙◌, Bool, true, false, not, cond, List, [], ◌∷◌}
use Rattle.std.proofs.Common.{◌++◌, append-nil, append_assoc, ℕ, zero, suc, ◌+◌, ◌-◌, ◌/◌, ◌<◌, ◌≤◌, arith}
use Rattle.std.proofs.Common.{le_of_suc-le-suc, not-suc-le-zero, T, ltb, eqb, eqb→eq, ℤ, pos, length, get_or}
use Rattle.std.proofs.Common.{take, drop, take-append-drop, length-drop, get_or-take, get_or-drop, drop-drop}
use Rattle.std.proofs.Common.{length-take-le, take-add, eq-eqb, ne_eqb, Ok, Err}
use native.Mathlib.Decide.{dec_lt}
use Rattle.std.proofs.lemmas.List.{map-append}
use Rattle.std.specs.List.{position_or_len}
use Rattle.clauses.specs.Clauses.{Literal, clauses_from, clauses_of}
use Rattle.clauses.specs.Codes.{code_of}
use Rattle.refute.specs.Reading.{literal_of, literals_of, NextZero}
use Rattle.refute.specs.Rows.{magnitude, first_beyond, ended, first_empty, last_row}
use Rattle.refusal.specs.declared.Refusal.TheVariants.{Last}
use Rattle.refusal.specs.Rows.{checked}
use Rattle.basics.proofs.Truth.{holds}
use Rattle.refute.proofs.Reading.{coded, variable-size, variable-none, next-number, clause-grows, clause-ends}

-- ---- the first number beyond

pub first_place : (variables : ℕ) (zs : List ℤ) →
    first_beyond variables zs ≡ position_or_len (λ (z : ℤ). ltb variables (code_of z / 2)) zs
unfolding first_beyond
first_place variables [] = refl
first_place variables (z ∷ zs) =
    rw (variable-size z (code_of z / 2) refl, first_place variables zs) (go (ltb variables (magnitude z)))
  where
    go : (b : Bool) →
        cond b 0 (suc (position_or_len (λ (z : ℤ). ltb variables (code_of z / 2)) zs))
        ≡ cond (not b) (1 + position_or_len (λ (z : ℤ). ltb variables (code_of z / 2)) zs) 0
    go true = refl
    go false = omega arith

-- ---- the last number

pub ended-empty : (list : List ℤ) → T (eqb (length list) 0) → true ≡ ended list
unfolding ended
ended-empty [] t = refl
ended-empty (z ∷ zs) t = let e : length (z ∷ zs) ≡ 0 = eqb→eq _ _ t in absurd (omega arith)

pub ended_by : (list : List ℤ) (v : ℕ) → v ≡ code_of (get_or list (length list - 1) (pos 0)) / 2 → eqb v 0 ≡ ended list
unfolding ended
ended_by list v e = ap (λ (n : ℕ). eqb n 0) (variable-size (get_or list (length list - 1) (pos 0)) v e)

-- a 0 is a number of magnitude 0
size-of-zero : (z : ℤ) → code_of z ≡ 0 → magnitude z ≡ 0
size-of-zero z e = omega (arith, (coded z (code_of z) refl).size)

zero-of-size : (z : ℤ) → magnitude z ≡ 0 → code_of z ≡ 0
zero-of-size z e = variable-none z 0 (sym e ∙ sym (coded z (code_of z) refl).size) refl

-- in a list that ends in 0, a number that is not 0 has one after it
pub one-after : (list : List ℤ) (i : ℕ) → T (ended list) → i < length list → (code_of (get_or list i (pos 0)) ≡ 0 → ⊥) →
    i + 1 < length list
unfolding ended
one-after list i t h n = go (dec_lt (i + 1) (length list))
  where
    go : Dec (i + 1 < length list) → i + 1 < length list
    go (yes l) = l
    go (no l) =
        let e : length list - 1 ≡ i = omega arith in
        absurd
        (n
        (subst (λ (k : ℕ). code_of (get_or list k (pos 0)) ≡ 0) e
        (zero-of-size (get_or list (length list - 1) (pos 0)) (eqb→eq _ _ t))))

-- the numbers up to a 0 end in 0
pub ended_at : (list : List ℤ) (i : ℕ) → i < length list → code_of (get_or list i (pos 0)) ≡ 0 →
    T (ended (take (i + 1) list))
unfolding ended
ended_at list i h e =
    let l : length (take (i + 1) list) - 1 ≡ i = omega (arith, length-take-le (i + 1) list (omega arith)) in
    holds
    (eq-eqb _ _
    (ap (λ (k : ℕ). magnitude (get_or (take (i + 1) list) k (pos 0))) l
    ∙ ap magnitude (get_or-take (i + 1) list i (pos 0) (omega arith))
    ∙ size-of-zero (get_or list i (pos 0)) e))

-- ---- the first 0

-- none before i is 0
pub record Zeroless (list : List ℤ) (from i : ℕ) : Type 0 where
  pub above : from ≤ i
  pub upto : i ≤ length list
  pub none_before : (k : ℕ) → from ≤ k → k < i → code_of (get_or list k (pos 0)) ≡ 0 → ⊥

pub zeroless-starts : (list : List ℤ) (from : ℕ) → from ≤ length list → Zeroless list from from
zeroless-starts list from h =
    record { above = omega arith; upto = h; none_before = λ k a b. absurd (omega arith) }

module _ {list : List ℤ} {from i : ℕ} (x : ℕ) (b : Zeroless list from i) (h : i < length list)
    (e : x ≡ code_of (get_or list i (pos 0))) where
  pub zero-found : x ≡ 0 → NextZero list from i
  zero-found z =
      record { above = b.above; upto = b.upto; none_before = b.none_before; there = λ _. sym e ∙ z }

  pub zeroless-more : (x ≡ 0 → ⊥) → Zeroless list from (i + 1)
  zeroless-more n =
      record {
        above = omega (arith, b.above);
        upto = omega arith;
        none_before = λ k a l. go k a l (dec_lt k i);
      }
    where
      go : (k : ℕ) → from ≤ k → k < i + 1 → Dec (k < i) → code_of (get_or list k (pos 0)) ≡ 0 → ⊥
      go k a l (yes q) z = b.none_before k a q z
      go k a l (no q) z =
          let p : k ≡ i = omega arith in
          n (e ∙ subst (λ (m : ℕ). code_of (get_or list m (pos 0)) ≡ 0) p z)

-- the first 0 behind numbers that are not 0
pub zero-behind : {list : List ℤ} {from mid to : ℕ} → Zeroless list from mid → NextZero list mid to →
    NextZero list from to
zero-behind {list} {from} {mid} {to} b z =
    record {
      above = omega (arith, b.above, z.above);
      upto = z.upto;
      none_before = λ k a l. go k a l (dec_lt k mid);
      there = z.there;
    }
  where
    go : (k : ℕ) → from ≤ k → k < to → Dec (k < mid) → code_of (get_or list k (pos 0)) ≡ 0 → ⊥
    go k a l (yes q) = b.none_before k a q
    go k a l (no q) = z.none_before k (omega arith) l

-- ---- from clause to clause

abbrev pub NoZero : List ℤ → ℕ → Type 0
NoZero zs n = (k : ℕ) → k < n → code_of (get_or zs k (pos 0)) ≡ 0 → ⊥

-- the numbers up to the first 0 are a clause, whatever comes after it
cut-prefix : (zs : List ℤ) (n : ℕ) (begun : List Literal) → n < length zs → NoZero zs n →
    code_of (get_or zs n (pos 0)) ≡ 0 → (ys : List ℤ) →
    clauses_from begun (take (suc n) zs ++ ys) ≡ (begun ++ literals_of (take n zs)) ∷ clauses_of ys
cut-prefix [] n begun h f e ys = absurd (not-suc-le-zero h)
cut-prefix (z ∷ zs) zero begun h f e ys =
    clause-ends begun z ys e ∙ ap (λ (c : List Literal). c ∷ clauses_of ys) (sym (append-nil begun))
cut-prefix (z ∷ zs) (suc n) begun h f e ys =
    clause-grows begun z (take (suc n) zs ++ ys) (f 0 (omega arith))
    ∙ cut-prefix zs n (begun ++ (literal_of z ∷ [])) (le_of_suc-le-suc h) (λ k l. f (suc k) (omega arith)) e ys
    ∙ ap (λ (c : List Literal). c ∷ clauses_of ys) (append_assoc begun (literal_of z ∷ []) (literals_of (take n zs)))

cut-none : (zs : List ℤ) (begun : List Literal) → NoZero zs (length zs) → clauses_from begun zs ≡ []
unfolding clauses_from
cut-none [] begun f = refl
cut-none (z ∷ zs) begun f =
    clause-grows begun z zs (f 0 (omega arith))
    ∙ cut-none zs (begun ++ (literal_of z ∷ [])) (λ k l. f (suc k) (omega arith))

module _ {list : List ℤ} {from to : ℕ} (z : NextZero list from to) where
  pub no_zero : (n : ℕ) → from + n ≤ to → NoZero (drop from list) n
  no_zero n h k l e =
      z.none_before (from + k) (omega arith) (omega arith)
      (subst (λ (y : ℤ). code_of y ≡ 0) (get_or-drop from list k (pos 0)) e)

  -- no clause is left
  pub no-clause : length list ≤ to → clauses_of (drop from list) ≡ []
  no-clause h =
      cut-none (drop from list) []
      (no_zero (length (drop from list)) (omega (arith, length-drop from list, z.above, z.upto)))

  module _ (h : to < length list) where
    -- the part of the list that ends a clause that was begun, with its 0, before anything
    pub part-reads : (begun : List Literal) (ys : List ℤ) →
        clauses_from begun (take (suc (to - from)) (drop from list) ++ ys)
        ≡ (begun ++ literals_of (take (to - from) (drop from list))) ∷ clauses_of ys
    part-reads begun ys =
        cut-prefix (drop from list) (to - from) begun (omega (arith, length-drop from list, z.above))
        (no_zero (to - from) (omega (arith, z.above)))
        (subst (λ (y : ℤ). code_of y ≡ 0)
        (sym
        (get_or-drop from list (to - from) (pos 0)
        ∙ ap (λ (n : ℕ). get_or list n (pos 0)) (let e : from + (to - from) ≡ to = omega (arith, z.above) in e)))
        (z.there h))
        ys

    -- the rest of a clause that was begun, and those after it
    pub rest-of-clause : (begun : List Literal) → clauses_from begun (drop from list)
        ≡ (begun ++ literals_of (take (to - from) (drop from list))) ∷ clauses_of (drop (to + 1) list)
    rest-of-clause begun =
        ap (clauses_from begun)
        (sym
        (ap (λ (t : List ℤ). take (suc (to - from)) (drop from list) ++ t)
        (sym
        (drop-drop (suc (to - from)) from list
        ∙ ap (λ (n : ℕ). drop n list) (let e : from + suc (to - from) ≡ to + 1 = omega (arith, z.above) in e)))
        ∙ take-append-drop (suc (to - from)) (drop from list)))
        ∙ part-reads begun (drop (to + 1) list)

    -- the next clause, and those after it
    pub next-clause : clauses_of (drop from list)
        ≡ literals_of (take (to - from) (drop from list)) ∷ clauses_of (drop (to + 1) list)
    next-clause = rest-of-clause []

-- ---- a clause read number by number

-- the literals from a place up to another
abbrev pub clause_within : List ℤ → ℕ → ℕ → List Literal
clause_within list from to = literals_of (take (to - from) (drop from list))

-- a clause goes on behind a number of it
pub split : (list : List ℤ) (from at to : ℕ) → from ≤ at → at < length list → at < to →
    clause_within list from to
    ≡ clause_within list from at ++ (literal_of (get_or list at (pos 0)) ∷ clause_within list (at + 1) to)
split list from at to a h b =
    ap literals_of
    (ap (λ (n : ℕ). take n (drop from list)) (let e : to - from ≡ (at - from) + suc (to - (at + 1)) = omega arith in e)
    ∙ take-add (at - from) (suc (to - (at + 1))) (drop from list)
    ∙ ap (λ (zs : List ℤ). take (at - from) (drop from list) ++ take (suc (to - (at + 1))) zs)
    (drop-drop (at - from) from list
    ∙ ap (λ (n : ℕ). drop n list) (let e : from + (at - from) ≡ at = omega arith in e)
    ∙ next-number list at h))
    ∙ map-append literal_of (take (at - from) (drop from list))
    (get_or list at (pos 0) ∷ take (to - (at + 1)) (drop (at + 1) list))

-- one number more
pub grown : (list : List ℤ) (from at : ℕ) → from ≤ at → at < length list →
    clause_within list from (at + 1) ≡ clause_within list from at ++ (literal_of (get_or list at (pos 0)) ∷ [])
grown list from at a h =
    split list from at (at + 1) a h (omega arith)
    ∙ ap
    (λ (n : ℕ).
    clause_within list from at
    ++ (literal_of (get_or list at (pos 0)) ∷ literals_of (take n (drop (at + 1) list))))
    (let e : at + 1 - (at + 1) ≡ 0 = omega arith in e)

-- ---- row 13

-- the first `number` clauses, up to the place, are not empty
pub record Counting (list : List ℤ) (at number : ℕ) : Type 0 where
  pub upto : at ≤ length list
  pub few : number ≤ at
  pub empty : first_empty (clauses_of list) ≡ number + first_empty (clauses_of (drop at list))
  pub count : length (clauses_of list) ≡ number + length (clauses_of (drop at list))

last-by : (list : List ℤ) (number : ℕ) → first_empty (clauses_of list) ≡ number →
    (suc number ≡ length (clauses_of list) → ⊥) → Err (Last number) ≡ checked (last_row (clauses_of list) ∷ [])
unfolding last_row
last-by list number e n =
    rw (e, ne_eqb (suc number) (length (clauses_of list)) n)

module _ {list : List ℤ} {at number : ℕ} (b : Counting list at number) where
  -- no clause is left: none was empty
  pub none-empty : NextZero list at (length list) → Err (Last number) ≡ checked (last_row (clauses_of list) ∷ [])
  unfolding first_empty
  none-empty z =
      let e : clauses_of (drop at list) ≡ [] = no-clause z (omega arith) in
      let f : first_empty (clauses_of (drop at list)) ≡ 0 = ap first_empty e in
      let g : length (clauses_of (drop at list)) ≡ 0 = ap length e in
      last-by list number (omega (arith, b.empty)) (λ q. omega (arith, b.count))

  module _ {to : ℕ} (z : NextZero list at to) (h : to < length list) where
    empty-here : to ≡ at → clauses_of (drop at list) ≡ [] ∷ clauses_of (drop (to + 1) list)
    empty-here e =
        next-clause z h
        ∙ ap (λ (n : ℕ). literals_of (take n (drop at list)) ∷ clauses_of (drop (to + 1) list))
        (let q : to - at ≡ 0 = omega arith in q)

    first-here : to ≡ at → first_empty (clauses_of list) ≡ number
    unfolding first_empty
    first-here e =
        let f : first_empty (clauses_of (drop at list)) ≡ 0 = ap first_empty (empty-here e) in omega (arith, b.empty)

    count-here : to ≡ at → length (clauses_of list) ≡ number + suc (length (clauses_of (drop (to + 1) list)))
    count-here e =
        let g : length (clauses_of (drop at list)) ≡ suc (length (clauses_of (drop (to + 1) list))) =
        ap length (empty-here e) in omega (arith, b.count)

    -- the empty clause is the last
    pub is_last : to ≡ at → NextZero list (to + 1) (length list) →
        (Ok tt) ≡ checked (last_row (clauses_of list) ∷ [])
    unfolding last_row
    is_last e y =
        let g : length (clauses_of (drop (to + 1) list)) ≡ 0 = ap length (no-clause y (omega arith)) in
        rw (first-here e, eq-eqb (suc number) (length (clauses_of list)) (omega (arith, count-here e)))

    -- the empty clause is not the last
    pub not_last : {end : ℕ} → to ≡ at → NextZero list (to + 1) end → end < length list →
        Err (Last number) ≡ checked (last_row (clauses_of list) ∷ [])
    not_last {end} e y l =
        let g : length (clauses_of (drop (to + 1) list)) ≡ suc (length (clauses_of (drop (end + 1) list))) =
        ap length (next-clause y l) in
        last-by list number (first-here e) (λ q. omega (arith, count-here e))

    -- the clause is not empty
    pub counting_more : (to ≡ at → ⊥) → Counting list (to + 1) (number + 1)
    unfolding first_empty
    counting_more n =
        let g : length (clauses_of (drop at list)) ≡ suc (length (clauses_of (drop (to + 1) list))) =
        ap length (next-clause z h) in
        record {
          upto = omega arith;
          few = omega (arith, b.few, z.above);
          empty =
              let f : first_empty (clauses_of (drop at list)) ≡ suc (first_empty (clauses_of (drop (to + 1) list))) =
              ap first_empty (next-clause z h)
              ∙ one_more (drop at list) (to - at) (omega (arith, z.above))
              (omega (arith, length-drop at list, z.above)) in
              omega (arith, b.empty);
          count = omega (arith, b.count);
        }
      where
        one_more : (zs : List ℤ) (k : ℕ) → 0 < k → k ≤ length zs →
            first_empty (literals_of (take k zs) ∷ clauses_of (drop (to + 1) list))
            ≡ suc (first_empty (clauses_of (drop (to + 1) list)))
        one_more zs zero p l = absurd (omega arith)
        one_more [] (suc k) p l = absurd (omega arith)
        one_more (y ∷ zs) (suc k) p l = refl
