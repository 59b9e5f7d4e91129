-- What the literals of a clause that were read so far say, and when nothing that comes after can alter it: after a true
-- literal, or two different free ones. Assumes nothing.
use Rattle.std.proofs.Common.{zero, suc, ◌≡◌, refl, sym, ap, subst, ◌∙◌, arith, ℕ, ◌+◌, ◌-◌, ◌*◌, ◌/◌, ◌%◌}
use Rattle.std.proofs.Common.{◌<◌, List, [], ◌∷◌, ◌++◌, length, get_or, T, eqb, eqb→eq, eq-eqb, ne_eqb}
use Rattle.std.proofs.Common.{append-nil, Bool, true, false, ◌&&◌, cond, ℤ, pos}
use mathlib.Core.Bool.{beq}
use mathlib.Core.List.{Memᴰ}
use Rattle.basics.specs.Lists.{any, all, keep}
use Rattle.basics.proofs.Truth.{both_ways, holds}
use Rattle.basics.proofs.Lists.{any_append, all_append, keep-passes, keep-within}
use Rattle.clauses.specs.Clauses.{Literal}
use Rattle.clauses.specs.Codes.{code_of, literal_code}
use Rattle.refute.specs.Passes.{same, wanted, is_true, is_free, Said, refuted, quiet, forces, say_free, say}
use Rattle.refute.specs.Reading.{literal_of, looked_by, looked, NextZero}
use Rattle.refute.specs.Rows.{ended}
use Rattle.refute.proofs.Marks.{both, wanted-bound}
use Rattle.refute.specs.declared.Scan.{Scan}
use Rattle.refute.specs.declared.Scan.TheVariants.{Refuted, Forces, Quiet}
use Rattle.refute.proofs.Reading.{coded, variable-none, variable-some}
use Rattle.refute.proofs.Walking.{clause_within, Zeroless, zeroless-starts, zero-found, zeroless-more, one-after}
use Rattle.refute.proofs.Walking.{split, zero-behind, grown}

-- ---- codes of literals

pub code-parts : (l : Literal) → (literal_code l / 2 ≡ l.1) × (literal_code l % 2 + 1 ≡ wanted l)
code-parts l = go l.0 l.1
  where
    go : (b : Bool) (n : ℕ) → (cond b (n * 2) (n * 2 + 1) / 2 ≡ n) × (cond b (n * 2) (n * 2 + 1) % 2 + 1 ≡ cond b 1 2)
    go true n = (omega arith, omega arith)
    go false n = (omega arith, omega arith)

-- two tests of equal numbers that ask the same
same_test : (a b c d : ℕ) → (a ≡ b → c ≡ d) → (c ≡ d → a ≡ b) → eqb a b ≡ eqb c d
same_test a b c d f g =
    both_ways (eqb a b) (eqb c d) (λ t. holds (eq-eqb c d (f (eqb→eq a b t))))
    (λ t. holds (eq-eqb a b (g (eqb→eq c d t))))

same_code : (l u : Literal) → eqb (literal_code l) (literal_code u) ≡ same u l
same_code l u = go l.0 u.0 l.1 u.1
  where
    go : (a b : Bool) (n m : ℕ) →
        eqb (cond a (n * 2) (n * 2 + 1)) (cond b (m * 2) (m * 2 + 1)) ≡ (beq b a && eqb m n)
    go true true n m = same_test (n * 2) (m * 2) m n (λ e. omega arith) (λ e. omega arith)
    go true false n m = ne_eqb (n * 2) (m * 2 + 1) (λ e. omega arith)
    go false true n m = ne_eqb (n * 2 + 1) (m * 2) (λ e. omega arith)
    go false false n m = same_test (n * 2 + 1) (m * 2 + 1) m n (λ e. omega arith) (λ e. omega arith)

-- ---- what the free literals say

-- what a clause says, by the code of the literal
abbrev pub scan_of : Said → Scan
scan_of refuted = Refuted
scan_of quiet = Quiet
scan_of (forces l) = Forces (literal_code l)

keep_append : (f : Literal → Bool) (c d : List Literal) → keep f (c ++ d) ≡ keep f c ++ keep f d
keep_append f [] d = refl
keep_append f (l ∷ c) d = rw (keep_append f c d) (go (f l))
  where
    go : (b : Bool) → cond b (l ∷ keep f c ++ keep f d) (keep f c ++ keep f d)
        ≡ cond b (l ∷ keep f c) (keep f c) ++ keep f d
    go true = refl
    go false = refl

none-free : (us : List Literal) → scan_of (say_free us) ≡ Refuted → us ≡ []
none-free [] e = refl
none-free (u ∷ us) e = go (all (same u) us) e
  where
    go : (b : Bool) → scan_of (cond b (forces u) quiet) ≡ Refuted → u ∷ us ≡ []
    go true e = cc
    go false e = cc

-- occurrences of one literal, of this code
record Alone (code : ℕ) (us : List Literal) : Type 0 where
  one : Literal
  more : List Literal
  are : us ≡ one ∷ more
  alike : all (same one) more ≡ true
  is : literal_code one ≡ code

one-free : (us : List Literal) (code : ℕ) → scan_of (say_free us) ≡ Forces code → Alone code us
one-free [] code e = cc
one-free (u ∷ us) code e = go (all (same u) us) refl e
  where
    go : (b : Bool) → all (same u) us ≡ b → scan_of (cond b (forces u) quiet) ≡ Forces code → Alone code (u ∷ us)
    go true q e = record { one = u; more = us; are = refl; alike = q; is = cc }
    go false q e = cc

-- ---- one literal more

-- what is looked at next says nothing, whatever comes after; or it is what is said with it, and that may still change
data Looked (marks : List ℕ) (c : List Literal) (l : Literal) : Scan → Type 0 where
  silent : ((d : List Literal) → say marks (c ++ (l ∷ d)) ≡ quiet) → Looked marks c l Quiet
  heard : {scan : Scan} → (scan ≡ Quiet → ⊥) → any (is_true marks) (c ++ (l ∷ [])) ≡ false →
      scan ≡ scan_of (say marks (c ++ (l ∷ []))) → Looked marks c l scan

module _ (marks : List ℕ) (c : List Literal) (l : Literal) (u : any (is_true marks) c ≡ false) where
  -- a true one
  after-true : is_true marks l ≡ true → Looked marks c l Quiet
  unfolding say
  after-true e = silent (λ d. rw (any_append (is_true marks) c (l ∷ d), u, e))

  -- one that is not true
  module _ (e : is_true marks l ≡ false) where
    untrue-more : any (is_true marks) (c ++ (l ∷ [])) ≡ false
    untrue-more = rw (any_append (is_true marks) c (l ∷ []), u, e)

    said-more : say marks (c ++ (l ∷ [])) ≡ say_free (keep (is_free marks) c ++ keep (is_free marks) (l ∷ []))
    unfolding say
    said-more = rw (untrue-more, keep_append (is_free marks) c (l ∷ []))

    -- a false one
    after-false : {scan : Scan} → (scan ≡ Quiet → ⊥) → is_free marks l ≡ false →
        scan ≡ scan_of (say_free (keep (is_free marks) c)) → Looked marks c l scan
    after-false n f s =
        let w : say marks (c ++ (l ∷ [])) ≡ say_free (keep (is_free marks) c) =
        said-more ∙ rw (f, append-nil (keep (is_free marks) c)) in
        heard n untrue-more (s ∙ sym (ap scan_of w))

    -- the first free one
    after-first : is_free marks l ≡ true → keep (is_free marks) c ≡ [] → Looked marks c l (Forces (literal_code l))
    after-first f q =
        let w : say marks (c ++ (l ∷ [])) ≡ forces l = said-more ∙ rw (q, f) in
        heard (λ (k : Forces (literal_code l) ≡ Quiet). cc) untrue-more (sym (ap scan_of w))

    -- a free one behind others that are one literal
    module _ {code : ℕ} (f : is_free marks l ≡ true) (a : Alone code (keep (is_free marks) c)) where
      all-of : (d : List Literal) →
          all (same a.one) (a.more ++ (l ∷ d)) ≡ (eqb (literal_code l) code && all (same a.one) d)
      all-of d = rw (all_append (same a.one) a.more (l ∷ d), a.alike, ← same_code l a.one, a.is)

      after-same : code ≡ literal_code l → Looked marks c l (Forces code)
      after-same q =
          let w : say marks (c ++ (l ∷ [])) ≡ forces a.one = said-more ∙ rw (a.are, f, all-of [], eq-eqb _ _ (sym q)) in
          heard (λ (k : Forces code ≡ Quiet). cc) untrue-more (sym (ap scan_of w ∙ ap Forces a.is))

      after-other : (code ≡ literal_code l → ⊥) → Looked marks c l Quiet
      unfolding say
      after-other q = silent (λ d. rw (
        keep_append (is_free marks) c (l ∷ d),
        a.are,
        f,
        all-of (keep (is_free marks) d),
        ne_eqb _ _ (λ k. q (sym k)),
      ) (go (any (is_true marks) (c ++ (l ∷ d)))))
        where
          go : (b : Bool) → cond {A = Said} b quiet quiet ≡ quiet
          go true = refl
          go false = refl

-- the code's look at a literal, where what was said before may still change
look_is : (marks : List ℕ) (c : List Literal) (l : Literal) → any (is_true marks) c ≡ false → (scan : Scan) →
    (scan ≡ Quiet → ⊥) → scan ≡ scan_of (say marks c) → Looked marks c l (looked marks scan (literal_code l))
unfolding say is_true is_free
look_is marks c l u scan n s =
    let s' : scan ≡ scan_of (say_free (keep (is_free marks) c)) = rw u at s in
    rw (code-parts l).0 (go (get_or marks l.1 0) refl scan n s')
  where
    free-untrue : get_or marks l.1 0 ≡ 0 → is_true marks l ≡ false
    free-untrue q = ne_eqb _ _ (λ k. omega (arith, (wanted-bound l).0))

    by-code : (b : Bool) (first : ℕ) → eqb first (literal_code l) ≡ b → is_true marks l ≡ false →
        is_free marks l ≡ true → Alone first (keep (is_free marks) c) →
        Looked marks c l (cond b (Forces first) Quiet)
    by-code true first q e f a = after-same marks c l u e f a (eqb→eq first (literal_code l) (holds q))
    by-code false first q e f a = after-other marks c l u e f a (λ k. both (eq-eqb first (literal_code l) k) q)

    go : (m : ℕ) → get_or marks l.1 0 ≡ m → (scan : Scan) → (scan ≡ Quiet → ⊥) →
        scan ≡ scan_of (say_free (keep (is_free marks) c)) → Looked marks c l (looked_by m scan (literal_code l))
    go zero q Refuted n s =
        after-first marks c l u (free-untrue q) (eq-eqb _ 0 q) (none-free (keep (is_free marks) c) (sym s))
    go zero q (Forces first) n s =
        by-code (eqb first (literal_code l)) first refl (free-untrue q) (eq-eqb _ 0 q)
        (one-free (keep (is_free marks) c) first (sym s))
    go zero q Quiet n s = absurd (n refl)
    go (suc m) q scan n s = rw (code-parts l).1 (by-mark (eqb (suc m) (wanted l)) refl)
      where
        by-mark : (b : Bool) → eqb (suc m) (wanted l) ≡ b → Looked marks c l (cond b Quiet scan)
        by-mark true r = after-true marks c l u (ap (λ (k : ℕ). eqb k (wanted l)) q ∙ r)
        by-mark false r =
            after-false marks c l u (ap (λ (k : ℕ). eqb k (wanted l)) q ∙ r) n
            (ne_eqb _ 0 (λ z. omega (arith, q))) s

-- ---- the code's loop

-- the literals of a clause read so far: none is true, and what they say
pub record Begun (list : List ℤ) (marks : List ℕ) (start : ℕ) (scan : Scan) (at : ℕ) : Type 0 where
  pub inside : Zeroless list start at
  pub within : at < length list
  pub heard : scan ≡ Quiet → ⊥
  pub untrue : any (is_true marks) (clause_within list start at) ≡ false
  pub says : scan ≡ scan_of (say marks (clause_within list start at))

pub begun-starts : (list : List ℤ) (marks : List ℕ) (start : ℕ) → start < length list →
    Begun list marks start Refuted start
unfolding say
begun-starts list marks start h =
    let e : start - start ≡ 0 = omega arith in
    record {
      inside = zeroless-starts list start (omega arith);
      within = h;
      heard = λ q. cc;
      untrue = rw e;
      says = rw e;
    }

-- a whole clause was read, from its start to its 0, or left where there was nothing more to say
pub record Read (list : List ℤ) (marks : List ℕ) (start : ℕ) (scan : Scan) (end : ℕ) : Type 0 where
  pub next : NextZero list start end
  pub within : end < length list
  pub says : scan ≡ scan_of (say marks (clause_within list start end))

-- the number that is read, whose variable is v
module _ {list : List ℤ} {marks : List ℕ} {start : ℕ} {scan : Scan} {at : ℕ} (b : Begun list marks start scan at)
    (v : ℕ) (e : v ≡ code_of (get_or list at (pos 0)) / 2) where
  -- it ends the clause
  pub closes : v ≡ 0 → Read list marks start scan at
  closes n =
      record {
        next = zero-found _ b.inside b.within refl (variable-none _ v e n);
        within = b.within;
        says = b.says;
      }

  module _ (n : v ≡ 0 → ⊥) where
    abbrev literal : Literal
    literal = literal_of (get_or list at (pos 0))

    not-zero : code_of (get_or list at (pos 0)) ≡ 0 → ⊥
    not-zero = variable-some _ v e n

    -- there is a number more
    pub goes_on : T (ended list) → at + 1 < length list
    goes_on t = one-after list at t b.within not-zero

    module _ {after : Scan} (q : after ≡ looked marks scan (code_of (get_or list at (pos 0)))) where
      looks : Looked marks (clause_within list start at) literal after
      looks =
          rw (q, (coded (get_or list at (pos 0)) _ refl).is)
          (look_is marks (clause_within list start at) literal b.untrue scan b.heard b.says)

      -- there may be more to say
      pub begun-more : T (ended list) → (after ≡ Quiet → ⊥) → Begun list marks start after (at + 1)
      begun-more t h = go after looks h
        where
          go : (s : Scan) → Looked marks (clause_within list start at) literal s → (s ≡ Quiet → ⊥) →
              Begun list marks start s (at + 1)
          go s (silent d) h = absurd (h refl)
          go s (heard k w r) h =
              let g = grown list start at b.inside.above b.within in
              record {
                inside = zeroless-more _ b.inside b.within refl not-zero;
                within = goes_on t;
                heard = h;
                untrue = rw g w;
                says = rw g r;
              }

      -- there is not
      pub read-quiet : after ≡ Quiet → {end : ℕ} → NextZero list (at + 1) end → end < length list →
          Read list marks start after end
      read-quiet h {end} z w = go after looks h
        where
          go : (s : Scan) → Looked marks (clause_within list start at) literal s → s ≡ Quiet →
              Read list marks start s end
          go s (heard k u r) h = absurd (k h)
          go s (silent d) h =
              record {
                next = zero-behind (zeroless-more _ b.inside b.within refl not-zero) z;
                within = w;
                says =
                    sym
                    (ap (λ (c : List Literal). scan_of (say marks c))
                    (split list start at end b.inside.above b.within (omega (arith, z.above)))
                    ∙ ap scan_of (d (clause_within list (at + 1) end)));
              }

-- ---- what a whole clause says

pub said-refuted : (s : Said) → Refuted ≡ scan_of s → s ≡ refuted
said-refuted refuted e = refl
said-refuted quiet e = cc
said-refuted (forces l) e = cc

pub said-quiet : (s : Said) → Quiet ≡ scan_of s → s ≡ quiet
said-quiet refuted e = cc
said-quiet quiet e = refl
said-quiet (forces l) e = cc

-- the free literal that a clause makes true, by its code
pub record Forced (marks : List ℕ) (c : List Literal) (code : ℕ) : Type 0 where
  pub literal : Literal
  pub is : code ≡ literal_code literal
  pub says : say marks c ≡ forces literal
  pub free : T (is_free marks literal)
  pub member : Memᴰ literal c

pub forced_by : (marks : List ℕ) (c : List Literal) (code : ℕ) → Forces code ≡ scan_of (say marks c) →
    Forced marks c code
unfolding say
forced_by marks c code e = go (any (is_true marks) c) (keep (is_free marks) c) refl refl e
  where
    go : (b : Bool) (us : List Literal) → any (is_true marks) c ≡ b → keep (is_free marks) c ≡ us →
        Forces code ≡ scan_of (cond b quiet (say_free us)) → Forced marks c code
    go true us p q e = cc
    go false [] p q e = cc
    go false (u ∷ us) p q e = pick (all (same u) us) refl e
      where
        here : Memᴰ u (keep (is_free marks) c)
        here = subst (λ (x : List Literal). Memᴰ u x) (sym q) (Memᴰ.head refl)

        pick : (b : Bool) → all (same u) us ≡ b → Forces code ≡ scan_of (cond b (forces u) quiet) →
            Forced marks c code
        pick true r e =
            record {
              literal = u;
              is = cc;
              says = rw (p, q, r);
              free = keep-passes (is_free marks) c u here;
              member = keep-within (is_free marks) c u here;
            }
        pick false r e = cc
