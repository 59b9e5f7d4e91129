-- The loops of a test: within a clause, within a list, within a pass, and from pass to pass. Each invariant says
-- that what is left comes to what was to be done at its start. Assumes nothing.
use Rattle.std.proofs.Common.{◌≡◌, refl, sym, ap, ap₂, subst, ◌∙◌, Bool, true, false, cond, List, [], ◌∷◌}
use Rattle.std.proofs.Common.{◌++◌, append-nil, ℕ, zero, suc, ◌+◌, ◌-◌, ◌/◌, ◌%◌, ◌<◌, ◌≤◌, arith, ℤ, length}
use Rattle.std.proofs.Common.{get_or, set, take, drop, replicate, drop_of_length-le, Bor}
use Rattle.clauses.specs.Clauses.{Literal, clauses_from, clauses_of}
use Rattle.refute.specs.Passes.{assign, Said, refuted, quiet, forces, say, Pass, hit, done, pass, refutes}
use Rattle.refute.specs.Passes.{Asserted, contradict, marked, assert, follows}
use Rattle.refute.specs.Reading.{outcome, Within, Stored}
use Rattle.refute.specs.declared.Scan.{Scan}
use Rattle.refute.specs.declared.Scan.TheVariants.{Refuted, Forces, Quiet}
use Rattle.refute.proofs.Marks.{assign-length, nat_of, zeros, zeros-bound, zeros-assign}
use Rattle.refute.proofs.Reading.{within-take, within-drop, literals-within}
use Rattle.refute.proofs.Scanning.{code-parts, Read, said-refuted, said-quiet, Forced, forced_by}
use Rattle.refute.proofs.Walking.{clause_within, next-clause}

-- ---- within a list

-- what is left of the list, whatever clauses come after it; the pass came to the list with `before` and `moved₀`
pub record Visiting (list : List ℤ) (before : List ℕ) (moved₀ : Bool) (marks : List ℕ) (moved : Bool) (i : ℕ) : Type 0
  where
    pub upto : i ≤ length list
    pub long : length marks ≡ length before
    pub fewer : zeros marks + nat_of moved ≤ zeros before + nat_of moved₀
    pub left : (after : List (List Literal)) →
        pass marks moved (clauses_of (drop i list) ++ after) ≡ pass before moved₀ (clauses_of list ++ after)

-- a clause was read
module _ {list : List ℤ} {before : List ℕ} {moved₀ : Bool} {marks : List ℕ} {moved : Bool} {start end : ℕ} {scan : Scan}
    (v : Visiting list before moved₀ marks moved start) (r : Read list marks start scan end) where
  abbrev clause : List Literal
  clause = clause_within list start end

  next : (s : Said) → say marks clause ≡ s → (after : List (List Literal)) →
      elim s [
        | refuted ↦ hit
        | quiet ↦ pass marks moved (clauses_of (drop (end + 1) list) ++ after)
        | forces l ↦ pass (assign marks l) true (clauses_of (drop (end + 1) list) ++ after)
      ]
      ≡ pass before moved₀ (clauses_of list ++ after)
  unfolding pass
  next s e after =
      sym
      (ap (λ (cs : List (List Literal)). pass marks moved (cs ++ after)) (next-clause r.next r.within)
      ∙ ap
      (λ (t : Said).
      elim t [
        | refuted ↦ hit
        | quiet ↦ pass marks moved (clauses_of (drop (end + 1) list) ++ after)
        | forces l ↦ pass (assign marks l) true (clauses_of (drop (end + 1) list) ++ after)
      ])
      e)
      ∙ v.left after

  -- it is false
  pub visiting-hit : scan ≡ Refuted → (after : List (List Literal)) →
      pass before moved₀ (clauses_of list ++ after) ≡ hit
  visiting-hit e after = sym (next refuted (said-refuted (say marks clause) (sym e ∙ r.says)) after)

  -- it says nothing
  pub visiting-quiet : scan ≡ Quiet → Visiting list before moved₀ marks moved (end + 1)
  visiting-quiet e =
      record {
        upto = omega (arith, r.within);
        long = v.long;
        fewer = v.fewer;
        left = next quiet (said-quiet (say marks clause) (sym e ∙ r.says));
      }

  module _ {code : ℕ} (w : Within (length marks) list) (e : scan ≡ Forces code) where
    forced : Forced marks clause code
    forced = forced_by marks clause code (sym e ∙ r.says)

    small : forced.literal.1 < length marks
    small =
        literals-within (length marks) (take (end - start) (drop start list))
        (within-take (length marks) (end - start) (drop start list) (within-drop (length marks) start list w))
        forced.literal forced.member

    -- the mark of its one free literal has a place
    pub unit-within : code / 2 < length marks
    unit-within =
        subst (λ (v : ℕ). v < length marks)
        (sym (ap (λ (y : ℕ). y / 2) forced.is ∙ (code-parts forced.literal).0)) small

    -- that literal becomes true
    pub visiting-unit : {mark : ℕ} → mark ≡ code % 2 + 1 →
        Visiting list before moved₀ (set marks (code / 2) mark) true (end + 1)
    unfolding assign
    visiting-unit {mark} m =
        let o = forced in
        let p = code-parts o.literal in
        let q : set marks (code / 2) mark ≡ assign marks o.literal =
        ap₂ (set marks) (ap (λ (y : ℕ). y / 2) o.is ∙ p.0) (m ∙ ap (λ (y : ℕ). y % 2 + 1) o.is ∙ p.1) in
        subst (λ (after : List ℕ). Visiting list before moved₀ after true (end + 1)) (sym q)
        (record {
          upto = omega (arith, r.within);
          long = assign-length marks o.literal ∙ v.long;
          fewer = omega (arith, zeros-assign marks o.literal small o.free, v.fewer);
          left = next (forces o.literal) o.says;
        })

-- ---- within a pass

-- the two lists: the formula is number 0, the earlier clauses of the refutation number 1
abbrev pub list_at : List ℤ → List ℤ → ℕ → List ℤ
list_at formula earlier zero = formula
list_at formula earlier (suc n) = earlier

pub chosen : (formula earlier other : Bor (List ℤ)) (which : ℕ) → which < 2 →
    (get_or (formula ∷ earlier ∷ []) which other).now ≡ list_at formula.now earlier.now which
chosen formula earlier other zero h = refl
chosen formula earlier other (suc zero) h = refl
chosen formula earlier other (suc (suc n)) h = absurd (omega arith)

pub stored_at : {formula earlier list : List ℤ} {room : ℕ} (which : ℕ) → list ≡ list_at formula earlier which →
    Stored room formula → Stored room earlier → Stored room list
stored_at zero e f g = rw e f
stored_at (suc n) e f g = rw e g

-- the stored clauses from list number `which` on
abbrev pub stored_from : List ℤ → List ℤ → ℕ → List (List Literal)
stored_from formula earlier zero = clauses_of formula ++ clauses_of earlier
stored_from formula earlier (suc zero) = clauses_of earlier
stored_from formula earlier (suc (suc n)) = []

stored_next : (formula earlier : List ℤ) (which : ℕ) → which < 2 →
    stored_from formula earlier which
    ≡ clauses_of (list_at formula earlier which) ++ stored_from formula earlier (which + 1)
stored_next formula earlier zero h = refl
stored_next formula earlier (suc zero) h = sym (append-nil (clauses_of earlier))
stored_next formula earlier (suc (suc n)) h = absurd (omega arith)

-- what is left of a pass that began with `before`
pub record Passing (formula earlier : List ℤ) (before marks : List ℕ) (moved : Bool) (which : ℕ) : Type 0 where
  pub upto : which ≤ 2
  pub long : length marks ≡ length before
  pub fewer : zeros marks + nat_of moved ≤ zeros before
  pub left : pass marks moved (stored_from formula earlier which) ≡ pass before false (stored_from formula earlier 0)

module _ {formula earlier list : List ℤ} {before marks₁ : List ℕ} {moved₁ : Bool} {which : ℕ}
    (p : Passing formula earlier before marks₁ moved₁ which) (w : which < 2)
    (e : list ≡ list_at formula earlier which) where
  whole : pass marks₁ moved₁ (clauses_of list ++ stored_from formula earlier (which + 1))
      ≡ pass before false (stored_from formula earlier 0)
  whole =
      ap (pass marks₁ moved₁)
      (ap (λ (zs : List ℤ). clauses_of zs ++ stored_from formula earlier (which + 1)) e
      ∙ sym (stored_next formula earlier which w))
      ∙ p.left

  -- the list has ended
  pub passing-next : {marks : List ℕ} {moved : Bool} {i : ℕ} → Visiting list marks₁ moved₁ marks moved i →
      length list ≤ i → Passing formula earlier before marks moved (which + 1)
  unfolding clauses_from
  passing-next {marks} {moved} {i} v h =
      record {
        upto = omega arith;
        long = v.long ∙ p.long;
        fewer = omega (arith, v.fewer, p.fewer);
        left =
            sym
            (ap (λ (zs : List ℤ). pass marks moved (clauses_of zs ++ stored_from formula earlier (which + 1)))
            (drop_of_length-le list {i = i} h))
            ∙ v.left (stored_from formula earlier (which + 1))
            ∙ whole;
      }

  -- a clause was false
  pub passing-hit : ((after : List (List Literal)) → pass marks₁ moved₁ (clauses_of list ++ after) ≡ hit) →
      pass before false (stored_from formula earlier 0) ≡ hit
  passing-hit h = sym whole ∙ h (stored_from formula earlier (which + 1))

-- the pass has ended
passed : {formula earlier : List ℤ} {before marks : List ℕ} {moved : Bool} {which : ℕ} →
    Passing formula earlier before marks moved which → 2 ≤ which →
    pass before false (stored_from formula earlier 0) ≡ done marks moved
unfolding pass
passed {formula} {earlier} {before} {marks} {moved} {which} p h = go which h p.left
  where
    go : (n : ℕ) → 2 ≤ n →
        pass marks moved (stored_from formula earlier n) ≡ pass before false (stored_from formula earlier 0) →
        pass before false (stored_from formula earlier 0) ≡ done marks moved
    go zero h e = absurd (omega arith)
    go (suc zero) h e = absurd (omega arith)
    go (suc (suc n)) h e = sym e

-- ---- from pass to pass

-- what is left of the passes that began with `before`
pub record Running (formula earlier : List ℤ) (before marks : List ℕ) : Type 0 where
  pub long : length marks ≡ length before
  pub fuel : ℕ
  pub enough : zeros marks < fuel
  pub left : refutes fuel marks (stored_from formula earlier 0)
      ≡ refutes (suc (length before)) before (stored_from formula earlier 0)

pub running-starts : (formula earlier : List ℤ) (marks : List ℕ) → Running formula earlier marks marks
running-starts formula earlier marks =
    record { long = refl; fuel = suc (length marks); enough = omega (arith, zeros-bound marks); left = refl }

refutes-by : (n : ℕ) (marks : List ℕ) (stored : List (List Literal)) (p : Pass) → pass marks false stored ≡ p →
    refutes (suc n) marks stored
    ≡ elim p [ hit ↦ true | done after moved ↦ cond moved (refutes n after stored) false ]
unfolding refutes
refutes-by n marks stored p e =
    ap (λ (q : Pass). elim q [ hit ↦ true | done after moved ↦ cond moved (refutes n after stored) false ]) e

-- a pass that made a mark
pub running_more : {formula earlier : List ℤ} {before marks₁ marks : List ℕ} {moved : Bool} {which : ℕ} →
    Running formula earlier before marks₁ → Passing formula earlier marks₁ marks moved which → 2 ≤ which →
    moved ≡ true → Running formula earlier before marks
running_more {formula} {earlier} {before} {marks₁} {marks} {moved} r p h e = go r.fuel r.enough r.left
  where
    go : (n : ℕ) → zeros marks₁ < n →
        refutes n marks₁ (stored_from formula earlier 0)
        ≡ refutes (suc (length before)) before (stored_from formula earlier 0) → Running formula earlier before marks
    go zero k l = absurd (omega arith)
    go (suc n) k l =
        let w : zeros marks + 1 ≤ zeros marks₁ =
        subst (λ (t : Bool). zeros marks + nat_of t ≤ zeros marks₁) e p.fewer in
        record {
          long = p.long ∙ r.long;
          fuel = n;
          enough = omega arith;
          left =
              sym
              (refutes-by n marks₁ (stored_from formula earlier 0) (done marks moved) (passed p h)
              ∙ ap (λ (b : Bool). cond b (refutes n marks (stored_from formula earlier 0)) false) e)
              ∙ l;
        }

-- a pass that made none
pub still-ends : {formula earlier : List ℤ} {before marks₁ marks : List ℕ} {moved : Bool} {which : ℕ} →
    Running formula earlier before marks₁ → Passing formula earlier marks₁ marks moved which → 2 ≤ which →
    moved ≡ false → refutes (suc (length before)) before (stored_from formula earlier 0) ≡ false
still-ends {formula} {earlier} {before} {marks₁} {marks} {moved} r p h e = go r.fuel r.enough r.left
  where
    go : (n : ℕ) → zeros marks₁ < n →
        refutes n marks₁ (stored_from formula earlier 0)
        ≡ refutes (suc (length before)) before (stored_from formula earlier 0) →
        refutes (suc (length before)) before (stored_from formula earlier 0) ≡ false
    go zero k l = absurd (omega arith)
    go (suc n) k l =
        sym l
        ∙ refutes-by n marks₁ (stored_from formula earlier 0) (done marks moved) (passed p h)
        ∙ ap (λ (b : Bool). cond b (refutes n marks (stored_from formula earlier 0)) false) e

-- a pass that met a false clause
pub hit-ends : {formula earlier : List ℤ} {before marks₁ : List ℕ} → Running formula earlier before marks₁ →
    pass marks₁ false (stored_from formula earlier 0) ≡ hit →
    refutes (suc (length before)) before (stored_from formula earlier 0) ≡ true
hit-ends {formula} {earlier} {before} {marks₁} r e = go r.fuel r.enough r.left
  where
    go : (n : ℕ) → zeros marks₁ < n →
        refutes n marks₁ (stored_from formula earlier 0)
        ≡ refutes (suc (length before)) before (stored_from formula earlier 0) →
        refutes (suc (length before)) before (stored_from formula earlier 0) ≡ true
    go zero k l = absurd (omega arith)
    go (suc n) k l = sym l ∙ refutes-by n marks₁ (stored_from formula earlier 0) hit e

-- ---- the answer

follows_by : (marks : List ℕ) (stored : List (List Literal)) (c : List Literal) (a : Asserted) →
    marks ≡ replicate (length marks) 0 → assert marks c ≡ a →
    follows (length marks) stored c
    ≡ elim a [ contradict ↦ true | marked after ↦ refutes (suc (length after)) after stored ]
unfolding follows
follows_by marks stored c a z e =
    ap
    (λ (q : Asserted). elim q [ contradict ↦ true | marked after ↦ refutes (suc (length after)) after stored ])
    (ap (λ (m : List ℕ). assert m c) (sym z) ∙ e)

pub follows-clash : (marks : List ℕ) (stored : List (List Literal)) (c : List Literal) (after : List ℕ) (r : Bool) →
    marks ≡ replicate (length marks) 0 → assert marks c ≡ outcome r after → r ≡ true →
    true ≡ follows (length marks) stored c
unfolding outcome
follows-clash marks stored c after r z e t =
    sym (follows_by marks stored c contradict z (e ∙ ap (λ (b : Bool). outcome b after) t))

pub follows-passes : (marks : List ℕ) (formula earlier : List ℤ) (c : List Literal) (after : List ℕ) (r answer : Bool) →
    marks ≡ replicate (length marks) 0 → assert marks c ≡ outcome r after → r ≡ false →
    refutes (suc (length after)) after (stored_from formula earlier 0) ≡ answer →
    answer ≡ follows (length marks) (clauses_of formula ++ clauses_of earlier) c
unfolding outcome
follows-passes marks formula earlier c after r answer z e f w =
    sym
    (follows_by marks (clauses_of formula ++ clauses_of earlier) c (marked after) z
    (e ∙ ap (λ (b : Bool). outcome b after) f)
    ∙ w)
