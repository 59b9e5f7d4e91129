-- The passes say what the order-free rule says. All that they make true is forced; and where a pass makes no mark and
-- meets no false clause, what is true is closed under the rule, so nothing more is forced. Assumes nothing.
use Rattle.std.proofs.Common.{◌≡◌, refl, sym, ap, subst, ◌∙◌, Bool, true, false, cond, List, [], ◌∷◌, ◌++◌}
use Rattle.std.proofs.Common.{append-nil, append_assoc, ◌↔◌, ◌⊎◌, inl, inr, ◌≢◌, ⊎_elim, ℕ, zero, suc, ◌+◌}
use Rattle.std.proofs.Common.{◌<◌, ◌≤◌, arith, T, length, replicate}
use mathlib.Core.List.Memᴰ
use mathlib.Core.List.{Memᴰ}
use lib.ListN.{length-replicate}
use Rattle.basics.specs.Lists.{any, all, keep}
use Rattle.basics.proofs.Truth.{decide, holds}
use Rattle.basics.proofs.Lists.{any_at, any_of, all-at, all_of, mem-map, map-mem, keep-in, keep-passes}
use Rattle.basics.proofs.Lists.{keep-within}
use Rattle.clauses.specs.Clauses.{Literal, opposite}
use Rattle.refute.specs.Propagation.{assertions, Forced, given, unit, Follows, clash, conflict, Verdict}
use Rattle.refute.specs.Propagation.{passes, stops, Judged}
use Rattle.refute.specs.Passes.{same, is_true, is_free, assign, Said, refuted, quiet, forces, say_free, say}
use Rattle.refute.specs.Passes.{Pass, hit, done, pass, refutes, Asserted, contradict, marked, assert, follows}
use Rattle.refute.specs.Passes.{next, verdict}
use Rattle.refute.proofs.Marks.{both, same-is, same-itself, same_or_not, opposite-twice, not-both}
use Rattle.refute.proofs.Marks.{free-not-false, Tidy, denied, assign-length, assign-tidy, assign-cases}
use Rattle.refute.proofs.Marks.{assign-keeps, assign-there, nat_of, zeros, zeros-bound, zeros-assign}
use Rattle.refute.proofs.Marks.{zeros-tidy, zeros-none}

-- ---- what a clause says

-- a clause forces a literal: one of its own, and free; its others are false
pub record Forces (marks : List ℕ) (c : List Literal) (l : Literal) : Type 0 where
  pub member : Memᴰ l c
  pub free : T (is_free marks l)
  pub others : (m : Literal) → Memᴰ m c → m ≢ l → T (is_true marks (opposite m))

-- a quiet clause: some literal is not false; and if that is the only one, it is true
pub record Quiet (marks : List ℕ) (c : List Literal) : Type 0 where
  pub one : Literal
  pub member : Memᴰ one c
  pub live : T (is_true marks (opposite one)) → ⊥
  pub lone : ((m : Literal) → Memᴰ m c → (T (is_true marks (opposite m)) → ⊥) → m ≡ one) → T (is_true marks one)

abbrev Says : List ℕ → List Literal → Said → Type 0
Says marks c refuted = (m : Literal) → Memᴰ m c → T (is_true marks (opposite m))
Says marks c (forces l) = Forces marks c l
Says marks c quiet = Quiet marks c

module _ (marks : List ℕ) (tidy : Tidy marks) (c : List Literal) where
  -- where none is true, a literal that is not among the free ones is false
  false-or-free : (any (is_true marks) c ≡ false) → (m : Literal) → Memᴰ m c →
      (Memᴰ m (keep (is_free marks) c) → ⊥) → T (is_true marks (opposite m))
  false-or-free e m i n =
      denied marks tidy m (λ t. subst T e (any_of (is_true marks) c m i t)) (λ f. n (keep-in (is_free marks) c m i f))

  say-free : (any (is_true marks) c ≡ false) → (free : List Literal) → keep (is_free marks) c ≡ free →
      Says marks c (say_free free)
  say-free e [] q = λ m i.
      false-or-free e m i (λ j. Memᴰ.not-nil (subst (λ (x : List Literal). Memᴰ m x) q j))
  say-free e (u ∷ us) q = go (all (same u) us) refl
    where
      here : Memᴰ u (keep (is_free marks) c)
      here = subst (λ (x : List Literal). Memᴰ u x) (sym q) (Memᴰ.head refl)

      within : (m : Literal) → Memᴰ m us → Memᴰ m (keep (is_free marks) c)
      within m i = subst (λ (x : List Literal). Memᴰ m x) (sym q) (Memᴰ.tail i)

      go : (b : Bool) → all (same u) us ≡ b → Says marks c (cond b (forces u) quiet)
      go true f =
          record {
            member = keep-within (is_free marks) c u here;
            free = keep-passes (is_free marks) c u here;
            others = λ m i n.
                false-or-free e m i (λ j. n (which m (subst (λ (x : List Literal). Memᴰ m x) q j)));
          }
        where
          which : (m : Literal) → Memᴰ m (u ∷ us) → m ≡ u
          which m (Memᴰ.head p) = p
          which m (Memᴰ.tail i) = sym (same-is u m (all-at (same u) us (holds f) m i))
      go false f =
          record {
            one = u;
            member = keep-within (is_free marks) c u here;
            live = free-not-false marks u (keep-passes (is_free marks) c u here);
            lone = λ h.
                absurd
                (subst T f
                (all_of (same u) us
                (λ m i.
                let j = within m i in
                subst (λ x. T (same u x))
                (sym
                (h m (keep-within (is_free marks) c m j)
                (free-not-false marks m (keep-passes (is_free marks) c m j))))
                (same-itself u))));
          }

  says : Says marks c (say marks c)
  unfolding say
  says = go (any (is_true marks) c) refl
    where
      go : (b : Bool) → any (is_true marks) c ≡ b →
          Says marks c (cond b quiet (say_free (keep (is_free marks) c)))
      go false e = say-free e (keep (is_free marks) c) refl
      go true e =
          let w = any_at (is_true marks) c (holds e) in
          record { one = w.0; member = w.1; live = not-both marks w.0 w.2; lone = λ h. w.2 }

-- ---- what the passes make true is forced

module _ (stored : List (List Literal)) (asserted : List Literal) where
  abbrev Sound : List ℕ → Type 0
  Sound marks = (l : Literal) → T (is_true marks l) → Forced stored asserted l

  -- a stored clause has every literal false
  abbrev pub Conflict : Type 0
  Conflict =
      (c : List Literal) × Memᴰ c stored ×
      ((m : Literal) → Memᴰ m c → Forced stored asserted (opposite m))

  abbrev Good : Pass → Type 0
  Good hit = Conflict
  Good (done marks moved) = Tidy marks × Sound marks

  pass-good : (cs : List (List Literal)) → ((c : List Literal) → Memᴰ c cs → Memᴰ c stored) →
      (marks : List ℕ) (moved : Bool) → Tidy marks → Sound marks → Good (pass marks moved cs)
  unfolding pass
  pass-good [] sub marks moved tidy sound = (tidy, sound)
  pass-good (c ∷ cs) sub marks moved tidy sound =
      go (say marks c) (says marks tidy c) (λ a m t s. pass-good cs (λ d i. sub d (Memᴰ.tail i)) a m t s)
    where
      here : Memᴰ c stored
      here = sub c (Memᴰ.head refl)

      go : (k : Said) → Says marks c k →
          ((a : List ℕ) (m : Bool) → Tidy a → Sound a → Good (pass a m cs)) →
          Good
          (elim k [
            | refuted ↦ hit
            | quiet ↦ pass marks moved cs
            | forces l ↦ pass (assign marks l) true cs
          ])
      go refuted h rest = (c, here, λ m i. sound (opposite m) (h m i))
      go quiet h rest = rest marks moved tidy sound
      go (forces l) h rest =
          rest (assign marks l) true (assign-tidy marks l tidy)
          (λ m t.
          ⊎_elim
          (λ e.
          subst (λ x. Forced stored asserted x) (sym e)
          (unit c here h.member (λ k i n. sound (opposite k) (h.others k i n))))
          (λ u. sound m u) (assign-cases marks l m t))

  refutes-good : (n : ℕ) (marks : List ℕ) → Tidy marks → Sound marks → T (refutes n marks stored) → Conflict
  unfolding refutes
  refutes-good zero marks tidy sound t = absurd t
  refutes-good (suc n) marks tidy sound t =
      go (pass marks false stored) (pass-good stored (λ c i. i) marks false tidy sound) t
      (λ a g s u. refutes-good n a g s u)
    where
      go : (k : Pass) → Good k →
          T (elim k [ hit ↦ true | done after moved ↦ cond moved (refutes n after stored) false ]) →
          ((a : List ℕ) → Tidy a → Sound a → T (refutes n a stored) → Conflict) → Conflict
      go hit g t rest = g
      go (done after true) g t rest = rest after g.0 g.1 t
      go (done after false) g t rest = absurd t

  -- ---- where they end, nothing more is forced

  abbrev Holds : List ℕ → Type 0
  Holds marks = (l : Literal) → Memᴰ l asserted → T (is_true marks l)

  module _ (marks : List ℕ) (asserts : Holds marks)
      (calm : (c : List Literal) → Memᴰ c stored → Quiet marks c) where
    forced-true : (l : Literal) → Forced stored asserted l → T (is_true marks l)
    forced-true l (given m) = asserts l m
    forced-true l (unit c i j others) =
        pick (same_or_not (calm c i).one l) (λ m k n. forced-true (opposite m) (others m k n))
      where
        pick : ((calm c i).one ≡ l) ⊎ ((calm c i).one ≢ l) →
            ((m : Literal) → Memᴰ m c → m ≢ l → T (is_true marks (opposite m))) → T (is_true marks l)
        pick (inr n) ih = absurd ((calm c i).live (ih (calm c i).one (calm c i).member n))
        pick (inl e) ih =
            subst (λ x. T (is_true marks x)) e
            ((calm c i).lone (λ m k n. ⊎_elim (λ p. p ∙ sym e) (λ p. absurd (n (ih m k p))) (same_or_not m l)))

    no-conflict : Conflict → ⊥
    no-conflict f =
        let q = calm f.0 f.1 in
        q.live (forced-true (opposite q.one) (f.2 q.one q.member))

  -- what a pass that meets no false clause leaves
  record Left (cs : List (List Literal)) (marks : List ℕ) (moved : Bool) (after : List ℕ) (moved' : Bool) : Type 0 where
    long : length after ≡ length marks
    tidy : Tidy after
    keeps : (l : Literal) → T (is_true marks l) → T (is_true after l)
    fewer : zeros after + nat_of moved' ≤ zeros marks + nat_of moved
    still : moved' ≡ false → (moved ≡ false) × ((c : List Literal) → Memᴰ c cs → Quiet marks c)

  abbrev Ends : List (List Literal) → List ℕ → Bool → Pass → Type 0
  Ends cs marks moved hit = Unit {0}
  Ends cs marks moved (done after moved') = Left cs marks moved after moved'

  -- every literal has a mark
  abbrev pub Fits : List (List Literal) → List ℕ → Type 0
  Fits cs marks = (c : List Literal) → Memᴰ c cs → (l : Literal) → Memᴰ l c → l.1 < length marks

  pass-ends : (cs : List (List Literal)) (marks : List ℕ) (moved : Bool) → Fits cs marks → Tidy marks →
      Ends cs marks moved (pass marks moved cs)
  unfolding pass
  pass-ends [] marks moved fits tidy =
      record {
        long = refl;
        tidy = tidy;
        keeps = λ l t. t;
        fewer = omega arith;
        still = λ e. (e, λ c i. absurd (Memᴰ.not-nil i));
      }
  pass-ends (c ∷ cs) marks moved fits tidy =
      go (say marks c) (says marks tidy c) (λ a m f t. pass-ends cs a m f t)
    where
      rest-fits : Fits cs marks
      rest-fits d i = fits d (Memᴰ.tail i)

      go : (k : Said) → Says marks c k →
          ((a : List ℕ) (m : Bool) → Fits cs a → Tidy a → Ends cs a m (pass a m cs)) →
          Ends (c ∷ cs) marks moved
          (elim k [
            | refuted ↦ hit
            | quiet ↦ pass marks moved cs
            | forces l ↦ pass (assign marks l) true cs
          ])
      go refuted h rest = tt
      go quiet h rest = next (pass marks moved cs) (rest marks moved rest-fits tidy)
        where
          next : (k : Pass) → Ends cs marks moved k → Ends (c ∷ cs) marks moved k
          next hit e = tt
          next (done after moved') e =
              record {
                long = e.long;
                tidy = e.tidy;
                keeps = e.keeps;
                fewer = e.fewer;
                still = λ q. ((e.still q).0, which (e.still q).1);
              }
            where
              which : ((d : List Literal) → Memᴰ d cs → Quiet marks d) → (d : List Literal) →
                  Memᴰ d (c ∷ cs) → Quiet marks d
              which r d (Memᴰ.head p) = subst (λ x. Quiet marks x) (sym p) h
              which r d (Memᴰ.tail i) = r d i
      go (forces l) h rest =
          next (pass (assign marks l) true cs)
          (rest (assign marks l) true
          (λ d i m j. subst (λ (n : ℕ). m.1 < n) (sym (assign-length marks l)) (rest-fits d i m j))
          (assign-tidy marks l tidy))
        where
          down : zeros (assign marks l) + 1 ≡ zeros marks
          down = zeros-assign marks l (fits c (Memᴰ.head refl) l h.member) h.free

          next : (k : Pass) → Ends cs (assign marks l) true k → Ends (c ∷ cs) marks moved k
          next hit e = tt
          next (done after moved') e =
              record {
                long = e.long ∙ assign-length marks l;
                tidy = e.tidy;
                keeps = λ m t. e.keeps m (assign-keeps marks l (free-not-false marks l h.free) m t);
                fewer = let d = down in let f = e.fewer in omega arith;
                still = λ q. both refl (e.still q).0;
              }

  refutes-ends : (n : ℕ) (marks : List ℕ) → Fits stored marks → Tidy marks → Holds marks → zeros marks < n →
      (T (refutes n marks stored) → ⊥) → Conflict → ⊥
  unfolding refutes
  refutes-ends zero marks fits tidy asserts h t = absurd (omega arith)
  refutes-ends (suc n) marks fits tidy asserts h t =
      go (pass marks false stored) (pass-ends stored marks false fits tidy) t
      (λ a f d b l u. refutes-ends n a f d b l u)
    where
      go : (k : Pass) → Ends stored marks false k →
          (T (elim k [ hit ↦ true | done after moved ↦ cond moved (refutes n after stored) false ]) → ⊥) →
          ((a : List ℕ) → Fits stored a → Tidy a → Holds a → zeros a < n →
          (T (refutes n a stored) → ⊥) → Conflict → ⊥) →
          Conflict → ⊥
      go hit e u rest f = u tt
      go (done after true) e u rest f =
          rest after (λ c i l j. subst (λ (k : ℕ). l.1 < k) (sym e.long) (fits c i l j)) e.tidy
          (λ l i. e.keeps l (asserts l i)) (let w = e.fewer in omega arith) u f
      go (done after false) e u rest f = no-conflict marks asserts (e.still refl).1 f

-- ---- the assertions

-- the marks that hold the opposite of each literal of a list, and nothing else
pub record Marks (asserted : List Literal) (marks : List ℕ) : Type 0 where
  pub tidy : Tidy marks
  pub only : (l : Literal) → T (is_true marks l) → Memᴰ l asserted
  pub each : (l : Literal) → Memᴰ l asserted → T (is_true marks l)

abbrev Told : List Literal → List ℕ → Asserted → Type 0
Told c before contradict = (l : Literal) × Memᴰ l (assertions c) × Memᴰ (opposite l) (assertions c)
Told c before (marked after) = Marks (assertions c) after × (length after ≡ length before)

-- one assertion more
marks-more : (before : List Literal) (marks : List ℕ) (l : Literal) → Marks (assertions before) marks →
    (T (is_true marks l) → ⊥) → l.1 < length marks →
    Marks (assertions (before ++ (l ∷ []))) (assign marks (opposite l))
marks-more before marks l k n h =
    record {
      tidy = assign-tidy marks (opposite l) k.tidy;
      only = λ m t.
          ⊎_elim
          (λ e.
          subst (λ x. Memᴰ x (assertions (before ++ (l ∷ [])))) (sym e)
          (mem-map opposite (before ++ (l ∷ [])) l (Memᴰ.append_right before (Memᴰ.head refl))))
          (λ u. widened m (k.only m u)) (assign-cases marks (opposite l) m t);
      each = λ m i.
          let w = map-mem opposite (before ++ (l ∷ [])) m i in
          ⊎_elim
          (λ j.
          assign-keeps marks (opposite l) (λ t. n (subst (λ x. T (is_true marks x)) (opposite-twice l) t)) m
          (k.each m (subst (λ x. Memᴰ x (assertions before)) (sym w.2) (mem-map opposite before w.0 j))))
          (λ j.
          subst (λ x. T (is_true (assign marks (opposite l)) x))
          (sym (w.2 ∙ ap opposite (Memᴰ.eq_of_singleton j)))
          (assign-there marks (opposite l) h)) (Memᴰ.append_cases before w.1);
    }
  where
    widened : (m : Literal) → Memᴰ m (assertions before) → Memᴰ m (assertions (before ++ (l ∷ [])))
    widened m i =
        let w = map-mem opposite before m i in
        subst (λ x. Memᴰ x (assertions (before ++ (l ∷ [])))) (sym w.2)
        (mem-map opposite (before ++ (l ∷ [])) w.0 (Memᴰ.append_left (l ∷ []) w.1))

assert-told : (whole rest before : List Literal) (marks : List ℕ) → before ++ rest ≡ whole →
    Marks (assertions before) marks → ((l : Literal) → Memᴰ l rest → l.1 < length marks) →
    Told whole marks (assert marks rest)
unfolding assert
assert-told whole [] before marks e k h =
    (subst (λ x. Marks (assertions x) marks) (sym (append-nil before) ∙ e) k, refl)
assert-told whole (l ∷ rest) before marks e k h =
    go (is_true marks l) refl (λ b a q m f. assert-told whole rest b a q m f)
  where
    go : (b : Bool) → is_true marks l ≡ b →
        ((b : List Literal) (a : List ℕ) → b ++ rest ≡ whole → Marks (assertions b) a →
        ((m : Literal) → Memᴰ m rest → m.1 < length a) → Told whole a (assert a rest)) →
        Told whole marks (cond b contradict (assert (assign marks (opposite l)) rest))
    go true t ih =
        let w = map-mem opposite before l (k.only l (holds t)) in (
          l,
          subst (λ x. Memᴰ x (assertions whole)) (sym w.2)
              (mem-map opposite whole w.0
              (subst (λ (x : List Literal). Memᴰ w.0 x) e (Memᴰ.append_left (l ∷ rest) w.1))),
          mem-map opposite whole l
              (subst (λ (x : List Literal). Memᴰ l x) e (Memᴰ.append_right before (Memᴰ.head refl))),
        )
    go false t ih =
        as_long
        (assert (assign marks (opposite l)) rest)
        (ih (before ++ (l ∷ [])) (assign marks (opposite l)) (append_assoc before (l ∷ []) rest ∙ e)
        (marks-more before marks l k (λ u. subst T t u) (h l (Memᴰ.head refl)))
        (λ m i.
        subst (λ (n : ℕ). m.1 < n) (sym (assign-length marks (opposite l))) (h m (Memᴰ.tail i))))
      where
        as_long : (a : Asserted) → Told whole (assign marks (opposite l)) a → Told whole marks a
        as_long contradict w = w
        as_long (marked after) w = (w.0, w.1 ∙ assign-length marks (opposite l))

no-marks : (n : ℕ) → Marks [] (replicate n 0)
no-marks n =
    record {
      tidy = zeros-tidy n;
      only = λ l t. absurd (zeros-none n l t);
      each = λ l i. absurd (Memᴰ.not-nil i);
    }

-- ---- the verdict is the order-free one

-- every variable has a mark
abbrev pub Small : ℕ → List (List Literal) → Type 0
Small room cs = (c : List Literal) → Memᴰ c cs → (l : Literal) → Memᴰ l c → l.1 < room

module _ (room : ℕ) (stored : List (List Literal)) (c : List Literal) (small : Small room stored)
    (few : (l : Literal) → Memᴰ l c → l.1 < room) where
  start : Told c (replicate room 0) (assert (replicate room 0) c)
  start =
      assert-told c c [] (replicate room 0) refl (no-marks room)
      (λ l i. omega (arith, few l i, length-replicate {A = ℕ} room 0))

  pub follows_is : T (follows room stored c) ↔ Follows stored c
  unfolding follows
  follows_is = go (assert (replicate room 0) c) start
    where
      go : (a : Asserted) → Told c (replicate room 0) a →
          T (elim a [ contradict ↦ true | marked marks ↦ refutes (suc (length marks)) marks stored ]) ↔ Follows stored c
      go contradict k = ((λ t. clash k.1 k.2), (λ f. tt))
      go (marked marks) k = (to, of)
        where
          to : T (refutes (suc (length marks)) marks stored) → Follows stored c
          to t =
              let w =
              refutes-good stored (assertions c) (suc (length marks)) marks k.0.tidy
              (λ l u. given (k.0.only l u)) t in
              conflict w.0 w.1 w.2

          fits : Fits stored (assertions c) stored marks
          fits d i l j = omega (arith, small d i l j, k.1, length-replicate {A = ℕ} room 0)

          of : Follows stored c → T (refutes (suc (length marks)) marks stored)
          of (clash {l = l} i j) = absurd (not-both marks l (k.0.each l i) (k.0.each (opposite l) j))
          of (conflict d i r) =
              ⊎_elim (λ t. t)
              (λ n.
              absurd
              (refutes-ends stored (assertions c) (suc (length marks)) marks fits k.0.tidy k.0.each
              (omega (arith, zeros-bound marks)) n (d, i, r)))
              (decide (refutes (suc (length marks)) marks stored))

-- the computed verdict is the verdict
pub verdict-is : (room : ℕ) (refutation stored : List (List Literal)) → Small room stored →
    Small room refutation → Judged stored refutation (verdict room stored refutation)
unfolding Judged verdict
verdict-is room [] stored s r = tt
verdict-is room (c ∷ cs) stored s r =
    go (follows room stored c) refl (verdict room (stored ++ (c ∷ [])) cs)
    (verdict-is room cs (stored ++ (c ∷ [])) more (λ d i. r d (Memᴰ.tail i)))
  where
    more : Small room (stored ++ (c ∷ []))
    more d i l j =
        ⊎_elim (λ k. s d k l j)
        (λ k.
        r c (Memᴰ.head refl) l
        (subst (λ (x : List Literal). Memᴰ l x) (Memᴰ.eq_of_singleton k) j))
        (Memᴰ.append_cases stored i)

    rule : T (follows room stored c) ↔ Follows stored c
    rule = follows_is room stored c s (λ l i. r c (Memᴰ.head refl) l i)

    go : (b : Bool) → follows room stored c ≡ b → (v : Verdict) → Judged (stored ++ (c ∷ [])) cs v →
        Judged stored (c ∷ cs) (cond b (next v) (stops 0))
    go true e passes j = (rule.0 (holds e), j)
    go true e (stops i) j = (rule.0 (holds e), j)
    go false e v j = λ f. subst T e (rule.1 f)
