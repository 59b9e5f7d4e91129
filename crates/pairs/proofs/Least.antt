-- The computed test `asked` passes exactly the least set: a gate asks only for nodes below its own, so that the gates
-- after it have asked already for all that it passes on. Laws: least-set; is-pair, pair-facts, asked-is-pair,
-- member-is-pair, asked-early, asked-below. Assumes nothing.
use mathlib.Core.Path.{◌≡◌, refl, sym, ap, subst}
use mathlib.Core.Bool.{Bool, not, ◌&&◌}
use mathlib.Core.List.Memᴰ
use mathlib.Core.List.{List, [], ◌∷◌, Memᴰ}
use mathlib.Core.Logic.{◌↔◌, ◌⊎◌, inl, inr}
use Prim.Native.Nat.{ℕ, suc, ◌+◌, ◌-◌, ◌≤◌, ◌<◌}
use native.Mathlib.Omega.{arith}
use lib.Dec.{T, leb, ltb, eqb, eqb→eq, eqb_refl, not_T, leb→le, le→leb, ltb→lt, lt→ltb, nltb→le}
use lib.ListN.{length}
use Rattle.basics.specs.Lists.{any, numbered}
use Rattle.basics.proofs.Truth.{and_left, and_right, and_both, or_left, or_right, or_cases}
use Rattle.basics.proofs.Lists.{any_at, any_of}
use Rattle.netlist.specs.Netlist.{Cell, Pin}
use Rattle.pairs.specs.Pairs.{is_pair, Asked, output, driver, asked}
use Rattle.pairs.proofs.Numbered.{numbered-from, numbered_below}

-- what drives a cell lies below it
abbrev pub Down : ℕ → List Cell → Type 0
Down k cells = (x : ℕ × Cell) → Memᴰ x (numbered k cells) → (p : Pin) → Memᴰ p x.1.pins → p.driver < x.0

-- ---- what a pair is

module _ (I : ℕ) (top : ℕ → ℕ) where
  pub is-pair : (f t : ℕ) → I ≤ f → 0 < t → t ≤ top f → T (is_pair I top f t)
  is-pair f t a b c =
      and_both (not (ltb f I)) (ltb 0 t && leb t (top f))
      (not_T (ltb f I) (λ u. let l = ltb→lt f I u in omega arith))
      (and_both (ltb 0 t) (leb t (top f)) (lt→ltb 0 t b) (le→leb t (top f) c))

  pub pair-facts : (f t : ℕ) → T (is_pair I top f t) → (I ≤ f) × (0 < t) × (t ≤ top f)
  pair-facts f t u =
      let v = and_right (not (ltb f I)) (ltb 0 t && leb t (top f)) u in (
        nltb→le f I (and_left (not (ltb f I)) (ltb 0 t && leb t (top f)) u),
        ltb→lt 0 t (and_left (ltb 0 t) (leb t (top f)) v),
        leb→le t (top f) (and_right (ltb 0 t) (leb t (top f)) v),
      )

-- ---- the test, a gate at a time

module _ (I : ℕ) (top : ℕ → ℕ) (outputs : List ℕ) (target : ℕ) where
  abbrev Is : ℕ → ℕ → Bool
  Is = is_pair I top

  abbrev W : ℕ → List Cell → ℕ → ℕ → Bool
  W = asked I top outputs target

  -- the outputs ask
  abbrev by_output : ℕ → ℕ → Bool
  by_output f t = eqb t target && any (λ o. eqb o f) outputs

  -- a pin of the gate at k asks
  abbrev by_pin : ℕ → List Cell → ℕ → ℕ → Pin → Bool
  by_pin k gs f t p = eqb p.driver f && W (suc k) gs k (t + p.delay)

  -- some pin of the first gate, at k, asks for a pair
  abbrev ByFirst : ℕ → Cell → List Cell → ℕ → ℕ → Type 0
  ByFirst k g gs f t =
      (p : Pin) × Memᴰ p g.pins × (p.driver ≡ f) × T (W (suc k) gs k (t + p.delay)) × T (Is f t)

  -- what is asked for: by the gates after the first, or by a pin of the first
  asked-cases : (k : ℕ) (g : Cell) (gs : List Cell) (f t : ℕ) → T (W k (g ∷ gs) f t) →
      T (W (suc k) gs f t) ⊎ ByFirst k g gs f t
  unfolding asked
  asked-cases k g gs f t u = go (or_cases (W (suc k) gs f t) (Is f t && any (by_pin k gs f t) g.pins) u)
    where
      go : T (W (suc k) gs f t) ⊎ T (Is f t && any (by_pin k gs f t) g.pins) →
          T (W (suc k) gs f t) ⊎ ByFirst k g gs f t
      go (inl v) = inl v
      go (inr v) =
          let w = any_at (by_pin k gs f t) g.pins (and_right (Is f t) (any (by_pin k gs f t) g.pins) v) in
          let p = w.0 in
          inr (
            p,
            w.1,
            eqb→eq p.driver f (and_left (eqb p.driver f) (W (suc k) gs k (t + p.delay)) w.2),
            and_right (eqb p.driver f) (W (suc k) gs k (t + p.delay)) w.2,
            and_left (Is f t) (any (by_pin k gs f t) g.pins) v,
          )

  -- what the gates after the first ask for is asked for
  asked-later : (k : ℕ) (g : Cell) (gs : List Cell) (f t : ℕ) → T (W (suc k) gs f t) → T (W k (g ∷ gs) f t)
  unfolding asked
  asked-later k g gs f t u = or_left (W (suc k) gs f t) (Is f t && any (by_pin k gs f t) g.pins) u

  -- what a pin of the first gate asks for is asked for
  asked-first : (k : ℕ) (g : Cell) (gs : List Cell) (t : ℕ) (p : Pin) → Memᴰ p g.pins →
      T (Is p.driver t) → T (W (suc k) gs k (t + p.delay)) → T (W k (g ∷ gs) p.driver t)
  unfolding asked
  asked-first k g gs t p m i u =
      let f = p.driver in
      or_right (W (suc k) gs f t) (Is f t && any (by_pin k gs f t) g.pins)
      (and_both (Is f t) (any (by_pin k gs f t) g.pins) i
      (any_of (by_pin k gs f t) g.pins p m (and_both (eqb f f) (W (suc k) gs k (t + p.delay)) (eqb_refl f) u)))

  asked-output : (k : ℕ) (gs : List Cell) (f : ℕ) → Memᴰ f outputs → T (Is f target) → T (W k gs f target)
  unfolding asked
  asked-output k [] f m u =
      and_both (Is f target) (by_output f target) u
      (and_both (eqb target target) (any (λ o. eqb o f) outputs) (eqb_refl target)
      (any_of (λ o. eqb o f) outputs f m (eqb_refl f)))
  asked-output k (g ∷ gs) f m u = asked-later k g gs f target (asked-output (suc k) gs f m u)

  -- what is asked for is a pair
  pub asked-is-pair : (k : ℕ) (gs : List Cell) (f t : ℕ) → T (asked I top outputs target k gs f t) →
      T (is_pair I top f t)
  unfolding asked
  asked-is-pair k [] f t u = and_left (Is f t) (by_output f t) u
  asked-is-pair k (g ∷ gs) f t u = go (asked-cases k g gs f t u) (λ v. asked-is-pair (suc k) gs f t v)
    where
      go : T (W (suc k) gs f t) ⊎ ByFirst k g gs f t → (T (W (suc k) gs f t) → T (Is f t)) → T (Is f t)
      go (inl v) r = r v
      go (inr v) r = v.4

  -- ---- a gate asks only for nodes below its own

  asked-stays : (k : ℕ) (g : Cell) (gs : List Cell) (f t : ℕ) → k ≤ f →
      ((p : Pin) → Memᴰ p g.pins → p.driver < k) →
      T (W k (g ∷ gs) f t) → T (W (suc k) gs f t)
  asked-stays k g gs f t h down u = go (asked-cases k g gs f t u)
    where
      go : T (W (suc k) gs f t) ⊎ ByFirst k g gs f t → T (W (suc k) gs f t)
      go (inl v) = v
      go (inr v) = let l = down v.0 v.1 in let e = v.2 in absurd (omega arith)

  -- so that the pins of a node that is asked for ask
  asked-pin : (k : ℕ) (gs : List Cell) → Down k gs →
      (f : ℕ) (g : Cell) → Memᴰ (f, g) (numbered k gs) → (t : ℕ) → T (W k gs f t) →
      (p : Pin) → Memᴰ p g.pins → T (Is p.driver (t - p.delay)) → T (W k gs p.driver (t - p.delay))
  asked-pin k [] down f g m t u p i j = absurd (Memᴰ.not-nil m)
  asked-pin k (h ∷ gs) down f g (Memᴰ.head q) t u p i j =
      let d = pair-facts I top p.driver (t - p.delay) j in
      let e : t ≡ t - p.delay + p.delay = omega (arith, d.1) in
      let here = subst (λ (x : ℕ). T (W k (h ∷ gs) x t)) (ap (λ (x : ℕ × Cell). x.0) q) u in
      let own = subst (λ (x : Cell). Memᴰ p x.pins) (ap (λ (x : ℕ × Cell). x.1) q) i in
      asked-first k h gs (t - p.delay) p own j
      (subst (λ (x : ℕ). T (W (suc k) gs k x)) e
      (asked-stays k h gs k t (omega arith) (down (k, h) (Memᴰ.head refl)) here))
  asked-pin k (h ∷ gs) down f g (Memᴰ.tail m) t u p i j =
      let l = numbered-from (suc k) gs f g m in
      asked-later k h gs p.driver (t - p.delay)
      (asked-pin (suc k) gs (λ x n. down x (Memᴰ.tail n)) f g m t
      (asked-stays k h gs f t (omega arith) (down (k, h) (Memᴰ.head refl)) u) p i j)

  -- ---- both ways

  -- the test passes only what is in the least set
  test-asked : (all-gates : List (ℕ × Cell)) (k : ℕ) (gs : List Cell) →
      ((x : ℕ × Cell) → Memᴰ x (numbered k gs) → Memᴰ x all-gates) →
      (f t : ℕ) → T (W k gs f t) → Asked I top outputs target all-gates f t
  unfolding asked
  test-asked ns k [] sub f t u =
      let v = and_right (Is f t) (by_output f t) u in
      let e = eqb→eq t target (and_left (eqb t target) (any (λ o. eqb o f) outputs) v) in
      let w = any_at (λ o. eqb o f) outputs (and_right (eqb t target) (any (λ o. eqb o f) outputs) v) in
      let m = subst (λ (x : ℕ). Memᴰ x outputs) (eqb→eq w.0 f w.2) w.1 in
      subst (λ (x : ℕ). Asked I top outputs target ns f x) (sym e)
      (output m (subst (λ (x : ℕ). T (Is f x)) e (and_left (Is f t) (by_output f t) u)))
  test-asked ns k (g ∷ gs) sub f t u =
      go (asked-cases k g gs f t u) (λ a b c. test-asked ns (suc k) gs (λ x m. sub x (Memᴰ.tail m)) a b c)
    where
      go : T (W (suc k) gs f t) ⊎ ByFirst k g gs f t →
          ((a b : ℕ) → T (W (suc k) gs a b) → Asked I top outputs target ns a b) → Asked I top outputs target ns f t
      go (inl v) r = r f t v
      go (inr v) r =
          let p = v.0 in
          let e : p.driver ≡ f = v.2 in
          let d : t + p.delay - p.delay ≡ t = omega arith in
          let i = subst (λ (x : ℕ). T (Is x t)) (sym e) v.4 in
          subst (λ (x : ℕ). Asked I top outputs target ns f x) d
          (subst (λ (x : ℕ). Asked I top outputs target ns x (t + p.delay - p.delay)) e
          (driver (sub (k, g) (Memᴰ.head refl)) v.1 (r k (t + p.delay) v.3)
          (subst (λ (x : ℕ). T (Is p.driver x)) (sym d) i)))

  -- and all of it
  asked-test : (gs : List Cell) → Down I gs → (f t : ℕ) →
      Asked I top outputs target (numbered I gs) f t → T (W I gs f t)
  asked-test gs down f t (output m u) = asked-output I gs f m u
  asked-test gs down f t (driver {f = n} {s = r} {g = g} {p = p} m i a u) =
      asked-pin I gs down n g m r (asked-test gs down n r a) p i u

  -- the test passes exactly the least set
  pub least-set : (gates : List Cell) → Down I gates → (f t : ℕ) →
      T (asked I top outputs target I gates f t) ↔ Asked I top outputs target (numbered I gates) f t
  least-set gates down f t = (test-asked (numbered I gates) I gates (λ x m. m) f t, asked-test gates down f t)

  -- a member of the least set is a pair
  pub member-is-pair : (gates : List (ℕ × Cell)) (f t : ℕ) → Asked I top outputs target gates f t →
      T (is_pair I top f t)
  member-is-pair gates f t (output m u) = u
  member-is-pair gates f t (driver m i a u) = u

  -- at the target or before it
  pub asked-early : (gates : List (ℕ × Cell)) (f t : ℕ) → Asked I top outputs target gates f t → t ≤ target
  asked-early gates f t (output m u) = omega arith
  asked-early gates f t (driver {f = n} {s = s} m i a u) = omega (arith, asked-early gates n s a)

  -- and its node is one of the netlist's
  pub asked-below : (gates : List Cell) → Down I gates →
      ((o : ℕ) → Memᴰ o outputs → o < I + length gates) → (f t : ℕ) →
      Asked I top outputs target (numbered I gates) f t → f < I + length gates
  asked-below gates down high f t (output m u) = high f m
  asked-below gates down high f t (driver {f = n} {g = g} {p = p} m i a u) =
      let h = numbered_below I gates n g m in
      let l = down (n, g) m p i in
      omega arith
