-- A gate settles when its last pin is ready, or earlier when a controlling cube that holds is ready: one argument for
-- all kinds, since the pins of a cube are pins of the gate, so that no cube is ready after the last pin. Laws:
-- cube-pin, settles-cubes, settles-last, last_within. Assumes nothing.
use mathlib.Core.Path.{◌≡◌, refl, sym, ap, ◌∙◌, subst}
use mathlib.Core.Bool.{Bool, true, false, cond}
use mathlib.Core.List.Memᴰ
use mathlib.Core.List.{List, [], ◌∷◌, map, Memᴰ}
use Prim.Native.Nat.{ℕ, ◌≤◌, min}
use native.Mathlib.Omega.{arith}
use Rattle.basics.specs.Lists.{keep}
use Rattle.basics.proofs.Lists.{map-mem, keep-within}
use Rattle.netlist.specs.declared.Kind.{Kind}
use Rattle.netlist.specs.declared.Kind.TheVariants.{Simple, Parity, Mux}
use Rattle.settle.specs.Settling.{Cube, cubes, cube_holds, cube_ready, last, first, first_or, settles}
use Rattle.settle.specs.Cubes.{earliest}

-- ---- the pins of a cube are pins of the gate

-- of a cube of one literal, and of two
module _ {P : Type 0} {ps : List P} {l : P × Bool} where
  one-pin : {p : P} {u : Bool} → Memᴰ p ps → Memᴰ l ((p, u) ∷ []) → Memᴰ l.0 ps
  one-pin n (Memᴰ.head e) = subst (λ q. Memᴰ q ps) (sym (ap (λ x. x.0) e)) n
  one-pin n (Memᴰ.tail e) = absurd (Memᴰ.not-nil e)

  two-pins : {p q : P} {u v : Bool} → Memᴰ p ps → Memᴰ q ps → Memᴰ l ((p, u) ∷ (q, v) ∷ []) →
      Memᴰ l.0 ps
  two-pins n m (Memᴰ.head e) = subst (λ q. Memᴰ q ps) (sym (ap (λ x. x.0) e)) n
  two-pins n m (Memᴰ.tail i) = one-pin m i

pub cube-pin : {P : Type 0} (kind : Kind) (ps : List P) (cube : Cube P) → Memᴰ cube (cubes kind ps) →
    (l : P × Bool) → Memᴰ l cube → Memᴰ l.0 ps
cube-pin (Simple c k) ps cube m l i =
    let w = map-mem (λ p. (p, c) ∷ []) ps cube m in one-pin w.1 (subst (λ d. Memᴰ l d) w.2 i)
cube-pin (Parity equal) ps cube m l i = absurd (Memᴰ.not-nil m)
cube-pin Mux [] cube m l i = absurd (Memᴰ.not-nil m)
cube-pin Mux (select ∷ []) cube m l i = absurd (Memᴰ.not-nil m)
cube-pin Mux (select ∷ a ∷ []) cube m l i = absurd (Memᴰ.not-nil m)
cube-pin {P} Mux (select ∷ a ∷ b ∷ ps) cube m l i = go m
  where
    s-pin : Memᴰ select (select ∷ a ∷ b ∷ ps)
    s-pin = Memᴰ.head refl

    a-pin : Memᴰ a (select ∷ a ∷ b ∷ ps)
    a-pin = Memᴰ.tail (Memᴰ.head refl)

    b-pin : Memᴰ b (select ∷ a ∷ b ∷ ps)
    b-pin = Memᴰ.tail (Memᴰ.tail (Memᴰ.head refl))

    two : (p q : P) (u v : Bool) → Memᴰ p (select ∷ a ∷ b ∷ ps) → Memᴰ q (select ∷ a ∷ b ∷ ps) → cube ≡
        (p, u) ∷ (q, v) ∷ [] →
        Memᴰ l.0 (select ∷ a ∷ b ∷ ps)
    two p q u v n o e = two-pins n o (subst (λ d. Memᴰ l d) e i)

    go : Memᴰ cube (cubes Mux (select ∷ a ∷ b ∷ ps)) → Memᴰ l.0 (select ∷ a ∷ b ∷ ps)
    go (Memᴰ.head e) = two select a false false s-pin a-pin e
    go (Memᴰ.tail (Memᴰ.head e)) = two select a false true s-pin a-pin e
    go (Memᴰ.tail (Memᴰ.tail (Memᴰ.head e))) = two select b true false s-pin b-pin e
    go (Memᴰ.tail (Memᴰ.tail (Memᴰ.tail (Memᴰ.head e)))) = two select b true true s-pin b-pin e
    go (Memᴰ.tail (Memᴰ.tail (Memᴰ.tail (Memᴰ.tail (Memᴰ.head e))))) =
        two a b false false a-pin b-pin e
    go (Memᴰ.tail (Memᴰ.tail (Memᴰ.tail (Memᴰ.tail (Memᴰ.tail (Memᴰ.head e)))))) =
        two a b true true a-pin b-pin e
    go (Memᴰ.tail (Memᴰ.tail (Memᴰ.tail (Memᴰ.tail (Memᴰ.tail (Memᴰ.tail n)))))) =
        absurd (Memᴰ.not-nil n)

-- ---- the last, and the first, of what is ready

-- a pin is ready no later than the last
pin-last : {P : Type 0} (ready : P → ℕ) (ps : List P) (p : P) → Memᴰ p ps → ready p ≤ last ready ps
pin-last {P = P} ready [] p none = elim none [ ]
pin-last ready (q ∷ ps) p (Memᴰ.head e) = let f = ap ready e in omega arith
pin-last ready (q ∷ ps) p (Memᴰ.tail m) = let f = pin-last ready ps p m in omega arith

-- a list of pins that are all ready by m has its last ready by m
pub last_within : {P : Type 0} (ready : P → ℕ) (ps : List P) (m : ℕ) → ((p : P) → Memᴰ p ps → ready p ≤ m) →
    last ready ps ≤ m
last_within ready [] m h = omega arith
last_within ready (p ∷ ps) m h =
    let a = h p (Memᴰ.head refl) in
    let b = last_within ready ps m (λ q i. h q (Memᴰ.tail i)) in
    omega arith

module _ {A : Type 0} (ready : A → ℕ) where
  -- the earliest of the entries and m
  min_of : List A → ℕ → ℕ
  min_of [] m = m
  min_of (x ∷ xs) m = min (ready x) (min_of xs m)

  min-first : (x : A) (xs : List A) (m : ℕ) → min_of (x ∷ xs) m ≡ min (first ready x xs) m
  unfolding min_of
  min-first x [] m = refl
  min-first x (y ∷ ys) m = let h = min-first y ys m in omega arith

  first-le : (x : A) (xs : List A) → first ready x xs ≤ ready x
  first-le x [] = omega arith
  first-le x (y ∷ ys) = omega arith

  -- where each entry is ready by m, the earliest of them and m is the first of them
  min-first_or : (xs : List A) (m : ℕ) → ((x : A) → Memᴰ x xs → ready x ≤ m) → min_of xs m ≡ first_or ready xs m
  unfolding min_of
  min-first_or [] m h = refl
  min-first_or (x ∷ xs) m h =
      let a = first-le x xs in let b = h x (Memᴰ.head refl) in min-first x xs m ∙ omega arith

-- ---- the cubes' form of rules S3 and S4

module _ {P : Type 0} (value : P → Bool) (ready : P → ℕ) where
  -- a cube is ready no later than the last pin
  cube-last : (kind : Kind) (ps : List P) (cube : Cube P) → Memᴰ cube (cubes kind ps) →
      cube_ready ready cube ≤ last ready ps
  cube-last kind ps cube m =
      last_within ready (map (λ l. l.0) cube) (last ready ps)
      (λ p i.
      let w = map-mem (λ l. l.0) cube p i in
      pin-last ready ps p (subst (λ q. Memᴰ q ps) (sym w.2) (cube-pin kind ps cube m w.0 w.1)))

  -- the cubes that hold, one after the other
  earliest-kept : (some : List (Cube P)) (m : ℕ) →
      min_of (cube_ready ready) (keep (cube_holds value) some) m ≡ earliest value ready some m
  unfolding min_of earliest
  earliest-kept [] m = refl
  earliest-kept (cube ∷ rest) m = go (cube_holds value cube) (earliest-kept rest m)
    where
      go : (h : Bool) →
          min_of (cube_ready ready) (keep (cube_holds value) rest) m ≡ earliest value ready rest m →
          min_of (cube_ready ready) (cond h (cube ∷ keep (cube_holds value) rest) (keep (cube_holds value) rest)) m
          ≡ cond h (min (cube_ready ready cube) (earliest value ready rest m)) (earliest value ready rest m)
      go true e = ap (min (cube_ready ready cube)) e
      go false e = e

  pub settles-cubes : (kind : Kind) (ps : List P) →
      settles value ready kind ps ≡ earliest value ready (cubes kind ps) (last ready ps)
  unfolding settles
  settles-cubes kind ps =
      sym
      (min-first_or (cube_ready ready) (keep (cube_holds value) (cubes kind ps)) (last ready ps)
      (λ cube m. cube-last kind ps cube (keep-within (cube_holds value) (cubes kind ps) cube m)))
      ∙ earliest-kept (cubes kind ps) (last ready ps)

  earliest-le : (some : List (Cube P)) (m : ℕ) → earliest value ready some m ≤ m
  unfolding earliest
  earliest-le [] m = omega arith
  earliest-le (cube ∷ rest) m = go (cube_holds value cube) (earliest-le rest m)
    where
      go : (h : Bool) → earliest value ready rest m ≤ m →
          cond h (min (cube_ready ready cube) (earliest value ready rest m)) (earliest value ready rest m) ≤ m
      go true e = omega arith
      go false e = e

  -- a gate settles when its last pin is ready, or earlier
  pub settles-last : (kind : Kind) (ps : List P) → settles value ready kind ps ≤ last ready ps
  settles-last kind ps =
      let e = settles-cubes kind ps in let f = earliest-le (cubes kind ps) (last ready ps) in omega arith
