-- The gate argument, once, over any type of pins with a value and a time at which each is ready: a gate settles at t+1
-- or later exactly when some pin is late and each controlling cube has a late or a false literal. It is an equation of
-- Bools, by induction on the cubes, whatever they are. And locality: a gate's value and settling depend on its own pins
-- alone. Laws: settles-late, last-late; settles-cong, gate_value-cong, last-cong, last-mono. Assumes nothing.
use mathlib.Core.Path.{◌≡◌, refl, sym, ap, ap₂, ◌∙◌}
use mathlib.Core.Bool.{Bool, true, false, not, ◌&&◌, ◌||◌, beq, cond}
use mathlib.Core.List.{List, [], ◌∷◌, Memᴰ}
use Prim.Native.Nat.{ℕ, suc, ◌≤◌, max, min}
use native.Mathlib.Omega.{arith}
use lib.Dec.{leb, leb-suc-zero}
use Rattle.basics.specs.Lists.{any, all}
use Rattle.basics.proofs.Truth.{by-table-of-one, by-table-of-three, by-table-of-four}
use Rattle.basics.proofs.Lists.{any-cong}
use Rattle.basics.proofs.Order.{leb-max, leb-min}
use Rattle.netlist.specs.declared.Kind.{Kind}
use Rattle.netlist.specs.declared.Kind.TheVariants.{Simple, Parity, Mux}
use Rattle.settle.specs.Settling.{
  Cube,
  cubes,
  literal_holds,
  cube_holds,
  cube_ready,
  last,
  settles,
  gate_value,
}
use Rattle.settle.specs.Cubes.{earliest, literal_late, gate_late}
use Rattle.settle.proofs.Cubes.{cube-pin, settles-cubes}

-- ---- the gate argument

-- the last pin is late exactly when some pin is
pub last-late : {P : Type 0} (ready : P → ℕ) (t : ℕ) (ps : List P) →
    leb (suc t) (last ready ps) ≡ any (λ p. leb (suc t) (ready p)) ps
last-late ready t [] = leb-suc-zero t
last-late ready t (p ∷ ps) =
    leb-max (suc t) (ready p) (last ready ps) ∙ ap (λ b. leb (suc t) (ready p) || b) (last-late ready t ps)

module _ {P : Type 0} (value : P → Bool) (ready : P → ℕ) where
  -- a cube is late or does not hold exactly when some literal is late or false
  cube-late : (t : ℕ) (cube : Cube P) →
      (leb (suc t) (cube_ready ready cube) || not (cube_holds value cube)) ≡ any (literal_late value ready (suc t)) cube
  cube-late t [] = ap (λ b. b || false) (leb-suc-zero t)
  cube-late t (l ∷ cube) =
      ap (λ b. b || not (literal_holds value l && cube_holds value cube))
      (leb-max (suc t) (ready l.0) (cube_ready ready cube))
      ∙ by-table-of-four (λ a b h r. a || b || not (h && r)) (λ a b h r. a || not h || (b || not r)) tt
      (leb (suc t) (ready l.0))
      (leb (suc t) (cube_ready ready cube))
      (literal_holds value l)
      (cube_holds value cube)
      ∙ ap (λ b. literal_late value ready (suc t) l || b) (cube-late t cube)

  -- each cube has a late or a false literal
  abbrev Blocked : ℕ → List (Cube P) → Bool
  Blocked t some-cubes = all (λ cube. any (literal_late value ready t) cube) some-cubes

  earliest-late : (t : ℕ) (some-cubes : List (Cube P)) (m : ℕ) →
      leb (suc t) (earliest value ready some-cubes m) ≡ (leb (suc t) m && Blocked (suc t) some-cubes)
  unfolding earliest
  earliest-late t [] m = by-table-of-one (λ a. a) (λ a. a && true) tt (leb (suc t) m)
  earliest-late t (cube ∷ rest) m = go (cube_holds value cube) (cube-late t cube) (earliest-late t rest m)
    where
      go : (h : Bool) →
          (leb (suc t) (cube_ready ready cube) || not h) ≡ any (literal_late value ready (suc t)) cube →
          leb (suc t) (earliest value ready rest m) ≡ (leb (suc t) m && Blocked (suc t) rest) →
          leb (suc t)
          (cond h (min (cube_ready ready cube) (earliest value ready rest m)) (earliest value ready rest m))
          ≡ (leb (suc t) m && (any (literal_late value ready (suc t)) cube && Blocked (suc t) rest))
      go true e f =
          leb-min (suc t) (cube_ready ready cube) (earliest value ready rest m)
          ∙ ap₂ (λ a b. a && b)
          (by-table-of-one (λ a. a) (λ a. a || false) tt (leb (suc t) (cube_ready ready cube)) ∙ e)
          f
          ∙ by-table-of-three (λ x a b. x && (a && b)) (λ x a b. a && (x && b)) tt
          (any (literal_late value ready (suc t)) cube)
          (leb (suc t) m)
          (Blocked (suc t) rest)
      go false e f =
          f
          ∙ ap (λ b. leb (suc t) m && (b && Blocked (suc t) rest))
          (by-table-of-one (λ a. true) (λ a. a || true) tt (leb (suc t) (cube_ready ready cube)) ∙ e)

  -- a gate settles at t+1 or later exactly when some pin is late, and each controlling cube has a late or a false
  -- literal
  pub settles-late : (t : ℕ) (kind : Kind) (ps : List P) →
      leb (suc t) (settles value ready kind ps) ≡ gate_late value ready (suc t) (cubes kind ps) ps
  settles-late t kind ps =
      ap (λ n. leb (suc t) n) (settles-cubes value ready kind ps)
      ∙ earliest-late t (cubes kind ps) (last ready ps)
      ∙ ap (λ b. b && Blocked (suc t) (cubes kind ps)) (last-late ready t ps)

-- ---- locality

module _ {P : Type 0} (r s : P → ℕ) where
  pub last-cong : (ps : List P) → ((p : P) → Memᴰ p ps → r p ≡ s p) → last r ps ≡ last s ps
  last-cong [] h = refl
  last-cong (p ∷ ps) h = ap₂ max (h p (Memᴰ.head refl)) (last-cong ps (λ q m. h q (Memᴰ.tail m)))

  pub last-mono : (ps : List P) → ((p : P) → Memᴰ p ps → r p ≤ s p) → last r ps ≤ last s ps
  last-mono [] h = omega arith
  last-mono (p ∷ ps) h =
      let a = h p (Memᴰ.head refl) in let b = last-mono ps (λ q m. h q (Memᴰ.tail m)) in omega arith

module _ {P : Type 0} (v w : P → Bool) (r s : P → ℕ) where
  -- what is the same of each pin of a cube is the same of the cube
  holds-cong : (cube : Cube P) → ((l : P × Bool) → Memᴰ l cube → v l.0 ≡ w l.0) →
      cube_holds v cube ≡ cube_holds w cube
  holds-cong [] h = refl
  holds-cong (l ∷ cube) h =
      ap₂ (λ (a b : Bool). beq a l.1 && b) (h l (Memᴰ.head refl))
      (holds-cong cube (λ k m. h k (Memᴰ.tail m)))

  ready-cong : (cube : Cube P) → ((l : P × Bool) → Memᴰ l cube → r l.0 ≡ s l.0) →
      cube_ready r cube ≡ cube_ready s cube
  ready-cong [] h = refl
  ready-cong (l ∷ cube) h = ap₂ max (h l (Memᴰ.head refl)) (ready-cong cube (λ k m. h k (Memᴰ.tail m)))

  earliest-cong : (some : List (Cube P)) {m n : ℕ} → m ≡ n →
      ((cube : Cube P) → Memᴰ cube some → (l : P × Bool) → Memᴰ l cube →
      (v l.0 ≡ w l.0) × (r l.0 ≡ s l.0)) →
      earliest v r some m ≡ earliest w s some n
  unfolding earliest
  earliest-cong [] e h = e
  earliest-cong (cube ∷ rest) {m} {n} e h =
      let own = h cube (Memᴰ.head refl) in
      let more = earliest-cong rest e (λ d i. h d (Memᴰ.tail i)) in
      ap₂ (λ (b : Bool) (t : ℕ). cond b (min t (earliest v r rest m)) (earliest v r rest m))
      (holds-cong cube (λ l i. (own l i).0)) (ready-cong cube (λ l i. (own l i).1))
      ∙ ap (λ (t : ℕ). cond (cube_holds w cube) (min (cube_ready s cube) t) t) more

module _ {P : Type 0} (v w : P → Bool) where
  -- a gate's settling depends on its pins' values and readiness alone
  pub settles-cong : (r s : P → ℕ) (kind : Kind) (ps : List P) → ((p : P) → Memᴰ p ps → v p ≡ w p) →
      ((p : P) → Memᴰ p ps → r p ≡ s p) → settles v r kind ps ≡ settles w s kind ps
  settles-cong r s kind ps h e =
      settles-cubes v r kind ps
      ∙ earliest-cong v w r s (cubes kind ps) (last-cong r s ps e)
      (λ cube m l i. let p = cube-pin kind ps cube m l i in (h l.0 p, e l.0 p))
      ∙ sym (settles-cubes w s kind ps)

  -- and its value on its pins' values
  pub gate_value-cong : (kind : Kind) (ps : List P) → ((p : P) → Memᴰ p ps → v p ≡ w p) →
      gate_value v kind ps ≡ gate_value w kind ps
  unfolding gate_value
  gate_value-cong (Simple c k) ps h =
      ap (λ b. cond b k (not k))
      (any-cong (λ p. beq (v p) c) (λ p. beq (w p) c) ps (λ p m. ap (λ b. beq b c) (h p m)))
  gate_value-cong (Parity equal) [] h = refl
  gate_value-cong (Parity equal) (p ∷ ps) h =
      ap₂ (λ a b. cond a (not b) b) (h p (Memᴰ.head refl))
      (gate_value-cong (Parity equal) ps (λ q m. h q (Memᴰ.tail m)))
  gate_value-cong Mux [] h = refl
  gate_value-cong Mux (select ∷ []) h = refl
  gate_value-cong Mux (select ∷ a ∷ []) h = refl
  gate_value-cong Mux (select ∷ a ∷ b ∷ ps) h =
      let s = h select (Memᴰ.head refl) in
      let x = h a (Memᴰ.tail (Memᴰ.head refl)) in
      let y = h b (Memᴰ.tail (Memᴰ.tail (Memᴰ.head refl))) in
      rw (s, x, y)
