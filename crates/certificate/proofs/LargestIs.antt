-- What pins `Largest` down: every circuit has a largest settling time, and only one. The largest over the vectors of
-- length I is worked out by fixing one input at a time; it bounds every vector and some vector reaches it. And delays
-- for gates that end at 0 that are the file's own leave it as it is. Laws: largest-unique, largest-exists,
-- largest-equal. Assumes nothing.
use mathlib.Core.Path.{◌≡◌, refl, sym, ap, ◌∙◌, subst}
use mathlib.Core.Bool.{Bool, true, false}
use mathlib.Core.List.{List, [], ◌∷◌}
use mathlib.Core.Logic.{◌↔◌}
use Prim.Native.Nat.{ℕ, zero, suc, ◌≤◌, ◌<◌, max}
use native.Mathlib.Omega.{arith}
use native.Mathlib.Decide.{ℕ_discrete}
use lib.ListN.{length, get_or}
use Rattle.netlist.specs.declared.Shape.{Shape}
use Rattle.netlist.specs.Netlist.{Circuit, Slopes, alike, apart}
use Rattle.netlist.specs.File.{delay_at, netlist_at, circuit_at, circuit_with}
use Rattle.netlist.specs.Holds.{Holds}
use Rattle.settle.specs.Settling.{last, circuit_time}
use Rattle.settle.proofs.EqualLists.{equal-lists}
use Rattle.certificate.specs.Largest.{Largest}

-- two delays that are both the largest are equal: each bounds the vector that reaches the other
pub largest-unique : (circuit : Circuit) (a b : ℕ) → Largest circuit a → Largest circuit b → a ≡ b
largest-unique circuit a b p q =
    let v = p.reached in
    let w = q.reached in
    let up : a ≤ b = subst (λ t. t ≤ b) v.2 (q.bound v.0 v.1) in
    let down : b ≤ a = subst (λ t. t ≤ a) w.2 (p.bound w.0 w.1) in
    omega (arith, up, down)

-- the largest value of a function over all vectors of a length
abbrev largest_over : (List Bool → ℕ) → ℕ → ℕ
largest_over f zero = f []
largest_over f (suc n) = max (largest_over (λ v. f (false ∷ v)) n) (largest_over (λ v. f (true ∷ v)) n)

largest-bounds : (f : List Bool → ℕ) (n : ℕ) (v : List Bool) → length v ≡ n → f v ≤ largest_over f n
largest-bounds f zero [] e = omega arith
largest-bounds f zero (b ∷ v) e = absurd (omega (arith, e))
largest-bounds f (suc n) [] e = absurd (omega (arith, e))
largest-bounds f (suc n) (false ∷ v) e =
    let h = largest-bounds (λ w. f (false ∷ w)) n v (omega (arith, e)) in omega (arith, h)
largest-bounds f (suc n) (true ∷ v) e =
    let h = largest-bounds (λ w. f (true ∷ w)) n v (omega (arith, e)) in omega (arith, h)

-- a vector of a length at which the function has a value
abbrev Reaches : (List Bool → ℕ) → ℕ → ℕ → Type 0
Reaches f n t = (v : List Bool) × (length v ≡ n) × (f v ≡ t)

longer : (f : List Bool → ℕ) (n t : ℕ) (b : Bool) → Reaches (λ v. f (b ∷ v)) n t → Reaches f (suc n) t
longer f n t b r = (b ∷ r.0, ap suc r.1, r.2)

largest-reached : (f : List Bool → ℕ) (n : ℕ) → Reaches f n (largest_over f n)
largest-reached f zero = ([], refl, refl)
largest-reached f (suc n) =
    go (largest_over (λ v. f (false ∷ v)) n) (largest_over (λ v. f (true ∷ v)) n)
    (largest-reached (λ v. f (false ∷ v)) n) (largest-reached (λ v. f (true ∷ v)) n)
  where
    go : (a b : ℕ) → Reaches (λ v. f (false ∷ v)) n a → Reaches (λ v. f (true ∷ v)) n b → Reaches f (suc n) (max a b)
    go a b p q = pick (ℕ_discrete a (max a b))
      where
        pick : Dec (a ≡ max a b) → Reaches f (suc n) (max a b)
        pick (yes e) = subst (Reaches f (suc n)) e (longer f n a false p)
        pick (no e) = subst (Reaches f (suc n)) (omega (arith, e)) (longer f n b true q)

-- some delay is the largest, whatever the circuit
pub largest-exists : (circuit : Circuit) → (delay : ℕ) × Largest circuit delay
largest-exists circuit = (
  largest_over (circuit_time circuit) circuit.net.inputs,
  record {
    bound = largest-bounds (circuit_time circuit) circuit.net.inputs;
    reached = largest-reached (circuit_time circuit) circuit.net.inputs;
  },
)

-- ---- equal delays of rise and fall

module _ (file : List ℕ) (shape : Shape) (h : Holds file shape) (arrivals falls : List ℕ)
    (equal : (pin : ℕ) → pin < shape.pins → get_or falls pin 0 ≡ delay_at file shape pin) where
  -- slopes by which every vector settles at the same time have the same largest settling time
  largest-by : (p q : Slopes) →
      ((vector : List Bool) →
      circuit_time (circuit_with file shape arrivals p) vector
      ≡ circuit_time (circuit_with file shape arrivals q) vector) →
      (delay : ℕ) → Largest (circuit_with file shape arrivals p) delay →
      Largest (circuit_with file shape arrivals q) delay
  largest-by p q same delay l =
      let r = l.reached in
      record {
        bound = λ vector e. subst (λ (t : ℕ). t ≤ delay) (same vector) (l.bound vector e);
        reached = (r.0, r.1, sym (same r.0) ∙ r.2);
      }

  same-time : (vector : List Bool) →
      circuit_time (circuit_with file shape arrivals (apart falls)) vector
      ≡ circuit_time (circuit_at file shape arrivals) vector
  unfolding circuit_time
  same-time vector =
      ap (λ (times : List ℕ). last (λ node. get_or times node 0) (netlist_at file shape).outputs)
      (equal-lists file shape h falls equal arrivals vector).0

  -- the file's own delays for gates that end at 0 leave the largest settling time of the single form
  pub largest-equal : (delay : ℕ) →
      Largest (circuit_with file shape arrivals (apart falls)) delay ↔ Largest (circuit_at file shape arrivals) delay
  largest-equal delay = (
    largest-by (apart falls) alike same-time delay,
    largest-by alike (apart falls) (λ vector. sym (same-time vector)) delay,
  )
