-- The facts of a circuit from which demand 3 follows, in one record: how its gates lie and that values, times and tops
-- are what the rules of settling say (Laid and Runs, of crate settle), and that the pairs hold all that is asked for
-- (Closed, of crate pairs). proofs/Demand has them of every valid circuit. And what a rail of a gate is: where it fits
-- the gate's final value, its pins are those that the gate settles by, so that the gate argument is of the rail. Laws:
-- rail-of, rail-with, rail-for, driver-below, driver-in, pin-in, settles-told. Assumes nothing.
use mathlib.Core.Path.{◌≡◌, refl, sym, ap, ap₂, ◌∙◌, subst}
use mathlib.Core.Bool.{Bool, true, false, not, ◌&&◌, beq}
use mathlib.Core.List.Memᴰ
use mathlib.Core.List.{List, map, Memᴰ}
use Prim.Native.Nat.{ℕ, suc, ◌≤◌, ◌<◌}
use native.Mathlib.Omega.{arith}
use lib.Dec.{T, leb}
use Rattle.netlist.specs.declared.Kind.{Kind}
use Rattle.netlist.specs.Netlist.{Cell, Pin, Slopes, alike, apart, delayed, fall_of, pins_for}
use Rattle.settle.specs.Settling.{ready_at}
use Rattle.settle.proofs.Argument.{settles-late}
use Rattle.settle.proofs.Nodes.{Laid, Runs}
use Rattle.pairs.specs.Rails.{Rail, rails_of, rails_at}
use Rattle.pairs.proofs.Rails.{rail-pin}
use Rattle.pairs.proofs.Closed.{Closed}
use Rattle.certificate.proofs.Says.{late_with, fits}

-- the pairs of a node at t, where they are pairs, are among the listed times
abbrev pub Listed : Slopes → ℕ → (ℕ → ℕ) → (ℕ → List ℕ) → ℕ → ℕ → Type 0
Listed slopes I top times n t =
    I ≤ n → 0 < t → t ≤ top n → (rail : ℕ) → Memᴰ rail (rails_of slopes n) → Memᴰ t (times rail)

-- a circuit's nodes, a vector's values and times, and a target's pairs
pub record Known (slopes : Slopes) (I N : ℕ) (gates : List (ℕ × Cell)) (value : ℕ → Bool) (time top : ℕ → ℕ)
    (times : ℕ → List ℕ) (outputs : List ℕ) (target : ℕ) : Type 0 where
  pub laid : Laid I N gates
  pub runs : Runs slopes I N gates value time top
  pub closed : Closed slopes I gates top times outputs target
  pub outputs-nodes : (o : ℕ) → Memᴰ o outputs → o < N

-- ---- the rails of a gate

-- what a rail of the gate x is
pub record RailOf (slopes : Slopes) (x : ℕ × Cell) (r : Rail) : Type 0 where
  pub node-is : r.node ≡ x.0
  pub kind-is : r.kind ≡ x.1.kind
  pub pins-are : (value : Bool) → T (fits r value) → r.pins ≡ pins_for slopes value x.1.pins

-- each rail of a gate is so
pub rail-of : (slopes : Slopes) (x : ℕ × Cell) (r : Rail) → Memᴰ r (rails_at slopes x) → RailOf slopes x r
rail-of alike x r (Memᴰ.head e) =
    subst (RailOf alike x) (sym e)
    (record {
      node-is = refl;
      kind-is = refl;
      pins-are = λ value f. refl;
    })
rail-of alike x r (Memᴰ.tail m) = absurd (Memᴰ.not-nil m)
rail-of (apart falls) x r (Memᴰ.head e) =
    subst (RailOf (apart falls) x) (sym e)
    (record {
      node-is = refl;
      kind-is = refl;
      pins-are = falling;
    })
  where
    falling : (value : Bool) → T (beq value false && true) →
        map (delayed (fall_of falls)) x.1.pins ≡ pins_for (apart falls) value x.1.pins
    falling false f = refl
    falling true f = absurd f
rail-of (apart falls) x r (Memᴰ.tail (Memᴰ.head e)) =
    subst (RailOf (apart falls) x) (sym e)
    (record {
      node-is = refl;
      kind-is = refl;
      pins-are = rising;
    })
  where
    rising : (value : Bool) → T (beq value true && true) →
        x.1.pins ≡ pins_for (apart falls) value x.1.pins
    rising false f = absurd f
    rising true f = refl
rail-of (apart falls) x r (Memᴰ.tail (Memᴰ.tail m)) = absurd (Memᴰ.not-nil m)

-- each number of a node's rails is a rail of its gate
pub rail-with : (slopes : Slopes) (x : ℕ × Cell) (rail : ℕ) → Memᴰ rail (rails_of slopes x.0) →
    (r : Rail) × Memᴰ r (rails_at slopes x) × (rail ≡ r.number)
rail-with alike x rail (Memᴰ.head e) = (_, Memᴰ.head refl, e)
rail-with alike x rail (Memᴰ.tail m) = absurd (Memᴰ.not-nil m)
rail-with (apart falls) x rail (Memᴰ.head e) = (_, Memᴰ.head refl, e)
rail-with (apart falls) x rail (Memᴰ.tail (Memᴰ.head e)) = (_, Memᴰ.tail (Memᴰ.head refl), e)
rail-with (apart falls) x rail (Memᴰ.tail (Memᴰ.tail m)) = absurd (Memᴰ.not-nil m)

-- for each final value some rail of the gate fits
pub rail-for : (slopes : Slopes) (x : ℕ × Cell) (value : Bool) →
    (r : Rail) × Memᴰ r (rails_at slopes x) × T (fits r value)
rail-for alike x value = (_, Memᴰ.head refl, tt)
rail-for (apart falls) x false = (_, Memᴰ.head refl, tt)
rail-for (apart falls) x true = (_, Memᴰ.tail (Memᴰ.head refl), tt)

-- ---- the gates of a circuit

-- a rail's driver lies below its node
pub driver-below : {I N : ℕ} {gates : List (ℕ × Cell)} → Laid I N gates → (slopes : Slopes) (n : ℕ) (g : Cell) →
    Memᴰ (n, g) gates → (r : Rail) → Memᴰ r (rails_at slopes (n, g)) → (p : Pin) → Memᴰ p r.pins →
    p.driver < n
driver-below laid slopes n g m r i p j =
    let w = rail-pin slopes (n, g) r i p j in
    let a = laid.below n g m w.0 w.1 in
    omega (arith, w.2)

-- so it is a node
pub driver-in : {I N : ℕ} {gates : List (ℕ × Cell)} → Laid I N gates → (slopes : Slopes) (n : ℕ) (g : Cell) →
    Memᴰ (n, g) gates → (r : Rail) → Memᴰ r (rails_at slopes (n, g)) → (p : Pin) → Memᴰ p r.pins →
    p.driver < N
driver-in laid slopes n g m r i p j =
    let a = driver-below laid slopes n g m r i p j in let b = laid.high n g m in omega arith

-- and so is the driver of a gate's pin
pub pin-in : {I N : ℕ} {gates : List (ℕ × Cell)} → Laid I N gates → (n : ℕ) (g : Cell) → Memᴰ (n, g) gates →
    (p : Pin) → Memᴰ p g.pins → p.driver < N
pin-in laid n g m p i = let a = laid.below n g m p i in let b = laid.high n g m in omega arith

-- a node's gate settles late exactly when, of a rail that fits its final value, some pin is ready late and each
-- controlling cube has a late or a false literal
pub settles-told : {slopes : Slopes} {I N : ℕ} {gates : List (ℕ × Cell)} {value : ℕ → Bool} {time top : ℕ → ℕ} →
    Runs slopes I N gates value time top → (n : ℕ) (g : Cell) → Memᴰ (n, g) gates → (r : Rail) →
    Memᴰ r (rails_at slopes (n, g)) → T (fits r (value n)) → (t : ℕ) →
    leb (suc t) (time n)
    ≡ late_with (λ p. leb (suc t) (ready_at time p)) (λ p b. not (beq (value p.driver) b)) r.kind r.pins
settles-told {slopes = slopes} {value = value} {time = time} runs n g m r i f t =
    let rail = rail-of slopes (n, g) r i in
    ap (λ x. leb (suc t) x) (runs.time-fixed n g m)
    ∙ settles-late (λ (p : Pin). value p.driver) (ready_at time) t g.kind (pins_for slopes (value n) g.pins)
    ∙ ap₂
    (λ (kind : Kind) (ps : List Pin).
    late_with (λ (p : Pin). leb (suc t) (ready_at time p)) (λ p b. not (beq (value p.driver) b)) kind ps)
    (sym rail.kind-is) (sym (rail.pins-are (value n) f))
