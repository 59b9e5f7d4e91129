-- The pins that each node drives, in chains of links: a new link stands before its driver's others and leaves all
-- chains as they were. Laws: chains-start, chains-same, chains-more, chains-wide; to-starts, to-more, to-ends,
-- drives-none, drives-all; first-pin, next-pin, last-pin; link-gate, link-next. Assumes nothing.
use mathlib.Core.Path.{◌≡◌, refl, sym, ap, subst, ◌∙◌}
use mathlib.Core.Bool.{◌&&◌}
use mathlib.Core.Logic.{◌⊎◌, inl, inr}
use mathlib.Core.List.Memᴰ
use mathlib.Core.List.{
  List,
  [],
  ◌∷◌,
  Memᴰ,
}
use Prim.Native.Nat.{ℕ, ◌+◌, ◌*◌, ◌-◌, ◌/◌, ◌%◌, ◌≤◌, ◌<◌}
use native.Mathlib.Omega.{arith}
use native.Mathlib.Decide.{ℕ_discrete}
use native.Mathlib.Numerals.{add-one}
use lib.Dec.{eqb, eqb→eq}
use lib.ListN.{length, get_or, set, length-set}
use lib.Seq.{get_or-set_same, get_or-set_other}
use Rattle.basics.specs.Lists.{up_from}
use Rattle.basics.proofs.Truth.{and_right, holds as passes}
use Rattle.basics.proofs.Lists.{up_from-mem}
use Rattle.netlist.specs.declared.Shape.{Shape}
use Rattle.netlist.specs.File.{kind_at, first_at, count_at, driver_at}
use Rattle.netlist.specs.Kinds.{pins_fit}
use Rattle.netlist.specs.Open.{pins_before, gate_wrong, gate_place}
use Rattle.netlist.specs.Holds.{Holds}
use Rattle.netlist.proofs.Ranges.{length-up_from}
use Rattle.netlist.proofs.FirstWrong.{none-wrong}
use Rattle.netlist.proofs.Sums.{pins-before-next}
use Rattle.netlist.proofs.TableOrder.{Passed, passed, not_back}
use Rattle.pairs.specs.Table.{GateDrives, Drives, Link, Chain, Holding, Chains, most_pins}

-- ---- what a link holds

module _ {links : List ℕ} {e next : ℕ} {x : ℕ × ℕ} (w : Link links e next x) where
  pub link-gate : get_or links (e - 1) 0 % 512 ≡ x.0
  link-gate = omega (arith, w.is, w.gate-small)

  pub link-next : get_or links (e - 1) 0 / 512 ≡ next
  link-next = omega (arith, w.is, w.gate-small)

-- ---- a link is stored

-- after the links of a chain
chain-keeps : (links : List ℕ) (n v e : ℕ) (l : List (ℕ × ℕ)) → e ≤ n → Chain links e l → Chain (set links n v) e l
chain-keeps links n v e [] h c = c
chain-keeps links n v e (x ∷ l) h c =
    let k = c.1 in (
      c.0,
      record {
        some = k.some;
        within = rw length-set k.within;
        back = k.back;
        gate-small = k.gate-small;
        pin = k.pin;
        is = get_or-set_other links n (e - 1) v 0 (λ q. omega (arith, k.some)) ∙ k.is;
      },
      chain-keeps links n v c.0 l (omega (arith, k.back)) c.2,
    )

-- no pin, and no link
pub chains-start : {Has : ℕ → ℕ × ℕ → Type 0} {heads links : List ℕ} → ((f : ℕ) → get_or heads f 0 ≡ 0) →
    ((f : ℕ) (x : ℕ × ℕ) → Has f x → ⊥) → Chains Has heads links 0
chains-start {heads = heads} z h =
    record {
      of =
          λ f i.
          record {
            pins = [];
            chain = z f;
            low = omega (arith, z f);
            each = λ x m. absurd (Memᴰ.not-nil m);
            all = λ x u. absurd (h f x u);
          };
    }

pub chains-same : {Has : ℕ → ℕ × ℕ → Type 0} {heads links : List ℕ} {n : ℕ} (Also : ℕ → ℕ × ℕ → Type 0) →
    ((f : ℕ) (x : ℕ × ℕ) → Has f x → Also f x) → ((f : ℕ) (x : ℕ × ℕ) → Also f x → Has f x) →
    Chains Has heads links n → Chains Also heads links n
chains-same Also f g w =
    record {
      of =
          λ k h.
          let c = w.of k h in
          record {
            pins = c.pins;
            chain = c.chain;
            low = c.low;
            each = λ x m. f k x (c.each x m);
            all = λ x u. c.all x (g k x u);
          };
    }

-- by more links
pub chains-wide : {Has : ℕ → ℕ × ℕ → Type 0} {heads links : List ℕ} {n : ℕ} (more : ℕ) → n ≤ more →
    Chains Has heads links n → Chains Has heads links more
chains-wide more h w =
    record {
      of =
          λ k i.
          let c = w.of k i in
          record { pins = c.pins; chain = c.chain; low = omega (arith, c.low); each = c.each; all = c.all };
    }

-- one pin more, x, which d drives
pub chains-more : {Has : ℕ → ℕ × ℕ → Type 0} {heads links : List ℕ} {n : ℕ} (Also : ℕ → ℕ × ℕ → Type 0) (d : ℕ)
    (x : ℕ × ℕ) (v : ℕ) → Chains Has heads links n → n < length links → d < length heads → x.0 < 512 → n ≡ x.1 →
    v ≡ get_or heads d 0 * 512 + x.0 → ((f : ℕ) (y : ℕ × ℕ) → Has f y → Also f y) → Also d x →
    ((f : ℕ) (y : ℕ × ℕ) → Also f y → Has f y ⊎ ((f ≡ d) × (y ≡ x))) →
    Chains Also (set heads d (n + 1)) (set links n v) (n + 1)
chains-more {Has} {heads} {links} {n} Also d x v w room drives a p e f also g =
    record { of = λ k h. go k (rw length-set at h) (ℕ_discrete k d) }
  where
    own : Holding (Has d) links n (get_or heads d 0)
    own = w.of d drives

    go : (k : ℕ) → k < length heads → Dec (k ≡ d) →
        Holding (Also k) (set links n v) (n + 1) (get_or (set heads d (n + 1)) k 0)
    go k h (no q) =
        rw (get_or-set_other heads d k (n + 1) 0 q)
        (let c = w.of k h in
        record {
          pins = c.pins;
          chain = chain-keeps links n v (get_or heads k 0) c.pins c.low c.chain;
          low = omega (arith, c.low);
          each = λ y m. f k y (c.each y m);
          all = λ y u. other y (g k y u) (c.all y);
        })
      where
        other : (y : ℕ × ℕ) → Has k y ⊎ ((k ≡ d) × (y ≡ x)) → (Has k y → Memᴰ y (w.of k h).pins) →
            Memᴰ y (w.of k h).pins
        other y (inl u) i = i u
        other y (inr u) i = absurd (q u.0)
    go k h (yes q) =
        rw (q, get_or-set_same heads d (n + 1) 0 drives)
        (record {
          pins = x ∷ own.pins;
          chain = (
            get_or heads d 0,
            record {
              some = omega arith;
              within = rw length-set (omega arith);
              back = omega (arith, own.low);
              gate-small = a;
              pin = omega arith;
              is =
                  let i : n + 1 - 1 ≡ n = omega arith in
                  ap (λ (y : ℕ). get_or (set links n v) y 0) i ∙ get_or-set_same links n v 0 room ∙ e;
            },
            chain-keeps links n v (get_or heads d 0) own.pins own.low own.chain,
          );
          low = omega arith;
          each = λ y m. first y (Memᴰ.cases_cons m);
          all = λ y u. find y (g d y u);
        })
      where
        first : (y : ℕ × ℕ) → (y ≡ x) ⊎ Memᴰ y own.pins → Also d y
        first y (inl i) = subst (λ (z : ℕ × ℕ). Also d z) (sym i) also
        first y (inr i) = f d y (own.each y i)

        find : (y : ℕ × ℕ) → Has d y ⊎ ((d ≡ d) × (y ≡ x)) → Memᴰ y (x ∷ own.pins)
        find y (inl u) = Memᴰ.tail (own.all y u)
        find y (inr u) = Memᴰ.head u.1

-- ---- the pins of a gate, and of the gates before it

-- the gates before gate i, and its first k pins
abbrev pub DrivesTo : List ℕ → Shape → ℕ → ℕ → ℕ → ℕ → ℕ × ℕ → Type 0
DrivesTo file shape i first k f x = Drives file shape i f x ⊎ GateDrives file shape first k i f x

module _ {file : List ℕ} {shape : Shape} {i first : ℕ} where
  pub to-starts : {heads links : List ℕ} {n : ℕ} → Chains (Drives file shape i) heads links n →
      Chains (DrivesTo file shape i first 0) heads links n
  to-starts w = chains-same (DrivesTo file shape i first 0) (λ f x u. inl u) (λ f x u. pick f x u) w
    where
      pick : (f : ℕ) (x : ℕ × ℕ) → DrivesTo file shape i first 0 f x → Drives file shape i f x
      pick f x (inl u) = u
      pick f x (inr u) = absurd (omega (arith, u.within))

  -- pin k, with its driver
  pub to-more : {heads links : List ℕ} {k driver : ℕ} (v : ℕ) →
      Chains (DrivesTo file shape i first k) heads links (first + k) → first + k < length links →
      driver < length heads → i < 512 → driver ≡ driver_at file shape (first + k) →
      v ≡ get_or heads driver 0 * 512 + i →
      Chains (DrivesTo file shape i first (k + 1)) (set heads driver (first + k + 1)) (set links (first + k) v)
      (first + (k + 1))
  to-more {heads} {links} {k} {driver} v w room small a e q =
      let next : first + k + 1 ≡ first + (k + 1) = omega arith in
      subst
      (λ (n : ℕ).
      Chains (DrivesTo file shape i first (k + 1)) (set heads driver (first + k + 1)) (set links (first + k) v) n) next
      (chains-more (DrivesTo file shape i first (k + 1)) driver (i, first + k) v w room small a refl q
      (λ f x u. further f x u)
      (inr (record {
        pin = k;
        within = omega arith;
        drives = sym e;
        is = refl;
      })) (λ f x u. pick f x u))
    where
      further : (f : ℕ) (x : ℕ × ℕ) → DrivesTo file shape i first k f x → DrivesTo file shape i first (k + 1) f x
      further f x (inl u) = inl u
      further f x (inr u) =
          inr (record { pin = u.pin; within = omega (arith, u.within); drives = u.drives; is = u.is })

      pick : (f : ℕ) (x : ℕ × ℕ) → DrivesTo file shape i first (k + 1) f x →
          DrivesTo file shape i first k f x ⊎ ((f ≡ driver) × (x ≡ (i, first + k)))
      pick f x (inl u) = inl (inl u)
      pick f x (inr u) = go (ℕ_discrete u.pin k)
        where
          go : Dec (u.pin ≡ k) → DrivesTo file shape i first k f x ⊎ ((f ≡ driver) × (x ≡ (i, first + k)))
          go (yes r) =
              inr (
                sym u.drives ∙ ap (λ (y : ℕ). driver_at file shape (first + y)) r ∙ sym e,
                u.is ∙ ap (λ (y : ℕ). (i, first + y)) r,
              )
          go (no r) =
              inl
              (inr (record { pin = u.pin; within = omega (arith, u.within); drives = u.drives; is = u.is }))

  -- all pins of gate i
  pub to-ends : {heads links : List ℕ} {n k : ℕ} (count : ℕ) → Chains (DrivesTo file shape i first k) heads links n →
      k ≡ count → first ≡ first_at file shape i → count ≡ count_at file shape i →
      Chains (Drives file shape (i + 1)) heads links n
  to-ends {k = k} count w a b c =
      chains-same (Drives file shape (i + 1)) (λ f x u. to f x u) (λ f x u. back f x u) w
    where
      to : (f : ℕ) (x : ℕ × ℕ) → DrivesTo file shape i first k f x → Drives file shape (i + 1) f x
      to f x (inl u) = record { gate = u.gate; low = omega (arith, u.low); own = u.own }
      to f x (inr u) =
          record {
            gate = i;
            low = omega arith;
            own =
                subst (λ (y : ℕ). GateDrives file shape y (count_at file shape i) i f x) b
                (subst (λ (y : ℕ). GateDrives file shape first y i f x) (a ∙ c) u);
          }

      back : (f : ℕ) (x : ℕ × ℕ) → Drives file shape (i + 1) f x → DrivesTo file shape i first k f x
      back f x u = go (ℕ_discrete u.gate i)
        where
          go : Dec (u.gate ≡ i) → DrivesTo file shape i first k f x
          go (yes e) =
              inr
              (subst (λ (y : ℕ). GateDrives file shape first y i f x) (sym (a ∙ c))
              (subst (λ (y : ℕ). GateDrives file shape y (count_at file shape i) i f x) (sym b)
              (subst
              (λ (y : ℕ). GateDrives file shape (first_at file shape y) (count_at file shape y) y f x)
              e u.own)))
          go (no e) = inl (record { gate = u.gate; low = omega (arith, u.low); own = u.own })

-- no gate, and all of them
pub drives-none : {file : List ℕ} {shape : Shape} {heads links : List ℕ} → ((f : ℕ) → get_or heads f 0 ≡ 0) →
    Chains (Drives file shape 0) heads links 0
drives-none z = chains-start z (λ f x u. omega (arith, u.low))

pub drives-all : {file : List ℕ} {shape : Shape} {heads links : List ℕ} {i n : ℕ} →
    Chains (Drives file shape i) heads links n → i ≡ shape.gates → n ≤ most_pins →
    Chains (Drives file shape shape.gates) heads links most_pins
drives-all {file} {shape} {heads} {links} {n = n} w e h =
    chains-wide most_pins h (subst (λ (x : ℕ). Chains (Drives file shape x) heads links n) e w)

-- ---- the pins of an accepted file lie one behind the other

module _ {file : List ℕ} {shape : Shape} (holds : Holds file shape) where
  accepted : Passed file shape
  accepted = passed file shape holds.opened

  -- a gate's first pin is the total of the pin counts in front of it (rule N5)
  pub first-pin : (gate : ℕ) → gate < shape.gates → first_at file shape gate ≡ pins_before file shape gate
  unfolding gate_place gate_wrong
  first-pin gate h =
      eqb→eq (first_at file shape gate) (pins_before file shape gate)
      (and_right (pins_fit (kind_at file shape gate) (count_at file shape gate))
      (eqb (first_at file shape gate) (pins_before file shape gate))
      (passes
      (not_back
      (pins_fit (kind_at file shape gate) (count_at file shape gate)
      && eqb (first_at file shape gate) (pins_before file shape gate))
      (none-wrong (gate_wrong file shape) (up_from 0 shape.gates)
      (omega (arith, accepted.pins.gates.gates, length-up_from 0 shape.gates)) gate
      (up_from-mem 0 shape.gates gate (omega arith) (omega arith))))))

  -- one gate more
  pub next-pin : (gate : ℕ) → pins_before file shape (gate + 1) ≡ pins_before file shape gate + count_at file shape gate
  next-pin gate = rw (add-one gate) (pins-before-next file shape gate)

  -- and the total of all is P
  pub last-pin : (gate : ℕ) → gate ≡ shape.gates → pins_before file shape gate ≤ most_pins
  last-pin gate e =
      let q = ap (pins_before file shape) e in
      omega (arith, accepted.pins.gates.sum, holds.counts.pins-few)
