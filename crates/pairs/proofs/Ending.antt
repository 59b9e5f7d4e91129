-- Where the pairs of each gate's rail begin among those found, counted from the end: so a pair more at the front leaves
-- it as it is, and a rail that is done begins at the front. Laws: ended-starts, ended-rail, ended-part, ended-more,
-- ended-down; drives-above. Assumes nothing.
use mathlib.Core.Path.{◌≡◌, ap, subst}
use mathlib.Core.List.{List, [], ◌∷◌, Memᴰ}
use Prim.Native.Nat.{ℕ, zero, suc, ◌+◌, ◌-◌, ◌*◌, ◌<◌, ◌≤◌}
use native.Mathlib.Omega.{arith}
use native.Mathlib.Decide.{ℕ_discrete}
use lib.ListN.{length, get_or, set, take, drop, length-drop}
use Rattle.std.proofs.lemmas.List.{get_or-drop}
use lib.Seq.{get_or-set_same, get_or-set_other}
use Rattle.netlist.specs.declared.Shape.{Shape}
use Rattle.netlist.specs.File.{first_at}
use Rattle.netlist.specs.Holds.{Holds}
use Rattle.pairs.specs.Table.{pair_at, key_of, Precede, Drives, EndsAt, Ended}
use Rattle.pairs.proofs.Flat.{mem-at, part}

-- a pair before the key, at the front
precede-more : {l : List (ℕ × ℕ)} {key r : ℕ} (x : ℕ × ℕ) → key_of x < key → Precede l key r →
    Precede (x ∷ l) key (suc r)
precede-more {l} {key} {r} x h p = record { within = omega (arith, p.within); before = before; after = after }
  where
    before : (k : ℕ) → k < suc r → key_of (pair_at (x ∷ l) k) < key
    before zero i = h
    before (suc k) i = p.before k (omega arith)

    after : (k : ℕ) → suc r ≤ k → k < suc (length l) → key ≤ key_of (pair_at (x ∷ l) k)
    after zero i j = absurd (omega arith)
    after (suc k) i j = p.after k (omega arith) (omega arith)

pub ended-starts : (first last : ℕ) (ends : List ℕ) → Ended [] first last ends (last + 1)
ended-starts first last ends = record { of = λ number h k. absurd (omega arith) }

-- where the pairs of a rail begin
pub ended-rail : {l : List (ℕ × ℕ)} {first last low : ℕ} {ends : List ℕ} (rail : ℕ) → Ended l first last ends low →
    first ≤ rail → low ≤ rail → rail ≤ last → EndsAt l rail ends (rail - first)
ended-rail {l} {first} {ends = ends} rail w a b h =
    let e : first + (rail - first) ≡ rail = omega arith in
    subst (λ (n : ℕ). EndsAt l n ends (rail - first)) e (w.of (rail - first) (omega arith) (omega arith))

-- with the places of the later rails alone
pub ended-part : {l : List (ℕ × ℕ)} {first last low : ℕ} {ends : List ℕ} (rail place : ℕ) →
    Ended l first last ends low → place ≡ rail - first → first ≤ rail → low ≤ rail → rail ≤ last →
    length ends ≡ last - first + 1 →
    Ended l rail (rail + length (take (length ends - place) (drop place ends)) - 1)
    (take (length ends - place) (drop place ends)) rail
ended-part {l} {first} {last} {ends = ends} rail place w e a b h long =
    rw (part ends place) (record { of = λ number i k. go number k })
  where
    go : (number : ℕ) → rail + number ≤ rail + length (drop place ends) - 1 →
        EndsAt l (rail + number) (drop place ends) number
    go number k =
        let n : length (drop place ends) ≡ length ends - place = length-drop place ends in
        let q : rail + number ≡ first + (place + number) = omega arith in
        let got = get_or-drop place ends number 0 in
        let old = w.of (place + number) (omega arith) (omega arith) in
        record { few = rw got old.few; from = rw (q, got) old.from }

module _ {l : List (ℕ × ℕ)} {first last f : ℕ} {ends : List ℕ} (w : Ended l first last ends (f + 1)) where
  -- one more pair of rail f
  pub ended-more : (t : ℕ) → t < 4294967296 → Ended ((f, t) ∷ l) first last ends (f + 1)
  ended-more t h = record { of = λ number a b. more number a (w.of number a b) }
    where
      more : (number : ℕ) → f + 1 ≤ first + number → EndsAt l (first + number) ends number →
          EndsAt ((f, t) ∷ l) (first + number) ends number
      more number a e =
          let q : suc (length l) - get_or ends number 0
          ≡ suc (length l - get_or ends number 0) = omega (arith, e.few) in
          record { few = omega (arith, e.few); from = rw q (precede-more (f, t) (omega arith) e.from) }

  -- all of rail f's are found, and the rail below follows
  pub ended-down : (v : ℕ) → v ≡ length l → first < f → f - first < length ends →
      ((x : ℕ × ℕ) → Memᴰ x l → f * 4294967296 ≤ key_of x) →
      Ended l first last (set ends (f - first) v) (f - 1 + 1)
  ended-down v e h room low =
      record { of = λ number a b. go number a b (ℕ_discrete number (f - first)) }
    where
      go : (number : ℕ) → f - 1 + 1 ≤ first + number → first + number ≤ last → Dec (number ≡ f - first) →
          EndsAt l (first + number) (set ends (f - first) v) number
      go number a b (yes q) =
          let got : get_or (set ends (f - first) v) number 0 ≡ v =
          rw (q, get_or-set_same ends (f - first) v 0 room) in
          let z : length l - get_or (set ends (f - first) v) number 0 ≡ 0 = omega arith in
          record {
            few = omega arith;
            from =
                rw z
                (record {
                  within = omega arith;
                  before = λ k i. absurd (omega arith);
                  after = λ k i j. omega (arith, low (pair_at l k) (mem-at (0, 0) l k j));
                });
          }
      go number a b (no q) =
          let old = w.of number (omega arith) b in
          let same = get_or-set_other ends (f - first) number v 0 q in
          record { few = rw same old.few; from = rw same old.from }

-- a pin that f drives is one of a gate above f
pub drives-above : {file : List ℕ} {shape : Shape} {f : ℕ} {x : ℕ × ℕ} → Holds file shape →
    Drives file shape shape.gates f x → (f < shape.inputs + x.0) × (x.0 < shape.gates) × (x.1 < shape.pins)
drives-above {file} {shape} {f} {x} holds d =
    let own = d.own in
    let gate : x.0 ≡ d.gate = ap (λ (y : ℕ × ℕ). y.0) own.is in
    let below =
    holds.drivers-below d.gate (first_at file shape d.gate + own.pin) d.low (omega arith)
    (omega (arith, own.within))
    in
    let pin : x.1 ≡ first_at file shape d.gate + own.pin = ap (λ (y : ℕ × ℕ). y.1) own.is in (
      omega (arith, own.drives),
      omega (arith, d.low),
      omega (arith, holds.pins-within d.gate d.low, own.within),
    )
