-- What is marked of a node f: the target by the outputs, and what each pin asks for that f drives, one after the other.
-- Laws: output-found; pin-starts, pin-here, pin-more, pin-ends; asks-same, asks-starts, asks-more. Assumes nothing.
use mathlib.Core.Path.{◌≡◌, refl, sym, ap, ap₂, subst, ◌∙◌}
use mathlib.Core.Logic.{◌⊎◌, inl, inr}
use mathlib.Core.List.Memᴰ
use mathlib.Core.List.{
  List,
  [],
  ◌∷◌,
  Memᴰ,
}
use Prim.Native.Nat.{ℕ, ◌+◌, ◌*◌, ◌-◌, ◌<◌, ◌≤◌}
use native.Mathlib.Omega.{arith}
use native.Mathlib.Decide.{dec_lt, ℕ_discrete}
use lib.ListN.{length, get_or}
use Rattle.netlist.specs.declared.Shape.{Shape}
use Rattle.netlist.specs.Netlist.{Slopes}
use Rattle.netlist.specs.File.{netlist_at}
use Rattle.pairs.specs.Table.{
  pair_at,
  key_of,
  Sorted,
  Precede,
  Adds,
  Within,
  PinAsks,
  askers,
  LinkAsks,
  OutputAsks,
  Asks,
  by_output,
  by_pin,
}
use Rattle.pairs.proofs.Flat.{mem-at, at_mem}
use Rattle.pairs.proofs.Marking.{adds_none, adds_same, adds_then}

-- one of these
abbrev pub In : List (ℕ × ℕ) → ℕ × ℕ → Type 0
In pins x = Memᴰ x pins

-- from 1 to a top, one property for another
within-as : {top : ℕ} {X : ℕ → Type 0} (Y : ℕ → Type 0) (t : ℕ) → (X t → Y t) → Within top X t → Within top Y t
within-as Y t f u = record { some = u.some; few = u.few; has = f u.has }

-- ---- the outputs

module _ {marks : List ℕ} {file : List ℕ} {shape : Shape} {target f top : ℕ} where
  pub output-found : {after : List ℕ} → 0 < target → target ≤ top → Memᴰ f (netlist_at file shape).outputs →
      Adds marks (λ t. t ≡ target) after → Adds marks (Within top (OutputAsks file shape target f)) after
  output-found a b m w =
      adds_same (Within top (OutputAsks file shape target f))
      (λ t r. record { some = omega arith; few = omega arith; has = record { same = r; output = m } })
      (λ t u. u.has.same) w

-- ---- a pin of node n

-- what is asked for by the first k pairs
pub record PinTo (l : List (ℕ × ℕ)) (n delay top k t : ℕ) : Type 0 where
  pub place : ℕ
  pub early : place < k
  pub is : pair_at l place ≡ (n, t + delay)
  pub some : 0 < t
  pub few : t ≤ top

module _ {l : List (ℕ × ℕ)} {n delay top : ℕ} where
  -- the first of them is not after the delay
  pub pin-starts : {marks : List ℕ} {k : ℕ} → Precede l (n * 4294967296 + delay + 1) k →
      Adds marks (PinTo l n delay top k) marks
  pin-starts {k = k} p =
      adds_none (PinTo l n delay top k)
      (λ t u. omega (arith, u.some, ap key_of u.is, p.before u.place u.early))

  -- pair k is one of the node, with a time after the delay
  pub pin-here : {low high : ℕ} (k time : ℕ) → Sorted l → top < 1000000 → delay < 1000 →
      Precede l (n * 4294967296 + delay + 1) low → Precede l (n * 4294967296 + delay + top + 1) high → low ≤ k →
      k < high → time ≡ (pair_at l k).1 → ((pair_at l k).0 ≡ n) × (delay < time) × (time - delay ≤ top)
  pin-here k time s a b p q h i e =
      let x = p.after k h (omega (arith, q.within)) in
      let y = q.before k i in
      let z = s.small k in
      (omega arith, omega arith, omega arith)

  pub pin-more : {a b c : List ℕ} {k : ℕ} (time : ℕ) → Adds a (PinTo l n delay top k) b →
      ((pair_at l k).0 ≡ n) × (delay < time) × (time - delay ≤ top) → time ≡ (pair_at l k).1 →
      Adds b (λ t. t ≡ time - delay) c → Adds a (PinTo l n delay top (k + 1)) c
  pin-more {k = k} time v h e w =
      adds_then (PinTo l n delay top (k + 1)) v w
      (λ t u. record {
        place = u.place;
        early = omega (arith, u.early);
        is = u.is;
        some = u.some;
        few = u.few;
      })
      (λ t q. record {
        place = k;
        early = omega arith;
        is = ap₂ (λ (x y : ℕ). (x, y)) h.0 (omega arith);
        some = omega arith;
        few = omega arith;
      })
      (λ t u. pick t u (ℕ_discrete u.place k))
    where
      pick : (t : ℕ) (u : PinTo l n delay top (k + 1) t) → Dec (u.place ≡ k) →
          PinTo l n delay top k t ⊎ (t ≡ time - delay)
      pick t u (yes q) =
          let r : (pair_at l k).1 ≡ t + delay =
          ap (λ (x : ℕ). (pair_at l x).1) (sym q) ∙ ap (λ (x : ℕ × ℕ). x.1) u.is
          in
          inr (omega arith)
      pick t u (no q) =
          inl
          (record {
            place = u.place;
            early = omega (arith, u.early);
            is = u.is;
            some = u.some;
            few = u.few;
          })

  -- the last of them is at the top and the delay
  pub pin-ends : {a c : List ℕ} {end k : ℕ} → Adds a (PinTo l n delay top k) c →
      Precede l (n * 4294967296 + delay + top + 1) end → k ≡ end → Adds a (Within top (PinAsks l n delay)) c
  pin-ends {end = end} {k = k} w p e =
      adds_same (Within top (PinAsks l n delay))
      (λ t u. record {
        some = u.some;
        few = u.few;
        has =
            record {
              has =
                  subst (λ (x : ℕ × ℕ). Memᴰ x l) u.is
                  (mem-at (0, 0) l u.place (omega (arith, u.early, p.within)));
            };
      })
      (λ t u. find t u (at_mem (0, 0) l (n, t + delay) u.has.has)) w
    where
      find : (t : ℕ) → Within top (PinAsks l n delay) t →
          (j : ℕ) × (j < length l) × (get_or l j (0, 0) ≡ (n, t + delay)) → PinTo l n delay top k t
      find t u i = go (dec_lt i.0 k)
        where
          go : Dec (i.0 < k) → PinTo l n delay top k t
          go (yes h) = record { place = i.0; early = h; is = i.2; some = u.some; few = u.few }
          go (no h) =
              absurd (omega (arith, u.few, ap key_of i.2, p.after i.0 (omega arith) i.1))

-- ---- a pin, by the rails of its gate

module _ {l : List (ℕ × ℕ)} {top : ℕ} where
  -- by no rail, or by one rail before those that asked already
  pub links-none : (marks : List ℕ) → Adds marks (Within top (LinkAsks l [])) marks
  links-none marks = adds_none (Within top (LinkAsks l [])) (λ t u. Memᴰ.not-nil u.has.own)

  pub links-more : {a b c : List ℕ} {by : List (ℕ × ℕ)} (x : ℕ × ℕ) → Adds a (Within top (PinAsks l x.0 x.1)) b →
      Adds b (Within top (LinkAsks l by)) c → Adds a (Within top (LinkAsks l (x ∷ by))) c
  links-more {by = by} x v w =
      adds_then (Within top (LinkAsks l (x ∷ by))) v w
      (λ t u.
      within-as (LinkAsks l (x ∷ by)) t (λ y. record { rail = x; own = Memᴰ.head refl; asks = y }) u)
      (λ t u.
      within-as (LinkAsks l (x ∷ by)) t
      (λ y. record { rail = y.rail; own = Memᴰ.tail y.own; asks = y.asks }) u)
      (λ t u. pick t u (Memᴰ.cases_cons u.has.own))
    where
      pick : (t : ℕ) (u : Within top (LinkAsks l (x ∷ by)) t) → (u.has.rail ≡ x) ⊎ Memᴰ u.has.rail by →
          Within top (PinAsks l x.0 x.1) t ⊎ Within top (LinkAsks l by) t
      pick t u (inl e) =
          inl
          (record {
            some = u.some;
            few = u.few;
            has = subst (λ (y : ℕ × ℕ). PinAsks l y.0 y.1 t) e u.has.asks;
          })
      pick t u (inr m) =
          inr
          (record {
            some = u.some;
            few = u.few;
            has = record { rail = u.has.rail; own = m; asks = u.has.asks };
          })

-- ---- the outputs, and then the pins that f drives

-- the same by other pins
asks-as : {l : List (ℕ × ℕ)} {file : List ℕ} {shape : Shape} {slopes : Slopes} {target f : ℕ} {X : ℕ × ℕ → Type 0}
    (Y : ℕ × ℕ → Type 0) (t : ℕ) → ((x : ℕ × ℕ) → X x → Y x) → Asks X l file shape slopes target f t →
    Asks Y l file shape slopes target f t
asks-as Y t h (by_output y) = by_output y
asks-as Y t h (by_pin x p y) = by_pin x (h x p) y

module _ {l : List (ℕ × ℕ)} {file : List ℕ} {shape : Shape} {slopes : Slopes} {target f top : ℕ} where
  pub asks-same : {a b : List ℕ} {X : ℕ × ℕ → Type 0} (Y : ℕ × ℕ → Type 0) → ((x : ℕ × ℕ) → X x → Y x) →
      ((x : ℕ × ℕ) → Y x → X x) → Adds a (Within top (Asks X l file shape slopes target f)) b →
      Adds a (Within top (Asks Y l file shape slopes target f)) b
  asks-same {X = X} Y g h w =
      adds_same (Within top (Asks Y l file shape slopes target f))
      (λ t u. within-as (Asks Y l file shape slopes target f) t (asks-as Y t g) u)
      (λ t u. within-as (Asks X l file shape slopes target f) t (asks-as X t h) u) w

  -- no pin
  pub asks-starts : {a b : List ℕ} → Adds a (Within top (OutputAsks file shape target f)) b →
      Adds a (Within top (Asks (In []) l file shape slopes target f)) b
  asks-starts w =
      adds_same (Within top (Asks (In []) l file shape slopes target f))
      (λ t u. within-as (Asks (In []) l file shape slopes target f) t (λ v. by_output v) u)
      (λ t u. within-as (OutputAsks file shape target f) t (λ v. pick t v) u) w
    where
      pick : (t : ℕ) → Asks (In []) l file shape slopes target f t → OutputAsks file shape target f t
      pick t (by_output v) = v
      pick t (by_pin x m v) = absurd (Memᴰ.not-nil m)

  -- one pin more
  pub asks-more : {a b c : List ℕ} {pins : List (ℕ × ℕ)} (x : ℕ × ℕ) →
      Adds a (Within top (Asks (In pins) l file shape slopes target f)) b →
      Adds b (Within top (LinkAsks l (askers file shape slopes x))) c →
      Adds a (Within top (Asks (In (x ∷ pins)) l file shape slopes target f)) c
  asks-more {pins = pins} x v w =
      adds_then (Within top (Asks (In (x ∷ pins)) l file shape slopes target f)) v w
      (λ t u.
      within-as (Asks (In (x ∷ pins)) l file shape slopes target f) t
      (asks-as (In (x ∷ pins)) t (λ y m. Memᴰ.tail m)) u)
      (λ t u. within-as (Asks (In (x ∷ pins)) l file shape slopes target f) t (λ y. by_pin x (Memᴰ.head refl) y) u)
      (λ t u. pick t u u.has)
    where
      pick : (t : ℕ) → Within top (Asks (In (x ∷ pins)) l file shape slopes target f) t →
          Asks (In (x ∷ pins)) l file shape slopes target f t →
          Within top (Asks (In pins) l file shape slopes target f) t
          ⊎ Within top (LinkAsks l (askers file shape slopes x)) t
      pick t u (by_output y) = inl (record { some = u.some; few = u.few; has = by_output y })
      pick t u (by_pin z m y) = go (Memᴰ.cases_cons m)
        where
          go : (z ≡ x) ⊎ Memᴰ z pins →
              Within top (Asks (In pins) l file shape slopes target f) t
              ⊎ Within top (LinkAsks l (askers file shape slopes x)) t
          go (inl e) =
              inr
              (record {
                some = u.some;
                few = u.few;
                has = subst (λ (p : ℕ × ℕ). LinkAsks l (askers file shape slopes p) t) e y;
              })
          go (inr i) = inl (record { some = u.some; few = u.few; has = by_pin z i y })
