-- A gate that goes by the delays for its own final value: whatever their delays, its pins have the same values, so it
-- ends where it ends; a signal that pins with the delays for one value give, and that ends at this value, is the
-- gate's; and so is what a simple gate's one pass gives, in which each pin has the delay that it has if it counts.
-- Laws: sloped-small, gate_value-map, pins-for-value, signal-for, by_end; simple-more, simple-controlled, simple-free,
-- parity-ends, mux-b, mux-a. Assumes nothing.
use mathlib.Core.Path.{◌≡◌, refl, sym, ap, ap₂, ◌∙◌}
use mathlib.Core.Bool.{Bool, true, false, not, beq, cond}
use mathlib.Core.List.{List, [], ◌∷◌, map}
use Prim.Native.Nat.{ℕ, zero, suc, ◌+◌, ◌≤◌, max}
use native.Mathlib.Omega.{arith}
use lib.Dec.{eqb}
use lib.ListN.{get_or}
use Rattle.basics.proofs.Lists.{any-map}
use Rattle.netlist.specs.declared.Kind.{Kind}
use Rattle.netlist.specs.declared.Kind.TheVariants.{Simple, Parity, Mux}
use Rattle.netlist.specs.declared.Shape.{Shape}
use Rattle.std.specs.Int.{from_bool}
use Rattle.std.specs.Prelude.{Option, None, Some, is_some}
use Rattle.netlist.specs.Netlist.{Pin, Slopes, alike, apart, delayed, fall_of, pins_for}
use Rattle.netlist.specs.Holds.{Small, Sloped}
use Rattle.settle.specs.declared.Signal.{Signal}
use Rattle.settle.specs.declared.Scan.{Scan}
use Rattle.settle.specs.Settling.{gate_value}
use Rattle.settle.specs.Steps.{
  pin_value,
  pin_ready,
  pin_signal,
  gate_signal,
  pin_for,
  sloped_signal,
  simple_pin,
  chosen_signal,
  passed_signal,
  earlier,
  with_pin,
  scan_of,
  Binary,
}
use Rattle.settle.proofs.Pins.{scan-controlled, scan-free, parity-gate, mux-one, mux-zero, map_same}

-- one delay for each pin, and all of them small
pub sloped-small : (shape : Shape) (slopes : Slopes) → Sloped shape slopes → Small slopes
sloped-small shape alike s = tt
sloped-small shape (apart falls) s = s.1

-- ---- the same values

-- a gate's value over changed pins
pub gate_value-map : {P Q : Type 0} (value : Q → Bool) (f : P → Q) (kind : Kind) (ps : List P) →
    gate_value value kind (map f ps) ≡ gate_value (λ p. value (f p)) kind ps
unfolding gate_value
gate_value-map value f (Simple c k) ps =
    ap (λ b. cond b k (not k)) (any-map (λ p. beq (value p) c) f ps)
gate_value-map value f (Parity equal) [] = refl
gate_value-map value f (Parity equal) (p ∷ ps) =
    ap (λ b. cond (value (f p)) (not b) b) (gate_value-map value f (Parity equal) ps)
gate_value-map value f Mux [] = refl
gate_value-map value f Mux (select ∷ []) = refl
gate_value-map value f Mux (select ∷ a ∷ []) = refl
gate_value-map value f Mux (select ∷ a ∷ b ∷ ps) = refl

-- whatever a gate's delays, its value is the same
pub pins-for-value : (value : ℕ → Bool) (slopes : Slopes) (v : Bool) (kind : Kind) (ps : List Pin) →
    gate_value (λ (p : Pin). value p.driver) kind (pins_for slopes v ps)
    ≡ gate_value (λ (p : Pin). value p.driver) kind ps
pins-for-value value alike v kind ps = refl
pins-for-value value (apart falls) true kind ps = refl
pins-for-value value (apart falls) false kind ps =
    gate_value-map (λ (p : Pin). value p.driver) (delayed (fall_of falls)) kind ps

of-none : (o : Option ℕ) → is_some o ≡ false → o ≡ None
of-none None e = refl
of-none (Some x) e = cc

module _ (values times : List ℕ) (slopes : Slopes) where
  -- whatever its delay, a pin has its driver
  pin-for-driver : (v : Bool) (p : Pin) → (pin_for slopes v p).driver ≡ p.driver
  pin-for-driver v p = by-cases slopes v
    where
      by-cases : (s : Slopes) (w : Bool) → (pin_for s w p).driver ≡ p.driver
      by-cases alike w = refl
      by-cases (apart falls) true = refl
      by-cases (apart falls) false = refl

  -- and its value
  pin-for-value : (v : Bool) (p : Pin) → pin_value values (pin_for slopes v p) ≡ pin_value values p
  pin-for-value v p = ap (λ (node : ℕ). eqb (get_or values node 0) 1) (pin-for-driver v p)

  -- the signal at a pin, from its driver and its delay
  pub signal-for : (v : Bool) (p : Pin) {driver delay : ℕ} → driver ≡ p.driver → delay ≡ (pin_for slopes v p).delay →
      record { value = eqb (get_or values driver 0) 1; at = get_or times driver 0 + delay }
      ≡ pin_signal values times (pin_for slopes v p)
  unfolding pin_signal
  signal-for v p e f = rw (e, f, pin-for-driver v p)

  -- the pins one by one
  pins-for-each : (v : Bool) (ps : List Pin) → pins_for slopes v ps ≡ map (pin_for slopes v) ps
  pins-for-each v ps = by-cases slopes v
    where
      by-cases : (s : Slopes) (w : Bool) → pins_for s w ps ≡ map (pin_for s w) ps
      by-cases alike w = sym (map_same ps)
      by-cases (apart falls) true = sym (map_same ps)
      by-cases (apart falls) false = refl

  -- a signal that pins with the delays for one value give, and that ends at this value, is the gate's
  pub by_end : (v : Bool) (kind : Kind) (ps : List Pin) {s : Signal} →
      s ≡ gate_signal values times kind (map (pin_for slopes v) ps) → s.value ≡ v →
      s ≡ sloped_signal slopes values times kind ps
  unfolding gate_signal
  by_end v kind ps {s} e ends =
      let value = pins-for-value (λ node. pin_value values (record { driver = node; delay = 0; number = 0 })) in
      let is : v ≡ gate_value (pin_value values) kind ps =
      sym ends
      ∙ ap (λ (x : Signal). x.value) e
      ∙ ap (gate_value (pin_value values) kind) (sym (pins-for-each v ps))
      ∙ value slopes v kind ps
      in
      e
      ∙ ap (gate_signal values times kind) (sym (pins-for-each v ps))
      ∙ ap (λ (w : Bool). gate_signal values times kind (pins_for slopes w ps)) is

  -- ---- a simple gate

  -- a bit that stands as c's byte is at c
  is_byte : (v : ℕ) → v ≤ 1 → (c : Bool) → eqb v (from_bool c) ≡ beq (eqb v 1) c
  is_byte zero l true = refl
  is_byte zero l false = refl
  is_byte (suc zero) l true = refl
  is_byte (suc zero) l false = refl
  is_byte (suc (suc v)) l c = absurd (omega arith)

  module _ (c k : Bool) where
    abbrev own : Pin → Pin
    own = simple_pin slopes values c k

    abbrev is_at : Pin → Bool
    is_at p = beq (pin_value values p) c

    -- by which value's delay a pin at c goes, and which another
    end-at : (b : Bool) → beq true b ≡ b
    end-at true = refl
    end-at false = refl

    end-off : (b : Bool) → beq false b ≡ not b
    end-off true = refl
    end-off false = refl

    own_at : (p : Pin) → is_at p ≡ true → own p ≡ pin_for slopes k p
    own_at p e = ap (λ (b : Bool). pin_for slopes b p) (ap (λ (b : Bool). beq b k) e ∙ end-at k)

    own-off : (p : Pin) → is_at p ≡ false → own p ≡ pin_for slopes (not k) p
    own-off p e = ap (λ (b : Bool). pin_for slopes b p) (ap (λ (b : Bool). beq b k) e ∙ end-off k)

    abbrev scan : (Pin → Pin) → List Pin → Scan
    scan f ps = scan_of values times c (map f ps)

    -- a pin is at c or not, whatever its delay
    own_is : (v : Bool) (p : Pin) → is_at (own p) ≡ is_at (pin_for slopes v p)
    own_is v p =
        ap (λ (b : Bool). beq b c)
        (pin-for-value (beq (is_at p) k) p ∙ sym (pin-for-value v p))

    same_some : (v : Bool) (ps : List Pin) →
        is_some (scan own ps).first ≡ is_some (scan (pin_for slopes v) ps).first
    unfolding scan_of with_pin
    same_some v [] = refl
    same_some v (p ∷ ps) = go (is_at (own p)) (is_at (pin_for slopes v p)) (own_is v p) (same_some v ps)
      where
        go : (x y : Bool) → x ≡ y → is_some (scan own ps).first ≡ is_some (scan (pin_for slopes v) ps).first →
            is_some (cond x (Some (earlier (scan own ps).first (pin_ready times (own p)))) (scan own ps).first)
            ≡ is_some
            (cond y (Some (earlier (scan (pin_for slopes v) ps).first (pin_ready times (pin_for slopes v p))))
            (scan (pin_for slopes v) ps).first)
        go true y e s = rw (← e) refl
        go false y e s = rw (← e) s

    -- the first of the pins at c goes by the delays for k
    same_first : (ps : List Pin) → (scan own ps).first ≡ (scan (pin_for slopes k) ps).first
    unfolding scan_of with_pin
    same_first [] = refl
    same_first (p ∷ ps) = go (is_at p) refl (same_first ps)
      where
        go : (b : Bool) → is_at p ≡ b → (scan own ps).first ≡ (scan (pin_for slopes k) ps).first →
            (scan own (p ∷ ps)).first ≡ (scan (pin_for slopes k) (p ∷ ps)).first
        go true e f = rw (own_at p e, f)
        go false e f =
            let at : is_at (pin_for slopes k p) ≡ false = ap (λ (b : Bool). beq b c) (pin-for-value k p) ∙ e in
            rw (own_is k p, at, f)

    -- no pin is at c
    none : (p : Pin) (ps : List Pin) → (scan own (p ∷ ps)).first ≡ None →
        (is_at (own p) ≡ false) × ((scan own ps).first ≡ None)
    unfolding scan_of with_pin
    none p ps n = go (is_at (own p)) n
      where
        go : (x : Bool) →
            cond x (Some (earlier (scan own ps).first (pin_ready times (own p)))) (scan own ps).first ≡ None →
            (x ≡ false) × ((scan own ps).first ≡ None)
        go true e = cc
        go false e = (refl, e)

    -- the last of all, where none is at c, by those for the opposite
    same-last : (ps : List Pin) → (scan own ps).first ≡ None →
        (scan own ps).last ≡ (scan (pin_for slopes (not k)) ps).last
    unfolding scan_of with_pin
    same-last [] n = refl
    same-last (p ∷ ps) n =
        let both = none p ps n in
        let off : is_at p ≡ false =
        sym (ap (λ (b : Bool). beq b c) (pin-for-value (beq (is_at p) k) p)) ∙ both.0
        in
        ap₂ max (same-last ps both.1) (ap (pin_ready times) (own-off p off))

    -- one pin more in the scan, by whether its byte is c's
    pub simple-more : (scan : Scan) {next : Scan} {signal : Signal} {controls : Bool} {byte driver : ℕ} (p : Pin) →
        Binary values → byte ≡ from_bool c → driver ≡ p.driver → controls ≡ eqb (get_or values driver 0) byte →
        signal ≡ pin_signal values times (pin_for slopes (beq controls k) p) →
        next ≡ with_pin scan controls signal.at →
        next ≡ with_pin scan (is_at (own p)) (pin_ready times (own p))
    unfolding pin_signal
    simple-more scan {next} {signal} {controls} {byte} {driver} p small b d e s n =
        let at : controls ≡ is_at p =
        e
        ∙ ap₂ (λ (x y : ℕ). eqb (get_or values x 0) y) d b
        ∙ is_byte (get_or values p.driver 0) (small p.driver) c
        in
        n
        ∙ ap₂ (λ (x : Bool) (t : Signal). with_pin scan x t.at)
        (at ∙ sym (ap (λ (x : Bool). beq x c) (pin-for-value (beq (is_at p) k) p)))
        (s ∙ ap (λ (x : Bool). pin_signal values times (pin_for slopes (beq x k) p)) at)

    -- with a pin at c it gives k when the first such pin is ready
    pub simple-controlled : (ps : List Pin) {at : ℕ} → (scan own ps).first ≡ Some at →
        record { value = k; at = at } ≡ sloped_signal slopes values times (Simple c k) ps
    simple-controlled ps s =
        by_end k (Simple c k) ps
        (scan-controlled values times c k (map (pin_for slopes k) ps) (sym (same_first ps) ∙ s)) refl

    -- otherwise the opposite when the last pin is
    pub simple-free : (ps : List Pin) → (scan own ps).first ≡ None →
        record { value = not k; at = (scan own ps).last } ≡ sloped_signal slopes values times (Simple c k) ps
    simple-free ps s =
        by_end (not k) (Simple c k) ps
        (ap (λ (t : ℕ). record { value = not k; at = t }) (same-last ps s)
        ∙ scan-free values times c k (map (pin_for slopes (not k)) ps)
        (of-none _ (sym (same_some (not k) ps) ∙ ap is_some s)))
        refl

  -- ---- two and three pins, in a gate that ends at `ends`

  module _ (ends : Bool) where
    abbrev for : Pin → Pin
    for = pin_for slopes ends

    -- the two values are read before
    pub parity-ends : (equal : Bool) (p q : Pin) {x y : Bool} → x ≡ pin_value values p → y ≡ pin_value values q →
        ends ≡ beq equal (beq x y) →
        record { value = ends; at = max (pin_ready times (for p)) (pin_ready times (for q)) }
        ≡ sloped_signal slopes values times (Parity equal) (p ∷ q ∷ [])
    parity-ends equal p q u v e =
        by_end ends (Parity equal) (p ∷ q ∷ [])
        (ap (λ (v : Bool). record { value = v; at = max (pin_ready times (for p)) (pin_ready times (for q)) })
        (e
        ∙ ap₂ (λ (x y : Bool). beq equal (beq x y))
        (u ∙ sym (pin-for-value ends p))
        (v ∙ sym (pin-for-value ends q)))
        ∙ parity-gate values times equal (for p) (for q))
        refl

  -- what is passed on, from the three signals
  pub passed-by : (select chosen other : Pin) {ends : Bool} {s x y : Signal} → ends ≡ pin_value values chosen →
      s ≡ pin_signal values times (pin_for slopes ends select) →
      x ≡ pin_signal values times (pin_for slopes ends chosen) →
      y ≡ pin_signal values times (pin_for slopes ends other) →
      chosen_signal s.at x y ≡ passed_signal slopes values times select chosen other
  unfolding pin_signal
  passed-by select chosen other e p q r = rw (p, q, r, e)

  -- a multiplexer passes b on for select 1
  pub mux-b : (select a b : Pin) → pin_value values select ≡ true →
      passed_signal slopes values times select b a ≡ sloped_signal slopes values times Mux (select ∷ a ∷ b ∷ [])
  unfolding chosen_signal pin_signal
  mux-b select a b one =
      let ends = pin_value values b in
      by_end ends Mux (select ∷ a ∷ b ∷ [])
      (mux-one values times (pin_for slopes ends select) (pin_for slopes ends a) (pin_for slopes ends b)
      (pin-for-value ends select ∙ one))
      (pin-for-value ends b)

  -- and a for select 0
  pub mux-a : (select a b : Pin) → pin_value values select ≡ false →
      passed_signal slopes values times select a b ≡ sloped_signal slopes values times Mux (select ∷ a ∷ b ∷ [])
  unfolding chosen_signal pin_signal
  mux-a select a b none =
      let ends = pin_value values a in
      by_end ends Mux (select ∷ a ∷ b ∷ [])
      (mux-zero values times (pin_for slopes ends select) (pin_for slopes ends a) (pin_for slopes ends b)
      (pin-for-value ends select ∙ none))
      (pin-for-value ends a)
