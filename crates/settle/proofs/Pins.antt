-- What the code makes of a gate's pins is the gate's value and settling time. A simple gate's pins are scanned from the
-- last to the first, as the definition's lists are built, so each turn of the loop is one step of the definition.
-- Assumes nothing.
use mathlib.Core.Path.{◌≡◌, refl, sym, ap, ap₂, ◌∙◌}
use mathlib.Core.Bool.{Bool, true, false, not, ◌&&◌, ◌||◌, beq, cond}
use mathlib.Core.List.{List, [], ◌∷◌, map}
use Prim.Native.Nat.{ℕ, suc, ◌+◌, ◌-◌, ◌≤◌, ◌<◌, max, min}
use native.Mathlib.Omega.{arith}
use native.Mathlib.Numerals.{add-one}
use Rattle.std.specs.Prelude.{Option, None, Some, is_some, unwrap_or}
use Rattle.basics.specs.Lists.{any, keep}
use Rattle.basics.proofs.Truth.{by-table-of-three}
use Rattle.netlist.specs.declared.circuit.Accepted.{Accepted}
use Rattle.netlist.specs.declared.Kind.TheVariants.{Simple, Parity, Mux}
use Rattle.netlist.specs.Netlist.{Pin}
use Rattle.netlist.specs.File.{pins_from}
use Rattle.netlist.proofs.Pins.{pins-next, pins-none}
use Rattle.settle.specs.declared.Signal.{Signal}
use Rattle.settle.specs.declared.Scan.{Scan}
use Rattle.settle.specs.Settling.{Cube, cube_holds, cube_ready, gate_value, settles, last, first, first_or}
use Rattle.settle.specs.Steps.{pin_value, pin_ready, pin_signal, gate_signal, chosen_signal, earlier}
use Rattle.settle.specs.Steps.{with_pin, scan_of, pin_in, pins_in}

-- ---- two and three pins

pub two-pins : (a : Accepted) (first : ℕ) → pins_in a first 2 ≡ pin_in a first ∷ pin_in a (first + 1) ∷ []
unfolding pins_from
two-pins a first = rw (add-one first)

pub three-pins : (a : Accepted) (first : ℕ) →
    pins_in a first 3 ≡ pin_in a first ∷ pin_in a (first + 1) ∷ pin_in a (first + 2) ∷ []
unfolding pins_from
three-pins a first =
    let e : suc first ≡ first + 1 = omega arith in
    let f : suc (suc first) ≡ first + 2 = omega arith in
    ap₂ (λ (x y : ℕ). pin_in a first ∷ pin_in a x ∷ pin_in a y ∷ []) e f

-- a parity gate of two pins gives its parity where they are equal
pub parity-gate : (values times : List ℕ) (equal : Bool) (p q : Pin) →
    record {
      value = beq equal (beq (pin_value values p) (pin_value values q));
      at = max (pin_ready times p) (pin_ready times q);
    }
    ≡ gate_signal values times (Parity equal) (p ∷ q ∷ [])
unfolding gate_signal gate_value settles
parity-gate values times equal p q =
    let e : max (pin_ready times p) (pin_ready times q) ≡ max (pin_ready times p) (max (pin_ready times q) 0) =
    omega arith
    in
    ap₂ (λ (v : Bool) (t : ℕ). record { value = v; at = t })
    (by-table-of-three (λ c x y. beq c (beq x y))
    (λ c x y. cond x (not (cond y (not c) c)) (cond y (not c) c)) tt equal (pin_value values p) (pin_value values q))
    e

-- ---- a multiplexer

module _ (values times : List ℕ) (select a b : Pin) where
  abbrev ready : Pin → ℕ
  ready = pin_ready times

  -- a cube before others, where it holds
  abbrev put : Bool → Pin × Bool → Pin × Bool → List (Cube Pin) → List (Cube Pin)
  put h l m rest = cond h ((l ∷ m ∷ []) ∷ rest) rest

  -- the cubes that hold, by the values of select, a and b
  abbrev holding : Bool → Bool → Bool → List (Cube Pin)
  holding s x y =
      put (beq s false && (beq x false && true)) (select, false) (a, false)
      (put (beq s false && (beq x true && true)) (select, false) (a, true)
      (put (beq s true && (beq y false && true)) (select, true) (b, false)
      (put (beq s true && (beq y true && true)) (select, true) (b, true)
      (put (beq x false && (beq y false && true)) (a, false) (b, false)
      (put (beq x true && (beq y true && true)) (a, true) (b, true) [])))))

  -- the signal that these cubes give
  abbrev given : Bool → Bool → Bool → Signal
  given s x y =
      record {
        value = cond s y x;
        at = first_or (cube_ready ready) (holding s x y) (last ready (select ∷ a ∷ b ∷ []));
      }

  abbrev signal : Bool → Pin → Signal
  signal v p = record { value = v; at = ready p }

  -- select 1 chooses b
  chooses-b : (x y : Bool) → chosen_signal (ready select) (signal y b) (signal x a) ≡ given true x y
  unfolding chosen_signal
  chooses-b true true = ap (λ (t : ℕ). record { value = true; at = t }) (ap₂ min (omega arith) (omega arith))
  chooses-b true false = ap (λ (t : ℕ). record { value = false; at = t }) (omega arith)
  chooses-b false true = ap (λ (t : ℕ). record { value = true; at = t }) (omega arith)
  chooses-b false false = ap (λ (t : ℕ). record { value = false; at = t }) (ap₂ min (omega arith) (omega arith))

  -- select 0 chooses a
  chooses-a : (x y : Bool) → chosen_signal (ready select) (signal x a) (signal y b) ≡ given false x y
  unfolding chosen_signal
  chooses-a true true = ap (λ (t : ℕ). record { value = true; at = t }) (ap₂ min (omega arith) (omega arith))
  chooses-a true false = ap (λ (t : ℕ). record { value = true; at = t }) (omega arith)
  chooses-a false true = ap (λ (t : ℕ). record { value = false; at = t }) (omega arith)
  chooses-a false false = ap (λ (t : ℕ). record { value = false; at = t }) (ap₂ min (omega arith) (omega arith))

  -- and the cubes that hold are those of the gate
  mux-given : given (pin_value values select) (pin_value values a) (pin_value values b)
      ≡ gate_signal values times Mux (select ∷ a ∷ b ∷ [])
  unfolding gate_signal gate_value settles
  mux-given = refl

  pub mux-one : pin_value values select ≡ true →
      chosen_signal (ready select) (pin_signal values times b) (pin_signal values times a)
      ≡ gate_signal values times Mux (select ∷ a ∷ b ∷ [])
  unfolding pin_signal
  mux-one e =
      chooses-b (pin_value values a) (pin_value values b)
      ∙ ap (λ (s : Bool). given s (pin_value values a) (pin_value values b)) (sym e)
      ∙ mux-given

  pub mux-zero : pin_value values select ≡ false →
      chosen_signal (ready select) (pin_signal values times a) (pin_signal values times b)
      ≡ gate_signal values times Mux (select ∷ a ∷ b ∷ [])
  unfolding pin_signal
  mux-zero e =
      chooses-a (pin_value values a) (pin_value values b)
      ∙ ap (λ (s : Bool). given s (pin_value values a) (pin_value values b)) (sym e)
      ∙ mux-given

-- ---- a simple gate

module _ (values times : List ℕ) (c : Bool) where
  -- a pin at c
  abbrev is_at : Pin → Bool
  is_at p = beq (pin_value values p) c

  scan-some : (ps : List Pin) → is_some (scan_of values times c ps).first ≡ any is_at ps
  unfolding scan_of with_pin
  scan-some [] = refl
  scan-some (p ∷ ps) = go (is_at p) (scan-some ps)
    where
      go : (h : Bool) → is_some (scan_of values times c ps).first ≡ any is_at ps →
          is_some
          (cond h (Some (earlier (scan_of values times c ps).first (pin_ready times p)))
          (scan_of values times c ps).first)
          ≡ (h || any is_at ps)
      go true e = refl
      go false e = e

  scan-last : (ps : List Pin) → (scan_of values times c ps).last ≡ last (pin_ready times) ps
  unfolding scan_of with_pin
  scan-last [] = refl
  scan-last (p ∷ ps) = let e = scan-last ps in omega arith

  -- the cubes that hold: each pin at c by itself
  abbrev held : List Pin → List (Cube Pin)
  held ps = keep (cube_holds (pin_value values)) (map (λ p. (p, c) ∷ []) ps)

  -- the first of the pins at c; `otherwise` where there is none
  scan-first : (ps : List Pin) (otherwise : ℕ) →
      unwrap_or (scan_of values times c ps).first otherwise
      ≡ first_or (cube_ready (pin_ready times)) (held ps) otherwise
  unfolding scan_of with_pin
  scan-first [] otherwise = refl
  scan-first (p ∷ ps) otherwise = go (is_at p) (scan_of values times c ps).first (held ps) (λ m. scan-first ps m)
    where
      least : (f : Option ℕ) (qs : List (Cube Pin)) →
          ((m : ℕ) → unwrap_or f m ≡ first_or (cube_ready (pin_ready times)) qs m) →
          earlier f (pin_ready times p) ≡ first (cube_ready (pin_ready times)) ((p, c) ∷ []) qs
      least (Some f) [] e = let a = e 0 in let b = e 1 in absurd (omega arith)
      least (Some f) (q ∷ qs) e = let a = e 0 in omega arith
      least None [] e = omega arith
      least None (q ∷ qs) e = let a = e 0 in let b = e 1 in absurd (omega arith)

      go : (h : Bool) (f : Option ℕ) (qs : List (Cube Pin)) →
          ((m : ℕ) → unwrap_or f m ≡ first_or (cube_ready (pin_ready times)) qs m) →
          unwrap_or (cond h (Some (earlier f (pin_ready times p))) f) otherwise
          ≡ first_or (cube_ready (pin_ready times)) (cond (h && true) (((p, c) ∷ []) ∷ qs) qs) otherwise
      go true f qs e = least f qs e
      go false f qs e = e otherwise

  -- with a pin at c it gives k when the first such pin is ready
  pub scan-controlled : (k : Bool) (ps : List Pin) {at : ℕ} → (scan_of values times c ps).first ≡ Some at →
      record { value = k; at = at } ≡ gate_signal values times (Simple c k) ps
  unfolding gate_signal gate_value settles
  scan-controlled k ps {at} s =
      ap₂ (λ (v : Bool) (t : ℕ). record { value = v; at = t })
      (ap (λ b. cond b k (not k)) (sym (ap is_some s) ∙ scan-some ps))
      (ap (λ f. unwrap_or f (last (pin_ready times) ps)) (sym s) ∙ scan-first ps (last (pin_ready times) ps))

  -- otherwise the opposite when the last pin is
  pub scan-free : (k : Bool) (ps : List Pin) → (scan_of values times c ps).first ≡ None →
      record { value = not k; at = (scan_of values times c ps).last } ≡ gate_signal values times (Simple c k) ps
  unfolding gate_signal gate_value settles
  scan-free k ps s =
      ap₂ (λ (v : Bool) (t : ℕ). record { value = v; at = t })
      (ap (λ b. cond b k (not k)) (sym (ap is_some s) ∙ scan-some ps))
      (scan-last ps
      ∙ ap (λ f. unwrap_or f (last (pin_ready times) ps)) (sym s)
      ∙ scan-first ps (last (pin_ready times) ps))

-- the loop's invariant: the last pins are scanned, `left` are not; each as `read` makes it
pub record Scanning (read : Pin → Pin) (a : Accepted) (begin count : ℕ) (values times : List ℕ) (c : Bool)
    (scan : Scan) (left : ℕ) : Type 0 where
  pub upto : left ≤ count
  pub is : scan ≡ scan_of values times c (map read (pins_in a (begin + left) (count - left)))

pub scanning-starts : (read : Pin → Pin) (a : Accepted) (begin count : ℕ) (values times : List ℕ) (c : Bool) →
    Scanning read a begin count values times c (record { first = None; last = 0 }) count
unfolding scan_of
scanning-starts read a begin count values times c =
    record { upto = omega arith; is = rw (pins-none a.file.now a.shape begin count count (omega arith)) }

pub scanning-more : {read : Pin → Pin} {a : Accepted} {begin count : ℕ} {values times : List ℕ} {c : Bool}
    {scan : Scan} {left : ℕ} → Scanning read a begin count values times c scan left → 0 < left → (next : Scan) →
    (let p : Pin = read (pin_in a (begin + (left - 1))) in
    next ≡ with_pin scan (beq (pin_value values p) c) (pin_ready times p)) →
    Scanning read a begin count values times c next (left - 1)
unfolding scan_of
scanning-more {read} {a} {begin} {count} {values} {times} {c} {scan} {left} b h next q =
    let e : left - 1 + 1 ≡ left = omega arith in
    let p : Pin = read (pin_in a (begin + (left - 1))) in
    record {
      upto = omega (arith, b.upto);
      is =
          q
          ∙ ap (λ (s : Scan). with_pin s (beq (pin_value values p) c) (pin_ready times p)) b.is
          ∙ sym
          (ap (λ (ps : List Pin). scan_of values times c (map read ps))
          (pins-next a.file.now a.shape begin count (left - 1) (omega (arith, b.upto))
          ∙ ap (λ (n : ℕ). pin_in a (begin + (left - 1)) ∷ pins_in a (begin + n) (count - n)) e));
    }

pub scanning-ends : {read : Pin → Pin} {a : Accepted} {begin count : ℕ} {values times : List ℕ} {c : Bool}
    {scan : Scan} {left : ℕ} → Scanning read a begin count values times c scan left → left ≤ 0 →
    scan ≡ scan_of values times c (map read (pins_in a begin count))
scanning-ends {read} {a} {begin} {count} {values} {times} {c} {scan} {left} b h =
    let e : begin + left ≡ begin = omega arith in
    let f : count - left ≡ count = omega arith in
    b.is ∙ ap₂ (λ (n m : ℕ). scan_of values times c (map read (pins_in a n m))) e f

-- pins as they are
pub map_same : {A : Type 0} (l : List A) → map (λ (x : A). x) l ≡ l
map_same [] = refl
map_same (x ∷ l) = ap (λ t. x ∷ t) (map_same l)
