-- A run of tokens: runs follow one another, and a loop puts one run for each number from 0 on. Assumes nothing.
use mathlib.Core.Path.{◌≡◌, refl, sym, ap, ap₂, ◌∙◌, subst}
use mathlib.Core.List.{List, [], ◌∷◌, ◌++◌, map, map-append, append-nil}
use Prim.Native.Nat.{ℕ, ◌+◌, ◌*◌, ◌≤◌, ◌<◌}
use native.Mathlib.Nat.{mul-le-mul_right}
use native.Mathlib.Omega.{arith}
use lib.IntN.{ℤ}
use lib.ListN.{length, length-append, length-map}
use Rattle.basics.specs.Lists.{concat_map, up_from}
use Rattle.basics.proofs.Lists.{concat_map-append}
use Rattle.netlist.proofs.Ranges.{up_from-append}
use Rattle.clauses.specs.Codes.{written}
use Rattle.clauses.proofs.Written.{written-append, written-length}
use Rattle.formula.specs.declared.Emitted.{Emitted}
use Rattle.formula.specs.declared.Writer.{Writer}
use Rattle.formula.specs.Emission.{Token, coded, ended, token_code, ends, Emits, Puts, Fits}

ends-append : (xs ys : List Token) → ends (xs ++ ys) ≡ ends xs + ends ys
ends-append [] ys = omega arith
ends-append (coded x ∷ xs) ys = ends-append xs ys
ends-append (ended ∷ xs) ys = let e = ends-append xs ys in omega arith

-- nothing was put
pub emits_none : (before : List ℤ) (at : Emitted) → at.clauses ≤ at.numbers → Emits 0 [] before at before at
unfolding written
emits_none before at h =
    record { is = refl; numbers = omega arith; clauses = omega arith; few = omega arith; fewer = h }

module _ {most : ℕ} {xs : List Token} {before now : List ℤ} {from at : Emitted} where
  -- one run and then another
  pub emits_then : {more : ℕ} {ys : List Token} {after : List ℤ} {to : Emitted} →
      Emits most xs before from now at → Emits more ys now at after to → Emits (most + more) (xs ++ ys) before from
      after to
  emits_then {more} {ys} {after} {to} a b =
      let e : at.numbers ≡ from.numbers + length (map token_code xs) =
      a.numbers ∙ ap (λ (n : ℕ). from.numbers + n) (sym (length-map xs token_code))
      in
      record {
        is =
            b.is
            ∙ ap₂ (λ (l : List ℤ) (n : ℕ). written l n (map token_code ys)) a.is e
            ∙ written-append before from.numbers (map token_code xs) (map token_code ys)
            ∙ ap (written before from.numbers) (sym (map-append token_code xs ys));
        numbers = omega (arith, a.numbers, b.numbers, length-append xs ys);
        clauses = omega (arith, a.clauses, b.clauses, ends-append xs ys);
        few = omega (arith, a.few, b.few);
        fewer = b.fewer;
      }

  -- the same tokens, and a larger bound
  pub emits-as : {ys : List Token} (more : ℕ) → Emits most xs before from now at → xs ≡ ys → most ≤ more →
      Emits more ys before from now at
  emits-as {ys} more a e h =
      subst (λ (t : List Token). Emits more t before from now at) e
      (record { is = a.is; numbers = a.numbers; clauses = a.clauses; few = omega (arith, a.few); fewer = a.fewer })

  -- the same tokens by another name
  pub emits-by : {ys : List Token} → xs ≡ ys → Emits most xs before from now at → Emits most ys before from now at
  emits-by e a = emits-as most a e (omega arith)

  -- so many numbers more fit after it
  pub fits-then : (more : ℕ) → Fits (most + more) from → Emits most xs before from now at → Fits more at
  fits-then more f a = record { place = omega (arith, f.place, a.few); fewer = a.fewer }

  pub emits-length : Emits most xs before from now at → length now ≡ length before
  emits-length a = ap length a.is ∙ written-length before from.numbers (map token_code xs)

-- ---- one run for each number from 0 on

-- the loop's invariant: the runs below i were put, each with at most `each` tokens
pub record Emitting (each : ℕ) (run : ℕ → List Token) (i : ℕ) (before : List ℤ) (from : Emitted) (now : List ℤ)
    (at : Emitted) : Type 0 where
  pub emits : Emits (i * each) (concat_map run (up_from 0 i)) before from now at

pub emitting-starts : (each : ℕ) (run : ℕ → List Token) (before : List ℤ) (at : Emitted) → at.clauses ≤ at.numbers →
    Emitting each run 0 before at before at
emitting-starts each run before at h =
    record { emits = emits-as (0 * each) (emits_none before at h) refl (omega arith) }

module _ {each : ℕ} {run : ℕ → List Token} {i : ℕ} {before now : List ℤ} {from at : Emitted} where
  pub emitting-more : {after : List ℤ} {to : Emitted} → Emitting each run i before from now at →
      Emits each (run i) now at after to → Emitting each run (i + 1) before from after to
  emitting-more b r =
      let z : 0 + i ≡ i = omega arith in
      let e : up_from 0 (i + 1) ≡ up_from 0 i ++ (i ∷ []) =
      up_from-append 0 i 1 ∙ ap (λ (n : ℕ). up_from 0 i ++ (n ∷ [])) z in
      record {
        emits =
            emits-as ((i + 1) * each) (emits_then b.emits r)
            (ap (λ (t : List Token). concat_map run (up_from 0 i) ++ t) (sym (append-nil (run i)))
            ∙ sym (concat_map-append run (up_from 0 i) (i ∷ []))
            ∙ ap (concat_map run) (sym e))
            (omega arith);
      }

  -- after the last
  pub emitting-ends : (count most : ℕ) → Emitting each run i before from now at → i ≤ count → count ≤ i →
      count * each ≤ most → Emits most (concat_map run (up_from 0 count)) before from now at
  emitting-ends count most b l h m =
      let e : i ≡ count = omega arith in
      emits-as most (subst (λ (n : ℕ). Emits (n * each) (concat_map run (up_from 0 n)) before from now at) e b.emits)
      refl m

  -- the next run fits
  pub emitting-fits : (count : ℕ) → Fits (count * each) from → Emitting each run i before from now at → i < count →
      Fits each at
  emitting-fits count f b h =
      let few = b.emits.few in
      let place = f.place in
      let next : (i + 1) * each ≤ count * each = mul-le-mul_right each (omega arith) in
      record { place = omega arith; fewer = b.emits.fewer }

  pub emitting-length : Emitting each run i before from now at → length now ≡ length before
  emitting-length b = emits-length b.emits

-- ---- the same of a writer

-- nothing was put
pub puts_none : (w : Writer) → w.at.clauses ≤ w.at.numbers → Puts 0 [] w w
puts_none w h = record { emits = emits_none w.formula.now w.at h; same = refl }

module _ {most : ℕ} {xs : List Token} {from w : Writer} where
  -- one run and then another
  pub puts_then : {more : ℕ} {ys : List Token} {to : Writer} → Puts most xs from w → Puts more ys w to →
      Puts (most + more) (xs ++ ys) from to
  puts_then a b = record { emits = emits_then a.emits b.emits; same = b.same ∙ a.same }

  -- the same tokens, and a larger bound
  pub puts-as : {ys : List Token} (more : ℕ) → Puts most xs from w → xs ≡ ys → most ≤ more → Puts more ys from w
  puts-as more a e h = record { emits = emits-as more a.emits e h; same = a.same }

  -- the same tokens by another name
  pub puts-by : {ys : List Token} → xs ≡ ys → Puts most xs from w → Puts most ys from w
  puts-by e a = puts-as most a e (omega arith)

-- the loop's invariant
pub record Putting (each : ℕ) (run : ℕ → List Token) (i : ℕ) (from w : Writer) : Type 0 where
  pub emitting : Emitting each run i from.formula.now from.at w.formula.now w.at
  pub same : w.formula.ghost_name ≡ from.formula.ghost_name

pub putting-starts : (each : ℕ) (run : ℕ → List Token) (w : Writer) → w.at.clauses ≤ w.at.numbers →
    Putting each run 0 w w
putting-starts each run w h = record { emitting = emitting-starts each run w.formula.now w.at h; same = refl }

module _ {each : ℕ} {run : ℕ → List Token} {i : ℕ} {from w : Writer} where
  pub putting-more : {to : Writer} → Putting each run i from w → Puts each (run i) w to →
      Putting each run (i + 1) from to
  putting-more b r = record { emitting = emitting-more b.emitting r.emits; same = r.same ∙ b.same }

  -- after the last
  pub putting-ends : (count most : ℕ) → Putting each run i from w → i ≤ count → count ≤ i → count * each ≤ most →
      Puts most (concat_map run (up_from 0 count)) from w
  putting-ends count most b l h m = record { emits = emitting-ends count most b.emitting l h m; same = b.same }

  -- the next run fits
  pub putting-fits : (count : ℕ) → Fits (count * each) from.at → Putting each run i from w → i < count →
      Fits each w.at
  putting-fits count f b h = emitting-fits count f b.emitting h
