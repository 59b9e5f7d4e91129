-- How long the clause at a place is, told by the place of the next 0, and the part that it makes: it lies within the
-- list. Assumes nothing.
use Rattle.std.proofs.Common.{◌≡◌, refl, sym, ap, ap₂, subst, ◌∙◌, Bool, cond, List, [], ◌∷◌, ℕ, zero, suc}
use Rattle.std.proofs.Common.{◌+◌, ◌-◌, ◌<◌, ◌≤◌, arith, le_of_suc-le-suc, not-suc-le-zero, ℤ, pos, negsuc}
use Rattle.std.proofs.Common.{length, get_or, take, drop, length-drop, drop_of_length-le, get_or-drop, Bor}
use Rattle.std.proofs.Common.{eq-eqb, ne_eqb}
use lib.Seq.{take-nil}
use Rattle.clauses.specs.Codes.{code_of}
use Rattle.refute.specs.Reading.{NextZero}
use Rattle.refute.proofs.Walking.{NoZero, no_zero}
use Rattle.refute.specs.Parts.{point_at}
use Rattle.reader.specs.Reading.{longer, first_length, length_at, start_at, clause_at, PartAt}

-- ---- a list's first clause

length-grows : (z : ℤ) (zs : List ℤ) → (code_of z ≡ 0 → ⊥) → first_length (z ∷ zs) ≡ longer (first_length zs)
unfolding first_length code_of
length-grows (pos zero) zs n = absurd (n refl)
length-grows (pos (suc k)) zs n = refl
length-grows (negsuc k) zs n = refl

length-ends : (z : ℤ) (zs : List ℤ) → code_of z ≡ 0 → first_length (z ∷ zs) ≡ 1
unfolding first_length code_of
length-ends (pos zero) zs e = refl
length-ends (pos (suc k)) zs e = absurd (omega arith)
length-ends (negsuc k) zs e = absurd (omega arith)

-- the first 0 ends the clause
first-zero : (zs : List ℤ) (n : ℕ) → n < length zs → NoZero zs n → code_of (get_or zs n (pos 0)) ≡ 0 →
    first_length zs ≡ suc n
first-zero [] n h f e = absurd (not-suc-le-zero h)
first-zero (z ∷ zs) zero h f e = length-ends z zs e
first-zero (z ∷ zs) (suc n) h f e =
    length-grows z zs (f 0 (omega arith))
    ∙ ap longer (first-zero zs n (le_of_suc-le-suc h) (λ k l. f (suc k) (omega arith)) e)

-- no 0, no clause
no-first : (zs : List ℤ) → NoZero zs (length zs) → first_length zs ≡ 0
unfolding first_length
no-first [] f = refl
no-first (z ∷ zs) f =
    length-grows z zs (f 0 (omega arith)) ∙ ap longer (no-first zs (λ k l. f (suc k) (omega arith)))

-- ---- the clause at a place

-- past the end there is none
pub past_end : (list : List ℤ) (at : ℕ) → length list ≤ at → 0 ≡ length_at list at
unfolding first_length length_at
past_end list at h = sym (ap first_length (drop_of_length-le list {i = at} h))

module _ {list : List ℤ} {at to : ℕ} (z : NextZero list at to) where
  -- the next 0 ends it
  pub to-zero : to < length list → to - at + 1 ≡ length_at list at
  unfolding length_at
  to-zero h =
      let n : to - at + 1 ≡ suc (to - at) = omega arith in
      n
      ∙ sym
      (first-zero (drop at list) (to - at) (omega (arith, length-drop at list, z.above))
      (no_zero z (to - at) (omega (arith, z.above)))
      (subst (λ (y : ℤ). code_of y ≡ 0)
      (sym
      (get_or-drop at list (to - at) (pos 0)
      ∙ ap (λ (n : ℕ). get_or list n (pos 0)) (let e : at + (to - at) ≡ to = omega (arith, z.above) in e)))
      (z.there h)))

  -- where no 0 is left there is none
  pub no-zero-left : to ≡ length list → 0 ≡ length_at list at
  unfolding length_at
  no-zero-left h =
      sym
      (no-first (drop at list)
      (no_zero z (length (drop at list)) (omega (arith, length-drop at list, z.above, z.upto))))

-- ---- where the part given starts

-- where there is no clause, at the slice's end
pub start-end : (list : List ℤ) (at : ℕ) → length_at list at ≡ 0 → start_at list at ≡ length list
unfolding start_at
start-end list at e =
    ap (λ (t : Bool). cond t (length list) at) (eq-eqb (length_at list at) 0 e)

-- otherwise at the place
pub start-here : (list : List ℤ) (at : ℕ) → (length_at list at ≡ 0 → ⊥) → start_at list at ≡ at
unfolding start_at
start-here list at n =
    ap (λ (t : Bool). cond t (length list) at) (ne_eqb (length_at list at) 0 n)

-- ---- the part given

module _ {slice part : Bor (List ℤ)} {at length-there : ℕ} (e : length-there ≡ length_at slice.now at) where
  -- where there is no clause, it is empty
  pub no_part : length-there ≡ 0 → part.now ≡ take (length slice.now - length slice.now)
      (drop (length slice.now) slice.now) → part.ref_ptr ≡ point_at slice.ref_ptr (length slice.now) →
      PartAt slice at part
  unfolding clause_at
  no_part z holds lies =
      let none : length_at slice.now at ≡ 0 = sym e ∙ z in
      record {
        holds = holds
            ∙ ap (take (length slice.now - length slice.now))
            (drop_of_length-le slice.now {i = length slice.now} (omega arith))
            ∙ take-nil (length slice.now - length slice.now)
            ∙ sym (ap (λ (n : ℕ). take n (drop (start_at slice.now at) slice.now)) none);
        lies = lies ∙ ap (point_at slice.ref_ptr) (sym (start-end slice.now at none));
      }

  -- otherwise it is the clause
  pub part-is : (length-there ≡ 0 → ⊥) → part.now ≡ take (at + length-there - at) (drop at slice.now) →
      part.ref_ptr ≡ point_at slice.ref_ptr at → PartAt slice at part
  unfolding clause_at
  part-is n holds lies =
      let here : start_at slice.now at ≡ at = start-here slice.now at (λ q. n (e ∙ q)) in
      let long : at + length-there - at ≡ length_at slice.now at = omega arith in
      record {
        holds = holds ∙ ap₂ (λ (n m : ℕ). take n (drop m slice.now)) long (sym here);
        lies = lies ∙ ap (point_at slice.ref_ptr) (sym here);
      }
