-- A slice that is filled from its start with the entries of a list: before place n it is done, from n on it is as it
-- was; and what a list at the front of a slice leaves of it. Assumes nothing.
use mathlib.Core.Path.{◌≡◌, sym, ap, ◌∙◌}
use mathlib.Core.List.{List, [], ◌∷◌, ◌++◌, append_assoc}
use Prim.Native.Nat.{ℕ, suc, ◌+◌, ◌-◌, ◌≤◌, ◌<◌}
use native.Mathlib.Omega.{arith}
use native.Mathlib.Numerals.{add-one}
use lib.ListN.{length, get_or, take, drop, set, length-append, length-drop, take-append-drop}
use lib.Seq.{take_at, set_at, drop-cons, take-suc, length-take-le, take_all, drop-append-add, drop-drop}
use Rattle.lent.specs.Copied.{Copied}

-- the first n entries of `whole` stand where `before` was
pub record Filled {A : Type 0} (whole before now : List A) (n : ℕ) : Type 0 where
  pub upto : n ≤ length whole
  pub room : length whole ≤ length before
  pub is : now ≡ take n whole ++ drop n before

module _ {A : Type 0} {whole : List A} where
  -- a slice whose first n entries are done
  pub filled-starts : (l : List A) (n : ℕ) → n ≤ length whole → length whole ≤ length l → take n l ≡ take n whole →
      Filled whole l l n
  filled-starts l n u r e =
      record { upto = u; room = r; is = sym (take-append-drop n l) ∙ ap (λ (t : List A). t ++ drop n l) e }

  module _ {before now : List A} {n : ℕ} (b : Filled whole before now n) where
    done-length : length (take n whole) ≡ n
    done-length = length-take-le n whole b.upto

    -- it keeps its length
    pub filled-length : length now ≡ length before
    filled-length =
        ap length b.is
        ∙ simp (length-append, length-drop, done-length) (omega (arith, b.upto, b.room))

    -- what is done
    pub filled-done : take n now ≡ take n whole
    filled-done = ap (take n) b.is ∙ take_at (take n whole) (drop n before) n done-length

    -- one entry more
    pub filled_more : (v d : A) → n < length whole → v ≡ get_or whole n d → Filled whole before (set now n v) (n + 1)
    filled_more v d h e =
        record {
          upto = omega arith;
          room = b.room;
          is =
              ap (λ (t : List A). set t n v) b.is
              ∙ ap (λ (t : List A). set (take n whole ++ t) n v) (drop-cons before n d (omega (arith, b.room)))
              ∙ set_at (take n whole) (get_or before n d) (drop (suc n) before) v n done-length
              ∙ sym (append_assoc (take n whole) (v ∷ []) (drop (suc n) before))
              ∙ ap (λ (t : List A). t ++ drop (suc n) before)
              (ap (λ (x : A). take n whole ++ (x ∷ [])) e ∙ sym (take-suc whole n d h))
              ∙ ap (λ (k : ℕ). take k whole ++ drop k before) (sym (add-one n));
        }

    -- all entries
    pub filled-ends : length whole ≤ n → now ≡ whole ++ drop n before
    filled-ends h = b.is ∙ ap (λ (t : List A). t ++ drop n before) (take_all n whole h)

    -- they stand at the front
    pub filled-whole : length whole ≤ n → Copied whole before now
    filled-whole h =
        let e : n ≡ length whole = omega (arith, b.upto) in
        record { is = filled-ends h ∙ ap (λ (k : ℕ). whole ++ drop k before) e }

-- ---- a list at the front of a slice

module _ {A : Type 0} {whole before now : List A} (c : Copied whole before now) (n : ℕ) (long : length whole ≡ n) where
  -- the front is the list
  pub copied-front : take n now ≡ whole
  copied-front = ap (take n) c.is ∙ take_at whole (drop (length whole) before) n long

  -- behind it all is as it was
  pub copied_behind : (k : ℕ) → n ≤ k → drop k now ≡ drop k before
  copied_behind k h =
      let f : length whole + (k - length whole) ≡ k = omega arith in
      ap (λ (j : ℕ). drop j now) (sym f)
      ∙ ap (drop (length whole + (k - length whole))) c.is
      ∙ drop-append-add whole (drop (length whole) before) (k - length whole)
      ∙ drop-drop (k - length whole) (length whole) before
      ∙ ap (λ (j : ℕ). drop j before) f

  -- and the length, of a slice that had room
  pub copied-length : n ≤ length before → length now ≡ length before
  copied-length h =
      ap length c.is
      ∙ omega (arith, length-append whole (drop (length whole) before), length-drop (length whole) before)
