-- Stepping through a list gives its clauses in order, and past the last of them nothing: what is left of the list at
-- the reader's place is cut into the clauses that are still to come. Assumes nothing.
use Rattle.std.proofs.Common.{◌≡◌, refl, sym, ap, ◌∙◌, Bool, cond, List, [], ◌∷◌, ◌++◌, append_assoc, ℕ, zero}
use Rattle.std.proofs.Common.{suc, ◌+◌, zero-add, add-zero, suc-add, add-suc, arith, eqb, ℤ, pos, negsuc}
use Rattle.std.proofs.Common.{length, get_or, take, drop, drop-drop, ne_eqb}
use Rattle.refute.specs.Parts.{parts_from, parts}
use Rattle.reader.specs.Reading.{longer, first_length, length_at, start_at, clause_at, next_at, place_after}

-- a list cut behind its first clause, given that clause's length; the numbers `begun` were read before it
abbrev Cut : ℕ → List ℤ → List ℤ → Type 0
Cut zero begun zs = parts_from begun zs ≡ []
Cut (suc n) begun zs = parts_from begun zs ≡ (begun ++ take (suc n) zs) ∷ parts (drop (suc n) zs)

cut-longer : (z : ℤ) (zs begun : List ℤ) (n : ℕ) → parts_from begun (z ∷ zs) ≡ parts_from (begun ++ (z ∷ [])) zs →
    Cut n (begun ++ (z ∷ [])) zs → Cut (longer n) begun (z ∷ zs)
cut-longer z zs begun zero s e = s ∙ e
cut-longer z zs begun (suc n) s e =
    s ∙ e ∙ ap (λ (p : List ℤ). p ∷ parts (drop (suc n) zs)) (append_assoc begun (z ∷ []) (take (suc n) zs))

cut-first : (zs begun : List ℤ) → Cut (first_length zs) begun zs
unfolding first_length parts_from
cut-first [] begun = refl
cut-first (pos zero ∷ zs) begun = refl
cut-first (pos (suc n) ∷ zs) begun =
    cut-longer (pos (suc n)) zs begun (first_length zs) refl (cut-first zs (begun ++ (pos (suc n) ∷ [])))
cut-first (negsuc n ∷ zs) begun =
    cut-longer (negsuc n) zs begun (first_length zs) refl (cut-first zs (begun ++ (negsuc n ∷ [])))

module _ (list : List ℤ) where
  -- what is left at a place, cut into its clauses
  abbrev left : ℕ → List (List ℤ)
  left at = parts (drop at list)

  -- the clause at a place is the first of those left
  first-left : (at : ℕ) → clause_at list at ≡ get_or (left at) 0 []
  unfolding clause_at start_at length_at
  first-left at = go (first_length (drop at list)) (cut-first (drop at list) [])
    where
      go : (n : ℕ) → Cut n [] (drop at list) →
          take n (drop (cond (eqb n 0) (length list) at) list) ≡ get_or (left at) 0 []
      go zero e = sym (ap (λ (ps : List (List ℤ)). get_or ps 0 []) e)
      go (suc n) e =
          ap (λ (t : Bool). take (suc n) (drop (cond t (length list) at) list)) (ne_eqb (suc n) 0 (λ q. omega arith))
          ∙ sym (ap (λ (ps : List (List ℤ)). get_or ps 0 []) e)

  -- a step leaves the others
  next-left : (at k : ℕ) → get_or (left (next_at list at)) k [] ≡ get_or (left at) (suc k) []
  unfolding next_at length_at
  next-left at k = go (first_length (drop at list)) (cut-first (drop at list) [])
    where
      go : (n : ℕ) → Cut n [] (drop at list) → get_or (left (at + n)) k [] ≡ get_or (left at) (suc k) []
      go zero e =
          ap (λ (m : ℕ). get_or (left m) k []) (add-zero at)
          ∙ ap (λ (ps : List (List ℤ)). get_or ps k []) e
          ∙ sym (ap (λ (ps : List (List ℤ)). get_or ps (suc k) []) e)
      go (suc n) e =
          ap (λ (zs : List ℤ). get_or (parts zs) k []) (sym (drop-drop (suc n) at list))
          ∙ sym (ap (λ (ps : List (List ℤ)). get_or ps (suc k) []) e)

  -- n steps leave what stands behind the first n clauses
  steps-left : (n k : ℕ) → get_or (left (place_after list n)) k [] ≡ get_or (parts list) (n + k) []
  unfolding place_after
  steps-left zero k = ap (λ (m : ℕ). get_or (parts list) m []) (sym (zero-add k))
  steps-left (suc n) k =
      next-left (place_after list n) k
      ∙ steps-left n (suc k)
      ∙ ap (λ (m : ℕ). get_or (parts list) m []) (add-suc n k ∙ sym (suc-add n k))

  -- the clause that a reader gives after n steps from the start is clause number n
  pub stepping : (n : ℕ) → clause_at list (place_after list n) ≡ get_or (parts list) n []
  stepping n =
      first-left (place_after list n)
      ∙ steps-left n 0
      ∙ ap (λ (m : ℕ). get_or (parts list) m []) (add-zero n)

  -- after one step, the second
  pub second : clause_at list (next_at list 0) ≡ get_or (parts list) 1 []
  unfolding place_after
  second = stepping 1
