-- A flat list of clauses reads back: what `flat` wrote, `clauses_of` reads. Assumes nothing.
use mathlib.Core.Path.{◌≡◌, refl, sym, ap, ◌∙◌, subst}
use mathlib.Core.Bool.{Bool, true, false, cond}
use mathlib.Core.List.{List, [], ◌∷◌, ◌++◌, map, append-nil, append_assoc}
use Prim.Native.Nat.{ℕ, zero, suc}
use lib.Dec.{T, ltb}
use lib.IntN.{ℤ, pos, neg_ℤ}
use Rattle.basics.specs.Lists.{all}
use Rattle.basics.proofs.Truth.{and_left, and_right}
use Rattle.clauses.specs.Clauses.{Literal, literal_number, flat, clauses_from, clauses_of}

-- variables count from 1
abbrev pub has_variable : Literal → Bool
has_variable l = ltb 0 l.1

reads-clause : (c begun : List Literal) (zs : List ℤ) → T (all has_variable c) →
    clauses_from begun (map literal_number c ++ (pos 0 ∷ zs)) ≡ (begun ++ c) ∷ clauses_from [] zs
unfolding clauses_from
reads-clause [] begun zs t = ap (λ d. d ∷ clauses_from [] zs) (sym (append-nil begun))
reads-clause (l ∷ c) begun zs t =
    go l.0 l.1 refl
    (λ m.
    reads-clause c (begun ++ (m ∷ [])) zs (and_right (has_variable l) (all has_variable c) t)
    ∙ ap (λ d. d ∷ clauses_from [] zs) (append_assoc begun (m ∷ []) c))
  where
    go : (b : Bool) (n : ℕ) → (b, n) ≡ l →
        ((m : Literal) → clauses_from (begun ++ (m ∷ [])) (map literal_number c ++ (pos 0 ∷ zs))
        ≡ (begun ++ (m ∷ c)) ∷ clauses_from [] zs) →
        clauses_from begun (cond b (pos n) (neg_ℤ (pos n)) ∷ (map literal_number c ++ (pos 0 ∷ zs)))
        ≡ (begun ++ (l ∷ c)) ∷ clauses_from [] zs
    go b zero e ih = absurd (subst (λ x. T (has_variable x)) (sym e) (and_left (has_variable l) (all has_variable c) t))
    go true (suc n) e ih = rw (← e) (ih (true, suc n))
    go false (suc n) e ih = rw (← e) (ih (false, suc n))

-- the flat list reads back
pub flat-reads : (clauses : List (List Literal)) → T (all (all has_variable) clauses) →
    clauses_of (flat clauses) ≡ clauses
unfolding flat clauses_from
flat-reads [] t = refl
flat-reads (c ∷ cs) t =
    reads-clause c [] (flat cs) (and_left (all has_variable c) (all (all has_variable) cs) t)
    ∙ ap (λ d. c ∷ d) (flat-reads cs (and_right (all has_variable c) (all (all has_variable) cs) t))
