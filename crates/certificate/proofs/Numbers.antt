-- The formula as numbers: since every variable is 1 to V, the flat list reads back as the clauses, no number is beyond
-- V in magnitude, and it is empty or ends in 0. Laws: numbers-read, numbers-well-formed. Assumes nothing.
use mathlib.Core.Path.{◌≡◌, sym, ap, ◌∙◌, subst}
use mathlib.Core.Bool.{Bool, true, false}
use mathlib.Core.List.{List, [], ◌∷◌, ◌++◌, map}
use Prim.Native.Nat.{ℕ, zero, suc, ◌+◌, ◌-◌, ◌≤◌, ◌<◌}
use native.Mathlib.Omega.{arith}
use lib.Dec.{T, leb, ltb, eqb, leb-zero}
use lib.IntN.{ℤ, pos}
use lib.ListN.{length, get_or, length-append}
use lib.Seq.{get_or-append-add}
use Rattle.basics.specs.Lists.{all}
use Rattle.basics.proofs.Truth.{and_both, and_left, and_right}
use Rattle.basics.proofs.Lists.{all_join, all-mono}
use Rattle.netlist.specs.Netlist.{valid, Circuit}
use Rattle.netlist.proofs.Valid.{valid-inputs-few, valid-gates-few}
use Rattle.clauses.specs.Clauses.{Literal, literal_number, flat, clauses_of}
use Rattle.clauses.proofs.Flat.{has_variable, flat-reads}
use Rattle.refute.specs.Rows.{magnitude, ended, WellFormed}
use Rattle.pairs.specs.Pairs.{pairs_for}
use Rattle.formula.specs.Formula.{formula_for}
use Rattle.formula.specs.Promise.{numbers_for}
use Rattle.certificate.proofs.Variables.{
  literal_allowed,
  variables_for,
  is_variable,
  formula-variables,
}

-- ---- no number of clauses whose variables are at most V is beyond V

module _ (variables : ℕ) where
  abbrev small : Literal → Bool
  small l = leb l.1 variables

  abbrev within : ℤ → Bool
  within z = leb (magnitude z) variables

  number-within : (b : Bool) (n : ℕ) → T (leb n variables) → T (within (literal_number (b, n)))
  number-within true n t = t
  number-within false zero t = t
  number-within false (suc n) t = t

  numbers-within : (c : List Literal) → T (all small c) → T (all within (map literal_number c))
  numbers-within [] t = tt
  numbers-within (l ∷ c) t =
      and_both (within (literal_number l)) (all within (map literal_number c))
      (number-within l.0 l.1 (and_left (small l) (all small c) t))
      (numbers-within c (and_right (small l) (all small c) t))

  flat-within : (clauses : List (List Literal)) → T (all (all small) clauses) → T (all within (flat clauses))
  unfolding flat
  flat-within [] t = tt
  flat-within (c ∷ cs) t =
      all_join within (map literal_number c) (pos 0 ∷ flat cs)
      (numbers-within c (and_left (all small c) (all (all small) cs) t))
      (and_both (within (pos 0)) (all within (flat cs)) (subst T (sym (leb-zero variables)) tt)
      (flat-within cs (and_right (all small c) (all (all small) cs) t)))

-- ---- the flat list is empty or ends in 0

-- a list ends in 0 where its last part does
ended-append : (before after : List ℤ) → 0 < length after → T (ended after) → T (ended (before ++ after))
unfolding ended
ended-append before after some t =
    let e : length (before ++ after) - 1 ≡ length before + (length after - 1) =
    omega (arith, length-append before after)
    in
    subst (λ (z : ℤ). T (eqb (magnitude z) 0))
    (sym
    (ap (λ (n : ℕ). get_or (before ++ after) n (pos 0)) e ∙ get_or-append-add before after (length after - 1) (pos 0)))
    t

ended-zero : (after : List ℤ) → T (ended after) → T (ended (pos 0 ∷ after))
unfolding ended
ended-zero [] t = tt
ended-zero (z ∷ after) t = ended-append (pos 0 ∷ []) (z ∷ after) (omega arith) t

flat-ended : (clauses : List (List Literal)) → T (ended (flat clauses))
unfolding flat ended
flat-ended [] = tt
flat-ended (c ∷ cs) =
    ended-append (map literal_number c) (pos 0 ∷ flat cs) (omega arith) (ended-zero (flat cs) (flat-ended cs))

-- ---- of a valid netlist's formula

module _ (circuit : Circuit) (ok : T (valid circuit.net)) (target : ℕ) where
  each-literal : (test : Literal → Bool) →
      ((l : Literal) → T (is_variable (variables_for circuit target) l.1) → T (test l)) →
      T (all (all test) (formula_for circuit target))
  each-literal test h =
      all-mono (all (literal_allowed (is_variable (variables_for circuit target)))) (all test)
      (formula_for circuit target)
      (λ c m. all-mono (literal_allowed (is_variable (variables_for circuit target))) test c (λ l i. h l))
      (formula-variables circuit ok target)

  -- the flat list reads back
  pub formula-reads : clauses_of (flat (formula_for circuit target)) ≡ formula_for circuit target
  formula-reads =
      flat-reads (formula_for circuit target)
      (each-literal has_variable (λ l. and_left (ltb 0 l.1) (leb l.1 (variables_for circuit target))))

  -- no number is beyond V, and the list is empty or ends in 0: "the refutation check's row 11 has nothing to say"
  pub formula-well-formed : length (pairs_for circuit target) ≤ 65536 →
      WellFormed (variables_for circuit target) (flat (formula_for circuit target))
  formula-well-formed few =
      record {
        few = omega (arith, valid-inputs-few circuit.net ok, valid-gates-few circuit.net ok);
        within =
            flat-within (variables_for circuit target) (formula_for circuit target)
            (each-literal (small (variables_for circuit target))
            (λ l. and_right (ltb 0 l.1) (leb l.1 (variables_for circuit target))));
        last = flat-ended (formula_for circuit target);
      }

-- the very list that the code writes: its clauses are the formula's
pub numbers-read : (circuit : Circuit) → T (valid circuit.net) → (target : ℕ) →
    clauses_of (numbers_for circuit target) ≡ formula_for circuit target
unfolding numbers_for
numbers-read circuit ok target = formula-reads circuit ok target

-- and it is well formed, where the pairs are at most 65,536
pub numbers-well-formed : (circuit : Circuit) → T (valid circuit.net) → (target : ℕ) →
    length (pairs_for circuit target) ≤ 65536 →
    WellFormed (variables_for circuit target) (numbers_for circuit target)
unfolding numbers_for
numbers-well-formed circuit ok target few = formula-well-formed circuit ok target few
