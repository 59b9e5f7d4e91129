-- What the clauses say under an assignment, over any slopes and any kind of variables: a clause of parts, that some
-- part is true; a gate's clauses, that its variable is the gate's value; a pair's clauses, that where the pair is true
-- its rail fits the gate's value, some driver is late and each controlling cube has a late or a false literal; the
-- formula, all of this and that some output is late. Each is an equation of Bools. Laws: clause-says, gate-says,
-- pair-says, late-says, formula-says, late-with-mono. Assumes nothing.
use mathlib.Core.Path.{◌≡◌, refl, sym, ap, ap₂, ◌∙◌}
use mathlib.Core.Bool.{Bool, true, false, not, ◌&&◌, ◌||◌, beq, cond}
use mathlib.Core.List.{List, [], ◌∷◌, ◌++◌, map, Memᴰ}
use mathlib.Core.Logic.{◌⊎◌, inl, inr}
use Prim.Native.Nat.{ℕ, zero, ◌+◌, ◌*◌}
use native.Mathlib.Omega.{arith}
use lib.Dec.{T, leb, ltb}
use lib.ListN.{length}
use Rattle.basics.specs.Lists.{any, all, concat_map}
use Rattle.basics.proofs.Truth.{
  or_left,
  or_right,
  or_cases,
  and_both,
  and_left,
  and_right,
  by-table-of-one,
  by-table-of-two,
  by-table-of-three,
  by-table-of-four,
}
use Rattle.basics.proofs.Lists.{
  any-cong,
  all-cong,
  any-mono,
  all-mono,
  all_append,
  all-concat_map,
  any_append,
  any-concat_map,
  any-map,
}
use Rattle.netlist.specs.declared.Kind.{Kind}
use Rattle.netlist.specs.declared.Kind.TheVariants.{Simple, Parity, Mux}
use Rattle.netlist.specs.Netlist.{Cell, Pin, Slopes, alike, apart, takes}
use Rattle.netlist.proofs.Valid.{takes-parity, takes-mux}
use Rattle.settle.specs.Settling.{gate_value, Cube, cubes}
use Rattle.settle.proofs.Cubes.{cube-pin}
use Rattle.pairs.specs.Rails.{Rail, rails_of, rails_at}
use Rattle.formula.specs.Formula.{
  Part,
  sure,
  never,
  literal,
  is_sure,
  literals,
  clause_of,
  is,
  gate_clauses,
  late,
  node_late,
  driver_late,
  cube_parts,
  cube_clause,
  pair_clauses,
  formula,
}

-- ---- a clause of parts

module _ {X : Type 0} (σ : X → Bool) where
  -- a literal is true: its variable has the value that it wants
  abbrev pub literal_true : Bool × X → Bool
  literal_true l = beq (σ l.1) l.0

  -- a part is true
  abbrev pub part_true : Part X → Bool
  part_true sure = true
  part_true never = false
  part_true (literal b x) = beq (σ x) b

  -- each clause has a true literal: over numbered variables this is `satisfies`
  abbrev pub solves : List (List (Bool × X)) → Bool
  solves clauses = all (any literal_true) clauses

  parts-say : (parts : List (Part X)) →
      any part_true parts ≡ (any is_sure parts || any literal_true (literals parts))
  parts-say [] = refl
  parts-say (sure ∷ parts) = refl
  parts-say (never ∷ parts) = parts-say parts
  parts-say (literal b x ∷ parts) =
      ap (λ r. beq (σ x) b || r) (parts-say parts)
      ∙ by-table-of-three (λ a b c. a || (b || c)) (λ a b c. b || (a || c)) tt
      (beq (σ x) b)
      (any is_sure parts)
      (any literal_true (literals parts))

  -- a clause says that one of its parts is true
  pub clause-says : (parts : List (Part X)) → solves (clause_of parts) ≡ any part_true parts
  unfolding clause_of
  clause-says parts = go (any is_sure parts) (any literal_true (literals parts)) refl ∙ sym (parts-say parts)
    where
      go : (s l : Bool) → any literal_true (literals parts) ≡ l →
          solves (cond s [] (literals parts ∷ [])) ≡ (s || l)
      go true l e = refl
      go false true e = ap (λ b. b && true) e
      go false false e = ap (λ b. b && true) e

-- ---- a gate's clauses

module _ {X : Type 0} (node : ℕ → X) (σ : X → Bool) where
  -- the variable of a pin's driver
  abbrev pub driver_true : Pin → Bool
  driver_true p = σ (node p.driver)

  module _ (c k : Bool) (f : ℕ) where
    abbrev at : Pin → Bool
    at p = beq (driver_true p) c

    -- for each pin: the driver is not at c, or the gate is k
    forcing-says : (ps : List Pin) →
        solves σ (map (λ p. is node p.driver (not c) ∷ is node f k ∷ []) ps)
        ≡ (not (any at ps) || beq (σ (node f)) k)
    forcing-says [] = refl
    forcing-says (p ∷ ps) =
        ap (λ b. (beq (driver_true p) (not c) || (beq (σ (node f)) k || false)) && b) (forcing-says ps)
        ∙ by-table-of-four (λ x c r z. (beq x (not c) || (z || false)) && (not r || z))
        (λ x c r z. not (beq x c || r) || z) tt
        (driver_true p)
        c
        (any at ps)
        (beq (σ (node f)) k)

    -- some driver is at c, or the gate is not k
    otherwise-says : (ps : List Pin) →
        any (literal_true σ) (map (λ p. is node p.driver c) ps ++ (is node f (not k) ∷ []))
        ≡ (any at ps || beq (σ (node f)) (not k))
    otherwise-says [] = by-table-of-one (λ a. a || false) (λ a. a) tt (beq (σ (node f)) (not k))
    otherwise-says (p ∷ ps) =
        ap (λ b. at p || b) (otherwise-says ps)
        ∙ by-table-of-three (λ a b c. a || (b || c)) (λ a b c. a || b || c) tt
        (at p)
        (any at ps)
        (beq (σ (node f)) (not k))

  -- a gate's clauses say that its variable is the gate's value of its drivers' variables
  pub gate-says : (kind : Kind) (ps : List Pin) (f : ℕ) → T (takes kind (length ps)) →
      solves σ (gate_clauses node kind ps f) ≡ beq (σ (node f)) (gate_value driver_true kind ps)
  unfolding gate_clauses gate_value
  gate-says (Simple c k) ps f t =
      all_append (any (literal_true σ)) (map (λ p. is node p.driver (not c) ∷ is node f k ∷ []) ps)
      ((map (λ p. is node p.driver c) ps ++ (is node f (not k) ∷ [])) ∷ [])
      ∙ ap₂ (λ a b. a && (b && true)) (forcing-says c k f ps) (otherwise-says c k f ps)
      ∙ by-table-of-three (λ a k z. (not a || beq z k) && ((a || beq z (not k)) && true))
      (λ a k z. beq z (cond a k (not k))) tt
      (any (at c k f) ps)
      k
      (σ (node f))
  gate-says (Parity equal) (p ∷ q ∷ []) f t =
      by-table-of-four
      (λ x y z e.
      (beq x true || (beq y true || (beq z e || false)))
      && ((beq x true || (beq y false || (beq z (not e) || false)))
      && ((beq x false || (beq y true || (beq z (not e) || false)))
      && ((beq x false || (beq y false || (beq z e || false))) && true))))
      (λ x y z e. beq z (cond x (not (cond y (not e) e)) (cond y (not e) e))) tt
      (driver_true p)
      (driver_true q)
      (σ (node f))
      equal
  gate-says (Parity equal) [] f t = let e = takes-parity {equal = equal} 0 refl t in absurd (omega arith)
  gate-says (Parity equal) (p ∷ []) f t = let e = takes-parity {equal = equal} 1 refl t in absurd (omega arith)
  gate-says (Parity equal) (p ∷ q ∷ r ∷ ps) f t =
      let e = takes-parity {equal = equal} (length (p ∷ q ∷ r ∷ ps)) refl t in absurd (omega arith)
  gate-says Mux (s ∷ a ∷ b ∷ []) f t =
      by-table-of-four
      (λ s a b z.
      (beq s true || (beq a false || (beq z true || false)))
      && ((beq s true || (beq a true || (beq z false || false)))
      && ((beq s false || (beq b false || (beq z true || false)))
      && ((beq s false || (beq b true || (beq z false || false))) && true))))
      (λ s a b z. beq z (cond s b a)) tt
      (driver_true s)
      (driver_true a)
      (driver_true b)
      (σ (node f))
  gate-says Mux [] f t = let e = takes-mux 0 refl t in absurd (omega arith)
  gate-says Mux (s ∷ []) f t = let e = takes-mux 1 refl t in absurd (omega arith)
  gate-says Mux (s ∷ a ∷ []) f t = let e = takes-mux 2 refl t in absurd (omega arith)
  gate-says Mux (s ∷ a ∷ b ∷ c ∷ ps) f t =
      let e = takes-mux (length (s ∷ a ∷ b ∷ c ∷ ps)) refl t in absurd (omega arith)

-- ---- some pin is late, and each controlling cube has a late or a false literal

module _ {P : Type 0} where
  -- for any test `slow` of a pin and any test `fails` of a pin against a value
  abbrev pub late_with : (P → Bool) → (P → Bool → Bool) → Kind → List P → Bool
  late_with slow fails kind ps =
      any slow ps && all (λ cube. any (λ l. slow l.0 || fails l.0 l.1) cube) (cubes kind ps)

  -- tests that pass more pins pass more gates: both directions of demand 3 are this law
  pub late-with-mono : (slow slow' : P → Bool) (fails fails' : P → Bool → Bool) (kind : Kind) (ps : List P) →
      ((p : P) → Memᴰ p ps → T (slow p) → T (slow' p)) →
      ((p : P) → Memᴰ p ps → (b : Bool) → T (fails p b) → T (fails' p b)) →
      T (late_with slow fails kind ps) → T (late_with slow' fails' kind ps)
  late-with-mono slow slow' fails fails' kind ps h a t =
      and_both (any slow' ps) (all (λ cube. any (λ l. slow' l.0 || fails' l.0 l.1) cube) (cubes kind ps))
      (any-mono slow slow' ps h
      (and_left (any slow ps) (all (λ cube. any (λ l. slow l.0 || fails l.0 l.1) cube) (cubes kind ps)) t))
      (all-mono
      (λ cube. any (λ l. slow l.0 || fails l.0 l.1) cube)
      (λ cube. any (λ l. slow' l.0 || fails' l.0 l.1) cube)
      (cubes kind ps)
      (λ cube m.
      any-mono (λ l. slow l.0 || fails l.0 l.1) (λ l. slow' l.0 || fails' l.0 l.1) cube
      (λ l i u. one l (cube-pin kind ps cube m l i) (or_cases (slow l.0) (fails l.0 l.1) u)))
      (and_right (any slow ps) (all (λ cube. any (λ l. slow l.0 || fails l.0 l.1) cube) (cubes kind ps)) t))
    where
      one : (l : P × Bool) → Memᴰ l.0 ps → T (slow l.0) ⊎ T (fails l.0 l.1) →
          T (slow' l.0 || fails' l.0 l.1)
      one l m (inl u) = or_left (slow' l.0) (fails' l.0 l.1) (h l.0 m u)
      one l m (inr u) = or_right (slow' l.0) (fails' l.0 l.1) (a l.0 m l.1 u)

-- ---- a pair's clauses

-- a rail fits a final value of its node: it is the value that the rail speaks of, if it speaks of one
abbrev pub fits : Rail → Bool → Bool
fits r value = all (λ b. beq value b) r.fixes

-- what is said of a node by its rails, of which there is one at least, is said once where it does not hang on the rail
by-rails : (slopes : Slopes) (test : ℕ → Bool) (n : ℕ) (input within none : Bool) →
    any (λ rail. cond input within (none || within && test rail)) (rails_of slopes n)
    ≡ cond input within (none || within && any test (rails_of slopes n))
by-rails alike test n input within none =
    by-table-of-four (λ i w z a. cond i w (z || w && a) || false) (λ i w z a. cond i w (z || w && (a || false))) tt
    input
    within
    none
    (test n)
by-rails (apart falls) test n true within none = by-table-of-one (λ w. w || (w || false)) (λ w. w) tt within
by-rails (apart falls) test n false within none =
    by-table-of-four (λ w z a b. (z || w && a) || ((z || w && b) || false))
    (λ w z a b. z || w && (a || (b || false))) tt
    within
    none
    (test (n * 2))
    (test (n * 2 + 1))

module _ {X : Type 0} (slopes : Slopes) (I : ℕ) (top : ℕ → ℕ) (node : ℕ → X) (pair : ℕ → ℕ → X) where
  module _ (σ : X → Bool) where
    -- what the assignment says of a node's being late at t
    abbrev pub late_true : ℕ → ℕ → Bool
    late_true n t = any (part_true σ) (node_late slopes I top node pair n t)

    -- and of a driver
    abbrev pub driver_late_true : ℕ → Pin → Bool
    driver_late_true t p = any (part_true σ) (driver_late slopes I top node pair t p)

    -- a literal that is false
    abbrev pub driver_fails : Pin → Bool → Bool
    driver_fails p b = beq (σ (node p.driver)) (not b)

    -- what the assignment says of a gate at t
    abbrev pub told : ℕ → Kind → List Pin → Bool
    told t kind ps = late_with (driver_late_true t) driver_fails kind ps

    -- what it says of a rail's gate at t: the rail fits, and the gate is late by the rail's delays
    abbrev pub rail_told : Rail → ℕ → Bool
    rail_told r t = fits r (σ (node r.node)) && told t r.kind r.pins

    -- a literal of a cube is late or false
    abbrev slow_or_false : ℕ → Pin × Bool → Bool
    slow_or_false t l = driver_late_true t l.0 || driver_fails l.0 l.1

    cube-says : (t : ℕ) (cube : Cube Pin) →
        any (part_true σ) (concat_map (cube_parts slopes I top node pair t) cube) ≡ any (slow_or_false t) cube
    cube-says t cube =
        any-concat_map (part_true σ) (cube_parts slopes I top node pair t) cube
        ∙ any-cong (λ l. any (part_true σ) (cube_parts slopes I top node pair t l)) (slow_or_false t) cube
        (λ l m.
        any_append (part_true σ) (driver_late slopes I top node pair t l.0)
        (literal (not l.1) (node l.0.driver) ∷ [])
        ∙ by-table-of-two (λ a b. a || (b || false)) (λ a b. a || b) tt
        (driver_late_true t l.0)
        (driver_fails l.0 l.1))

    cubes-say : (rail t : ℕ) (some-cubes : List (Cube Pin)) →
        all (λ cube. solves σ (cube_clause slopes I top node pair rail t cube)) some-cubes
        ≡ (not (σ (pair rail t)) || all (any (slow_or_false t)) some-cubes)
    cubes-say rail t [] = by-table-of-one (λ a. true) (λ a. not a || true) tt (σ (pair rail t))
    cubes-say rail t (cube ∷ rest) =
        ap₂ (λ a b. a && b)
        (clause-says σ (literal false (pair rail t) ∷ concat_map (cube_parts slopes I top node pair t) cube)
        ∙ ap (λ b. beq (σ (pair rail t)) false || b) (cube-says t cube))
        (cubes-say rail t rest)
        ∙ by-table-of-three (λ p a b. (beq p false || a) && (not p || b)) (λ p a b. not p || a && b) tt
        (σ (pair rail t))
        (any (slow_or_false t) cube)
        (all (any (slow_or_false t)) rest)

    -- not the pair, or the gate has each value that its rail speaks of
    fixes-say : (rail t n : ℕ) (values : List Bool) →
        solves σ (map (λ value. (false, pair rail t) ∷ is node n value ∷ []) values)
        ≡ (not (σ (pair rail t)) || all (λ b. beq (σ (node n)) b) values)
    fixes-say rail t n [] = by-table-of-one (λ a. true) (λ a. not a || true) tt (σ (pair rail t))
    fixes-say rail t n (value ∷ values) =
        ap (λ b. (beq (σ (pair rail t)) false || (beq (σ (node n)) value || false)) && b)
        (fixes-say rail t n values)
        ∙ by-table-of-three (λ p a b. (beq p false || (a || false)) && (not p || b)) (λ p a b. not p || a && b) tt
        (σ (pair rail t))
        (beq (σ (node n)) value)
        (all (λ b. beq (σ (node n)) b) values)

    -- a pair's clauses say: not the pair; or its rail fits, some driver is late, and each controlling cube has a late
    -- or a false literal
    pub pair-says : (r : Rail) (t : ℕ) →
        solves σ (pair_clauses slopes I top node pair r t) ≡ (not (σ (pair r.number t)) || rail_told r t)
    unfolding pair_clauses
    pair-says r t =
        all_append (any (literal_true σ)) of_values (of_pins ++ of_cubes)
        ∙ ap₂ (λ a b. a && b) (fixes-say r.number t r.node r.fixes)
        (all_append (any (literal_true σ)) of_pins of_cubes
        ∙ ap₂ (λ a b. a && b)
        (clause-says σ
        (literal false (pair r.number t) ∷ concat_map (driver_late slopes I top node pair t) r.pins)
        ∙ ap (λ b. beq (σ (pair r.number t)) false || b)
        (any-concat_map (part_true σ) (driver_late slopes I top node pair t) r.pins))
        (all-concat_map (any (literal_true σ)) (cube_clause slopes I top node pair r.number t)
        (cubes r.kind r.pins)
        ∙ cubes-say r.number t (cubes r.kind r.pins)))
        ∙ by-table-of-four (λ p v a b. (not p || v) && ((beq p false || a) && (not p || b)))
        (λ p v a b. not p || v && (a && b)) tt
        (σ (pair r.number t))
        (fits r (σ (node r.node)))
        (any (driver_late_true t) r.pins)
        (all (any (slow_or_false t)) (cubes r.kind r.pins))
      where
        of_values : List (List (Bool × X))
        of_values = map (λ value. (false, pair r.number t) ∷ is node r.node value ∷ []) r.fixes

        of_pins : List (List (Bool × X))
        of_pins =
            clause_of (literal false (pair r.number t) ∷ concat_map (driver_late slopes I top node pair t) r.pins)

        of_cubes : List (List (Bool × X))
        of_cubes = concat_map (cube_clause slopes I top node pair r.number t) (cubes r.kind r.pins)

    -- one of a node's pairs at t is true
    abbrev pub some_pair : ℕ → ℕ → Bool
    some_pair n t = any (λ rail. σ (pair rail t)) (rails_of slopes n)

    -- what it says that a node is late at t by one rail
    rail-late-says : (n rail t : ℕ) →
        part_true σ (late slopes I top node pair n rail t)
        ≡ cond (ltb n I) (leb t (top n)) (leb t zero || leb t (top n) && σ (pair rail t))
    unfolding late
    rail-late-says n rail t = go (ltb n I) (leb t (top n)) (leb t zero)
      where
        go : (input within none : Bool) →
            part_true σ
            (cond input (cond within sure never)
            (cond none sure (cond within (literal true (pair rail t)) never)))
            ≡ cond input within (none || within && σ (pair rail t))
        go true true none = refl
        go true false none = refl
        go false within true = refl
        go false true false = by-table-of-one (λ a. beq a true) (λ a. a) tt (σ (pair rail t))
        go false false false = refl

    -- what it says that a node is late at t: for an input its top, for a gate t = 0 or the variable of one of its pairs
    pub late-says : (n t : ℕ) →
        late_true n t ≡ cond (ltb n I) (leb t (top n)) (leb t zero || leb t (top n) && some_pair n t)
    late-says n t =
        any-map (part_true σ) (λ rail. late slopes I top node pair n rail t) (rails_of slopes n)
        ∙ any-cong (λ rail. part_true σ (late slopes I top node pair n rail t))
        (λ rail. cond (ltb n I) (leb t (top n)) (leb t zero || leb t (top n) && σ (pair rail t))) (rails_of slopes n)
        (λ rail m. rail-late-says n rail t)
        ∙ by-rails slopes (λ rail. σ (pair rail t)) n (ltb n I) (leb t (top n)) (leb t zero)

    -- ---- the formula

    -- each gate's clauses are solved
    abbrev pub gates_solved : List (ℕ × Cell) → Bool
    gates_solved gates = all (λ x. solves σ (gate_clauses node x.1.kind x.1.pins x.0)) gates

    -- the clauses of a rail's pairs are solved
    abbrev pub rail_solved : (ℕ → List ℕ) → Rail → Bool
    rail_solved times r = all (λ t. solves σ (pair_clauses slopes I top node pair r t)) (times r.number)

    -- each pair's clauses are solved
    abbrev pub pairs_solved : List (ℕ × Cell) → (ℕ → List ℕ) → Bool
    pairs_solved gates times = all (λ x. all (rail_solved times) (rails_at slopes x)) gates

    -- the formula says: each gate's clauses, each pair's, and some output is late
    pub formula-says : (gates : List (ℕ × Cell)) (times : ℕ → List ℕ) (outputs : List ℕ) (target : ℕ) →
        solves σ (formula slopes I top node pair gates times outputs target)
        ≡ (gates_solved gates && (pairs_solved gates times && any (λ o. late_true o target) outputs))
    unfolding formula
    formula-says gates times outputs target =
        all_append (any (literal_true σ)) (concat_map of_gate gates) (concat_map of_rails gates ++ of_outputs)
        ∙ ap₂ (λ a b. a && b) (all-concat_map (any (literal_true σ)) of_gate gates)
        (all_append (any (literal_true σ)) (concat_map of_rails gates) of_outputs
        ∙ ap₂ (λ a b. a && b)
        (all-concat_map (any (literal_true σ)) of_rails gates
        ∙ all-cong (λ x. solves σ (of_rails x)) (λ x. all (rail_solved times) (rails_at slopes x)) gates
        (λ x m.
        all-concat_map (any (literal_true σ)) of_pairs (rails_at slopes x)
        ∙ all-cong (λ r. solves σ (of_pairs r)) (rail_solved times) (rails_at slopes x)
        (λ r i.
        all-concat_map (any (literal_true σ)) (pair_clauses slopes I top node pair r) (times r.number))))
        (clause-says σ (concat_map (λ o. node_late slopes I top node pair o target) outputs)
        ∙ any-concat_map (part_true σ) (λ o. node_late slopes I top node pair o target) outputs))
      where
        of_gate : ℕ × Cell → List (List (Bool × X))
        of_gate x = gate_clauses node x.1.kind x.1.pins x.0

        of_pairs : Rail → List (List (Bool × X))
        of_pairs r = concat_map (pair_clauses slopes I top node pair r) (times r.number)

        of_rails : ℕ × Cell → List (List (Bool × X))
        of_rails x = concat_map of_pairs (rails_at slopes x)

        of_outputs : List (List (Bool × X))
        of_outputs = clause_of (concat_map (λ o. node_late slopes I top node pair o target) outputs)
