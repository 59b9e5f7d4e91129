-- The variables of the formula: what is allowed of each node's variable and of each listed pair's is allowed of all
-- that stand in it, over any slopes and any kind of variables. So the numbers of a valid circuit's formula run from 1
-- to V = N + pairs: a pair's place is below the number of pairs. Laws: formula-allowed, formula-variables. Assumes
-- nothing.
use mathlib.Core.Path.{◌≡◌, refl, sym, ap, subst}
use mathlib.Core.Bool.{Bool, true, false, not, ◌&&◌, cond}
use mathlib.Core.List.Memᴰ
use mathlib.Core.List.{
  List,
  [],
  ◌∷◌,
  ◌++◌,
  map,
  Memᴰ,
}
use mathlib.Core.Logic.{◌⊎◌, inl, inr}
use Prim.Native.Nat.{ℕ, zero, suc, ◌+◌, ◌-◌, ◌≤◌, ◌<◌}
use native.Mathlib.Omega.{arith}
use lib.Dec.{T, leb, ltb, leb→le, le→leb, lt→ltb, nltb→le, leb-zero, leb-suc-zero}
use lib.ListN.{length}
use Rattle.basics.specs.Lists.{any, all, concat_map}
use Rattle.basics.proofs.Truth.{is_true, and_both, and_left, and_right}
use Rattle.basics.proofs.Lists.{all_of, all_join, all-concat_map-of, map-mem, concat_map-mem}
use Rattle.netlist.specs.declared.Kind.{Kind}
use Rattle.netlist.specs.declared.Kind.TheVariants.{Simple, Parity, Mux}
use Rattle.netlist.specs.Netlist.{Cell, Pin, node_count, valid, Circuit, Slopes}
use Rattle.settle.specs.Settling.{Cube, cubes}
use Rattle.settle.proofs.Cubes.{cube-pin}
use Rattle.settle.proofs.Nodes.{Laid, laid}
use Rattle.pairs.specs.Rails.{Rail, rails_of, rails_at}
use Rattle.pairs.specs.Pairs.{pairs_for, pair_place}
use Rattle.pairs.proofs.Closed.{Closed, closed-for, placed-for}
use Rattle.formula.specs.Formula.{
  Part,
  sure,
  never,
  literal,
  is_sure,
  literals,
  clause_of,
  is,
  gate_clauses,
  late,
  node_late,
  driver_late,
  cube_parts,
  cube_clause,
  pair_clauses,
  formula,
  node_variable,
  pair_variable,
  formula_for,
}
use Rattle.certificate.proofs.Facts.{Listed, rail-of, driver-in, pin-in}

-- ---- what is allowed of the variables

module _ {X : Type 0} (allowed : X → Bool) where
  abbrev pub literal_allowed : Bool × X → Bool
  literal_allowed l = allowed l.1

  abbrev pub clauses_allowed : List (List (Bool × X)) → Bool
  clauses_allowed clauses = all (all literal_allowed) clauses

  abbrev part_allowed : Part X → Bool
  part_allowed sure = true
  part_allowed never = true
  part_allowed (literal b x) = allowed x

  literals-allowed : (parts : List (Part X)) → T (all part_allowed parts) → T (all literal_allowed (literals parts))
  literals-allowed [] t = tt
  literals-allowed (sure ∷ parts) t = literals-allowed parts t
  literals-allowed (never ∷ parts) t = literals-allowed parts t
  literals-allowed (literal b x ∷ parts) t =
      and_both (allowed x) (all literal_allowed (literals parts)) (and_left (allowed x) (all part_allowed parts) t)
      (literals-allowed parts (and_right (allowed x) (all part_allowed parts) t))

  clause-allowed : (parts : List (Part X)) → T (all part_allowed parts) → T (clauses_allowed (clause_of parts))
  unfolding clause_of
  clause-allowed parts t = go (any is_sure parts)
    where
      go : (b : Bool) → T (clauses_allowed (cond b [] (literals parts ∷ [])))
      go true = tt
      go false = and_both (all literal_allowed (literals parts)) true (literals-allowed parts t) tt

  gate-allowed : (node : ℕ → X) (kind : Kind) (ps : List Pin) (f : ℕ) → T (allowed (node f)) →
      ((p : Pin) → Memᴰ p ps → T (allowed (node p.driver))) → T (clauses_allowed (gate_clauses node kind ps f))
  unfolding gate_clauses
  gate-allowed node (Simple c k) ps f g h =
      all_join (all literal_allowed) (map forcing ps) ((map at_control ps ++ (is node f (not k) ∷ [])) ∷ [])
      (all_of (all literal_allowed) (map forcing ps)
      (λ d i.
      let w = map-mem forcing ps d i in
      subst (λ x. T (all literal_allowed x)) (sym w.2)
      (and_both (allowed (node w.0.driver)) (allowed (node f) && true) (h w.0 w.1)
      (and_both (allowed (node f)) true g tt))))
      (and_both (all literal_allowed (map at_control ps ++ (is node f (not k) ∷ []))) true
      (all_join literal_allowed (map at_control ps) (is node f (not k) ∷ [])
      (all_of literal_allowed (map at_control ps)
      (λ l i.
      let w = map-mem at_control ps l i in subst (λ x. T (literal_allowed x)) (sym w.2) (h w.0 w.1)))
      (and_both (allowed (node f)) true g tt)) tt)
    where
      forcing : Pin → List (Bool × X)
      forcing p = is node p.driver (not c) ∷ is node f k ∷ []

      at_control : Pin → Bool × X
      at_control p = is node p.driver c
  gate-allowed node (Parity equal) (p ∷ q ∷ []) f g h =
      rw (
        is_true (allowed (node f)) g,
        is_true (allowed (node p.driver)) (h p (Memᴰ.head refl)),
        is_true (allowed (node q.driver)) (h q (Memᴰ.tail (Memᴰ.head refl))),
      ) tt
  gate-allowed node (Parity equal) [] f g h = tt
  gate-allowed node (Parity equal) (p ∷ []) f g h = tt
  gate-allowed node (Parity equal) (p ∷ q ∷ r ∷ ps) f g h = tt
  gate-allowed node Mux (s ∷ a ∷ b ∷ []) f g h =
      rw (
        is_true (allowed (node f)) g,
        is_true (allowed (node s.driver)) (h s (Memᴰ.head refl)),
        is_true (allowed (node a.driver)) (h a (Memᴰ.tail (Memᴰ.head refl))),
        is_true (allowed (node b.driver)) (h b (Memᴰ.tail (Memᴰ.tail (Memᴰ.head refl)))),
      ) tt
  gate-allowed node Mux [] f g h = tt
  gate-allowed node Mux (s ∷ []) f g h = tt
  gate-allowed node Mux (s ∷ a ∷ []) f g h = tt
  gate-allowed node Mux (s ∷ a ∷ b ∷ c ∷ ps) f g h = tt

module _ {slopes : Slopes} {I N : ℕ} {gates : List (ℕ × Cell)} {top : ℕ → ℕ} {times : ℕ → List ℕ} {outputs : List ℕ}
    {target : ℕ} (laid : Laid I N gates) (closed : Closed slopes I gates top times outputs target)
    {X : Type 0} (node : ℕ → X) (pair : ℕ → ℕ → X) (allowed : X → Bool)
    (nodes-allowed : (n : ℕ) → n < N → T (allowed (node n)))
    (pairs-allowed : (rail t : ℕ) → Memᴰ t (times rail) → T (allowed (pair rail t))) where
  late-allowed : (n t : ℕ) → Listed slopes I top times n t → (rail : ℕ) → Memᴰ rail (rails_of slopes n) →
      T (part_allowed allowed (late slopes I top node pair n rail t))
  unfolding late
  late-allowed n zero l rail m = rw (leb-zero (top n)) (go (ltb n I))
    where
      go : (b : Bool) → T (part_allowed allowed (cond b sure sure))
      go true = tt
      go false = tt
  late-allowed n (suc t) l rail m = rw (leb-suc-zero t) (go (ltb n I) (leb (suc t) (top n)) refl refl)
    where
      go : (a b : Bool) → ltb n I ≡ a → leb (suc t) (top n) ≡ b →
          T (part_allowed allowed (cond a (cond b sure never) (cond b (literal true (pair rail (suc t))) never)))
      go true true e f = tt
      go true false e f = tt
      go false true e f =
          pairs-allowed rail (suc t)
          (l (nltb→le n I (subst T (sym (ap not e)) tt)) (omega arith)
          (leb→le (suc t) (top n) (subst T (sym f) tt)) rail m)
      go false false e f = tt

  -- a node's being late, by each of its rails
  node-allowed : (n t : ℕ) → Listed slopes I top times n t → (part : Part X) →
      Memᴰ part (node_late slopes I top node pair n t) → T (part_allowed allowed part)
  node-allowed n t l part m =
      let w = map-mem (λ rail. late slopes I top node pair n rail t) (rails_of slopes n) part m in
      subst (λ z. T (part_allowed allowed z)) (sym w.2) (late-allowed n t l w.0 w.1)

  module _ (x : ℕ × Cell) (m : Memᴰ x gates) (r : Rail) (i : Memᴰ r (rails_at slopes x)) (t : ℕ)
      (j : Memᴰ t (times r.number)) where
    driver-allowed : (p : Pin) → Memᴰ p r.pins → (part : Part X) →
        Memᴰ part (driver_late slopes I top node pair t p) → T (part_allowed allowed part)
    driver-allowed p k = node-allowed p.driver (t - p.delay) (closed.drivers-in x m r i t j p k)

    cube-allowed : (cube : Cube Pin) → Memᴰ cube (cubes r.kind r.pins) →
        T (clauses_allowed allowed (cube_clause slopes I top node pair r.number t cube))
    cube-allowed cube c =
        clause-allowed allowed
        (literal false (pair r.number t) ∷ concat_map (cube_parts slopes I top node pair t) cube)
        (and_both (allowed (pair r.number t))
        (all (part_allowed allowed) (concat_map (cube_parts slopes I top node pair t) cube))
        (pairs-allowed r.number t j)
        (all_of (part_allowed allowed) (concat_map (cube_parts slopes I top node pair t) cube)
        (λ part k.
        let w = concat_map-mem (cube_parts slopes I top node pair t) cube part k in
        let pin = cube-pin r.kind r.pins cube c w.0 w.1 in
        each w.0 part pin
        (Memᴰ.append_cases (driver_late slopes I top node pair t w.0.0) w.2))))
      where
        each : (l : Pin × Bool) (part : Part X) → Memᴰ l.0 r.pins →
            Memᴰ part (driver_late slopes I top node pair t l.0)
            ⊎ Memᴰ part (literal (not l.1) (node l.0.driver) ∷ []) → T (part_allowed allowed part)
        each l part k (inl u) = driver-allowed l.0 k part u
        each l part k (inr (Memᴰ.head e)) =
            subst (λ z. T (part_allowed allowed z)) (sym e)
            (nodes-allowed l.0.driver (driver-in laid slopes x.0 x.1 m r i l.0 k))
        each l part k (inr (Memᴰ.tail u)) = absurd (Memᴰ.not-nil u)

    pair-allowed : T (clauses_allowed allowed (pair_clauses slopes I top node pair r t))
    unfolding pair_clauses
    pair-allowed =
        all_join (all (literal_allowed allowed)) of_values (of_pins ++ of_cubes)
        (all_of (all (literal_allowed allowed)) of_values
        (λ clause k.
        let w = map-mem of_value r.fixes clause k in
        subst (λ z. T (all (literal_allowed allowed) z)) (sym w.2)
        (rw (
          is_true (allowed (pair r.number t)) (pairs-allowed r.number t j),
          is_true (allowed (node r.node)) own,
        )
        tt)))
        (all_join (all (literal_allowed allowed)) of_pins of_cubes
        (clause-allowed allowed
        (literal false (pair r.number t) ∷ concat_map (driver_late slopes I top node pair t) r.pins)
        (and_both (allowed (pair r.number t))
        (all (part_allowed allowed) (concat_map (driver_late slopes I top node pair t) r.pins))
        (pairs-allowed r.number t j)
        (all_of (part_allowed allowed) (concat_map (driver_late slopes I top node pair t) r.pins)
        (λ part k.
        let w = concat_map-mem (driver_late slopes I top node pair t) r.pins part k in
        driver-allowed w.0 w.1 part w.2))))
        (all-concat_map-of (all (literal_allowed allowed)) (cube_clause slopes I top node pair r.number t)
        (cubes r.kind r.pins) cube-allowed))
      where
        own : T (allowed (node r.node))
        own =
            subst (λ n. T (allowed (node n))) (sym (rail-of slopes x r i).node-is)
            (nodes-allowed x.0 (laid.high x.0 x.1 m))

        of_value : Bool → List (Bool × X)
        of_value value = (false, pair r.number t) ∷ is node r.node value ∷ []

        of_values : List (List (Bool × X))
        of_values = map of_value r.fixes

        of_pins : List (List (Bool × X))
        of_pins =
            clause_of (literal false (pair r.number t) ∷ concat_map (driver_late slopes I top node pair t) r.pins)

        of_cubes : List (List (Bool × X))
        of_cubes = concat_map (cube_clause slopes I top node pair r.number t) (cubes r.kind r.pins)

  -- what is allowed of each node's and each listed pair's variable is allowed of the formula's
  pub formula-allowed : T (clauses_allowed allowed (formula slopes I top node pair gates times outputs target))
  unfolding formula
  formula-allowed =
      all_join (all (literal_allowed allowed)) (concat_map of_gate gates)
      (concat_map of_rails gates ++ clause_of (concat_map output_late outputs))
      (all-concat_map-of (all (literal_allowed allowed)) of_gate gates
      (λ x m.
      gate-allowed allowed node x.1.kind x.1.pins x.0 (nodes-allowed x.0 (laid.high x.0 x.1 m))
      (λ p i. nodes-allowed p.driver (pin-in laid x.0 x.1 m p i))))
      (all_join (all (literal_allowed allowed)) (concat_map of_rails gates) (clause_of (concat_map output_late outputs))
      (all-concat_map-of (all (literal_allowed allowed)) of_rails gates
      (λ x m.
      all-concat_map-of (all (literal_allowed allowed)) of_pairs (rails_at slopes x)
      (λ r i.
      all-concat_map-of (all (literal_allowed allowed)) (pair_clauses slopes I top node pair r) (times r.number)
      (pair-allowed x m r i))))
      (clause-allowed allowed (concat_map output_late outputs)
      (all_of (part_allowed allowed) (concat_map output_late outputs)
      (λ part i.
      let w = concat_map-mem output_late outputs part i in
      node-allowed w.0 target (closed.outputs-in w.0 w.1) part w.2))))
    where
      of_gate : ℕ × Cell → List (List (Bool × X))
      of_gate x = gate_clauses node x.1.kind x.1.pins x.0

      of_pairs : Rail → List (List (Bool × X))
      of_pairs r = concat_map (pair_clauses slopes I top node pair r) (times r.number)

      of_rails : ℕ × Cell → List (List (Bool × X))
      of_rails x = concat_map of_pairs (rails_at slopes x)

      output_late : ℕ → List (Part X)
      output_late o = node_late slopes I top node pair o target

-- ---- over integers

-- the variables of nodes and of pairs (rule F5): V of a netlist's formula
abbrev pub variables_for : Circuit → ℕ → ℕ
variables_for circuit target = node_count circuit.net + length (pairs_for circuit target)

-- a variable is 1 to V
abbrev pub is_variable : ℕ → ℕ → Bool
is_variable variables v = ltb 0 v && leb v variables

is-variable : (variables v : ℕ) → 0 < v → v ≤ variables → T (is_variable variables v)
is-variable variables v a b = and_both (ltb 0 v) (leb v variables) (lt→ltb 0 v a) (le→leb v variables b)

-- every variable of a valid netlist's formula is 1 to V
pub formula-variables : (circuit : Circuit) → T (valid circuit.net) → (target : ℕ) →
    T (clauses_allowed (is_variable (variables_for circuit target)) (formula_for circuit target))
unfolding formula_for pair_variable
formula-variables circuit ok target =
    formula-allowed (laid circuit.net ok) (closed-for circuit ok target) node_variable
    (pair_variable circuit target) (is_variable (variables_for circuit target))
    (λ n h. is-variable (variables_for circuit target) (suc n) (omega arith) (omega arith))
    (λ rail t m.
    let below = placed-for circuit ok target rail t m in
    is-variable (variables_for circuit target)
    (suc (node_count circuit.net + pair_place rail t (pairs_for circuit target)))
    (omega arith) (omega arith))
