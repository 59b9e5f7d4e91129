-- What is put for one gate is what the definition says, kind by kind. Assumes nothing.
use mathlib.Core.Path.{◌≡◌, refl, sym, ap, ap₂, ◌∙◌}
use mathlib.Core.Bool.{Bool, true, false, not}
use mathlib.Core.List.{List, [], ◌∷◌, ◌++◌, map, append_assoc}
use Prim.Native.Nat.{ℕ, suc, ◌+◌}
use native.Mathlib.Omega.{arith}
use native.Mathlib.Numerals.{add-one}
use Rattle.basics.specs.Lists.{concat_map}
use Rattle.netlist.specs.declared.Shape.{Shape}
use Rattle.netlist.specs.declared.Kind.TheVariants.{Simple, Parity, Mux}
use Rattle.netlist.specs.declared.Gate.{Gate}
use Rattle.netlist.specs.Netlist.{Pin}
use Rattle.netlist.specs.File.{driver_at, gate_at, pin_at, cell_of, cell_at, pins_from}
use Rattle.clauses.specs.Clauses.{Literal}
use Rattle.formula.specs.declared.Share.{Share}
use Rattle.formula.specs.declared.Share.TheVariants.{Forced, Driver}
use Rattle.formula.specs.Formula.{node_variable, gate_clauses}
use Rattle.formula.specs.Emission.{Token, wants, ended, tokens_of, share_run, choice_run}
use Rattle.formula.specs.Late.{gate_run}

-- the clauses of two lists are put one after the other
pub tokens_append : (xs ys : List (List Literal)) → tokens_of (xs ++ ys) ≡ tokens_of xs ++ tokens_of ys
unfolding tokens_of
tokens_append [] ys = refl
tokens_append (c ∷ xs) ys =
    ap (λ (t : List Token). map wants c ++ (ended ∷ t)) (tokens_append xs ys)
    ∙ sym (append_assoc (map wants c) (ended ∷ tokens_of xs) (tokens_of ys))

-- so are those of each entry
pub tokens-concat_map : {A : Type 0} (f : A → List (List Literal)) (xs : List A) →
    tokens_of (concat_map f xs) ≡ concat_map (λ x. tokens_of (f x)) xs
unfolding tokens_of
tokens-concat_map f [] = refl
tokens-concat_map f (x ∷ xs) =
    tokens_append (f x) (concat_map f xs) ∙ ap (λ (t : List Token). tokens_of (f x) ++ t) (tokens-concat_map f xs)

-- ---- a simple gate

-- what one pin adds where no time is asked for
abbrev pub pin_run : Share → Bool → Bool → ℕ → Pin → List Token
pin_run share c k own p = share_run share c k own (record { node = p.driver; late = 0; more = 0 })

module _ (c k : Bool) (node : ℕ) where
  forced-tokens : (ps : List Pin) →
      tokens_of (map (λ p. (not c, suc p.driver) ∷ (k, suc node) ∷ []) ps)
      ≡ concat_map (pin_run Forced c k (node + 1)) ps
  unfolding tokens_of
  forced-tokens [] = refl
  forced-tokens (p ∷ ps) =
      ap₂ (λ (x t : List Token). x ++ t)
      (ap₂ (λ (d n : ℕ). wants (not c, d) ∷ wants (k, n) ∷ ended ∷ []) (sym (add-one p.driver)) (sym (add-one node)))
      (forced-tokens ps)

  driver-tokens : (ps : List Pin) (gate : Literal) →
      map wants (map (λ p. (c, suc p.driver)) ps ++ (gate ∷ []))
      ≡ concat_map (pin_run Driver c k (node + 1)) ps ++ (wants gate ∷ [])
  driver-tokens [] gate = refl
  driver-tokens (p ∷ ps) gate =
      rw (add-one p.driver)
      (ap (λ (t : List Token). wants (c, suc p.driver) ∷ t) (driver-tokens ps gate))

  pub simple-tokens : (ps : List Pin) →
      ((concat_map (pin_run Forced c k (node + 1)) ps ++ concat_map (pin_run Driver c k (node + 1)) ps)
      ++ (wants (not k, node + 1) ∷ [])) ++ (ended ∷ [])
      ≡ tokens_of (gate_clauses node_variable (Simple c k) ps node)
  unfolding gate_clauses tokens_of
  simple-tokens ps =
      let gate : Literal = (not k, suc node) in
      let forced : List Token = concat_map (pin_run Forced c k (node + 1)) ps in
      let drivers : List Token = concat_map (pin_run Driver c k (node + 1)) ps in
      ap (λ (n : ℕ). ((forced ++ drivers) ++ (wants (not k, n) ∷ [])) ++ (ended ∷ [])) (add-one node)
      ∙ append_assoc (forced ++ drivers) (wants gate ∷ []) (ended ∷ [])
      ∙ append_assoc forced drivers (wants gate ∷ ended ∷ [])
      ∙ ap (λ (t : List Token). forced ++ t)
      (sym (append_assoc drivers (wants gate ∷ []) (ended ∷ []))
      ∙ ap (λ (t : List Token). t ++ (ended ∷ [])) (sym (driver-tokens ps gate)))
      ∙ ap (λ (t : List Token). t ++ tokens_of ((map (λ p. (c, suc p.driver)) ps ++ (gate ∷ [])) ∷ []))
      (sym (forced-tokens ps))
      ∙ sym (tokens_append (map (λ p. (not c, suc p.driver) ∷ (k, suc node) ∷ []) ps)
      ((map (λ p. (c, suc p.driver)) ps ++ (gate ∷ [])) ∷ []))

-- ---- a parity gate and a multiplexer

module _ (file : List ℕ) (shape : Shape) (first count node : ℕ) where
  pub parity-tokens : {p q : ℕ} (equal : Bool) → p ≡ driver_at file shape first → q ≡ driver_at file shape (first + 1) →
      count ≡ 2 →
      choice_run p q q true equal (not equal) node
      ≡ tokens_of (gate_clauses node_variable (Parity equal) (pins_from file shape first count) node)
  unfolding gate_clauses tokens_of pins_from pin_at
  parity-tokens {p} {q} true d e n =
      let f : first + 1 ≡ suc first = omega arith in
      rw (add-one p, add-one q, add-one node, d, e, n, f)
  parity-tokens {p} {q} false d e n =
      let f : first + 1 ≡ suc first = omega arith in
      rw (add-one p, add-one q, add-one node, d, e, n, f)

  pub mux-tokens : {s a b : ℕ} → s ≡ driver_at file shape first → a ≡ driver_at file shape (first + 1) →
      b ≡ driver_at file shape (first + 2) → count ≡ 3 →
      choice_run s a b false true true node
      ≡ tokens_of (gate_clauses node_variable Mux (pins_from file shape first count) node)
  unfolding gate_clauses tokens_of pins_from pin_at
  mux-tokens {s} {a} {b} d e h n =
      let f : first + 1 ≡ suc first = omega arith in
      let g : first + 2 ≡ suc (suc first) = omega arith in
      rw (add-one s, add-one a, add-one b, add-one node, d, e, h, n, f, g)

-- ---- a gate of a file

-- what is put for a gate that was read is what the definition says of its cell
pub gate-run : (file : List ℕ) (shape : Shape) (i : ℕ) (gate : Gate) → gate ≡ gate_at file shape i →
    tokens_of (gate_clauses node_variable gate.kind (pins_from file shape gate.first gate.count)
    (shape.inputs + i))
    ≡ gate_run file shape i
unfolding cell_at cell_of pins_from
gate-run file shape i gate e =
    ap (λ (g : Gate).
    tokens_of (gate_clauses node_variable g.kind (pins_from file shape g.first g.count) (shape.inputs + i))) e
