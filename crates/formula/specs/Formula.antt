-- The clauses for a target, in the order of rule F8, over any kind of variables: `node` gives a node's variable and
-- `pair` a pair's. Then their numbers. Interface: all of it.
use Rattle.std.specs.Prelude.{Bool, true, false, not, cond, List, [], ◌∷◌, ◌++◌, map, ℕ, suc, ◌+◌, ◌-◌, leb, ltb}
use Rattle.basics.specs.Lists.{any, concat_map}
use Rattle.netlist.specs.declared.Kind.{Kind}
use Rattle.netlist.specs.declared.Kind.TheVariants.{Simple, Parity, Mux}
use Rattle.netlist.specs.Netlist.{Cell, Pin, nodes, node_count, Circuit, Slopes}
use Rattle.settle.specs.Settling.{top_of, Cube, cubes}
use Rattle.clauses.specs.Clauses.{Literal}
use Rattle.pairs.specs.Rails.{Rail, rails_of, rails_at}
use Rattle.pairs.specs.Pairs.{times_for, pairs_for, pair_place}

-- a part of a clause: true outright, false outright, or a literal (the value that it wants, and its variable)
pub data Part (X : Type 0) : Type 0 where
  sure never : Part X
  literal : Bool → X → Part X

-- it is true outright
abbrev pub is_sure : {X : Type 0} → Part X → Bool
is_sure sure = true
is_sure never = false
is_sure (literal b x) = false

-- the literals among parts, in order
abbrev pub literals : {X : Type 0} → List (Part X) → List (Bool × X)
literals [] = []
literals (sure ∷ ps) = literals ps
literals (never ∷ ps) = literals ps
literals (literal b x ∷ ps) = (b, x) ∷ literals ps

-- parts that are false outright are not written, and a clause with one that is true outright is not written at all
-- (rule F14)
unfoldable pub clause_of : {X : Type 0} → List (Part X) → List (List (Bool × X))
clause_of parts = cond (any is_sure parts) [] (literals parts ∷ [])

-- ---- 1. each gate

module _ {X : Type 0} (node : ℕ → X) where
  -- that node n is b
  abbrev pub is : ℕ → Bool → Bool × X
  is n b = (b, node n)

  -- A simple gate: a clause of two literals for each pin, then one over all pins (rule F9). XOR and XNOR: a clause for
  -- each way to set the two pins (rule F10). MUX: two clauses for each value of select (rule F11). Other numbers of
  -- pins do not occur.
  unfoldable pub gate_clauses : Kind → List Pin → ℕ → List (List (Bool × X))
  gate_clauses (Simple c k) ps f =
      map (λ p. is p.driver (not c) ∷ is f k ∷ []) ps
      ++ ((map (λ p. is p.driver c) ps ++ (is f (not k) ∷ [])) ∷ [])
  gate_clauses (Parity equal) (p ∷ q ∷ []) f =
      (is p.driver true ∷ is q.driver true ∷ is f equal ∷ [])
      ∷ (is p.driver true ∷ is q.driver false ∷ is f (not equal) ∷ [])
      ∷ (is p.driver false ∷ is q.driver true ∷ is f (not equal) ∷ [])
      ∷ (is p.driver false ∷ is q.driver false ∷ is f equal ∷ []) ∷ []
  gate_clauses (Parity equal) [] f = []
  gate_clauses (Parity equal) (p ∷ []) f = []
  gate_clauses (Parity equal) (p ∷ q ∷ r ∷ ps) f = []
  gate_clauses Mux (s ∷ a ∷ b ∷ []) f =
      (is s.driver true ∷ is a.driver false ∷ is f true ∷ [])
      ∷ (is s.driver true ∷ is a.driver true ∷ is f false ∷ [])
      ∷ (is s.driver false ∷ is b.driver false ∷ is f true ∷ [])
      ∷ (is s.driver false ∷ is b.driver true ∷ is f false ∷ []) ∷ []
  gate_clauses Mux [] f = []
  gate_clauses Mux (s ∷ []) f = []
  gate_clauses Mux (s ∷ a ∷ []) f = []
  gate_clauses Mux (s ∷ a ∷ b ∷ c ∷ ps) f = []

-- ---- 2. each pair, and 3. some output is late

-- over the slopes, I inputs, the nodes' tops, and the variables of a node and of a rail at a time
module _ {X : Type 0} (slopes : Slopes) (I : ℕ) (top : ℕ → ℕ) (node : ℕ → X) (pair : ℕ → ℕ → X) where
  -- A node is late at t by one of its rails (rules F2 and R3): true outright at 0, false outright above its top,
  -- otherwise open, the variable of the pair. An input is late up to its top, which is its arrival, and not beyond: it
  -- has no pair
  unfoldable pub late : ℕ → ℕ → ℕ → Part X
  late n rail t =
      cond (ltb n I) (cond (leb t (top n)) sure never)
      (cond (leb t 0) sure (cond (leb t (top n)) (literal true (pair rail t)) never))

  -- a node is late at t: by one of its rails
  abbrev pub node_late : ℕ → ℕ → List (Part X)
  node_late n t = map (λ rail. late n rail t) (rails_of slopes n)

  -- the pin's driver is late at t less the pin's delay; a negative time is taken as 0 (rule F3)
  abbrev pub driver_late : ℕ → Pin → List (Part X)
  driver_late t p = node_late p.driver (t - p.delay)

  -- of a controlling cube's literal: its driver late, or the literal false
  abbrev pub cube_parts : ℕ → Pin × Bool → List (Part X)
  cube_parts t l = driver_late t l.0 ++ (literal (not l.1) (node l.0.driver) ∷ [])

  -- the clause of a controlling cube (rule F12): not p, or for some literal of the cube its driver late, or it is false
  abbrev pub cube_clause : ℕ → ℕ → Cube Pin → List (List (Bool × X))
  cube_clause rail t cube = clause_of (literal false (pair rail t) ∷ concat_map (cube_parts t) cube)

  -- the clauses of a rail's pair: where the rail speaks of a final value, not p, or the gate has it (rule R5); not p,
  -- or one of the drivers late, in pin order; then one a controlling cube (rule F12)
  unfoldable pub pair_clauses : Rail → ℕ → List (List (Bool × X))
  pair_clauses r t =
      map (λ value. (false, pair r.number t) ∷ is node r.node value ∷ []) r.fixes
      ++ (clause_of (literal false (pair r.number t) ∷ concat_map (driver_late t) r.pins)
      ++ concat_map (cube_clause r.number t) (cubes r.kind r.pins))

  -- 1, 2 and 3 in order; `times` gives the times of a rail's pairs, rising
  unfoldable pub formula : List (ℕ × Cell) → (ℕ → List ℕ) → List ℕ → ℕ → List (List (Bool × X))
  formula gates times outputs target =
      concat_map (λ x. gate_clauses node x.1.kind x.1.pins x.0) gates
      ++ (concat_map (λ x. concat_map (λ r. concat_map (pair_clauses r) (times r.number)) (rails_at slopes x)) gates
      ++ clause_of (concat_map (λ o. node_late o target) outputs))

-- ---- the variables' numbers

-- node n has n + 1 (rule F5)
abbrev pub node_variable : ℕ → ℕ
node_variable n = suc n

-- the pairs have the numbers after N, in their order (rule F5)
unfoldable pub pair_variable : Circuit → ℕ → ℕ → ℕ → ℕ
pair_variable circuit target rail t = suc (node_count circuit.net + pair_place rail t (pairs_for circuit target))

-- the formula for a target
unfoldable pub formula_for : Circuit → ℕ → List (List Literal)
formula_for circuit target =
    formula circuit.slopes circuit.net.inputs (top_of circuit) node_variable (pair_variable circuit target)
    (nodes circuit.net) (times_for circuit target) circuit.net.outputs target
