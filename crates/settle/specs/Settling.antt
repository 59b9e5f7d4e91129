-- Section S of the rules, rule by rule, and what a gate gives (rules K2 to K4). Interface: all of it.
use Rattle.std.specs.Prelude.{Bool, true, false, not, cond, List, [], ◌∷◌, ◌++◌, map, ℕ, ◌+◌, max, min, get_or}
use Rattle.std.specs.Bool.{beq}
use Rattle.basics.specs.Lists.{any, all, keep}
use Rattle.netlist.specs.declared.Kind.{Kind}
use Rattle.netlist.specs.declared.Kind.TheVariants.{Simple, Parity, Mux}
use Rattle.netlist.specs.Netlist.{Netlist, Circuit, Cell, Pin, pins_for, slowest}

-- ---- one gate, over any kind of pins: what `value` a pin has, and when it is `ready`

module _ {P : Type 0} (value : P → Bool) where
  -- some pin at c gives k, none its opposite (rule K2); equal pins give a parity gate's own value (rules K3 and K5);
  -- MUX passes a on for select 0 and b for select 1 (rule K4). MUX has three pins: it is never asked with fewer
  unfoldable pub gate_value : Kind → List P → Bool
  gate_value (Simple c k) ps = cond (any (λ p. beq (value p) c) ps) k (not k)
  gate_value (Parity equal) [] = equal
  gate_value (Parity equal) (p ∷ ps) =
      cond (value p) (not (gate_value (Parity equal) ps)) (gate_value (Parity equal) ps)
  gate_value Mux [] = false
  gate_value Mux (select ∷ []) = false
  gate_value Mux (select ∷ a ∷ []) = false
  gate_value Mux (select ∷ a ∷ b ∷ ps) = cond (value select) (value b) (value a)

module _ {P : Type 0} (ready : P → ℕ) where
  -- when the last pin is ready
  abbrev pub last : List P → ℕ
  last [] = 0
  last (p ∷ ps) = max (ready p) (last ps)

  -- when the first of p and ps is ready
  abbrev pub first : P → List P → ℕ
  first p [] = ready p
  first p (q ∷ qs) = min (ready p) (first q qs)

  -- when the first pin is ready; otherwise, where there is none, at `otherwise`
  abbrev pub first_or : List P → ℕ → ℕ
  first_or [] otherwise = otherwise
  first_or (p ∷ ps) otherwise = first p ps

-- a cube (rule K6): pins, each with the value that it must have; one such pair is a literal
abbrev pub Cube : Type 0 → Type 0
Cube P = List (P × Bool)

-- the controlling cubes of a gate, in the order of their clauses (rule K6): of a simple gate, each pin at c; of MUX,
-- select with the pin that it chooses, at 0 and at 1, and both data pins alike
abbrev pub cubes : {P : Type 0} → Kind → List P → List (Cube P)
cubes (Simple c k) ps = map (λ p. (p, c) ∷ []) ps
cubes (Parity equal) ps = []
cubes Mux [] = []
cubes Mux (select ∷ []) = []
cubes Mux (select ∷ a ∷ []) = []
cubes Mux (select ∷ a ∷ b ∷ ps) =
    ((select, false) ∷ (a, false) ∷ [])
    ∷ ((select, false) ∷ (a, true) ∷ [])
    ∷ ((select, true) ∷ (b, false) ∷ [])
    ∷ ((select, true) ∷ (b, true) ∷ [])
    ∷ ((a, false) ∷ (b, false) ∷ [])
    ∷ ((a, true) ∷ (b, true) ∷ []) ∷ []

-- the pin has the literal's value
abbrev pub literal_holds : {P : Type 0} → (P → Bool) → P × Bool → Bool
literal_holds value l = beq (value l.0) l.1

-- each pin of the cube has its value
abbrev pub cube_holds : {P : Type 0} → (P → Bool) → Cube P → Bool
cube_holds value cube = all (literal_holds value) cube

-- when the cube's last pin is ready
abbrev pub cube_ready : {P : Type 0} → (P → ℕ) → Cube P → ℕ
cube_ready ready cube = last ready (map (λ l. l.0) cube)

-- A gate settles as soon as the earliest of its controlling cubes that hold is ready; one of which none holds, and one
-- that has none, XOR and XNOR, once all its pins are (rules S3 and S4).
unfoldable pub settles : {P : Type 0} → (P → Bool) → (P → ℕ) → Kind → List P → ℕ
settles value ready kind ps =
    first_or (cube_ready ready) (keep (cube_holds value) (cubes kind ps)) (last ready ps)

-- ---- all nodes of a netlist

-- an entry for each gate, worked out from the entries before it and put behind them
unfoldable pub grow : {A : Type 0} → A → (Cell → (ℕ → A) → A) → List A → List Cell → List A
grow none step done [] = done
grow none step done (g ∷ gs) = grow none step (done ++ (step g (λ node. get_or done node none) ∷ [])) gs

-- a pin is ready its delay after its driver settles (rule S2)
abbrev pub ready_at : (ℕ → ℕ) → Pin → ℕ
ready_at time p = time p.driver + p.delay

-- the final values of all nodes under an input vector
unfoldable pub values_of : Netlist → List Bool → List Bool
values_of net vector = grow false (λ g value. gate_value (λ p. value p.driver) g.kind g.pins) vector net.gates

-- a node's final value
abbrev pub value_of : Netlist → List Bool → ℕ → Bool
value_of net vector node = get_or (values_of net vector) node false

-- a gate's final value, by its drivers' final values
abbrev pub ends_at : Netlist → List Bool → Cell → Bool
ends_at net vector g = gate_value (λ p. value_of net vector p.driver) g.kind g.pins

-- the settling times of all nodes; the inputs settle at their arrivals, and a gate goes by the delays for its own final
-- value (rule R1)
unfoldable pub times_of : Circuit → List Bool → List ℕ
times_of circuit vector =
    grow 0
    (λ g time.
    settles (λ p. value_of circuit.net vector p.driver) (ready_at time) g.kind
    (pins_for circuit.slopes (ends_at circuit.net vector g) g.pins))
    circuit.arrivals circuit.net.gates

-- a node's settling time
abbrev pub time_of : Circuit → List Bool → ℕ → ℕ
time_of circuit vector node = get_or (times_of circuit vector) node 0

-- the circuit settles with the latest of its outputs (rule S6)
unfoldable pub circuit_time : Circuit → List Bool → ℕ
circuit_time circuit vector = last (time_of circuit vector) circuit.net.outputs

-- the tops of all nodes (rule S7): an input's is its arrival, a gate's the largest of a driver's top plus the delay,
-- the larger one where there are two
unfoldable pub tops_of : Circuit → List ℕ
tops_of circuit =
    grow 0 (λ g top. last (ready_at top) (slowest circuit.slopes g.pins)) circuit.arrivals
    circuit.net.gates

-- a node's top
abbrev pub top_of : Circuit → ℕ → ℕ
top_of circuit node = get_or (tops_of circuit) node 0
