-- Rails: what a pair speaks of beside its time. A node has one rail, which is the node itself; where the delays of rise
-- and fall stand apart it has two, one for each final value, 0 first. A rail's number is the node's, or twice that and
-- the value. Interface: all of it.
use Rattle.std.specs.Prelude.{Bool, true, false, List, [], ◌∷◌, map, ℕ, ◌+◌, ◌*◌, ◌/◌}
use Rattle.basics.specs.Lists.{concat_map}
use Rattle.netlist.specs.declared.Kind.{Kind}
use Rattle.netlist.specs.Netlist.{Cell, Pin, Slopes, alike, apart, pins_for}

-- the rails of a node
abbrev pub rails_of : Slopes → ℕ → List ℕ
rails_of alike node = node ∷ []
rails_of (apart falls) node = node * 2 ∷ (node * 2 + 1) ∷ []

-- how many rails so many nodes have
abbrev pub rail_count : Slopes → ℕ → ℕ
rail_count alike nodes = nodes
rail_count (apart falls) nodes = nodes * 2

-- the node of a rail
abbrev pub node_of : Slopes → ℕ → ℕ
node_of alike rail = rail
node_of (apart falls) rail = rail / 2

-- ---- the rails of a gate, with what each of them goes by

-- its number, its node, the final value that it speaks of (none where there is one rail a node), and the gate's kind
-- and pins, with the delays for that value
pub record Rail : Type 0 where
  pub number : ℕ
  pub node : ℕ
  pub fixes : List Bool
  pub kind : Kind
  pub pins : List Pin

-- the rails of a gate at its node
abbrev pub rails_at : Slopes → ℕ × Cell → List Rail
rails_at alike x =
    record { number = x.0; node = x.0; fixes = []; kind = x.1.kind; pins = x.1.pins } ∷ []
rails_at (apart falls) x =
    record {
      number = x.0 * 2;
      node = x.0;
      fixes = false ∷ [];
      kind = x.1.kind;
      pins = pins_for (apart falls) false x.1.pins;
    }
    ∷ record {
      number = x.0 * 2 + 1;
      node = x.0;
      fixes = true ∷ [];
      kind = x.1.kind;
      pins = pins_for (apart falls) true x.1.pins;
    } ∷ []

-- ---- what is asked of rails: the graph in which the pairs are found

-- a pin asks each rail of its driver
abbrev pub asking : Slopes → List Pin → List Pin
asking alike ps = ps
asking (apart falls) ps =
    concat_map
    (λ p. map (λ rail. record { driver = rail; delay = p.delay; number = p.number })
    (rails_of (apart falls) p.driver))
    ps

-- a gate's rails, each as a cell whose pins are what it asks
abbrev pub rails_cells : Slopes → Cell → List Cell
rails_cells alike g = g ∷ []
rails_cells (apart falls) g =
    record { kind = g.kind; pins = asking (apart falls) (pins_for (apart falls) false g.pins) }
    ∷ record { kind = g.kind; pins = asking (apart falls) (pins_for (apart falls) true g.pins) } ∷ []

-- all gates' rails
abbrev pub rail_cells : Slopes → List Cell → List Cell
rail_cells alike gates = gates
rail_cells (apart falls) gates = concat_map (rails_cells (apart falls)) gates

-- the outputs' rails
abbrev pub rail_outputs : Slopes → List ℕ → List ℕ
rail_outputs alike outputs = outputs
rail_outputs (apart falls) outputs = concat_map (rails_of (apart falls)) outputs
