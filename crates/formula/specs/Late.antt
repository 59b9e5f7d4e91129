-- What serves the code that writes the pairs' clauses: lateness by the source of a formula, as one code a rail, and
-- what the code leans on.
use Rattle.std.specs.Prelude.{
  ◌≡◌,
  Bool,
  false,
  cond,
  ℕ,
  suc,
  ◌+◌,
  ◌-◌,
  ◌*◌,
  ◌/◌,
  ◌≤◌,
  ◌<◌,
  T,
  length,
  get_or,
  take,
  set,
}
use mathlib.Core.List.{List, [], ◌∷◌, ◌++◌, Memᴰ}
use Rattle.basics.specs.Lists.{any, concat_map, up_from}
use Rattle.netlist.specs.declared.Form.{Form}
use Rattle.netlist.specs.declared.Form.TheVariants.{Single, RiseFall}
use Rattle.netlist.specs.declared.Kind.{Kind}
use Rattle.netlist.specs.declared.Shape.{Shape}
use Rattle.netlist.specs.declared.Gate.{Gate}
use Rattle.netlist.specs.Netlist.{Pin, Slopes, alike, apart, slopes_of, delayed, fall_of, pins_for, takes}
use Rattle.netlist.specs.File.{first_at, count_at, output_at, pin_at, cell_at, netlist_at}
use Rattle.clauses.specs.Codes.{literal_code}
use Rattle.settle.specs.Settling.{Cube}
use Rattle.pairs.specs.Rails.{Rail, rails_of, rail_count, node_of}
use Rattle.pairs.specs.Pairs.{pair_place}
use Rattle.pairs.specs.Table.{pairs_in, pair_at, Sorted}
use Rattle.pairs.specs.Promise.{Findable, Bounds, Begins}
use Rattle.formula.specs.declared.Source.{Source}
use Rattle.formula.specs.declared.Asked.{Asked}
use Rattle.formula.specs.declared.Side.{Side}
use Rattle.formula.specs.declared.Side.TheVariants.{Pins, Falls, Outputs}
use Rattle.formula.specs.Formula.{
  Part,
  sure,
  never,
  literal,
  is_sure,
  clause_of,
  late,
  node_late,
  driver_late,
  cube_parts,
  pair_clauses,
  node_variable,
}
use Rattle.formula.specs.Emission.{Token, wants, tokens_of, cell_run, code_bound, stored_at, rail_value}

-- ---- a part as one code

-- 0 for a part that is false outright, 1 for one that is true outright, else the literal's code
abbrev pub part_code : Part ℕ → ℕ
part_code sure = 1
part_code never = 0
part_code (literal b x) = literal_code (b, x)

-- a part that is false outright is not written
abbrev pub part_run : Part ℕ → List Token
part_run sure = []
part_run never = []
part_run (literal b x) = wants (b, x) ∷ []

-- ---- lateness

-- the circuit's parts
abbrev pub file_in : Source → List ℕ
file_in l = l.accepted.file.now

abbrev pub shape_in : Source → Shape
shape_in l = l.accepted.shape

abbrev pub slopes_in : Source → Slopes
slopes_in l = slopes_of l.accepted.form

-- how many nodes and pairs
abbrev pub nodes_in : Source → ℕ
nodes_in l = (shape_in l).inputs + (shape_in l).gates

abbrev pub pairs_count : Source → ℕ
pairs_count l = length l.table.now / 2

-- a node's top
abbrev pub top_in : List ℕ → ℕ → ℕ
top_in tops n = get_or tops n 0

-- a pair's variable, by its place in the table
unfoldable pub variable_in : Source → ℕ → ℕ → ℕ
variable_in l rail t = suc (nodes_in l + pair_place rail t (pairs_in l.table.now))

-- that a node is late at t by one of its rails; how many rails there are does not matter
abbrev pub late_in : Source → ℕ → ℕ → ℕ → Part ℕ
late_in l = late alike (shape_in l).inputs (top_in l.tops.now) node_variable (variable_in l)

-- what is known of a node at t: the codes of its being late by its rails
abbrev pub asked_by : Slopes → Source → ℕ → ℕ → Asked
asked_by alike l node t = record { node = node; late = part_code (late_in l node node t); more = 0 }
asked_by (apart falls) l node t =
    record {
      node = node;
      late = part_code (late_in l node (node * 2) t);
      more = part_code (late_in l node (node * 2 + 1) t);
    }

-- a node is late at t
abbrev pub node_late_in : Source → Slopes → ℕ → ℕ → List (Part ℕ)
node_late_in l slopes = node_late slopes (shape_in l).inputs (top_in l.tops.now) node_variable (variable_in l)

-- a pin's driver is late at t less the pin's delay
abbrev pub pin_late : Source → Slopes → ℕ → Pin → List (Part ℕ)
pin_late l slopes = driver_late slopes (shape_in l).inputs (top_in l.tops.now) node_variable (variable_in l)

-- ---- what is asked

-- an entry asks as a pin does: a pin by its own delay, a pin by the delay that is lent for a final value of 0, an
-- output without delay
abbrev pub entry_at : List ℕ → Shape → Side → ℕ → Pin
entry_at file shape Pins entry = pin_at file shape entry
entry_at file shape (Falls falls) entry = delayed (fall_of falls.now) (pin_at file shape entry)
entry_at file shape Outputs entry = record { driver = output_at file shape entry; delay = 0; number = entry }

-- the entry is there, and its delay is
abbrev pub Within : Shape → Side → ℕ → Type 0
Within shape Pins entry = entry < shape.pins
Within shape (Falls falls) entry = (entry < shape.pins) × (entry < length falls.now)
Within shape Outputs entry = entry < shape.outputs

-- the same of a source
abbrev pub entry_in : Source → Side → ℕ → Pin
entry_in l = entry_at (file_in l) (shape_in l)

-- the node that is asked for is late
abbrev pub late_at : Source → Side → ℕ → ℕ → List (Part ℕ)
late_at l side t entry = pin_late l (slopes_in l) t (entry_in l side entry)

-- what is known of it
abbrev pub asked_at : Source → Side → ℕ → ℕ → Asked
asked_at l side t entry =
    asked_by (slopes_in l) l (entry_in l side entry).driver (t - (entry_in l side entry).delay)

-- ---- what is put

-- the clause of a controlling cube (rule F12), by the pair's variable
abbrev pub control_in : Source → Slopes → ℕ → ℕ → Cube Pin → List Token
control_in l slopes pair t cube =
    tokens_of
    (clause_of
    (literal false pair
    ∷ concat_map (cube_parts slopes (shape_in l).inputs (top_in l.tops.now) node_variable (variable_in l) t) cube))

-- "not p, or some driver late" (rule F12)
abbrev pub drivers_late : Source → Slopes → ℕ → List Pin → ℕ → List Token
drivers_late l slopes pair pins t = tokens_of (clause_of (literal false pair ∷ concat_map (pin_late l slopes t) pins))

-- the clauses of a rail's pair
abbrev pub clauses_in : Source → Slopes → Rail → ℕ → List Token
clauses_in l slopes r t =
    tokens_of (pair_clauses slopes (shape_in l).inputs (top_in l.tops.now) node_variable (variable_in l) r t)

-- a rail by its number, of a gate of this kind and these pins
abbrev pub rail_with : Slopes → ℕ → Kind → List Pin → Rail
rail_with alike rail kind pins = record { number = rail; node = rail; fixes = []; kind = kind; pins = pins }
rail_with (apart falls) rail kind pins =
    record {
      number = rail;
      node = rail / 2;
      fixes = rail_value rail ∷ [];
      kind = kind;
      pins = pins_for (apart falls) (rail_value rail) pins;
    }

-- the delays that a rail goes by: the lent ones where the gate ends at 0
abbrev pub side_of : Form → ℕ → Side
side_of Single rail = Pins
side_of (RiseFall falls) rail = cond (rail_value rail) Pins (Falls falls)

-- the clauses of a gate by its number
abbrev pub gate_run : List ℕ → Shape → ℕ → List Token
gate_run file shape number = cell_run (shape.inputs + number, cell_at file shape number)

-- a rail of a file by its number
abbrev pub rail_at : List ℕ → Shape → Slopes → ℕ → Rail
rail_at file shape slopes rail =
    rail_with slopes rail (cell_at file shape (node_of slopes rail - shape.inputs)).kind
    (cell_at file shape (node_of slopes rail - shape.inputs)).pins

-- the clauses of a pair
abbrev pub run_of : Source → ℕ × ℕ → List Token
run_of l x = clauses_in l (slopes_in l) (rail_at (file_in l) (shape_in l) (slopes_in l) x.0) x.1

-- the clauses of pair k of the table
abbrev pub pair_run : Source → ℕ → List Token
pair_run l k = run_of l (pair_at (pairs_in l.table.now) k)

-- the clause of the outputs (rule F13)
abbrev pub outputs_late : Source → ℕ → List Token
outputs_late l target =
    tokens_of
    (clause_of
    (concat_map (λ o. node_late_in l (slopes_in l) o target) (netlist_at (file_in l) (shape_in l)).outputs))

-- 1, 2 and 3 in order
abbrev pub whole_run : Source → ℕ → List Token
whole_run l target =
    (concat_map (gate_run (file_in l) (shape_in l)) (up_from 0 (shape_in l).gates)
    ++ concat_map (pair_run l) (up_from 0 (pairs_count l)))
    ++ outputs_late l target

-- ---- what the code leans on

-- no more nodes and pairs than there can be, and the pairs in order
pub record Slices (l : Source) : Type 0 where
  pub nodes-few : nodes_in l ≤ 512
  pub tops-all : length l.tops.now ≡ nodes_in l
  pub pairs-few : length l.table.now ≤ 131072
  pub sorted : Sorted (pairs_in (take (pairs_count l * 2) l.table.now))

-- and where the pairs of each rail begin
pub record Ready (l : Source) (starts : List ℕ) : Type 0 where
  pub slices : Slices l
  pub begins : Begins (pairs_in (take (pairs_count l * 2) l.table.now)) starts (rail_count (slopes_in l) (nodes_in l))

-- where a node is late at t by a pair of one of its rails, the table has it
pub record RailAsks (l : Source) (starts : List ℕ) (node rail t : ℕ) : Type 0 where
  pub slices : Slices l
  pub bounds : Bounds (pairs_in (take (pairs_count l * 2) l.table.now)) starts rail
  pub node-has : node < length l.tops.now
  pub listed : (shape_in l).inputs ≤ node → 0 < t → t ≤ get_or l.tops.now node 0 →
      Findable l.table.now (pairs_count l) rail t

-- so for each of its rails
pub record Asking (l : Source) (node t : ℕ) : Type 0 where
  pub node-has : node < length l.tops.now
  pub listed : (rail : ℕ) → Memᴰ rail (rails_of (slopes_in l) node) → (shape_in l).inputs ≤ node → 0 < t →
      t ≤ get_or l.tops.now node 0 → Findable l.table.now (pairs_count l) rail t

-- so for each of some entries
pub record Served (l : Source) (side : Side) (first count t : ℕ) : Type 0 where
  pub within : (entry : ℕ) → first ≤ entry → entry < first + count → Within (shape_in l) side entry
  pub asks : (entry : ℕ) → first ≤ entry → entry < first + count →
      Asking l (entry_in l side entry).driver (t - (entry_in l side entry).delay)

-- a gate, and what its drivers are asked for at t
pub record Gated (l : Source) (side : Side) (gate : Gate) (t : ℕ) : Type 0 where
  pub drivers : Served l side gate.first gate.count t
  pub within : gate.first + gate.count ≤ 2048
  pub few : gate.count ≤ 8
  pub takes_all : T (takes gate.kind gate.count)

-- a pair of the table: a gate's rail, at its own place k, and its drivers
pub record Stands (l : Source) (k rail t : ℕ) : Type 0 where
  pub low : (shape_in l).inputs ≤ node_of (slopes_in l) rail
  pub high : node_of (slopes_in l) rail < nodes_in l
  pub own : pair_place rail t (pairs_in l.table.now) ≡ k
  pub drivers : Served l (side_of l.accepted.form rail)
      (first_at (file_in l) (shape_in l) (node_of (slopes_in l) rail - (shape_in l).inputs))
      (count_at (file_in l) (shape_in l) (node_of (slopes_in l) rail - (shape_in l).inputs)) t

-- each pair of the table
pub record AllStand (l : Source) : Type 0 where
  pub stands : (k : ℕ) → k < pairs_count l →
      Stands l k (pair_at (pairs_in l.table.now) k).0 (pair_at (pairs_in l.table.now) k).1

-- ---- what the code finds

-- a pair's place
pub record PlaceFound (table : List ℕ) (rail t place : ℕ) : Type 0 where
  pub is : place ≡ pair_place rail t (pairs_in table)
  pub below : place < length table / 2

-- that a node is late at t by a rail, as a code
pub record LateCode (l : Source) (node rail t code : ℕ) : Type 0 where
  pub is : code ≡ part_code (late_in l node rail t)
  pub small : code < code_bound

-- a node and its codes have room in what is stored of them
pub record Storable (asked : Asked) : Type 0 where
  pub node-small : asked.node < 65536
  pub late-small : asked.late < code_bound
  pub more-small : asked.more < code_bound

-- the lists that hold what is read: 64 nodes, and two codes each
pub record Long (nodes lates : List ℕ) : Type 0 where
  pub nodes-long : length nodes ≡ 64
  pub lates-long : length lates ≡ 128

-- the codes after those of entry i were stored
abbrev pub kept_by : Slopes → List ℕ → ℕ → Asked → List ℕ
kept_by alike lates i asked = set lates i asked.late
kept_by (apart falls) lates i asked = set (set lates (i * 2) asked.late) (i * 2 + 1) asked.more

-- the entries were read: their nodes and the codes of their lateness, and whether some is late outright
pub record Reads (l : Source) (side : Side) (first count t : ℕ) (nodes lates : List ℕ) (some : Bool) : Type 0 where
  pub stored : (i : ℕ) → i < count → stored_at (slopes_in l) nodes lates i ≡ asked_at l side t (first + i)
  pub some_is : some ≡ any (λ e. any is_sure (late_at l side t e)) (up_from first count)
  pub long : Long nodes lates
