-- The proved table: the cases of rule X3, each kind, both sides of each bound that can be computed, and
-- two faults at once for each order of checks. Each row names the call and says the answer. The rows stand beside the
-- definitions that they are about (Cases, Examples: rule X3's; Edges: the others); proofs/Table has the one
-- statement over this table. Interface: Entry, Stands, table.
use Rattle.std.specs.Prelude.{◌≡◌, length}
use mathlib.Core.List.{List, [], ◌∷◌, ◌++◌, map, Memᴰ}
use Rattle.refusal.specs.Table.{number_of, place_of}
use Rattle.refusal.specs.Edges.{Case as Numbering, edges as numberings}
use Rattle.netlist.specs.Open.{open_of}
use Rattle.netlist.specs.Example.{circuit_a}
use Rattle.netlist.specs.Edges.{Case as Opening, edges as openings}
use Rattle.settle.specs.Promise.{evaluation}
use Rattle.settle.specs.Cases.{Case as Settling, cases as settlings}
use Rattle.settle.specs.Edges.{edges as settling_edges}
use Rattle.clauses.specs.Clauses.{Literal, clauses_of}
use Rattle.formula.specs.Promise.{building}
use Rattle.formula.specs.Cases.{Case as Forming, cases as formings}
use Rattle.formula.specs.Edges.{Case as Building, edges as buildings}
use Rattle.formula.specs.Apart.{Case as Falling, cases as fallings}
use Rattle.refute.specs.Propagation.{Follows}
use Rattle.refute.specs.Promise.{Checks}
use Rattle.refute.specs.Examples.{Case as Checking, cases as checkings, Following, followings}
use Rattle.refute.specs.Edges.{edges as checking_edges}
use Rattle.certificate.specs.Promise.{Judgement, Judges}
use Rattle.certificate.specs.Cases.{Case as Certifying, cases as certifyings}
use Rattle.certificate.specs.Edges.{edges as certifying_edges}
use Rattle.netlist.specs.Netlist.{alike, apart}

-- one row: a refusal's number and place, a file that is opened, an evaluation, a building call on circuit A, on a file,
-- or on a file with delays of rise and fall, a check, a clause that follows, or a certificate call
pub data Entry : Type 0 where
  numbers : Numbering → Entry
  opens : Opening → Entry
  settles : Settling → Entry
  forms : Forming → Entry
  builds : Building → Entry
  builds_apart : Falling → Entry
  checks : Checking → Entry
  follows : Following → Entry
  certifies : Certifying → Entry

-- the row's call has the row's answer, by the promise of its function
abbrev pub Stands : Entry → Type 0
Stands (numbers c) = (number_of c.refusal ≡ c.number) × (place_of c.refusal ≡ c.place)
Stands (opens c) = open_of c.file ≡ c.answer
Stands (settles c) =
    evaluation c.file c.arrivals c.slopes c.vector (length c.expected.values)
    (length c.expected.times)
    ≡ c.expected
Stands (forms c) = building circuit_a (0 ∷ 0 ∷ []) alike c.target c.pairs_room c.formula_room ≡ c.leaves
Stands (builds c) =
    building c.file c.arrivals alike c.target (length c.leaves.pairs) (length c.leaves.formula)
    ≡ c.leaves
Stands (builds_apart c) =
    building c.file c.arrivals (apart c.falls) c.target (length c.leaves.pairs)
    (length c.leaves.formula)
    ≡ c.leaves
Stands (checks c) = Checks c.variables c.formula c.refutation c.room c.answer
Stands (follows f) =
    (c : List Literal) → Memᴰ c (clauses_of f.clause) → Follows (clauses_of f.formula) c
Stands (certifies c) =
    (result : Judgement)
    × Judges c.file c.arrivals c.slopes c.delay c.vector c.refutation c.rooms result
    × (result.answer ≡ c.answer)

-- the table
unfoldable pub table : List Entry
table =
    map numbers numberings
    ++ (map opens openings
    ++ (map settles settlings
    ++ (map settles settling_edges
    ++ (map forms formings
    ++ (map builds buildings
    ++ (map builds_apart fallings
    ++ (map checks checkings
    ++ (map checks checking_edges
    ++ (map follows followings
    ++ (map certifies certifyings
    ++ map certifies certifying_edges))))))))))
