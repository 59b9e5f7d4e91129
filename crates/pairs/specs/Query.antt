-- What is asked of an accepted circuit, as the functions under `table` have it at hand. Interface: none of it; it
-- serves these functions.
use Rattle.std.specs.Prelude.{◌≡◌, ℕ, length}
use mathlib.Core.List.{List, Memᴰ}
use Rattle.netlist.specs.declared.circuit.Accepted.{Accepted}
use Rattle.netlist.specs.Netlist.{slopes_of}
use Rattle.netlist.specs.File.{netlist_at}
use Rattle.pairs.specs.declared.Fanout.{Fanout}
use Rattle.pairs.specs.declared.Query.{Query}
use Rattle.pairs.specs.Rails.{rail_count}
use Rattle.pairs.specs.Table.{AsksAll, Drives, Chains, most_pins}
use Rattle.pairs.specs.Promise.{Tops, pairs_at}

-- the pins of the first gates are linked, by the first n links, and there are heads for all nodes
pub record Linked (a : Accepted) (gates : ℕ) (fanout : Fanout) (n : ℕ) : Type 0 where
  pub chains : Chains (Drives a.file.now a.shape gates) fanout.heads fanout.links n
  pub long : length fanout.heads ≡ 512

-- how many rails so many nodes have
abbrev pub rails : Query → ℕ → ℕ
rails q nodes = rail_count (slopes_of q.accepted.now.form) nodes

-- the pairs that are asked for
abbrev pub pairs_of : Query → List (ℕ × ℕ)
pairs_of q =
    pairs_at q.accepted.now.file.now q.accepted.now.shape q.accepted.now.arrivals.now
    (slopes_of q.accepted.now.form) q.target

-- a node is an output
abbrev pub IsOutput : Accepted → ℕ → Type 0
IsOutput a node = Memᴰ node (netlist_at a.file.now a.shape).outputs

-- what is asked of the rails of node f at t, where the pairs l are known
abbrev pub AsksOf : List (ℕ × ℕ) → Query → ℕ → ℕ → Type 0
AsksOf l q f t =
    AsksAll l q.accepted.now.file.now q.accepted.now.shape (slopes_of q.accepted.now.form) q.target f t

-- the tops of all nodes are known, and all pins are linked
pub record Answerable (q : Query) : Type 0 where
  pub topped : Tops q.accepted.now.file.now q.accepted.now.shape q.accepted.now.arrivals.now
      (slopes_of q.accepted.now.form) q.tops.now
  pub linked : Linked q.accepted.now q.accepted.now.shape.gates q.fanout.now most_pins
