-- What `tops`, `table`, `starts`, `place` and `spread` promise. Interface: all of it.
use Rattle.std.specs.Prelude.{◌≡◌, ℕ, ◌+◌, ◌-◌, ◌*◌, ◌≤◌, ◌<◌, length, get_or, take, replicate}
use mathlib.Core.List.{List, ◌++◌, Memᴰ}
use Rattle.netlist.specs.declared.Shape.{Shape}
use Rattle.netlist.specs.Netlist.{Slopes}
use Rattle.netlist.specs.File.{circuit_with}
use Rattle.settle.specs.Settling.{tops_of}
use Rattle.std.specs.Prelude.{Option, Some, None}
use Rattle.pairs.specs.Pairs.{flat_pairs, lent_pairs, pairs_for, pair_numbers, table_holds}
use Rattle.pairs.specs.Rising.{Before, Rising}
use Rattle.pairs.specs.Table.{Precede}

-- a lent slice of so many numbers is the tops of all nodes, and zeros in all of the rest
pub record Topped (file : List ℕ) (shape : Shape) (arrivals : List ℕ) (slopes : Slopes) (room : ℕ)
    (tops : List ℕ) : Type 0 where
  pub is :
      tops
      ≡ tops_of (circuit_with file shape arrivals slopes)
      ++ replicate (room - (shape.inputs + shape.gates)) 0

-- a lent slice begins with the tops of all nodes
pub record Tops (file : List ℕ) (shape : Shape) (arrivals : List ℕ) (slopes : Slopes) (tops : List ℕ) : Type 0 where
  pub is : take (shape.inputs + shape.gates) tops ≡ tops_of (circuit_with file shape arrivals slopes)

-- the pairs of an accepted file's target, with the arrivals of its inputs and its slopes
abbrev pub pairs_at : List ℕ → Shape → List ℕ → Slopes → ℕ → List (ℕ × ℕ)
pairs_at file shape arrivals slopes target = pairs_for (circuit_with file shape arrivals slopes) target

-- the pairs, two numbers each, and then zeros; or, where they are over 65,536 or the lent table has no room for them
-- (row 10), zeros
abbrev pub Held : Slopes → List (ℕ × ℕ) → ℕ → List ℕ → Option ℕ → Type 0
Held slopes pairs room table (Some n) =
    (n ≡ length pairs) × (n ≤ table_holds (pair_numbers slopes) room)
    × (table ≡ flat_pairs pairs ++ replicate (room - n * 2) 0)
Held slopes pairs room table None =
    (table_holds (pair_numbers slopes) room < length pairs) × (table ≡ replicate room 0)

-- a table of so many pairs, two numbers each, becomes the lent table of these pairs (rule F6)
pub record Spread (slopes : Slopes) (before : List ℕ) (count : ℕ) (after : List ℕ) : Type 0 where
  pub is : (pairs : List (ℕ × ℕ)) → count ≡ length pairs →
      before ≡ flat_pairs pairs ++ replicate (length before - count * 2) 0 →
      after ≡ lent_pairs slopes pairs ++ replicate (length before - count * pair_numbers slopes) 0

-- the table begins with these pairs, which rise
pub record Lists (table : List ℕ) (count : ℕ) (pairs : List (ℕ × ℕ)) : Type 0 where
  pub all : count ≡ length pairs
  pub is : take (count * 2) table ≡ flat_pairs pairs
  pub rising : Rising Before pairs
  pub nodes-small : (x : ℕ × ℕ) → Memᴰ x pairs → x.0 < 4294967296
  pub times-small : (x : ℕ × ℕ) → Memᴰ x pairs → x.1 < 4294967296

-- and a pair is one of them
pub record Findable (table : List ℕ) (count node time : ℕ) : Type 0 where
  pub pairs : List (ℕ × ℕ)
  pub lists : Lists table count pairs
  pub here : Memᴰ (node, time) pairs

-- where a node's pairs begin and end, in a list of starts
pub record Bounds (l : List (ℕ × ℕ)) (starts : List ℕ) (node : ℕ) : Type 0 where
  pub room : node + 1 < length starts
  pub low : Precede l (node * 4294967296) (get_or starts node 0)
  pub high : Precede l ((node + 1) * 4294967296) (get_or starts (node + 1) 0)

-- so for each node
pub record Begins (l : List (ℕ × ℕ)) (starts : List ℕ) (nodes : ℕ) : Type 0 where
  pub room : nodes < length starts
  pub at : (node : ℕ) → node < nodes + 1 → Precede l (node * 4294967296) (get_or starts node 0)
