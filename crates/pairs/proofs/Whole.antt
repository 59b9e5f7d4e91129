-- The table as a whole: the cases of its promise, which leaves one answer and one content. Laws: held-count,
-- held-too-many; holds-few; held-unique; lists-for. Assumes nothing.
use mathlib.Core.Path.{◌≡◌, refl, sym, ap, ◌∙◌}
use mathlib.Core.List.{List, ◌++◌}
use Prim.Native.Nat.{ℕ, ◌+◌, ◌*◌, ◌-◌, ◌<◌, ◌≤◌}
use native.Mathlib.Omega.{arith}
use lib.ListN.{length, take, replicate}
use Rattle.netlist.specs.declared.Shape.{Shape}
use Rattle.netlist.specs.Netlist.{Slopes, alike, apart, node_count}
use Rattle.netlist.specs.File.{netlist_at, circuit_with}
use Rattle.netlist.specs.Holds.{Given, Sloped}
use Rattle.netlist.proofs.Entries.{node-count}
use Rattle.pairs.specs.Rails.{rail_count, node_of, rail_cells, rail_outputs}
use Rattle.pairs.proofs.Rails.{rail-few}
use Rattle.pairs.proofs.Topping.{tops-late}
use Rattle.std.specs.Prelude.{Option, Some, None}
use Rattle.pairs.specs.Pairs.{flat_pairs, pairs_for, rail_top, pair_numbers, table_holds}
use Rattle.pairs.specs.Promise.{pairs_at, Held, Lists}
use Rattle.pairs.proofs.Rising.{pairs-rising}
use Rattle.pairs.proofs.Closed.{pair-for}

-- ---- the cases of an answer

pub held-count : (slopes : Slopes) (l : List (ℕ × ℕ)) (room : ℕ) (t : List ℕ) (r : Option ℕ) (n : ℕ) →
    Held slopes l room t r → r ≡ Some n →
    (n ≡ length l) × (n ≤ table_holds (pair_numbers slopes) room) × (t ≡ flat_pairs l ++ replicate (room - n * 2) 0)
held-count slopes l room t r n h e = rw e at h

pub held-too-many : (slopes : Slopes) (l : List (ℕ × ℕ)) (room : ℕ) (t : List ℕ) (r : Option ℕ) →
    Held slopes l room t r → r ≡ None →
    (table_holds (pair_numbers slopes) room < length l) × (t ≡ replicate room 0)
held-too-many slopes l room t r h e = rw e at h

-- a table holds no more pairs than there is room for, two numbers each
pub holds-few : (slopes : Slopes) (room : ℕ) →
    (table_holds (pair_numbers slopes) room * 2 ≤ room) × (table_holds (pair_numbers slopes) room ≤ 65536)
holds-few alike room = (omega arith, omega arith)
holds-few (apart falls) room = (omega arith, omega arith)

-- ---- what the promise leaves

-- one answer and one content
pub held-unique : (slopes : Slopes) (l : List (ℕ × ℕ)) (room : ℕ) (t u : List ℕ) (r s : Option ℕ) →
    Held slopes l room t r → Held slopes l room u s →
    (t ≡ u) × (r ≡ s)
held-unique slopes l room t u (Some n) (Some m) h k =
    let e : n ≡ m = h.0 ∙ sym k.0 in
    (h.2 ∙ ap (λ (x : ℕ). flat_pairs l ++ replicate (room - x * 2) 0) e ∙ sym k.2, ap Some e)
held-unique slopes l room t u (Some n) None h k = absurd (omega (arith, h.0, h.1, k.0))
held-unique slopes l room t u None (Some m) h k = absurd (omega (arith, h.0, k.0, k.1))
held-unique slopes l room t u None None h k = (h.1 ∙ sym k.1, refl)

-- a table that begins with the pairs of an accepted file's target lists them: what `place` asks
pub lists-for : {file : List ℕ} {shape : Shape} {arrivals : List ℕ} (slopes : Slopes) (target : ℕ) (table : List ℕ)
    (n : ℕ) → Given file shape arrivals → Sloped shape slopes →
    n ≡ length (pairs_at file shape arrivals slopes target) →
    take (n * 2) table ≡ flat_pairs (pairs_at file shape arrivals slopes target) →
    Lists table n (pairs_at file shape arrivals slopes target)
unfolding pairs_for
lists-for {file} {shape} {arrivals} slopes target table n given sloped e f =
    let net = netlist_at file shape in
    record {
      all = e;
      is = f;
      rising =
          pairs-rising (rail_count slopes net.inputs) (rail_top (circuit_with file shape arrivals slopes))
          (rail_outputs slopes net.outputs) target (rail_cells slopes net.gates);
      nodes-small =
          λ x m.
          let w = pair-for (circuit_with file shape arrivals slopes) given.holds.valid target x.0 x.1 m in
          omega (
            arith,
            w.1,
            rail-few slopes (node_count (netlist_at file shape)) (shape.inputs + shape.gates)
                (omega (arith, node-count file shape)),
            given.holds.counts.inputs-few,
            given.holds.counts.gates-few,
          );
      times-small =
          λ x m.
          let w = pair-for (circuit_with file shape arrivals slopes) given.holds.valid target x.0 x.1 m in
          omega (arith, w.3, tops-late slopes given sloped (node_of slopes x.0));
    }
