-- The one statement over the one table: every row stands. Each kind of row was computed beside its definitions.
-- Assumes nothing.
use mathlib.Core.Path.{sym, ap, subst}
use mathlib.Core.List.Memᴰ
use mathlib.Core.List.{List, [], ◌∷◌, ◌++◌, map, Memᴰ}
use mathlib.Core.Logic.{◌⊎◌, inl, inr}
use lib.ListN.{length}
use Rattle.basics.proofs.Lists.{map-mem, map_each}
use Rattle.refusal.specs.Edges.{Case as Numbering, edges as numberings, edges-hold as numberings-hold, as_told}
use Rattle.netlist.specs.Open.{open_of}
use Rattle.netlist.specs.Example.{circuit_a}
use Rattle.netlist.specs.Edges.{Case as Opening, edges as openings, edges-hold as openings-hold}
use Rattle.settle.specs.Promise.{Evaluation, evaluation}
use Rattle.settle.specs.Cases.{Case as Settling, cases as settlings, cases-hold as settlings-hold}
use Rattle.settle.specs.Edges.{edges as settling_edges, edges-hold as settling_edges-hold}
use Rattle.formula.specs.Promise.{building}
use Rattle.formula.specs.Cases.{Case as Forming, cases as formings, hold as formings-hold}
use Rattle.formula.specs.Edges.{Case as Building, edges as buildings, edges-hold as buildings-hold}
use Rattle.formula.specs.Apart.{Case as Falling, cases as fallings, cases-hold as fallings-hold}
use Rattle.refute.specs.Examples.{cases as checkings, followings}
use Rattle.refute.specs.Edges.{edges as checking_edges}
use Rattle.refute.proofs.Examples.{cases-hold as checkings-hold, followings-hold}
use Rattle.refute.proofs.Edges.{edges-hold as checking_edges-hold}
use Rattle.certificate.specs.Cases.{cases as certifyings}
use Rattle.certificate.specs.Edges.{edges as certifying_edges}
use Rattle.certificate.specs.Table.{
  Entry,
  numbers,
  opens,
  settles,
  forms,
  builds,
  builds_apart,
  checks,
  follows,
  certifies,
  Stands,
  table,
}
use Rattle.certificate.proofs.Examples.{cases-hold as certifyings-hold}
use Rattle.certificate.proofs.Edges.{edges-hold as certifying_edges-hold}
use Rattle.netlist.specs.Netlist.{alike, apart}

-- each row of a list stands
abbrev Stand : List Entry → Type 0
Stand l = (r : Entry) → Memᴰ r l → Stands r

-- what holds of each member of a list holds of each row made of one
made : {A : Type 0} (f : A → Entry) (l : List A) → ((a : A) → Memᴰ a l → Stands (f a)) → Stand (map f l)
made f l h r m = let w = map-mem f l r m in subst Stands (sym w.2) (h w.0 w.1)

-- what stands of two lists stands of both
joined : {l m : List Entry} → Stand l → Stand m → Stand (l ++ m)
joined {l} {m} f g r i = go (Memᴰ.append_cases l i)
  where
    go : Memᴰ r l ⊎ Memᴰ r m → Stands r
    go (inl j) = f r j
    go (inr j) = g r j

numbers-stand : Stand (map numbers numberings)
numbers-stand =
    made numbers numberings λ c i.
    let e = map_each as_told (λ (d : Numbering). d) numberings numberings-hold c i in
    (ap (λ (d : Numbering). d.number) e, ap (λ (d : Numbering). d.place) e)

-- what an evaluation with the row's rooms gives
abbrev evaluated : Settling → Evaluation
evaluated c = evaluation c.file c.arrivals c.slopes c.vector (length c.expected.values)
    (length c.expected.times)

pub table-stands : (r : Entry) → Memᴰ r table → Stands r
unfolding table
table-stands =
    joined numbers-stand
    (joined
    (made opens openings
    (map_each (λ (c : Opening). open_of c.file) (λ (c : Opening). c.answer) openings openings-hold))
    (joined
    (made settles settlings (map_each evaluated (λ (c : Settling). c.expected) settlings settlings-hold))
    (joined
    (made settles settling_edges
    (map_each evaluated (λ (c : Settling). c.expected) settling_edges settling_edges-hold))
    (joined
    (made forms formings
    (map_each (λ (c : Forming). building circuit_a (0 ∷ 0 ∷ []) alike c.target c.pairs_room c.formula_room)
    (λ (c : Forming). c.leaves) formings formings-hold))
    (joined
    (made builds buildings
    (map_each
    (λ (c : Building). building c.file c.arrivals alike c.target (length c.leaves.pairs)
    (length c.leaves.formula))
    (λ (c : Building). c.leaves) buildings buildings-hold))
    (joined
    (made builds_apart fallings
    (map_each
    (λ (c : Falling). building c.file c.arrivals (apart c.falls) c.target (length c.leaves.pairs)
    (length c.leaves.formula))
    (λ (c : Falling). c.leaves) fallings fallings-hold))
    (joined (made checks checkings checkings-hold)
    (joined (made checks checking_edges checking_edges-hold)
    (joined (made follows followings followings-hold)
    (joined (made certifies certifyings certifyings-hold)
    (made certifies certifying_edges certifying_edges-hold)))))))))))
