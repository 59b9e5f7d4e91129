-- `formula::Lookup::all_pairs` meets its contract: pair after pair of the table, each puts its run; the gate is that of
-- the pair's node, read now or kept from the pair before. Assumes nothing.
use mathlib.Core.Path.{◌≡◌}
use Prim.Native.Nat.{◌-◌, ◌≤◌}
use Rattle.formula.specs.Emission.{gate_most}
use Rattle.netlist.specs.File.{gate_at}
use Rattle.formula.specs.Late.{file_in, shape_in, pair_run}
use Rattle.formula.proofs.Emission as E
use Rattle.formula.proofs.Lookup.all_pairs.Given as goal

abbrev pub invariant-loop-k : goal.invariant-loop-k
invariant-loop-k l =
    E.Putting gate_most (pair_run l.self.source) l.k l.initial.writer l.writer
    × ((shape_in l.self.source).inputs ≤ l.last →
    l.gate ≡ gate_at (file_in l.self.source) (shape_in l.self.source) (l.last - (shape_in l.self.source).inputs))
