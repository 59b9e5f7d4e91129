-- A gate that is read, and one pair of the table after the other: what the code leans on there, and that what it puts
-- for the pair is what the definition says. Assumes nothing.
use mathlib.Core.Path.{◌≡◌, refl, sym, ap, ap₂, ◌∙◌, subst}
use mathlib.Core.Bool.{Bool, true, false, cond}
use mathlib.Core.List.{List, [], ◌∷◌, ◌++◌, map, map-map, append_assoc}
use Prim.Native.Nat.{ℕ, suc, ◌+◌, ◌-◌, ◌*◌, ◌/◌, ◌<◌}
use native.Mathlib.Omega.{arith}
use native.Mathlib.Numerals.{add-one}
use lib.ListN.{get_or}
use Rattle.basics.specs.Lists.{concat_map, up_from}
use denote.Bor.{Bor}
use Rattle.netlist.specs.declared.Form.{Form}
use Rattle.netlist.specs.declared.Form.TheVariants.{Single, RiseFall}
use Rattle.netlist.specs.declared.Kind.{Kind}
use Rattle.netlist.specs.declared.Kind.TheVariants.{Mux}
use Rattle.netlist.specs.declared.Gate.{Gate}
use Rattle.netlist.specs.Netlist.{Pin, Slopes, alike, apart, slopes_of, pins_for, delayed, fall_of}
use Rattle.netlist.specs.File.{gate_at, pin_at, cell_of, cell_at, pins_from}
use Rattle.netlist.proofs.GateRead.{gate-fields, gate-within, gate-takes}
use Rattle.netlist.proofs.Valid.{takes-few}
use Rattle.clauses.specs.Clauses.{Literal}
use Rattle.settle.specs.Settling.{Cube, cubes}
use Rattle.pairs.specs.Rails.{Rail, rail_count, node_of}
use Rattle.pairs.specs.Table.{pairs_in, pair_at}
use Rattle.pairs.proofs.Flat.{pairs-at}
use Rattle.formula.specs.declared.Source.{Source}
use Rattle.formula.specs.declared.Pair.{Pair}
use Rattle.formula.specs.declared.Side.{Side}
use Rattle.formula.specs.declared.Side.TheVariants.{Pins, Falls}
use Rattle.formula.specs.Formula.{literal, clause_of, cube_clause, pair_clauses, node_variable}
use Rattle.formula.specs.Emission.{
  Token,
  wants,
  ended,
  tokens_of,
  rail_value,
  late_run,
  control_run,
  fixed_run,
}
use Rattle.formula.specs.Late.{
  file_in,
  shape_in,
  slopes_in,
  nodes_in,
  pairs_count,
  top_in,
  variable_in,
  pin_late,
  entry_at,
  entry_in,
  control_in,
  drivers_late,
  clauses_in,
  rail_with,
  side_of,
  run_of,
  pair_run,
  Ready,
  Served,
  Gated,
  Stands,
  AllStand,
  Reads,
}
use Rattle.formula.proofs.Gates.{tokens_append, tokens-concat_map}
use Rattle.formula.proofs.Asking.{control-read, late-drivers}

-- what stands at the place that is read
pub record Here (l : Source) (k : ℕ) (pair : Pair) : Type 0 where
  pub stands : Stands l k pair.rail pair.time
  pub is : pair_at (pairs_in l.table.now) k ≡ (pair.rail, pair.time)

pub stands_here : {l : Source} (k : ℕ) (pair : Pair) → AllStand l → k < pairs_count l →
    (pair.rail ≡ get_or l.table.now (k * 2) 0) × (pair.time ≡ get_or l.table.now (k * 2 + 1) 0) → Here l k pair
stands_here {l} k pair a h e =
    let p : pair_at (pairs_in l.table.now) k ≡ (pair.rail, pair.time) =
    pairs-at l.table.now k h ∙ ap₂ (λ (m n : ℕ). (m, n)) (sym e.0) (sym e.1) in
    record { stands = subst (λ (x : ℕ × ℕ). Stands l k x.0 x.1) p (a.stands k h); is = p }

-- a gate's own clauses ask at time 0, at which no pair is wanted
pub gated-now : {l : Source} {starts : List ℕ} {number : ℕ} (gate : Gate) → Ready l starts →
    number < (shape_in l).gates → gate ≡ gate_at (file_in l) (shape_in l) number → Gated l Pins gate 0
unfolding pin_at
gated-now {l} {starts} {number} gate ready h e =
    let holds = l.accepted.given.holds in
    let fields = gate-fields (file_in l) (shape_in l) number gate e in
    let w = gate-within gate holds h e in
    record {
      drivers =
          record {
            within = λ entry low high. omega (arith, w);
            asks =
                λ entry low high.
                record {
                  node-has =
                      omega (
                        arith,
                        ready.slices.tops-all,
                        holds.drivers-below number entry h (omega (arith, fields.0))
                            (omega (arith, fields.0, fields.1)),
                      );
                  listed = λ rail m x y z. absurd (omega arith);
                };
          };
      within = omega (arith, holds.counts.pins-few);
      few = takes-few gate.kind gate.count (gate-takes gate holds h e);
      takes_all = gate-takes gate holds h e;
    }

-- ---- the clauses of a pair

-- what the definition says of a rail, run by run
rail-tokens : (l : Source) (slopes : Slopes) (r : Rail) (t : ℕ) →
    clauses_in l slopes r t
    ≡ tokens_of (map (λ value. (false, variable_in l r.number t) ∷ (value, suc r.node) ∷ []) r.fixes)
    ++ (drivers_late l slopes (variable_in l r.number t) r.pins t
    ++ concat_map (control_in l slopes (variable_in l r.number t) t) (cubes r.kind r.pins))
unfolding pair_clauses
rail-tokens l slopes r t =
    let own = variable_in l r.number t in
    let fixed : List (List Literal) = map (λ value. (false, own) ∷ (value, suc r.node) ∷ []) r.fixes in
    let first = clause_of (literal false own ∷ concat_map (pin_late l slopes t) r.pins) in
    let of_cube : Cube Pin → List (List Literal) =
    cube_clause slopes (shape_in l).inputs (top_in l.tops.now) node_variable (variable_in l) r.number t in
    tokens_append fixed (first ++ concat_map of_cube (cubes r.kind r.pins))
    ∙ ap (λ (x : List Token). tokens_of fixed ++ x)
    (tokens_append first (concat_map of_cube (cubes r.kind r.pins))
    ∙ ap (λ (x : List Token). tokens_of first ++ x) (tokens-concat_map of_cube (cubes r.kind r.pins)))

module _ (l : Source) (first count t : ℕ) where
  -- a rail's gate by its pins
  abbrev pins : List Pin
  pins = pins_from (file_in l) (shape_in l) first count

  -- the pins that a rail asks by
  abbrev asked_by_rail : Form → ℕ → List Pin
  asked_by_rail form rail = map (entry_at (file_in l) (shape_in l) (side_of form rail)) (up_from first count)

  -- are its own
  rail-pins : (falls : Bor (List ℕ)) (value : Bool) →
      map (entry_at (file_in l) (shape_in l) (cond value Pins (Falls falls))) (up_from first count)
      ≡ pins_for (apart falls.now) value pins
  unfolding pins_from
  rail-pins falls true = refl
  rail-pins falls false =
      sym (map-map (delayed (fall_of falls.now)) (pin_at (file_in l) (shape_in l)) (up_from first count))

  -- one form or the other
  by_form : (form : Form) (rail : ℕ) (kind : Kind) →
      fixed_run (slopes_of form) rail (variable_in l rail t)
      ++ (drivers_late l (slopes_of form) (variable_in l rail t) (asked_by_rail form rail) t
      ++ concat_map (control_in l (slopes_of form) (variable_in l rail t) t) (cubes kind (asked_by_rail form rail)))
      ≡ clauses_in l (slopes_of form) (rail_with (slopes_of form) rail kind pins) t
  unfolding pins_from tokens_of
  by_form Single rail kind = sym (rail-tokens l alike (rail_with alike rail kind pins) t)
  by_form (RiseFall falls) rail kind =
      let own = variable_in l rail t in
      let slopes = apart falls.now in
      ap₂ (λ (n : ℕ) (ps : List Pin).
      (wants (false, own) ∷ wants (rail_value rail, n) ∷ ended ∷ [])
      ++ (drivers_late l slopes own ps t ++ concat_map (control_in l slopes own t) (cubes kind ps)))
      (add-one (rail / 2)) (rail-pins falls (rail_value rail))
      ∙ sym (rail-tokens l slopes (rail_with slopes rail kind pins) t)

-- what is put for a pair are the definition's clauses
pub pair_read : {l : Source} {side : Side} {first count t : ℕ} {nodes lates : List ℕ} {some : Bool} {codes : ℕ}
    (rail : ℕ) (kind : Kind) (pair : ℕ) → Reads l side first count t nodes lates some →
    codes ≡ rail_count (slopes_in l) count → side ≡ side_of l.accepted.form rail → pair ≡ variable_in l rail t →
    (kind ≡ Mux → count ≡ 3) →
    (fixed_run (slopes_in l) rail pair ++ late_run (pair * 2) codes lates some)
    ++ control_run (slopes_in l) kind pair nodes lates count
    ≡ clauses_in l (slopes_in l)
    (rail_with (slopes_in l) rail kind (pins_from (file_in l) (shape_in l) first count)) t
unfolding variable_in
pair_read {l} {side} {first} {count} {t} {nodes} {lates} {some} {codes} rail kind pair r n e v m =
    let slopes = slopes_in l in
    let w : 0 < pair = omega arith in
    append_assoc (fixed_run slopes rail pair) (late_run (pair * 2) codes lates some)
    (control_run slopes kind pair nodes lates count)
    ∙ ap (λ (c : ℕ). fixed_run slopes rail pair
    ++ (late_run (pair * 2) c lates some ++ control_run slopes kind pair nodes lates count)) n
    ∙ ap₂ (λ (x y : List Token). fixed_run slopes rail pair ++ (x ++ y)) (late-drivers r pair w)
    (control-read r kind pair m)
    ∙ ap₂ (λ (s : Side) (n : ℕ).
    fixed_run slopes rail n
    ++ (drivers_late l slopes n (map (entry_in l s) (up_from first count)) t
    ++ concat_map (control_in l slopes n t) (cubes kind (map (entry_in l s) (up_from first count))))) e v
    ∙ by_form l first count t l.accepted.form rail kind

-- ---- a pair of the table

module _ {l : Source} {k rail t : ℕ} (gate : Gate) (s : Stands l k rail t)
    (e : gate
    ≡ gate_at (file_in l) (shape_in l) (node_of (slopes_in l) rail - (shape_in l).inputs)) where
  pub gated : Gated l (side_of l.accepted.form rail) gate t
  unfolding gate_at
  gated =
      let holds = l.accepted.given.holds in
      let here : node_of (slopes_in l) rail - (shape_in l).inputs < (shape_in l).gates = omega (arith, s.low, s.high) in
      let w = gate-within gate holds here e in
      record {
        drivers =
            subst (λ (g : Gate). Served l (side_of l.accepted.form rail) g.first g.count t) (sym e)
            s.drivers;
        within = omega (arith, holds.counts.pins-few);
        few = takes-few gate.kind gate.count (gate-takes gate holds here e);
        takes_all = gate-takes gate holds here e;
      }

  -- its variable, by its place
  pub variable-here : {variable : ℕ} → variable ≡ nodes_in l + k + 1 → variable ≡ variable_in l rail t
  unfolding variable_in
  variable-here n = let o = s.own in omega arith

  -- and what is put for it is the pair's run
  pub pair-here : pair_at (pairs_in l.table.now) k ≡ (rail, t) →
      clauses_in l (slopes_in l)
      (rail_with (slopes_in l) rail gate.kind (pins_from (file_in l) (shape_in l) gate.first gate.count)) t
      ≡ pair_run l k
  unfolding cell_at cell_of
  pair-here p =
      ap (λ (g : Gate). clauses_in l (slopes_in l)
      (rail_with (slopes_in l) rail g.kind (pins_from (file_in l) (shape_in l) g.first g.count)) t) e
      ∙ sym (ap (run_of l) p)
