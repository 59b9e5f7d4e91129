-- The rows of the promise one at a time, and what the code leaves at each end. Assumes nothing.
use mathlib.Core.Path.{◌≡◌, refl, sym, ap, ap₂, ◌∙◌, subst}
use mathlib.Core.List.{List, ◌++◌}
use Prim.Native.Nat.{ℕ, ◌+◌, ◌-◌, ◌*◌, ◌≤◌, ◌<◌}
use native.Mathlib.Omega.{arith}
use lib.IntN.{ℤ, pos}
use lib.ListN.{length, take, replicate}
use lib.Seq.{take_at}
use borrow.Author.Tests.{lt-ltb, le-ltb}
use Rattle.refusal.specs.declared.Refusal.{Refusal}
use Rattle.refusal.specs.declared.Refusal.TheVariants.{Pairs, Room}
use Rattle.refusal.specs.Rows.{checked}
use Rattle.std.specs.Prelude.{Ok, Err, Option, Some, None}
use Rattle.netlist.specs.declared.Shape.{Shape}
use Rattle.netlist.specs.declared.circuit.Accepted.{Accepted}
use Rattle.netlist.specs.Netlist.{node_count, Circuit, Slopes, alike, apart, slopes_of}
use Rattle.netlist.specs.File.{netlist_at, circuit_with}
use Rattle.netlist.specs.Open.{open_circuit_of, slope_rows}
use Rattle.netlist.specs.Accepts.{circuit_in, accept_rows, Takes}
use Rattle.netlist.proofs.Entries.{node-count}
use Rattle.netlist.proofs.Calls.{call-accepted, call-sloped, call-rejected}
use Rattle.netlist.proofs.Accepting.{call-refused, call-taken}
use Rattle.clauses.specs.Clauses.{flat}
use Rattle.pairs.specs.Pairs.{flat_pairs, lent_pairs, pairs_for, pair_numbers, table_holds}
use Rattle.pairs.specs.Promise.{Held, Spread}
use Rattle.pairs.proofs.Flat.{flat-length}
use Rattle.pairs.proofs.Whole.{holds-few, held-too-many}
use Rattle.formula.specs.declared.Source.{Source}
use Rattle.formula.specs.declared.Emitted.{Emitted}
use Rattle.formula.specs.declared.Counts.{Counts}
use Rattle.formula.specs.Formula.{formula_for}
use Rattle.formula.specs.Promise.{Meets, refused, numbers_for, counts_for, built, building_rows, building_of, building}
use Rattle.formula.specs.Emission.{start, Emits}
use Rattle.formula.specs.declared.Side.TheVariants.{Outputs}
use Rattle.formula.specs.Late.{shape_in, whole_run, AllStand, Served, Slices}
use Rattle.formula.proofs.Emission.{emits-as}
use Rattle.formula.proofs.Numbers.{Numbered, emits-numbers}
use Rattle.formula.proofs.Table.{tops_at, table_at, source-at, all-stand, outputs-ask, slices}
use Rattle.formula.proofs.Whole.{whole-tokens}

-- ---- the rows

module _ (circuit : Circuit) (target pairs_room formula_room : ℕ) where
  too_many : table_holds (pair_numbers circuit.slopes) pairs_room < length (pairs_for circuit target) →
      building_of circuit target pairs_room formula_room ≡ refused pairs_room formula_room Pairs
  unfolding building_of building_rows
  too_many h = rw (lt-ltb (table_holds (pair_numbers circuit.slopes) pairs_room) (length (pairs_for circuit target)) h)

  no_room : length (pairs_for circuit target) ≤ table_holds (pair_numbers circuit.slopes) pairs_room →
      formula_room < length (numbers_for circuit target) →
      building_of circuit target pairs_room formula_room
      ≡ refused pairs_room formula_room (Room (length (numbers_for circuit target)))
  unfolding building_of building_rows
  no_room h l =
      rw (
        le-ltb (table_holds (pair_numbers circuit.slopes) pairs_room) (length (pairs_for circuit target)) h,
        lt-ltb formula_room (length (numbers_for circuit target)) l,
      )

  all_room : length (pairs_for circuit target) ≤ table_holds (pair_numbers circuit.slopes) pairs_room →
      length (numbers_for circuit target) ≤ formula_room →
      building_of circuit target pairs_room formula_room ≡ built circuit target pairs_room formula_room
  unfolding building_of building_rows
  all_room h l =
      rw (
        le-ltb (table_holds (pair_numbers circuit.slopes) pairs_room) (length (pairs_for circuit target)) h,
        le-ltb formula_room (length (numbers_for circuit target)) l,
      )

-- ---- what a table holds

numbers-held : (slopes : Slopes) (count room : ℕ) → count ≤ table_holds (pair_numbers slopes) room →
    count * pair_numbers slopes ≤ room
numbers-held alike count room h = omega arith
numbers-held (apart falls) count room h = omega arith

-- ---- what `emit` asks

module _ (l : Source) (target : ℕ) (e : l.tops.now ≡ tops_at l.accepted)
    (f : l.table.now ≡ table_at l.accepted target) where
  pub source-ready : length (pairs_for (circuit_in l.accepted) target) ≤ 65536 →
      Slices l × AllStand l × Served l Outputs 0 (shape_in l).outputs target
  source-ready h =
      subst (λ (x : Source). Slices x × AllStand x × Served x Outputs 0 (shape_in x).outputs target)
      (source-at l target e f)
      (slices l target h, all-stand l target, outputs-ask l target)

  -- and what it puts are the formula's numbers
  pub source-numbers : {most : ℕ} {before after : List ℤ} {to : Emitted} →
      Emits most (whole_run l target) before start after to →
      Numbered (formula_for (circuit_in l.accepted) target) before after to
  source-numbers {most} x =
      emits-numbers (formula_for (circuit_in l.accepted) target)
      (emits-as most x
      (ap (λ (s : Source). whole_run s target) (sym (source-at l target e f)) ∙ whole-tokens l target)
      (omega arith))

-- ---- what `write` knows

module _ (a : Accepted) (target : ℕ) where
  abbrev slopes : Slopes
  slopes = slopes_of a.form

  abbrev listed : List (ℕ × ℕ)
  listed = pairs_for (circuit_in a) target

  module _ (table : List ℕ) (count : ℕ) (held : Held slopes listed (length table) table (Some count)) where
    -- two numbers a pair fit the table, and there are not too many
    pub few-held : (count * 2 ≤ length table) × (count ≤ 65536)
    few-held =
        let w = holds-few slopes (length table) in
        (omega (arith, held.1, w.0), omega (arith, held.1, w.1))

    -- the pairs at the table's front
    pub front : take (count * 2) table ≡ table_at a target
    front =
        let f : length (flat_pairs listed) ≡ count * 2 = flat-length listed ∙ omega (arith, held.0) in
        ap (take (count * 2)) held.2
        ∙ take_at (flat_pairs listed) (replicate (length table - count * 2) 0) (count * 2) f

    room-held : length listed ≤ table_holds (pair_numbers slopes) (length table)
    room-held = subst (λ (n : ℕ). n ≤ table_holds (pair_numbers slopes) (length table)) held.0 held.1

    -- all numbers of the pairs fit it
    pub spread-fits : count * pair_numbers slopes ≤ length table
    spread-fits = numbers-held slopes count (length table) held.1

  -- ---- the two ends of `write`

  module _ (table : List ℕ) (count : ℕ) (held : Held slopes listed (length table) table (Some count))
      (before after : List ℤ) (to : Emitted) (n : Numbered (formula_for (circuit_in a) target) before after to)
      (same : length after ≡ length before) where
    pub wrote_none : (pairs : List ℕ) (formula : List ℤ) → length after < to.numbers →
        pairs ≡ replicate (length table) 0 → formula ≡ replicate (length after) (pos 0) →
        Meets (building_of (circuit_in a) target (length table) (length before)) (Err (Room to.numbers)) pairs formula
    unfolding numbers_for
    wrote_none pairs formula h e f =
        rw (no_room (circuit_in a) target (length table) (length before) (room-held table count held)
        (omega (arith, n.numbers)))
        (record {
          answer-is = ap (λ (m : ℕ). Err (Room m)) n.numbers;
          pairs-are = e;
          formula-is = f ∙ ap (λ (m : ℕ). replicate m (pos 0)) same;
        })

    pub wrote-all : (pairs : List ℕ) (formula : List ℤ) → to.numbers ≤ length after →
        Spread slopes table count pairs →
        formula ≡ take to.numbers after ++ replicate (length after - to.numbers) (pos 0) →
        Meets (building_of (circuit_in a) target (length table) (length before))
        (Ok (record {
          variables = a.shape.inputs + a.shape.gates + count;
          pairs = count;
          clauses = to.clauses;
          numbers = to.numbers;
        })) pairs formula
    unfolding numbers_for counts_for built
    wrote-all pairs formula h s f =
        let cs = formula_for (circuit_in a) target in
        let nodes = node_count (netlist_at a.file.now a.shape) in
        let made : ℕ → ℕ → ℕ → ℕ → Counts =
        λ a b c d. record { variables = a; pairs = b; clauses = c; numbers = d }
        in
        let v : a.shape.inputs + a.shape.gates + count ≡ nodes + length listed =
        omega (arith, held.0, node-count a.file.now a.shape)
        in
        let r : length after - to.numbers ≡ length before - length (flat cs) = omega (arith, n.numbers) in
        rw (all_room (circuit_in a) target (length table) (length before) (room-held table count held)
        (omega (arith, n.numbers)))
        (record {
          answer-is =
              ap Ok
              (ap₂ (λ (a b : ℕ). made a b to.clauses to.numbers) v held.0
              ∙ ap₂ (λ (c d : ℕ). made (nodes + length listed) (length listed) c d) n.clauses n.numbers);
          pairs-are =
              s.is listed held.0 held.2
              ∙ ap (λ (m : ℕ). lent_pairs slopes listed
              ++ replicate (length table - m * pair_numbers slopes) 0) held.0;
          formula-is = f ∙ ap₂ (λ (x : List ℤ) (m : ℕ). x ++ replicate m (pos 0)) (n.prefix (omega arith)) r;
        })

-- ---- the end of `build_accepted` where the pairs are too many

pub listed-none : (circuit : Circuit) (target pairs_room formula_room : ℕ) (pairs : List ℕ) (formula : List ℤ)
    (listed : Option ℕ) → Held circuit.slopes (pairs_for circuit target) pairs_room pairs listed → listed ≡ None →
    formula ≡ replicate formula_room (pos 0) →
    Meets (building_of circuit target pairs_room formula_room) (Err Pairs) pairs formula
listed-none circuit target pairs_room formula_room pairs formula listed h e f =
    let w = held-too-many circuit.slopes (pairs_for circuit target) pairs_room pairs listed h e in
    rw (too_many circuit target pairs_room formula_room w.0)
    (record { answer-is = refl; pairs-are = w.1; formula-is = f })

-- ---- any bytes, any arrivals, any slopes

module _ (file arrivals : List ℕ) (slopes : Slopes) (target pairs_room formula_room : ℕ) where
  pub of-accepted : (shape : Shape) → open_circuit_of file arrivals ≡ Ok shape →
      checked (slope_rows shape.pins slopes) ≡ Ok tt →
      building file arrivals slopes target pairs_room formula_room ≡ building_of
      (circuit_with file shape arrivals slopes) target pairs_room formula_room
  unfolding building building_of
  of-accepted shape e f =
      call-accepted file arrivals slopes (λ circuit. building_rows circuit target pairs_room formula_room)
      (refused pairs_room formula_room)
      (λ circuit. built circuit target pairs_room formula_room) e f

  pub of-rejected : (refusal : Refusal) → open_circuit_of file arrivals ≡ Err refusal →
      building file arrivals slopes target pairs_room formula_room ≡ refused pairs_room formula_room refusal
  unfolding building
  of-rejected refusal e =
      call-rejected file arrivals slopes (λ circuit. building_rows circuit target pairs_room formula_room)
      (refused pairs_room formula_room)
      (λ circuit. built circuit target pairs_room formula_room) e

  pub of-sloped : (shape : Shape) (refusal : Refusal) → open_circuit_of file arrivals ≡ Ok shape →
      checked (slope_rows shape.pins slopes) ≡ Err refusal →
      building file arrivals slopes target pairs_room formula_room ≡ refused pairs_room formula_room refusal
  unfolding building
  of-sloped shape refusal e f =
      call-sloped file arrivals slopes (λ circuit. building_rows circuit target pairs_room formula_room)
      (refused pairs_room formula_room)
      (λ circuit. built circuit target pairs_room formula_room) e f

  -- as `accept` says it: refused, or taken
  pub of-refused : {refusal : Refusal} → checked (accept_rows file arrivals slopes) ≡ Err refusal →
      building file arrivals slopes target pairs_room formula_room ≡ refused pairs_room formula_room refusal
  unfolding building
  of-refused e =
      call-refused file arrivals slopes (λ circuit. building_rows circuit target pairs_room formula_room)
      (refused pairs_room formula_room)
      (λ circuit. built circuit target pairs_room formula_room) e

  pub of-taken : {a : Accepted} → Takes file arrivals slopes a →
      building file arrivals slopes target pairs_room formula_room
      ≡ building_of (circuit_in a) target pairs_room formula_room
  unfolding building building_of
  of-taken t =
      call-taken file arrivals slopes (λ circuit. building_rows circuit target pairs_room formula_room)
      (refused pairs_room formula_room)
      (λ circuit. built circuit target pairs_room formula_room) t
