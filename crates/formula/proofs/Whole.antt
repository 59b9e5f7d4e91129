-- The list that the code puts is the definition's formula: the pairs come in the order of the table, each with its
-- rail's kind and pins. Assumes nothing.
use mathlib.Core.Path.{◌≡◌, refl, sym, ap, ap₂, ◌∙◌, subst}
use mathlib.Core.Bool.{Bool, true, false}
use mathlib.Core.List.{
  List,
  [],
  ◌∷◌,
  ◌++◌,
  map,
  append_assoc,
  append-nil,
  Memᴰ,
}
use Prim.Native.Nat.{ℕ, zero, suc, ◌+◌, ◌-◌, ◌*◌, ◌/◌, ◌%◌}
use native.Mathlib.Omega.{arith}
use lib.ListN.{length, get_or, length-append}
use borrow.Author.Tests.{eq-eqb, ne_eqb}
use Rattle.basics.specs.Lists.{concat_map, up_from, numbered}
use Rattle.basics.proofs.Lists.{concat_map-append}
use Rattle.netlist.specs.declared.Shape.{Shape}
use Rattle.netlist.specs.declared.circuit.Accepted.{Accepted}
use Rattle.netlist.specs.Netlist.{Cell, nodes, Slopes, alike, apart, slopes_of, pins_for, Circuit}
use Rattle.netlist.specs.File.{cell_at, netlist_at}
use Rattle.netlist.specs.Accepts.{circuit_in}
use Rattle.netlist.proofs.Entries.{node-count, node-only}
use Rattle.clauses.specs.Clauses.{Literal}
use Rattle.settle.specs.Settling.{top_of}
use Rattle.pairs.specs.Rails.{Rail, rails_at, rail_count, rail_cells}
use Rattle.pairs.specs.Pairs.{pair_list, times_for, pairs_for, pair_place}
use Rattle.pairs.specs.Table.{pairs_in}
use Rattle.pairs.proofs.Flat.{pairs-flat, pairs-length}
use Rattle.formula.specs.declared.Source.{Source}
use Rattle.formula.specs.Formula.{
  clause_of,
  gate_clauses,
  node_late,
  pair_clauses,
  formula,
  node_variable,
  pair_variable,
  formula_for,
}
use Rattle.formula.specs.Emission.{Token, tokens_of, cell_run, rail_value}
use Rattle.formula.specs.Late.{
  pairs_count,
  variable_in,
  clauses_in,
  rail_at,
  gate_run,
  run_of,
  pair_run,
  whole_run,
}
use Rattle.formula.proofs.Gates.{tokens_append, tokens-concat_map}
use Rattle.formula.proofs.Table.{table_at, source_at}

-- ---- lists of runs

each_in : {A B : Type 0} (f g : A → List B) (xs : List A) → ((x : A) → Memᴰ x xs → f x ≡ g x) →
    concat_map f xs ≡ concat_map g xs
each_in f g [] h = refl
each_in {B = B} f g (x ∷ xs) h =
    ap₂ (λ (a b : List B). a ++ b) (h x (Memᴰ.head refl)) (each_in f g xs (λ y m. h y (Memᴰ.tail m)))

within-each : {A B C : Type 0} (f : B → List C) (g : A → List B) (xs : List A) →
    concat_map f (concat_map g xs) ≡ concat_map (λ x. concat_map f (g x)) xs
within-each f g [] = refl
within-each {C = C} f g (x ∷ xs) =
    concat_map-append f (g x) (concat_map g xs) ∙ ap (λ (l : List C). concat_map f (g x) ++ l) (within-each f g xs)

of-each : {A B C : Type 0} (f : B → List C) (g : A → B) (xs : List A) →
    concat_map f (map g xs) ≡ concat_map (λ x. f (g x)) xs
of-each f g [] = refl
of-each {C = C} f g (x ∷ xs) = ap (λ (l : List C). f (g x) ++ l) (of-each f g xs)

-- for each rail by its number, or gate by gate
by-rails : {B : Type 0} (G : ℕ → List B) (slopes : Slopes) (k : ℕ) (gs : List Cell) →
    concat_map (λ y. G y.0) (numbered (rail_count slopes k) (rail_cells slopes gs))
    ≡ concat_map (λ x. concat_map (λ r. G r.number) (rails_at slopes x)) (numbered k gs)
by-rails {B} G alike k gs =
    each_in (λ x. G x.0) (λ x. G x.0 ++ []) (numbered k gs) (λ x m. sym (append-nil (G x.0)))
by-rails G (apart falls) k [] = refl
by-rails {B} G (apart falls) k (g ∷ gs) =
    let e : suc (k * 2) ≡ k * 2 + 1 = omega arith in
    let f : suc (suc (k * 2)) ≡ suc k * 2 = omega arith in
    let rest = concat_map (λ x. concat_map (λ r. G r.number) (rails_at (apart falls) x)) (numbered (suc k) gs) in
    ap₂ (λ (a b : ℕ). G (k * 2) ++ (G a ++ concat_map (λ y. G y.0) (numbered b (rail_cells (apart falls) gs)))) e f
    ∙ ap (λ (l : List B). G (k * 2) ++ (G (k * 2 + 1) ++ l)) (by-rails G (apart falls) (suc k) gs)
    ∙ sym (append_assoc (G (k * 2)) (G (k * 2 + 1)) rest)
    ∙ ap (λ (l : List B). (G (k * 2) ++ l) ++ rest) (sym (append-nil (G (k * 2 + 1))))

-- ---- by number, or by entry

-- a run for each entry of a list, by its number
by_number : {A B : Type 0} (F : A → List B) (d : A) (xs : List A) (n : ℕ) → n ≡ length xs →
    concat_map (λ k. F (get_or xs k d)) (up_from 0 n) ≡ concat_map F xs
by_number {A} {B} F d xs n e = ap (λ (m : ℕ). concat_map (λ k. F (get_or xs k d)) (up_from 0 m)) e ∙ go [] xs
  where
    at : (done : List A) (x : A) (left : List A) → get_or (done ++ (x ∷ left)) (length done) d ≡ x
    at [] x left = refl
    at (y ∷ done) x left = at done x left

    go : (done left : List A) →
        concat_map (λ k. F (get_or (done ++ left) k d)) (up_from (length done) (length left)) ≡ concat_map F left
    go done [] = refl
    go done (x ∷ left) =
        let l : suc (length done) ≡ length (done ++ (x ∷ [])) =
        omega (arith, length-append done (x ∷ [])) in
        ap₂ (λ (a b : List B). a ++ b) (ap F (at done x left))
        (ap₂ (λ (l : List A) (m : ℕ). concat_map (λ k. F (get_or l k d)) (up_from m (length left)))
        (sym (append_assoc done (x ∷ []) left)) l
        ∙ go (done ++ (x ∷ [])) left)

-- a run for each gate at its node, by its number
by-gate : {A B : Type 0} (F : ℕ × A → List B) (f : ℕ → A) (n a k : ℕ) →
    concat_map (λ i. F (n + i, f i)) (up_from a k) ≡ concat_map F (numbered (n + a) (map f (up_from a k)))
by-gate F f n a zero = refl
by-gate {A} {B} F f n a (suc k) =
    let e : n + suc a ≡ suc (n + a) = omega arith in
    ap (λ (t : List B). F (n + a, f a) ++ t)
    (by-gate F f n (suc a) k ∙ ap (λ (m : ℕ). concat_map F (numbered m (map f (up_from (suc a) k)))) e)

-- ---- the formula of an accepted file

module _ (file : List ℕ) (shape : Shape) where
  -- a gate's rail is the one that has its number
  rail-back : (slopes : Slopes) (i : ℕ) (r : Rail) →
      Memᴰ r (rails_at slopes (shape.inputs + i, cell_at file shape i)) →
      rail_at file shape slopes r.number ≡ r
  rail-back alike i r (Memᴰ.tail none) = elim none [ ]
  rail-back alike i r (Memᴰ.head e) =
      let d : shape.inputs + i - shape.inputs ≡ i = omega arith in
      ap (λ (x : Rail). rail_at file shape alike x.number) e
      ∙ ap (λ (n : ℕ). one (shape.inputs + i) (cell_at file shape n)) d
      ∙ sym e
    where
      one : ℕ → Cell → Rail
      one n g = record { number = n; node = n; fixes = []; kind = g.kind; pins = g.pins }
  rail-back (apart falls) i r m = go m
    where
      made : ℕ → ℕ → Bool → Cell → Rail
      made number n v g =
          record {
            number = number;
            node = n;
            fixes = v ∷ [];
            kind = g.kind;
            pins = pins_for (apart falls) v g.pins;
          }

      back : (number : ℕ) (v : Bool) → number / 2 ≡ shape.inputs + i → rail_value number ≡ v →
          rail_at file shape (apart falls) number ≡ made number (shape.inputs + i) v (cell_at file shape i)
      back number v h e =
          let d : shape.inputs + i - shape.inputs ≡ i = omega arith in
          ap₂ (λ (n : ℕ) (w : Bool). made number n w (cell_at file shape (n - shape.inputs))) h e
          ∙ ap (λ (n : ℕ). made number (shape.inputs + i) v (cell_at file shape n)) d

      go : Memᴰ r (rails_at (apart falls) (shape.inputs + i, cell_at file shape i)) →
          rail_at file shape (apart falls) r.number ≡ r
      go (Memᴰ.head e) =
          let n = (shape.inputs + i) * 2 in
          let h : n / 2 ≡ shape.inputs + i = omega arith in
          let v : n % 2 ≡ 0 = omega arith in
          ap (λ (x : Rail). rail_at file shape (apart falls) x.number) e
          ∙ back n false h (ne_eqb (n % 2) 1 (λ z. absurd (omega arith)))
          ∙ sym e
      go (Memᴰ.tail (Memᴰ.tail none)) = elim none [ ]
      go (Memᴰ.tail (Memᴰ.head e)) =
          let n = (shape.inputs + i) * 2 + 1 in
          let h : n / 2 ≡ shape.inputs + i = omega arith in
          let v : n % 2 ≡ 1 = omega arith in
          ap (λ (x : Rail). rail_at file shape (apart falls) x.number) e
          ∙ back n true h (eq-eqb (n % 2) 1 v)
          ∙ sym e

module _ (l : Source) (target : ℕ) where
  abbrev a : Accepted
  a = l.accepted

  abbrev file : List ℕ
  file = a.file.now

  abbrev shape : Shape
  shape = a.shape

  abbrev slopes : Slopes
  slopes = slopes_of a.form

  abbrev circuit : Circuit
  circuit = circuit_in a

  abbrev put : Source
  put = source_at l target

  -- a pair's variable by the table
  variables : variable_in put ≡ pair_variable circuit target
  unfolding variable_in pair_variable
  variables =
      let after : ℕ → List (ℕ × ℕ) → ℕ → ℕ → ℕ = λ n l f t. suc (n + pair_place f t l) in
      ap₂ after (sym (node-count file shape)) (pairs-flat (pairs_for circuit target))

  -- a rail's pair
  abbrev of_rail : Rail → ℕ → List (List Literal)
  of_rail = pair_clauses slopes shape.inputs (top_of circuit) node_variable (variable_in put)

  -- all pairs of a rail, and of a gate
  abbrev of_times : Rail → List (List Literal)
  of_times r = concat_map (of_rail r) (times_for circuit target r.number)

  abbrev of_gate : ℕ × Cell → List (List Literal)
  of_gate x = concat_map of_times (rails_at slopes x)

  -- what is put for a rail of a gate
  rail-put : (x : ℕ × Cell) → Memᴰ x (nodes (netlist_at file shape)) → (r : Rail) →
      Memᴰ r (rails_at slopes x) →
      concat_map (λ t. run_of put (r.number, t)) (times_for circuit target r.number)
      ≡ tokens_of (of_times r)
  rail-put x m r j =
      let w = node-only file shape x m in
      let e = rail-back file shape slopes w.0 r
      (subst (λ (y : ℕ × Cell). Memᴰ r (rails_at slopes y)) w.2 j) in
      ap (λ (s : Rail). concat_map (clauses_in put slopes s) (times_for circuit target r.number)) e
      ∙ sym (tokens-concat_map (of_rail r) (times_for circuit target r.number))

  pairs-put : concat_map (pair_run put) (up_from 0 (pairs_count put))
      ≡ tokens_of (concat_map of_gate (nodes (netlist_at file shape)))
  unfolding pairs_for pair_list
  pairs-put =
      let net = netlist_at file shape in
      let times = times_for circuit target in
      let pairs = pairs_for circuit target in
      let run = run_of put in
      let of_number : ℕ → List Token = λ n. concat_map (λ t. run (n, t)) (times n) in
      by_number run (0, 0) (pairs_in (table_at a target)) (pairs_count put)
      (sym (pairs-length (table_at a target)))
      ∙ ap (concat_map run) (pairs-flat pairs)
      ∙ within-each run (λ y. map (λ t. (y.0, t)) (times y.0))
      (numbered (rail_count slopes net.inputs) (rail_cells slopes net.gates))
      ∙ each_in _ (λ y. of_number y.0) (numbered (rail_count slopes net.inputs) (rail_cells slopes net.gates))
      (λ y m. of-each run (λ t. (y.0, t)) (times y.0))
      ∙ by-rails of_number slopes net.inputs net.gates
      ∙ each_in _ (λ x. tokens_of (of_gate x)) (nodes net)
      (λ x m.
      each_in _ (λ r. tokens_of (of_times r)) (rails_at slopes x) (λ r j. rail-put x m r j)
      ∙ sym (tokens-concat_map of_times (rails_at slopes x)))
      ∙ sym (tokens-concat_map of_gate (nodes net))

  -- the gates' clauses, gate by gate
  gates-put : concat_map (gate_run file shape) (up_from 0 shape.gates)
      ≡ tokens_of (concat_map (λ x. gate_clauses node_variable x.1.kind x.1.pins x.0)
      (nodes (netlist_at file shape)))
  unfolding netlist_at
  gates-put =
      let e : shape.inputs + 0 ≡ shape.inputs = omega arith in
      by-gate cell_run (cell_at file shape) shape.inputs 0 shape.gates
      ∙ ap (λ (n : ℕ). concat_map cell_run (numbered n (map (cell_at file shape) (up_from 0 shape.gates)))) e
      ∙ sym (tokens-concat_map (λ x. gate_clauses node_variable x.1.kind x.1.pins x.0)
      (nodes (netlist_at file shape)))

  -- 1, 2 and 3 in order
  pub whole-tokens : whole_run put target ≡ tokens_of (formula_for circuit target)
  unfolding formula_for formula netlist_at
  whole-tokens =
      let net = netlist_at file shape in
      let of_cells : List (List Literal) =
      concat_map (λ x. gate_clauses node_variable x.1.kind x.1.pins x.0) (nodes net) in
      let of_pairs : List (List Literal) = concat_map of_gate (nodes net) in
      let last : List (List Literal) =
      clause_of (concat_map
      (λ o. node_late slopes shape.inputs (top_of circuit) node_variable (variable_in put) o target)
      net.outputs) in
      ap₂ (λ (a b : List Token). (a ++ b) ++ tokens_of last) gates-put pairs-put
      ∙ append_assoc (tokens_of of_cells) (tokens_of of_pairs) (tokens_of last)
      ∙ ap (λ (b : List Token). tokens_of of_cells ++ b) (sym (tokens_append of_pairs last))
      ∙ sym (tokens_append of_cells (of_pairs ++ last))
      ∙ ap (λ (w : ℕ → ℕ → ℕ). tokens_of
      (formula slopes net.inputs (top_of circuit) node_variable w (nodes net) (times_for circuit target) net.outputs
      target))
      variables
