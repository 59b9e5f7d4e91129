-- Lateness (rule F2), case by case, and its codes; a clause of parts, and that of a controlling cube. Assumes nothing.
use mathlib.Core.Path.{◌≡◌, refl, sym, ap, ap₂, ◌∙◌}
use mathlib.Core.Bool.{Bool, true, false, not, ◌||◌, cond}
use mathlib.Core.List.{List, [], ◌∷◌, ◌++◌, map, append-nil}
use Prim.Native.Nat.{ℕ, zero, suc, ◌+◌, ◌-◌, ◌*◌, ◌/◌, ◌≤◌, ◌<◌}
use native.Mathlib.Omega.{arith}
use native.Mathlib.Numerals.{add-one}
use lib.Dec.{leb, ltb, eqb}
use lib.ListN.{length, get_or, take}
use borrow.Author.Tests.{lt-ltb, le-ltb, le-leb, lt-leb, ne_eqb}
use Rattle.basics.specs.Lists.{any, concat_map}
use Rattle.basics.proofs.Lists.{any_append, concat_map-append}
use Rattle.netlist.specs.Netlist.{Pin, Slopes, alike, apart}
use Rattle.settle.specs.Settling.{Cube}
use Rattle.pairs.specs.Pairs.{pair_place}
use Rattle.pairs.specs.Table.{pairs_in}
use Rattle.pairs.specs.Promise.{Lists, Findable}
use Rattle.pairs.proofs.Flat.{pairs-flat}
use Rattle.pairs.proofs.Closed.{place-below}
use Rattle.formula.specs.declared.Source.{Source}
use Rattle.formula.specs.Formula.{
  Part,
  sure,
  never,
  literal,
  is_sure,
  literals,
  clause_of,
  late,
  cube_parts,
  node_variable,
}
use Rattle.formula.specs.declared.Asked.{Asked}
use Rattle.formula.specs.declared.Share.TheVariants.{Control}
use Rattle.formula.specs.Emission.{Token, ended, wants, tokens_of, code_run, literal_run, share_run, cube_run}
use Rattle.formula.specs.Late.{
  shape_in,
  nodes_in,
  part_code,
  part_run,
  top_in,
  variable_in,
  late_in,
  asked_by,
  node_late_in,
  control_in,
  Slices,
  PlaceFound,
  LateCode,
}

pub positive : (t : ℕ) → (t ≡ 0 → ⊥) → 0 < t
positive zero h = absurd (h refl)
positive (suc t) h = omega arith

-- ---- a pair of the table

-- an odd last number is no part of a pair
even-part : (l : List ℕ) → pairs_in (take (length l / 2 * 2) l) ≡ pairs_in l
unfolding pairs_in
even-part [] = refl
even-part (a ∷ []) = refl
even-part (a ∷ b ∷ l) =
    let e : suc (suc (length l)) / 2 * 2 ≡ suc (suc (length l / 2 * 2)) = omega arith in
    ap (λ (n : ℕ). pairs_in (take n (a ∷ b ∷ l))) e ∙ ap (λ (x : List (ℕ × ℕ)). (a, b) ∷ x) (even-part l)

-- the pairs that fill a table are those that it lists
pub pairs-listed : (table : List ℕ) (pairs : List (ℕ × ℕ)) → Lists table (length table / 2) pairs → pairs_in table ≡
    pairs
pairs-listed table pairs l = sym (even-part table) ∙ ap pairs_in l.is ∙ pairs-flat pairs

-- what the search finds
pub place_found : {table : List ℕ} {rail t r : ℕ} → Findable table (length table / 2) rail t →
    ((pairs : List (ℕ × ℕ)) → Lists table (length table / 2) pairs → r ≡ pair_place rail t pairs) → PlaceFound table
    rail t r
place_found {table} {rail} {t} f h =
    let e = h f.pairs f.lists in
    let b = place-below rail t f.pairs f.here in
    let l = f.lists.all in
    record {
      is = e ∙ ap (pair_place rail t) (sym (pairs-listed table f.pairs f.lists));
      below = omega arith;
    }

-- ---- the cases

module _ {l : Source} {node rail t : ℕ} where
  pub late-input : node < (shape_in l).inputs → t ≤ top_in l.tops.now node → LateCode l node rail t 1
  unfolding late
  late-input h k =
      record {
        is = rw (lt-ltb node (shape_in l).inputs h, le-leb t (top_in l.tops.now node) k);
        small = omega arith;
      }

  pub late-input-not : node < (shape_in l).inputs → top_in l.tops.now node < t → LateCode l node rail t 0
  unfolding late
  late-input-not h k =
      record {
        is = rw (lt-ltb node (shape_in l).inputs h, lt-leb t (top_in l.tops.now node) k);
        small = omega arith;
      }

  pub late-zero : (shape_in l).inputs ≤ node → t ≡ 0 → LateCode l node rail t 1
  unfolding late
  late-zero h e =
      let k : t ≤ 0 = omega arith in
      record { is = rw (le-ltb node (shape_in l).inputs h, le-leb t 0 k); small = omega arith }

  pub late-beyond : (shape_in l).inputs ≤ node → 0 < t → top_in l.tops.now node < t → LateCode l node rail t 0
  unfolding late
  late-beyond h p k =
      record {
        is = rw (le-ltb node (shape_in l).inputs h, lt-leb t 0 p, lt-leb t (top_in l.tops.now node) k);
        small = omega arith;
      }

  pub late-pair : {place : ℕ} → Slices l → (shape_in l).inputs ≤ node → 0 < t → t ≤ top_in l.tops.now node →
      PlaceFound l.table.now rail t place → LateCode l node rail t ((nodes_in l + place + 1) * 2)
  unfolding late variable_in
  late-pair {place} s h p k f =
      let nodes = s.nodes-few in
      let pairs = s.pairs-few in
      let is = f.is in
      let below = f.below in
      record {
        is =
            rw (le-ltb node (shape_in l).inputs h, lt-leb t 0 p, le-leb t (top_in l.tops.now node) k) (omega arith);
        small = omega arith;
      }

-- a variable from its code
pub halved : (x : ℕ) → x * 2 / 2 ≡ x
halved x = omega arith

-- ---- a clause of parts

literal-runs : (parts : List (Part ℕ)) → concat_map part_run parts ≡ map wants (literals parts)
literal-runs [] = refl
literal-runs (sure ∷ parts) = literal-runs parts
literal-runs (never ∷ parts) = literal-runs parts
literal-runs (literal b x ∷ parts) = ap (λ (l : List Token). wants (b, x) ∷ l) (literal-runs parts)

-- a part that is true outright takes its clause with it, one that is false leaves it (rule F14)
pub clause-run : (parts : List (Part ℕ)) →
    cond (any is_sure parts) [] (concat_map part_run parts ++ (ended ∷ [])) ≡ tokens_of (clause_of parts)
unfolding clause_of tokens_of
clause-run parts = go (any is_sure parts)
  where
    go : (b : Bool) →
        cond b [] (concat_map part_run parts ++ (ended ∷ [])) ≡ tokens_of (cond b [] (literals parts ∷ []))
    go true = refl
    go false = ap (λ (l : List Token). l ++ (ended ∷ [])) (literal-runs parts)

-- ---- the codes of a node

or-none : (b : Bool) → (b || false) ≡ b
or-none true = refl
or-none false = refl

module _ (l : Source) (node t : ℕ) where
  -- what holds of true and of false outright and of literals of variables above 0 holds of lateness at t by a rail, and
  -- by two: a node that is late outright is so by each of its rails
  late-any : (rail : ℕ) (P : Part ℕ → Type 0) → P sure → P never → ((n : ℕ) → P (literal true (suc n))) →
      P (late_in l node rail t)
  unfolding late variable_in
  late-any rail P a b c = go (ltb node (shape_in l).inputs) (leb t (get_or l.tops.now node 0)) (leb t 0) _
    where
      go : (x y z : Bool) (n : ℕ) → P (cond x (cond y sure never) (cond z sure (cond y (literal true (suc n)) never)))
      go true true z n = a
      go true false z n = b
      go false y true n = a
      go false true false n = c n
      go false false false n = b

  late-two : (rail other : ℕ) (P : Part ℕ → Part ℕ → Type 0) → P sure sure → P never never →
      ((n m : ℕ) → P (literal true (suc n)) (literal true (suc m))) → P (late_in l node rail t) (late_in l node other t)
  unfolding late variable_in
  late-two rail other P a b c = go (ltb node (shape_in l).inputs) (leb t (get_or l.tops.now node 0)) (leb t 0) _ _
    where
      go : (x y z : Bool) (n m : ℕ) →
          P (cond x (cond y sure never) (cond z sure (cond y (literal true (suc n)) never)))
          (cond x (cond y sure never) (cond z sure (cond y (literal true (suc m)) never)))
      go true true z n m = a
      go true false z n m = b
      go false y true n m = a
      go false true false n m = c n m
      go false false false n m = b

  -- the first code is 1 exactly where the node is late outright
  pub late-sure : (slopes : Slopes) →
      eqb (asked_by slopes l node t).late 1 ≡ any is_sure (node_late_in l slopes node t)
  unfolding late
  late-sure alike =
      late-any node (λ p. eqb (part_code p) 1 ≡ (is_sure p || false)) refl refl
      (λ n. ne_eqb (suc n * 2) 1 (λ e. absurd (omega arith)))
  late-sure (apart falls) =
      late-two (node * 2) (node * 2 + 1) (λ p q. eqb (part_code p) 1 ≡ (is_sure p || (is_sure q || false))) refl refl
      (λ n m. ne_eqb (suc n * 2) 1 (λ e. absurd (omega arith)))

  -- the run of the codes is that of the parts
  pub late-run : (slopes : Slopes) →
      code_run true (asked_by slopes l node t).late ++ code_run true (asked_by slopes l node t).more
      ≡ concat_map part_run (node_late_in l slopes node t)
  unfolding late
  late-run alike =
      late-any node (λ p. code_run true (part_code p) ++ code_run true 0 ≡ part_run p ++ []) refl refl
      (λ n. rw (le-ltb (suc n * 2) 2 (omega arith), halved (suc n)))
  late-run (apart falls) =
      late-two (node * 2) (node * 2 + 1)
      (λ p q. code_run true (part_code p) ++ code_run true (part_code q) ≡ part_run p ++ (part_run q ++ [])) refl refl
      (λ n m. two-codes n m)
    where
      two-codes : (n m : ℕ) →
          code_run true (suc n * 2) ++ code_run true (suc m * 2) ≡ wants (true, suc n) ∷ wants (true, suc m) ∷ []
      two-codes n m =
          rw (le-ltb (suc n * 2) 2 (omega arith), le-ltb (suc m * 2) 2 (omega arith), halved (suc n), halved (suc m))

  pub asked-node : (slopes : Slopes) → (asked_by slopes l node t).node ≡ node
  asked-node alike = refl
  asked-node (apart falls) = refl

-- ---- a controlling cube

module _ (l : Source) (slopes : Slopes) (t : ℕ) where
  -- what is known of the driver of a cube's literal
  abbrev of_literal : Pin × Bool → Asked
  of_literal x = asked_by slopes l x.0.driver (t - x.0.delay)

  abbrev parts_of : Pin × Bool → List (Part ℕ)
  parts_of = cube_parts slopes (shape_in l).inputs (top_in l.tops.now) node_variable (variable_in l) t

  literal-sure : (x : Pin × Bool) → any is_sure (parts_of x) ≡ eqb (of_literal x).late 1
  literal-sure x =
      let parts = node_late_in l slopes x.0.driver (t - x.0.delay) in
      any_append is_sure parts (literal (not x.1) (suc x.0.driver) ∷ [])
      ∙ or-none (any is_sure parts)
      ∙ sym (late-sure l x.0.driver (t - x.0.delay) slopes)

  literal-run : (x : Pin × Bool) → concat_map part_run (parts_of x) ≡ literal_run (of_literal x) x.1
  literal-run x =
      let parts = node_late_in l slopes x.0.driver (t - x.0.delay) in
      concat_map-append part_run parts (literal (not x.1) (suc x.0.driver) ∷ [])
      ∙ ap₂ (λ (a : List Token) (n : ℕ). a ++ (wants (not x.1, n) ∷ []))
      (sym (late-run l x.0.driver (t - x.0.delay) slopes))
      (sym (add-one x.0.driver) ∙ ap (λ (n : ℕ). n + 1) (sym (asked-node l x.0.driver (t - x.0.delay) slopes)))

  cube-sure : (cube : Cube Pin) → any is_sure (concat_map parts_of cube) ≡ any (λ x. eqb (of_literal x).late 1) cube
  cube-sure [] = refl
  cube-sure (x ∷ cube) =
      any_append is_sure (parts_of x) (concat_map parts_of cube)
      ∙ ap₂ (λ (a b : Bool). a || b) (literal-sure x) (cube-sure cube)

  cube-run : (cube : Cube Pin) →
      concat_map part_run (concat_map parts_of cube) ≡ concat_map (λ x. literal_run (of_literal x) x.1) cube
  cube-run [] = refl
  cube-run (x ∷ cube) =
      concat_map-append part_run (parts_of x) (concat_map parts_of cube)
      ∙ ap₂ (λ (a b : List Token). a ++ b) (literal-run x) (cube-run cube)

  -- its clause, by the codes
  cube-tokens : (own : ℕ) (cube : Cube Pin) →
      cond (any (λ x. eqb (of_literal x).late 1) cube) []
      ((wants (false, own) ∷ concat_map (λ x. literal_run (of_literal x) x.1) cube) ++ (ended ∷ []))
      ≡ control_in l slopes own t cube
  cube-tokens own cube =
      ap₂ (λ (b : Bool) (r : List Token). cond b [] ((wants (false, own) ∷ r) ++ (ended ∷ []))) (sym (cube-sure cube))
      (sym (cube-run cube))
      ∙ clause-run (literal false own ∷ concat_map parts_of cube)

  -- of one literal, as for a simple gate
  pub one-literal : (c k : Bool) (own : ℕ) (p : Pin) →
      share_run Control c k own (of_literal (p, c)) ≡ control_in l slopes own t ((p, c) ∷ [])
  one-literal c k own p =
      let driver = of_literal (p, c) in
      ap₂ (λ (b : Bool) (r : List Token). cond b [] ((wants (false, own) ∷ r) ++ (ended ∷ [])))
      (sym (or-none (eqb driver.late 1))) (sym (append-nil (literal_run driver c)))
      ∙ cube-tokens own ((p, c) ∷ [])

  -- of two
  pub two-literals : (own : ℕ) (p : Pin) (a : Bool) (q : Pin) (b : Bool) →
      cube_run own (of_literal (p, a)) a (of_literal (q, b)) b
      ≡ control_in l slopes own t ((p, a) ∷ (q, b) ∷ [])
  two-literals own p a q b =
      let x = of_literal (p, a) in
      let y = of_literal (q, b) in
      ap₂ (λ (e : Bool) (r : List Token). cond (eqb x.late 1 || e) []
      ((wants (false, own) ∷ (literal_run x a ++ r)) ++ (ended ∷ [])))
      (sym (or-none (eqb y.late 1))) (sym (append-nil (literal_run y b)))
      ∙ cube-tokens own ((p, a) ∷ (q, b) ∷ [])
