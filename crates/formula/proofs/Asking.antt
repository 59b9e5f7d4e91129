-- What was read of the drivers and the outputs: what they add is what the definition says of each pin, and of each
-- output. Assumes nothing.
use mathlib.Core.Path.{◌≡◌, refl, sym, ap, ap₂, ◌∙◌, subst}
use mathlib.Core.Bool.{Bool, true, false, not, cond, ◌||◌}
use mathlib.Core.List.{
  List,
  [],
  ◌∷◌,
  ◌++◌,
  map,
  append_assoc,
  append-nil,
  Memᴰ,
}
use Prim.Native.Nat.{ℕ, zero, suc, ◌+◌, ◌-◌, ◌*◌, ◌≤◌, ◌<◌}
use native.Mathlib.Omega.{arith}
use native.Mathlib.Decide.{dec_lt}
use lib.Dec.{eqb}
use lib.ListN.{length, get_or, take, set, length-set}
use lib.Seq.{get_or-set_same, get_or-set_other}
use borrow.Author.Tests.{le-ltb}
use Rattle.basics.specs.Lists.{any, concat_map, up_from}
use Rattle.basics.proofs.Lists.{any_append, any-concat_map, concat_map-append}
use Rattle.netlist.specs.Netlist.{Pin, Slopes, alike, apart}
use Rattle.netlist.specs.File.{driver_at, output_at, pin_at, pins_from, netlist_at}
use Rattle.netlist.proofs.Ranges.{up_from-append}
use Rattle.settle.specs.Settling.{Cube, cubes}
use Rattle.pairs.specs.Rails.{rails_of, rail_count}
use Rattle.pairs.specs.Table.{pairs_in}
use Rattle.pairs.specs.Promise.{Begins}
use Rattle.pairs.proofs.Search.{begins-at}
use Rattle.formula.specs.declared.Source.{Source}
use Rattle.formula.specs.declared.Asked.{Asked}
use Rattle.formula.specs.declared.Share.{Share}
use Rattle.formula.specs.declared.Share.TheVariants.{Forced, Driver, Control}
use Rattle.formula.specs.declared.Side.{Side}
use Rattle.formula.specs.declared.Side.TheVariants.{Pins, Outputs}
use Rattle.netlist.specs.declared.Kind.{Kind}
use Rattle.netlist.specs.declared.Kind.TheVariants.{Simple, Parity, Mux}
use Rattle.formula.specs.Formula.{Part, literal, is_sure, clause_of, node_variable, gate_clauses}
use Rattle.formula.specs.Emission.{
  Token,
  ended,
  wants,
  tokens_of,
  code_run,
  stored_at,
  share_run,
  cube_run,
  pair_of_pins,
  mux_run,
  shares_run,
  control_run,
  parts_run,
  late_run,
  simple_run,
  choice_run,
}
use Rattle.formula.specs.Late.{
  file_in,
  shape_in,
  slopes_in,
  nodes_in,
  pairs_count,
  part_run,
  asked_by,
  node_late_in,
  pin_late,
  entry_in,
  Within,
  late_at,
  asked_at,
  control_in,
  drivers_late,
  outputs_late,
  Slices,
  Ready,
  RailAsks,
  Asking,
  Served,
  Long,
  kept_by,
  Reads,
}
use Rattle.formula.proofs.Late.{
  halved,
  late-sure,
  late-run,
  asked-node,
  one-literal,
  two-literals,
  clause-run,
}
use Rattle.formula.proofs.Gates.{pin_run, simple-tokens, parity-tokens, mux-tokens}

-- ---- reading

-- one of the entries that are served
module _ {l : Source} {side : Side} {first count t : ℕ} (i : ℕ)
    (s : Served l side first count t) (h : i < count) where
  pub within-read : Within (shape_in l) side (first + i)
  within-read = s.within (first + i) (omega arith) (omega arith)

  pub asks_read : {node time : ℕ} → node ≡ (entry_in l side (first + i)).driver →
      time ≡ t - (entry_in l side (first + i)).delay → Asking l node time
  asks_read e f = rw (e, f) (s.asks (first + i) (omega arith) (omega arith))

-- what was found of the starts of so many rails
pub ready_by : {l : Source} {starts : List ℕ} {rails : ℕ} → Slices l → rails ≡ rail_count (slopes_in l) (nodes_in l) →
    Begins (pairs_in (take (pairs_count l * 2) l.table.now)) starts rails → Ready l starts
ready_by {l} {starts} s e b =
    record {
      slices = s;
      begins = subst (λ (n : ℕ). Begins (pairs_in (take (pairs_count l * 2) l.table.now)) starts n) e b;
    }

-- a rail of a node that is asked for
rail-small : (slopes : Slopes) (node nodes rail : ℕ) → node < nodes → Memᴰ rail (rails_of slopes node) →
    rail < rail_count slopes nodes
rail-small alike node nodes rail h (Memᴰ.tail none) = elim none [ ]
rail-small (apart falls) node nodes rail h (Memᴰ.tail (Memᴰ.tail none)) = elim none [ ]
rail-small alike node nodes rail h (Memᴰ.head e) = omega arith
rail-small (apart falls) node nodes rail h (Memᴰ.head e) = omega arith
rail-small (apart falls) node nodes rail h (Memᴰ.tail (Memᴰ.head e)) = omega arith

pub rail-asks : {l : Source} {starts : List ℕ} {node t : ℕ} → Ready l starts → Asking l node t →
    (rail : ℕ) → Memᴰ rail (rails_of (slopes_in l) node) → RailAsks l starts node rail t
rail-asks {l} {starts} {node} ready asks rail m =
    let h : node < nodes_in l = omega (arith, asks.node-has, ready.slices.tops-all) in
    record {
      slices = ready.slices;
      bounds = begins-at _ ready.begins (rail-small (slopes_in l) node (nodes_in l) rail h m);
      node-has = asks.node-has;
      listed = asks.listed rail m;
    }

-- its rail where there is one, and its rails where there are two
pub rail-single : {slopes : Slopes} (node : ℕ) → slopes ≡ alike → Memᴰ node (rails_of slopes node)
rail-single node e = rw e (Memᴰ.head refl)

pub rail-fall : {slopes : Slopes} {falls : List ℕ} (node : ℕ) → slopes ≡ apart falls →
    Memᴰ (node * 2) (rails_of slopes node)
rail-fall node e = rw e (Memᴰ.head refl)

pub rail-rise : {slopes : Slopes} {falls : List ℕ} (node : ℕ) → slopes ≡ apart falls →
    Memᴰ (node * 2 + 1) (rails_of slopes node)
rail-rise node e = rw e (Memᴰ.tail (Memᴰ.head refl))

-- two rails a node at most
pub rails-few : (slopes : Slopes) (count : ℕ) → rail_count slopes count ≤ count * 2
rails-few alike count = omega arith
rails-few (apart falls) count = omega arith

-- ---- storing

module _ (nodes lates : List ℕ) (w : Long nodes lates) (i : ℕ) (h : i < 64) where
  -- what was stored is found
  stored-new : (slopes : Slopes) (l : Source) (node t : ℕ) →
      stored_at slopes (set nodes i (asked_by slopes l node t).node)
      (kept_by slopes lates i (asked_by slopes l node t)) i
      ≡ asked_by slopes l node t
  stored-new alike l node t =
      let a = asked_by alike l node t in
      rw (
        get_or-set_same nodes i a.node 0 (omega (arith, w.nodes-long)),
        get_or-set_same lates i a.late 0 (omega (arith, w.lates-long)),
      )
  stored-new (apart falls) l node t =
      let a = asked_by (apart falls) l node t in
      let first = set lates (i * 2) a.late in
      let long : i * 2 + 1 < length first =
      omega (arith, w.lates-long, length-set lates (i * 2) a.late) in
      rw (
        get_or-set_same nodes i a.node 0 (omega (arith, w.nodes-long)),
        get_or-set_other first (i * 2 + 1) (i * 2) a.more 0 (λ e. absurd (omega arith)),
        get_or-set_same lates (i * 2) a.late 0 (omega (arith, w.lates-long)),
        get_or-set_same first (i * 2 + 1) a.more 0 long,
      )

  -- and what was stored of others stays
  stored-old : (slopes : Slopes) (node : ℕ) (a : Asked) (j : ℕ) → j < i →
      stored_at slopes (set nodes i node) (kept_by slopes lates i a) j ≡ stored_at slopes nodes lates j
  stored-old alike node a j k =
      rw (
        get_or-set_other nodes i j node 0 (λ e. absurd (omega arith)),
        get_or-set_other lates i j a.late 0 (λ e. absurd (omega arith)),
      )
  stored-old (apart falls) node a j k =
      let first = set lates (i * 2) a.late in
      rw (
        get_or-set_other nodes i j node 0 (λ e. absurd (omega arith)),
        get_or-set_other first (i * 2 + 1) (j * 2) a.more 0 (λ e. absurd (omega arith)),
        get_or-set_other lates (i * 2) (j * 2) a.late 0 (λ e. absurd (omega arith)),
        get_or-set_other first (i * 2 + 1) (j * 2 + 1) a.more 0 (λ e. absurd (omega arith)),
        get_or-set_other lates (i * 2) (j * 2 + 1) a.late 0 (λ e. absurd (omega arith)),
      )

  kept-long : (slopes : Slopes) (a : Asked) → length (kept_by slopes lates i a) ≡ 128
  kept-long alike a = length-set lates i a.late ∙ w.lates-long
  kept-long (apart falls) a =
      length-set (set lates (i * 2) a.late) (i * 2 + 1) a.more
      ∙ length-set lates (i * 2) a.late
      ∙ w.lates-long

pub reads_none : (l : Source) (side : Side) (first t : ℕ) (nodes lates : List ℕ) → Long nodes lates →
    Reads l side first 0 t nodes lates false
reads_none l side first t nodes lates w =
    record { stored = λ i h. absurd (omega arith); some_is = refl; long = w }

pub reads_more : {l : Source} {side : Side} {first i t : ℕ}
    {nodes lates nodes' lates' : List ℕ} {some : Bool} {node time : ℕ} (asked : Asked) →
    Reads l side first i t nodes lates some → i < 64 →
    node ≡ (entry_in l side (first + i)).driver →
    time ≡ t - (entry_in l side (first + i)).delay → asked ≡ asked_by (slopes_in l) l node time →
    nodes' ≡ set nodes i asked.node → lates' ≡ kept_by (slopes_in l) lates i asked →
    Reads l side first (i + 1) t nodes' lates' (some || eqb asked.late 1)
reads_more {l} {side} {first} {i} {t} {nodes} {lates} {nodes'} {lates'} {some} asked r h d e c
    n m =
    let f : asked ≡ asked_at l side t (first + i) = c ∙ ap₂ (asked_by (slopes_in l) l) d e in
    let test : ℕ → Bool = λ entry. any is_sure (late_at l side t entry) in
    record {
      stored = λ j k. each f j k (dec_lt j i);
      some_is =
          ap₂ (λ (a b : Bool). a || b) r.some_is
          (ap (λ (x : Asked). eqb x.late 1) f
          ∙ late-sure l (entry_in l side (first + i)).driver
          (t - (entry_in l side (first + i)).delay) (slopes_in l)
          ∙ sym (one (test (first + i))))
          ∙ sym (ap (any test) (up_from-append first i 1) ∙ any_append test (up_from first i) ((first + i) ∷ []));
      long =
          record {
            nodes-long = ap length n ∙ length-set nodes i asked.node ∙ r.long.nodes-long;
            lates-long = ap length m ∙ kept-long nodes lates r.long i h (slopes_in l) asked;
          };
    }
  where
    one : (b : Bool) → (b || false) ≡ b
    one true = refl
    one false = refl

    each : asked ≡ asked_at l side t (first + i) → (j : ℕ) → j < i + 1 → Dec (j < i) →
        stored_at (slopes_in l) nodes' lates' j ≡ asked_at l side t (first + j)
    each f j k (yes b) =
        ap₂ (λ (x y : List ℕ). stored_at (slopes_in l) x y j) n m
        ∙ stored-old nodes lates r.long i h (slopes_in l) asked.node asked j b
        ∙ r.stored j b
    each f j k (no b) =
        let z : j ≡ i = omega arith in
        ap₂ (λ (x y : List ℕ). stored_at (slopes_in l) x y j) n m
        ∙ ap (λ (x : ℕ). stored_at (slopes_in l) (set nodes i asked.node) (kept_by (slopes_in l) lates i asked) x) z
        ∙ ap (λ (a : Asked). stored_at (slopes_in l) (set nodes i a.node) (kept_by (slopes_in l) lates i a) i) f
        ∙ stored-new nodes lates r.long i h (slopes_in l) l (entry_in l side (first + i)).driver
        (t - (entry_in l side (first + i)).delay)
        ∙ ap (λ (x : ℕ). asked_at l side t (first + x)) (sym z)

pub reads_all : {l : Source} {side : Side} {first i t : ℕ}
    {nodes lates : List ℕ} {some : Bool} (count : ℕ) → Reads l side first i t nodes lates some →
    i ≤ count → count ≤ i → Reads l side first count t nodes lates some
reads_all {l} {side} {first} {i} {t} {nodes} {lates} {some} count r h k =
    let e : i ≡ count = omega arith in
    subst (λ (n : ℕ). Reads l side first n t nodes lates some) e r

-- ---- what was read

-- one run for each number from 0 on, or for each from `first` on
from_first : {B : Type 0} (f g : ℕ → List B) (first a n : ℕ) → ((i : ℕ) → i < a + n → f i ≡ g (first + i)) →
    concat_map f (up_from a n) ≡ concat_map g (up_from (first + a) n)
from_first f g first a zero h = refl
from_first {B} f g first a (suc n) h =
    let e : first + suc a ≡ suc (first + a) = omega arith in
    ap₂ (λ (x y : List B). x ++ y) (h a (omega arith))
    (from_first f g first (suc a) n (λ i k. h i (omega arith)) ∙ ap (λ (m : ℕ). concat_map g (up_from m n)) e)

from_zero : {B : Type 0} (f g : ℕ → List B) (first n : ℕ) → ((i : ℕ) → i < n → f i ≡ g (first + i)) →
    concat_map f (up_from 0 n) ≡ concat_map g (up_from first n)
from_zero f g first n h =
    let e : first + 0 ≡ first = omega arith in
    from_first f g first 0 n (λ i k. h i (omega arith)) ∙ ap (λ (m : ℕ). concat_map g (up_from m n)) e

each-as : {A B : Type 0} (f g : A → List B) → ((x : A) → f x ≡ g x) → (xs : List A) → concat_map f xs ≡ concat_map g xs
each-as f g h [] = refl
each-as {B = B} f g h (x ∷ xs) = ap₂ (λ (a b : List B). a ++ b) (h x) (each-as f g h xs)

runs_of : {A B C : Type 0} (f : B → List C) (g : A → B) (xs : List A) →
    concat_map (λ x. f (g x)) xs ≡ concat_map f (map g xs)
runs_of f g [] = refl
runs_of {C = C} f g (x ∷ xs) = ap (λ (l : List C). f (g x) ++ l) (runs_of f g xs)

-- of the runs of each entry's entries
runs-within : {A B C : Type 0} (f : B → List C) (g : A → List B) (xs : List A) →
    concat_map (λ x. concat_map f (g x)) xs ≡ concat_map f (concat_map g xs)
runs-within f g [] = refl
runs-within {C = C} f g (x ∷ xs) =
    ap (λ (l : List C). concat_map f (g x) ++ l) (runs-within f g xs)
    ∙ sym (concat_map-append f (g x) (concat_map g xs))

-- two numbers at a time
by-twos : {B : Type 0} (f : ℕ → List B) (a n : ℕ) →
    concat_map f (up_from (a * 2) (n * 2)) ≡ concat_map (λ i. f (i * 2) ++ f (i * 2 + 1)) (up_from a n)
by-twos f a zero = refl
by-twos {B} f a (suc n) =
    let e : suc (a * 2) ≡ a * 2 + 1 = omega arith in
    let g : suc (suc (a * 2)) ≡ suc a * 2 = omega arith in
    let m : suc n * 2 ≡ suc (suc (n * 2)) = omega arith in
    ap (λ (k : ℕ). concat_map f (up_from (a * 2) k)) m
    ∙ ap₂ (λ (x y : ℕ). f (a * 2) ++ (f x ++ concat_map f (up_from y (n * 2)))) e g
    ∙ ap (λ (x : List B). f (a * 2) ++ (f (a * 2 + 1) ++ x)) (by-twos f (suc a) n)
    ∙ sym (append_assoc (f (a * 2)) (f (a * 2 + 1)) (concat_map (λ i. f (i * 2) ++ f (i * 2 + 1)) (up_from (suc a) n)))

-- the codes of an entry
abbrev codes_run : Asked → List Token
codes_run a = code_run true a.late ++ code_run true a.more

-- all codes, or those of each entry
codes-read : (slopes : Slopes) (nodes lates : List ℕ) (count : ℕ) →
    parts_run lates (rail_count slopes count)
    ≡ concat_map (λ i. codes_run (stored_at slopes nodes lates i)) (up_from 0 count)
codes-read alike nodes lates count =
    each-as _ _ (λ i. sym (append-nil (code_run true (get_or lates i 0)))) (up_from 0 count)
codes-read (apart falls) nodes lates count = by-twos (λ i. code_run true (get_or lates i 0)) 0 count

stored-node : (slopes : Slopes) (nodes lates : List ℕ) (i : ℕ) →
    (stored_at slopes nodes lates i).node ≡ get_or nodes i 0
stored-node alike nodes lates i = refl
stored-node (apart falls) nodes lates i = refl

module _ {l : Source} {side : Side} {first count t : ℕ}
    {nodes lates : List ℕ} {some : Bool} (r : Reads l side first count t nodes lates some) where
  -- what each adds, by what it asks for
  shares-read : (share : Share) (c k : Bool) (own : ℕ) →
      shares_run (slopes_in l) share c k own nodes lates count
      ≡ concat_map (λ e. share_run share c k own (asked_at l side t e)) (up_from first count)
  shares-read share c k own =
      from_zero (λ i. share_run share c k own (stored_at (slopes_in l) nodes lates i))
      (λ e. share_run share c k own (asked_at l side t e)) first count
      (λ i h. ap (share_run share c k own) (r.stored i h))

  -- the clause of their parts, after a head that is not true outright
  late-clause-read : (head : ℕ) (hs : List (Part ℕ)) → code_run false head ≡ concat_map part_run hs →
      any is_sure hs ≡ false →
      late_run head (rail_count (slopes_in l) count) lates some
      ≡ tokens_of (clause_of (hs ++ concat_map (late_at l side t) (up_from first count)))
  late-clause-read head hs e f =
      let late : ℕ → List (Part ℕ) = late_at l side t in
      let entries : List ℕ = up_from first count in
      let s : some ≡ any is_sure (hs ++ concat_map late entries) =
      r.some_is
      ∙ sym (any_append is_sure hs (concat_map late entries)
      ∙ ap (λ (b : Bool). b || any is_sure (concat_map late entries)) f
      ∙ any-concat_map is_sure late entries) in
      let p : parts_run lates (rail_count (slopes_in l) count) ≡ concat_map part_run (concat_map late entries) =
      codes-read (slopes_in l) nodes lates count
      ∙ from_zero (λ i. codes_run (stored_at (slopes_in l) nodes lates i)) (λ n. concat_map part_run (late n)) first
      count
      (λ i h.
      ap codes_run (r.stored i h)
      ∙ late-run l (entry_in l side (first + i)).driver
      (t - (entry_in l side (first + i)).delay) (slopes_in l))
      ∙ runs-within part_run late entries in
      ap₂ (λ (b : Bool) (x : List Token). cond b [] (x ++ (ended ∷ []))) s
      (ap₂ (λ (x y : List Token). x ++ y) e p ∙ sym (concat_map-append part_run hs (concat_map late entries)))
      ∙ clause-run (hs ++ concat_map late entries)

  node-read : (i : ℕ) → i < count → get_or nodes i 0 ≡ (entry_in l side (first + i)).driver
  node-read i h =
      sym (stored-node (slopes_in l) nodes lates i)
      ∙ ap (λ (a : Asked). a.node) (r.stored i h)
      ∙ asked-node l (entry_in l side (first + i)).driver
      (t - (entry_in l side (first + i)).delay) (slopes_in l)

  -- ---- what controls a gate

  -- the pins by whose delays it is asked
  abbrev asking : List Pin
  asking = map (entry_in l side) (up_from first count)

  -- a simple gate's controlling cubes: "-p, driver late, driver is not c"
  simple-control : (c k : Bool) (pair : ℕ) →
      shares_run (slopes_in l) Control c false pair nodes lates count
      ≡ concat_map (control_in l (slopes_in l) pair t) (cubes (Simple c k) asking)
  simple-control c k pair =
      let one : Pin → Cube Pin = λ p. (p, c) ∷ [] in
      let entry = entry_in l side in
      shares-read Control c false pair
      ∙ each-as _ _ (λ e. one-literal l (slopes_in l) t c false pair (entry_in l side e))
      (up_from first count)
      ∙ runs_of (λ p. control_in l (slopes_in l) pair t (one p)) entry (up_from first count)
      ∙ runs_of (control_in l (slopes_in l) pair t) one (map entry (up_from first count))

  -- a multiplexer's, of two pins each
  two-read : (pair i : ℕ) (a : Bool) (j : ℕ) (b : Bool) → i < count → j < count →
      pair_of_pins (slopes_in l) pair nodes lates i a j b
      ≡ control_in l (slopes_in l) pair t
      ((entry_in l side (first + i), a) ∷ (entry_in l side (first + j), b) ∷ [])
  two-read pair i a j b h k =
      ap₂ (λ (x y : Asked). cube_run pair x a y b) (r.stored i h) (r.stored j k)
      ∙ two-literals l (slopes_in l) t pair (entry_in l side (first + i)) a
      (entry_in l side (first + j)) b

-- six runs, one after the other
six-runs : (a b c d e f : List Token) →
    ((a ++ b) ++ (c ++ d)) ++ (e ++ f) ≡ a ++ (b ++ (c ++ (d ++ (e ++ (f ++ [])))))
six-runs a b c d e f = simp (append_assoc, append-nil) refl

-- three entries
three-entries : (f : ℕ → Pin) (first count : ℕ) → count ≡ 3 →
    map f (up_from first count) ≡ f (first + 0) ∷ f (first + 1) ∷ f (first + 2) ∷ []
three-entries f first count n =
    let z : first ≡ first + 0 = omega arith in
    let o : suc first ≡ first + 1 = omega arith in
    let t : suc (suc first) ≡ first + 2 = omega arith in
    ap (λ (m : ℕ). map f (up_from first m)) n
    ∙ ap₂ (λ (a b : ℕ). f first ∷ f a ∷ f b ∷ []) o t
    ∙ ap (λ (a : ℕ). f a ∷ f (first + 1) ∷ f (first + 2) ∷ []) z

module _ {l : Source} {side : Side} {first count t : ℕ}
    {nodes lates : List ℕ} {some : Bool} (r : Reads l side first count t nodes lates some) where
  mux-control : (pair : ℕ) → count ≡ 3 →
      mux_run (slopes_in l) pair nodes lates
      ≡ concat_map (control_in l (slopes_in l) pair t) (cubes Mux (asking r))
  mux-control pair n =
      let zero : 0 < count = omega arith in
      let one : 1 < count = omega arith in
      let two : 2 < count = omega arith in
      let entry : ℕ → Pin = entry_in l side in
      let of : ℕ → Bool → ℕ → Bool → List Token =
      λ p u q v. control_in l (slopes_in l) pair t ((entry (first + p), u) ∷ (entry (first + q), v) ∷ []) in
      ap₂ (λ (x y : List Token). (x ++ (pair_of_pins (slopes_in l) pair nodes lates 0 true 2 false
      ++ pair_of_pins (slopes_in l) pair nodes lates 0 true 2 true)) ++ y)
      (ap₂ (λ (x y : List Token). x ++ y) (two-read r pair 0 false 1 false zero one)
      (two-read r pair 0 false 1 true zero one))
      (ap₂ (λ (x y : List Token). x ++ y) (two-read r pair 1 false 2 false one two)
      (two-read r pair 1 true 2 true one two))
      ∙ ap₂ (λ (x y : List Token). ((of 0 false 1 false ++ of 0 false 1 true) ++ (x ++ y))
      ++ (of 1 false 2 false ++ of 1 true 2 true))
      (two-read r pair 0 true 2 false zero two) (two-read r pair 0 true 2 true zero two)
      ∙ six-runs (of 0 false 1 false) (of 0 false 1 true) (of 0 true 2 false) (of 0 true 2 true) (of 1 false 2 false)
      (of 1 true 2 true)
      ∙ ap (λ (ps : List Pin). concat_map (control_in l (slopes_in l) pair t) (cubes Mux ps))
      (sym (three-entries entry first count n))

  -- kind by kind
  pub control-read : (kind : Kind) (pair : ℕ) → (kind ≡ Mux → count ≡ 3) →
      control_run (slopes_in l) kind pair nodes lates count
      ≡ concat_map (control_in l (slopes_in l) pair t) (cubes kind (asking r))
  control-read (Simple c k) pair m = simple-control r c k pair
  control-read (Parity equal) pair m = refl
  control-read Mux pair m = mux-control pair (m refl)

  -- "-p, or some driver late"
  pub late-drivers : (pair : ℕ) → 0 < pair →
      late_run (pair * 2) (rail_count (slopes_in l) count) lates some ≡ drivers_late l (slopes_in l) pair (asking r) t
  late-drivers pair h =
      late-clause-read r (pair * 2) (literal false pair ∷ []) (rw (le-ltb (pair * 2) 2 (omega arith), halved pair)) refl
      ∙ ap (λ (ps : List (Part ℕ)). tokens_of (clause_of (literal false pair ∷ ps)))
      (runs_of (pin_late l (slopes_in l) t) (entry_in l side) (up_from first count))

-- ---- a gate's own clauses

module _ {l : Source} {first count t : ℕ} {nodes lates : List ℕ}
    {some : Bool} (r : Reads l Pins first count t nodes lates some) where
  -- what each pin adds where no time is asked for
  pins-read : (share : Share) (c k : Bool) (own : ℕ) →
      ((e : ℕ) → share_run share c k own (asked_at l Pins t e)
      ≡ pin_run share c k own (pin_at (file_in l) (shape_in l) e)) →
      shares_run (slopes_in l) share c k own nodes lates count
      ≡ concat_map (pin_run share c k own) (pins_from (file_in l) (shape_in l) first count)
  unfolding pins_from
  pins-read share c k own h =
      shares-read r share c k own
      ∙ each-as _ _ h (up_from first count)
      ∙ runs_of (pin_run share c k own) (pin_at (file_in l) (shape_in l)) (up_from first count)

  -- a simple gate's clauses
  pub simple-read : (c k : Bool) (node : ℕ) →
      simple_run (slopes_in l) c k node nodes lates count
      ≡ tokens_of (gate_clauses node_variable (Simple c k) (pins_from (file_in l) (shape_in l) first count) node)
  simple-read c k node =
      let pin = pin_at (file_in l) (shape_in l) in
      ap₂ (λ (x y : List Token). ((x ++ y) ++ (wants (not k, node + 1) ∷ [])) ++ (ended ∷ []))
      (pins-read Forced c k (node + 1)
      (λ e.
      ap (λ (n : ℕ). wants (not c, n + 1) ∷ wants (k, node + 1) ∷ ended ∷ [])
      (asked-node l (pin e).driver (t - (pin e).delay) (slopes_in l))))
      (pins-read Driver c k (node + 1)
      (λ e. ap (λ (n : ℕ). wants (c, n + 1) ∷ []) (asked-node l (pin e).driver (t - (pin e).delay) (slopes_in l))))
      ∙ simple-tokens c k node (pins_from (file_in l) (shape_in l) first count)

  -- a parity gate's clauses, and a multiplexer's
  driver-read : (i : ℕ) → i < count → get_or nodes i 0 ≡ driver_at (file_in l) (shape_in l) (first + i)
  unfolding pin_at
  driver-read i h = node-read r i h

  first_read : 0 < count → get_or nodes 0 0 ≡ driver_at (file_in l) (shape_in l) first
  first_read h = let e : first + 0 ≡ first = omega arith in driver-read 0 h ∙ ap (driver_at (file_in l) (shape_in l)) e

  pub parity-read : (equal : Bool) (node : ℕ) → count ≡ 2 →
      choice_run (get_or nodes 0 0) (get_or nodes 1 0) (get_or nodes 1 0) true equal (not equal) node
      ≡ tokens_of (gate_clauses node_variable (Parity equal) (pins_from (file_in l) (shape_in l) first count) node)
  parity-read equal node n =
      parity-tokens (file_in l) (shape_in l) first count node equal (first_read (omega arith))
      (driver-read 1 (omega arith)) n

  pub mux-read : (node : ℕ) → count ≡ 3 →
      choice_run (get_or nodes 0 0) (get_or nodes 1 0) (get_or nodes 2 0) false true true node
      ≡ tokens_of (gate_clauses node_variable Mux (pins_from (file_in l) (shape_in l) first count) node)
  mux-read node n =
      mux-tokens (file_in l) (shape_in l) first count node (first_read (omega arith)) (driver-read 1 (omega arith))
      (driver-read 2 (omega arith)) n

-- ---- outputs

-- "some output is late at T"
pub late-outputs : {l : Source} {target : ℕ} {nodes lates : List ℕ}
    {some : Bool} {codes : ℕ} → Reads l Outputs 0 (shape_in l).outputs target nodes lates some →
    codes ≡ rail_count (slopes_in l) (shape_in l).outputs → late_run 0 codes lates some ≡ outputs_late l target
unfolding netlist_at
late-outputs {l} {target} {lates = lates} {some} r n =
    let z : target - 0 ≡ target = omega arith in
    let output : ℕ → ℕ = output_at (file_in l) (shape_in l) in
    ap (λ (c : ℕ). late_run 0 c lates some) n
    ∙ late-clause-read r 0 [] refl refl
    ∙ ap (λ (ps : List (Part ℕ)). tokens_of (clause_of ps))
    (each-as _ _ (λ e. ap (node_late_in l (slopes_in l) (output_at (file_in l) (shape_in l) e)) z)
    (up_from 0 (shape_in l).outputs)
    ∙ runs_of (λ o. node_late_in l (slopes_in l) o target) output (up_from 0 (shape_in l).outputs))
