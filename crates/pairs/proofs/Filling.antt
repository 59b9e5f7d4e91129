-- The loop that fills the table: its end holds the pairs of the least set from the key (f, b) on, so that at the end it
-- holds all, and where one more is asked for and no room is left there are too many. Laws: filling-starts,
-- filling-top, filling-sorted, filling-ended, filling-asks, filling-asked, filling-down, filling-ends, filling-more,
-- filling-full. Assumes nothing.
use mathlib.Core.Path.{◌≡◌, refl, sym, ap, ap₂, subst, ◌∙◌}
use mathlib.Core.Logic.{◌⊎◌, inl, inr}
use mathlib.Core.List.Memᴰ
use mathlib.Core.List.{
  List,
  [],
  ◌∷◌,
  Memᴰ,
}
use Prim.Native.Nat.{ℕ, ◌+◌, ◌*◌, ◌-◌, ◌/◌, ◌<◌, ◌≤◌, min}
use native.Mathlib.Omega.{arith}
use native.Mathlib.Decide.{dec_le}
use lib.ListN.{length, get_or, set, take, drop, drop_of_length-le}
use Rattle.netlist.specs.declared.Shape.{Shape}
use Rattle.netlist.specs.Netlist.{Netlist, Cell, Slopes}
use Rattle.netlist.specs.File.{netlist_at, circuit_with}
use Rattle.netlist.specs.Holds.{Given, Sloped}
use Rattle.settle.specs.Steps.{latest}
use Rattle.netlist.proofs.Entries.{net-inputs}
use Rattle.pairs.specs.Rails.{rail_count, node_of, rail_cells, rail_outputs}
use Rattle.pairs.specs.Pairs.{flat_pairs, pairs_for, pair_list, rail_top}
use Rattle.pairs.specs.Rising.{Before, Rising}
use Rattle.pairs.specs.Table.{pairs_in, key_of, Sorted, Within, AsksAll, Ended}
use Rattle.pairs.specs.Promise.{Tops, pairs_at}
use Rattle.pairs.proofs.Least.{is-pair}
use Rattle.pairs.proofs.Rails.{node-below, rail-up}
use Rattle.pairs.proofs.Rising.{before-irreflexive, before-transitive, above_of, pairs-rising}
use Rattle.pairs.proofs.Unique.{rising-short, pairs-unique, asked-pairs}
use Rattle.pairs.proofs.Flat.{part, pairs-flat}
use Rattle.pairs.proofs.Search.{of-key, rising-sorted}
use Rattle.pairs.proofs.Topping.{tops-late, top_read}
use Rattle.pairs.proofs.Ending.{ended-starts, ended-more, ended-down}
use Rattle.pairs.proofs.Step.{first_rail, last_rail, AskedAt, down, outputs-high, facts-of, stepped, asked_of}

-- the pairs in the table's end
abbrev pub found_in : List ℕ → ℕ → List (ℕ × ℕ)
found_in table at = pairs_in (take (length table - at * 2) (drop (at * 2) table))

pub record Filling (file : List ℕ) (shape : Shape) (arrivals : List ℕ) (slopes : Slopes) (target : ℕ)
    (table₀ table ends : List ℕ) (at f b : ℕ) : Type 0 where
  pub done : List (ℕ × ℕ)
  pub len : length table ≡ length table₀
  pub even : length table₀ / 2 * 2 ≡ length table₀
  pub is : drop (at * 2) table ≡ flat_pairs done
  pub room : at + length done ≡ length table₀ / 2
  pub node : first_rail shape slopes ≤ f
  pub nodes : f ≤ last_rail shape slopes
  pub bound : b ≤ rail_top (circuit_with file shape arrivals slopes) f + 1
  pub rising : Rising Before done
  pub sound : (x : ℕ × ℕ) → Memᴰ x done → AskedAt file shape arrivals slopes target x.0 x.1
  pub low : (x : ℕ × ℕ) → Memᴰ x done → key_of (f, b) ≤ key_of x
  pub full : (n s : ℕ) → AskedAt file shape arrivals slopes target n s → key_of (f, b) ≤ key_of (n, s) →
      Memᴰ (n, s) done
  pub ended : Ended done (first_rail shape slopes) (last_rail shape slopes) ends (f + 1)

module _ {file : List ℕ} {shape : Shape} {arrivals : List ℕ} (slopes : Slopes) (given : Given file shape arrivals)
    (sloped : Sloped shape slopes) (target : ℕ) where
  abbrev net : Netlist
  net = netlist_at file shape

  abbrev input_rails : ℕ
  input_rails = rail_count slopes (netlist_at file shape).inputs

  abbrev output_rails : List ℕ
  output_rails = rail_outputs slopes (netlist_at file shape).outputs

  abbrev cells : List Cell
  cells = rail_cells slopes (netlist_at file shape).gates

  abbrev top : ℕ → ℕ
  top = rail_top (circuit_with file shape arrivals slopes)

  abbrev A : ℕ → ℕ → Type 0
  A = AskedAt file shape arrivals slopes target

  facts : (n s : ℕ) → A n s →
      (first_rail shape slopes ≤ n) × (n < last_rail shape slopes) × (0 < s) × (s ≤ top n) × (s ≤ latest)
      × (s ≤ target)
  facts = facts-of slopes given sloped target

  small : (n : ℕ) → top n ≤ latest
  small n = tops-late slopes given sloped (node_of slopes n)

  pub filling-starts : (table ends : List ℕ) → length table / 2 * 2 ≡ length table →
      Filling file shape arrivals slopes target table table ends (length table / 2) (last_rail shape slopes) 0
  unfolding flat_pairs
  filling-starts table ends e =
      record {
        done = [];
        len = refl;
        even = e;
        is = drop_of_length-le table {i = length table / 2 * 2} (omega arith);
        room = omega arith;
        node = rail-up slopes shape.inputs (shape.inputs + shape.gates) (omega arith);
        nodes = omega arith;
        bound = omega arith;
        rising = tt;
        sound = λ x m. absurd (Memᴰ.not-nil m);
        low = λ x m. absurd (Memᴰ.not-nil m);
        full = λ n s a h. absurd (omega (arith, (facts n s a).1, (facts n s a).4));
        ended = ended-starts (first_rail shape slopes) (last_rail shape slopes) ends;
      }

  -- the pairs in the table's end are those found
  seen : {table₀ table ends : List ℕ} {at f b : ℕ}
      (w : Filling file shape arrivals slopes target table₀ table ends at f b) →
      found_in table at ≡ w.done
  seen {table = table} {at = at} w = ap pairs_in (part table (at * 2) ∙ w.is) ∙ pairs-flat w.done

  module _ {table₀ table ends : List ℕ} {at f b : ℕ}
      (w : Filling file shape arrivals slopes target table₀ table ends at f b) where
    -- the top of the node below, as it is read, is small
    pub filling-top : {tops : List ℕ} → first_rail shape slopes < f → Tops file shape arrivals slopes tops →
        (x : ℕ) → x ≡ get_or tops (node_of slopes (f - 1)) 0 → x ≤ latest
    filling-top h tops x q =
        (top_read slopes given sloped (node_of slopes (f - 1)) x tops
        (node-below slopes (shape.inputs + shape.gates) (f - 1) (omega (arith, w.nodes))) q).1

    pub filling-sorted : Sorted (found_in table at)
    filling-sorted =
        rw (seen w)
        (rising-sorted w.done w.rising (λ x m. omega (arith, (facts x.0 x.1 (w.sound x m)).4)))

    pub filling-ended : Ended (found_in table at) (first_rail shape slopes) (last_rail shape slopes) ends (f + 1)
    filling-ended = rw (seen w) w.ended

    -- what asks for f from 1 to a top, where the pairs are found from there on, is what is asked of f
    pub filling-asks : (x : ℕ) → x ≤ top f → (t : ℕ) →
        Within x (AsksAll (found_in table at) file shape slopes target (node_of slopes f)) t → A f t × (t < x + 1)
    filling-asks x e t u = (
      asked_of slopes given sloped target w.done f t (rw (seen w) at u.has) w.sound
          (is-pair (rail_count slopes net.inputs) top f t
          (subst (λ (n : ℕ). rail_count slopes n ≤ f) (sym (net-inputs file shape)) w.node) u.some
          (omega (arith, u.few))),
      omega (arith, u.few),
    )

    pub filling-asked : (x : ℕ) → x + 1 ≡ b → (t : ℕ) → A f t → t < x + 1 →
        Within x (AsksAll (found_in table at) file shape slopes target (node_of slopes f)) t
    filling-asked x e t a h =
        record {
          some = (facts f t a).2;
          few = omega arith;
          has =
              rw (seen w)
              (stepped slopes given sloped target w.done f t a λ n r l q.
              w.full n r q (omega (arith, (facts n r q).4, small f, w.bound)));
        }

    -- nothing more of node f
    module _ (none : (s : ℕ) → A f s → s < b → ⊥) where
      -- all that is asked of f and the nodes above it is found
      from-here : (n s : ℕ) → A n s → f ≤ n → Memᴰ (n, s) w.done
      from-here n s a h = go (dec_le (key_of (f, b)) (key_of (n, s)))
        where
          go : Dec (key_of (f, b) ≤ key_of (n, s)) → Memᴰ (n, s) w.done
          go (yes l) = w.full n s a l
          go (no l) =
              let e : n ≡ f = omega (arith, (facts n s a).4, small f, w.bound) in
              absurd (none s (subst (λ (x : ℕ). A x s) e a) (omega arith))

      -- on to the node below, of which nothing is asked for above x, and before whose pairs v stand
      pub filling-down : {tops : List ℕ} → first_rail shape slopes < f → Tops file shape arrivals slopes tops →
          (y x v : ℕ) →
          y ≡ get_or tops (node_of slopes (f - 1)) 0 → x ≡ min y target → f - first_rail shape slopes < length ends →
          v ≡ length w.done →
          Filling file shape arrivals slopes target table₀ table (set ends (f - first_rail shape slopes) v) at (f - 1)
          (x + 1)
      filling-down h tops y x v q i room n =
          let e : y ≡ top (f - 1) =
          (top_read slopes given sloped (node_of slopes (f - 1)) y tops
          (node-below slopes (shape.inputs + shape.gates) (f - 1) (omega (arith, w.nodes))) q).0
          in
          record {
            done = w.done;
            len = w.len;
            even = w.even;
            is = w.is;
            room = w.room;
            node = omega arith;
            nodes = omega (arith, w.nodes);
            bound = omega arith;
            rising = w.rising;
            sound = w.sound;
            low = λ y m. omega (arith, w.low y m, small (f - 1));
            full = λ n s a k. more n s a (omega arith) (dec_le f n);
            ended = ended-down w.ended v n h room (λ z m. omega (arith, w.low z m));
          }
        where
          more : (n s : ℕ) → A n s → key_of (f - 1, min (top (f - 1)) target + 1) ≤ key_of (n, s) → Dec (f ≤ n) →
              Memᴰ (n, s) w.done
          more n s a k (yes l) = from-here n s a l
          more n s a k (no l) =
              let q : n ≡ f - 1 = omega (arith, (facts n s a).4) in
              let r : top n ≡ top (f - 1) = ap top q in
              absurd (omega (arith, (facts n s a).3, (facts n s a).5))

      -- or all are found
      pub filling-ends : f ≤ first_rail shape slopes →
          (at + length (pairs_at file shape arrivals slopes target) ≡ length table₀ / 2)
          × (drop (at * 2) table ≡ flat_pairs (pairs_at file shape arrivals slopes target))
      unfolding pairs_for
      filling-ends h =
          let e : w.done ≡ pair_list input_rails top output_rails target cells =
          pairs-unique input_rails top output_rails target cells (down slopes given sloped target)
          (outputs-high slopes given sloped target) w.done w.rising
          (λ n s. (λ m. w.sound (n, s) m, λ a. from-here n s a (omega (arith, (facts n s a).0))))
          in
          (ap (λ (x : List (ℕ × ℕ)). at + length x) (sym e) ∙ w.room, w.is ∙ ap flat_pairs e)

    -- t is the largest time below b that is asked of f
    module _ (t : ℕ) (found : A f t × (t < b)) where
      longer : Rising Before ((f, t) ∷ w.done)
      longer = (
        above_of Before (f, t) w.done
            (λ x m.
            of-key (f, t) x (omega (arith, (facts x.0 x.1 (w.sound x m)).4))
            (omega (arith, w.low x m, found.1))),
        w.rising,
      )

      sounder : (x : ℕ × ℕ) → Memᴰ x ((f, t) ∷ w.done) → A x.0 x.1
      sounder x m = pick (Memᴰ.cases_cons m)
        where
          pick : (x ≡ (f, t)) ⊎ Memᴰ x w.done → A x.0 x.1
          pick (inl e) = subst (λ (y : ℕ × ℕ). A y.0 y.1) (sym e) found.0
          pick (inr i) = w.sound x i

      -- one more pair
      pub filling-more : ((s : ℕ) → A f s → s < b → s ≤ t) → (table' : List ℕ) → 0 < at →
          length table' ≡ length table → drop ((at - 1) * 2) table' ≡ f ∷ t ∷ drop ((at - 1) * 2 + 2) table →
          Filling file shape arrivals slopes target table₀ table' ends (at - 1) f t
      unfolding flat_pairs
      filling-more most table' h l e =
          let q : (at - 1) * 2 + 2 ≡ at * 2 = omega arith in
          record {
            done = (f, t) ∷ w.done;
            len = l ∙ w.len;
            even = w.even;
            is = e ∙ ap (λ (x : List ℕ). f ∷ t ∷ x) (ap (λ (n : ℕ). drop n table) q ∙ w.is);
            room = omega (arith, w.room);
            node = w.node;
            nodes = w.nodes;
            bound = omega (arith, w.bound, found.1);
            rising = longer;
            sound = sounder;
            low = λ x m. lower x (Memᴰ.cases_cons m);
            full = λ n s a k. more n s a k (dec_le (key_of (f, b)) (key_of (n, s)));
            ended = ended-more w.ended t (omega (arith, (facts f t found.0).4));
          }
        where
          lower : (x : ℕ × ℕ) → (x ≡ (f, t)) ⊎ Memᴰ x w.done → key_of (f, t) ≤ key_of x
          lower x (inl i) = rw i (omega arith)
          lower x (inr i) = omega (arith, w.low x i, found.1)

          more : (n s : ℕ) → A n s → key_of (f, t) ≤ key_of (n, s) → Dec (key_of (f, b) ≤ key_of (n, s)) →
              Memᴰ (n, s) ((f, t) ∷ w.done)
          more n s a k (yes i) = Memᴰ.tail (w.full n s a i)
          more n s a k (no i) =
              let q : n ≡ f = omega (arith, (facts n s a).4, small f, w.bound) in
              let r : s ≡ t = omega (arith, most s (subst (λ (x : ℕ). A x s) q a) (omega arith)) in
              Memᴰ.head (ap₂ (λ (x y : ℕ). (x, y)) q r)

      -- one more pair than there is room for
      pub filling-full : at ≡ 0 → length table₀ / 2 < length (pairs_at file shape arrivals slopes target)
      unfolding pairs_for
      filling-full e =
          let k =
          rising-short Before before-irreflexive before-transitive ((f, t) ∷ w.done)
          (pair_list input_rails top output_rails target cells) longer
          (pairs-rising input_rails top output_rails target cells)
          (λ x m.
          asked-pairs input_rails top output_rails target cells (down slopes given sloped target)
          (outputs-high slopes given sloped target) x.0 x.1 (sounder x m))
          in
          omega (arith, w.room)
