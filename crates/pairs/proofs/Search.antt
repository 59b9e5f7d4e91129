-- The search by halves: all before `low` are before the key, none from `high` on is, and half of what is between goes
-- at each turn. A pair of the list stands where the search for its key ends. Laws: key-of, of-key; rising-sorted,
-- sorted-le; searching-starts, searching-between, searching-node; precede-le, node-precede; begins-at; lists-sorted,
-- lists-long, place_found. Assumes nothing.
use mathlib.Core.Path.{◌≡◌, refl, sym, ap, subst, ◌∙◌}
use mathlib.Core.Logic.{inl, inr}
use mathlib.Core.List.{List, [], ◌∷◌, Memᴰ}
use Prim.Native.Nat.{ℕ, zero, suc, ◌+◌, ◌*◌, ◌<◌, ◌≤◌}
use native.Mathlib.Omega.{arith}
use native.Mathlib.Decide.{dec_lt, ℕ_discrete}
use lib.ListN.{length, get_or, take, length-take, get_or-eq_default}
use Rattle.pairs.specs.Pairs.{pair_place}
use Rattle.pairs.specs.Rising.{Before, Rising}
use Rattle.pairs.specs.Table.{pairs_in, pair_at, key_of, Sorted, Searching, Precede}
use Rattle.pairs.specs.Promise.{Lists, Findable, Bounds, Begins}
use Rattle.pairs.proofs.Rising.{above_at}
use Rattle.pairs.proofs.Closed.{place-below, place_at}
use Rattle.pairs.proofs.Flat.{mem-at, pairs-flat, flat-length}

-- ---- keys for the order of pairs

pub key-of : (x y : ℕ × ℕ) → x.1 < 4294967296 → Before x y → key_of x < key_of y
key-of x y h (inl q) = omega arith
key-of x y h (inr q) = omega (arith, q.0, q.1)

pub of-key : (x y : ℕ × ℕ) → y.1 < 4294967296 → key_of x < key_of y → Before x y
of-key x y h q = go (dec_lt x.0 y.0)
  where
    go : Dec (x.0 < y.0) → Before x y
    go (yes l) = inl l
    go (no l) = inr (omega arith, omega arith)

rising-up : (l : List (ℕ × ℕ)) → Rising Before l → ((x : ℕ × ℕ) → Memᴰ x l → x.1 < 4294967296) →
    (j k : ℕ) → j < k → k < length l → key_of (pair_at l j) < key_of (pair_at l k)
rising-up [] r s j k h w = absurd (omega arith)
rising-up (x ∷ l) r s j zero h w = absurd (omega arith)
rising-up (x ∷ l) r s zero (suc k) h w =
    key-of x (pair_at l k) (s x (Memᴰ.head refl))
    (above_at Before x l r.0 (pair_at l k) (mem-at (0, 0) l k (omega arith)))
rising-up (x ∷ l) r s (suc j) (suc k) h w =
    rising-up l r.1 (λ y m. s y (Memᴰ.tail m)) j k (omega arith) (omega arith)

-- a rising list whose times are small has rising keys
pub rising-sorted : (l : List (ℕ × ℕ)) → Rising Before l →
    ((x : ℕ × ℕ) → Memᴰ x l → x.1 < 4294967296) → Sorted l
rising-sorted l r s = record { up = rising-up l r s; small = λ k. at_small k (dec_lt k (length l)) }
  where
    at_small : (k : ℕ) → Dec (k < length l) → (pair_at l k).1 < 4294967296
    at_small k (yes h) = s (pair_at l k) (mem-at (0, 0) l k h)
    at_small k (no h) = rw (get_or-eq_default l (0, 0) {n = k} (omega arith)) (omega arith)

pub sorted-le : {l : List (ℕ × ℕ)} → Sorted l → (j k : ℕ) → j ≤ k → k < length l →
    key_of (pair_at l j) ≤ key_of (pair_at l k)
sorted-le {l} s j k h w = go (ℕ_discrete j k)
  where
    go : Dec (j ≡ k) → key_of (pair_at l j) ≤ key_of (pair_at l k)
    go (yes e) = rw e (omega arith)
    go (no e) = omega (arith, s.up j k (omega arith) w)

-- ---- the loop

pub searching-starts : (l : List (ℕ × ℕ)) (key n : ℕ) → n ≡ length l → Searching l key 0 n
searching-starts l key n e =
    record {
      upto = omega arith;
      within = omega arith;
      before = λ k h. absurd (omega arith);
      after = λ k h w. absurd (omega arith);
    }

-- fewer pairs stand before a smaller key
pub precede-le : {l : List (ℕ × ℕ)} {low high j k : ℕ} → Precede l low j → Precede l high k → low ≤ high → j ≤ k
precede-le {j = j} {k = k} p q h = go (dec_lt k j)
  where
    go : Dec (k < j) → j ≤ k
    go (yes i) = absurd (omega (arith, p.before k i, q.after k (omega arith) (omega (arith, p.within))))
    go (no i) = omega arith

-- a key between two stands between where they do
pub searching-between : {l : List (ℕ × ℕ)} {low high j k : ℕ} (key : ℕ) → Precede l low j → Precede l high k →
    low ≤ key → key ≤ high → Searching l key j k
searching-between key p q a b =
    record {
      upto = precede-le p q (omega arith);
      within = q.within;
      before = λ i h. omega (arith, p.before i h);
      after = λ i h w. omega (arith, q.after i h w);
    }

-- the pairs of a node stand from where they begin to where those of the next do
pub searching-node : {l : List (ℕ × ℕ)} {starts : List ℕ} (node time : ℕ) → time < 4294967296 →
    Bounds l starts node → Searching l (node * 4294967296 + time) (get_or starts node 0) (get_or starts (node + 1) 0)
searching-node node time h w =
    searching-between (node * 4294967296 + time) w.low w.high (omega arith) (omega arith)

pub begins-at : {l : List (ℕ × ℕ)} {starts : List ℕ} {nodes : ℕ} (node : ℕ) → Begins l starts nodes → node < nodes →
    Bounds l starts node
begins-at node w h =
    record { room = omega (arith, w.room); low = w.at node (omega arith); high = w.at (node + 1) (omega arith) }

-- a pair among those of its node, by its time
pub node-precede : {l : List (ℕ × ℕ)} {starts : List ℕ} (node time k : ℕ) → Sorted l → Bounds l starts node →
    get_or starts node 0 ≤ k → k < get_or starts (node + 1) 0 → (pair_at l k).1 ≡ time →
    Precede l (node * 4294967296 + time) k
node-precede {l} node time k s w low high e =
    let within : k < length l = omega (arith, w.high.within) in
    let same : key_of (pair_at l k) ≡ node * 4294967296 + time =
    omega (arith, w.low.after k low within, w.high.before k high, s.small k)
    in
    record {
      within = omega arith;
      before = λ j h. omega (arith, s.up j k h within);
      after = λ j h i. omega (arith, sorted-le s k j h i);
    }

-- ---- the place of a pair

-- a pair of the list stands where the search for its key ends
found_at : {l : List (ℕ × ℕ)} (node time r k : ℕ) → Sorted l → Precede l (key_of (node, time)) r → k < length l →
    pair_at l k ≡ (node, time) → r ≡ k
found_at {l} node time r k s p h e = go (ap key_of e) (dec_lt k r) (dec_lt r k)
  where
    go : key_of (pair_at l k) ≡ key_of (node, time) → Dec (k < r) → Dec (r < k) → r ≡ k
    go q (yes a) b = absurd (omega (arith, p.before k a))
    go q (no a) (yes b) = absurd (omega (arith, s.up r k b h, p.after r (omega arith) (omega arith)))
    go q (no a) (no b) = omega arith

-- the pairs of a table that lists them, as its numbers say them
lists-in : {table : List ℕ} {count : ℕ} {pairs : List (ℕ × ℕ)} → Lists table count pairs →
    pairs_in (take (count * 2) table) ≡ pairs
lists-in {pairs = pairs} w = ap pairs_in w.is ∙ pairs-flat pairs

pub lists-sorted : {table : List ℕ} {count : ℕ} {pairs : List (ℕ × ℕ)} → Lists table count pairs →
    Sorted (pairs_in (take (count * 2) table))
lists-sorted {pairs = pairs} w = rw (lists-in w) (rising-sorted pairs w.rising w.times-small)

-- the table is long enough for the pairs that it lists
pub lists-long : {table : List ℕ} {count : ℕ} {pairs : List (ℕ × ℕ)} → Lists table count pairs →
    count * 2 ≤ length table
lists-long {table} {count} {pairs} w =
    omega (arith, length-take (count * 2) table, ap length w.is, flat-length pairs, w.all)

-- the search for a listed pair's key ends at the pair's place, whatever list of pairs the table is taken for
pub place_found : {table : List ℕ} {count node time : ℕ} (r : ℕ) → Findable table count node time →
    Precede (pairs_in (take (count * 2) table)) (node * 4294967296 + time) r →
    (pairs : List (ℕ × ℕ)) → Lists table count pairs → r ≡ pair_place node time pairs
place_found {table} {count} {node} {time} r w p pairs v =
    let same : w.pairs ≡ pairs = sym (lists-in w.lists) ∙ lists-in v in
    let m : Memᴰ (node, time) pairs = subst (λ (l : List (ℕ × ℕ)). Memᴰ (node, time) l) same w.here in
    found_at node time r (pair_place node time pairs) (rising-sorted pairs v.rising v.times-small)
    (rw (lists-in v) at p) (place-below node time pairs m) (place_at node time pairs (0, 0) m)
