-- From two numbers a pair to three, in place, from the last pair down: pair k is read at 2k and stored at 3k, which no
-- pair still to be read has reached. Laws: spreading-starts, spreading-more, spreading-ends;
-- spread-single, spread-room. Assumes nothing.
use mathlib.Core.Path.{◌≡◌, refl, sym, ap, ap₂, ◌∙◌}
use mathlib.Core.List.{List, [], ◌∷◌, ◌++◌}
use Prim.Native.Nat.{ℕ, zero, suc, ◌+◌, ◌*◌, ◌-◌, ◌/◌, ◌%◌, ◌<◌, ◌≤◌}
use native.Mathlib.Omega.{arith}
use lib.ListN.{length, get_or, take, drop, replicate, drop_of_length-le}
use lib.Seq.{get_or-take, drop-cons, drop_at, drop-drop, take_at, length-take-le}
use Rattle.netlist.specs.Netlist.{Slopes, alike, apart}
use Rattle.pairs.specs.Pairs.{flat_pairs, lent_pairs, pair_numbers, table_holds}
use Rattle.pairs.specs.Table.{pairs_in, pair_at, Put}
use Rattle.pairs.specs.Promise.{Spread}
use Rattle.pairs.proofs.Flat.{pairs-flat, pairs-length, pairs-at, flat-length}

-- pairs from k on are stored, those before it are still to be read
pub record Spreading (l : List (ℕ × ℕ)) (table₀ table : List ℕ) (count k : ℕ) : Type 0 where
  pub few : k ≤ count
  pub all : count ≡ length l
  pub fits : count * 3 ≤ length table₀
  pub len : length table ≡ length table₀
  pub nodes : (j : ℕ) → j < k → get_or table (j * 2) 0 ≡ (pair_at l j).0
  pub times : (j : ℕ) → j < k → get_or table (j * 2 + 1) 0 ≡ (pair_at l j).1
  pub is : drop (k * 3) table ≡ lent_pairs (apart []) (drop k l) ++ drop (count * 3) table₀

pub spreading-starts : (table : List ℕ) (count : ℕ) → count * 3 ≤ length table →
    Spreading (pairs_in (take (count * 2) table)) table table count count
unfolding lent_pairs
spreading-starts table count h =
    let part = take (count * 2) table in
    let long : length (take (count * 2) table) ≡ count * 2 = length-take-le (count * 2) table (omega arith) in
    let all : count ≡ length (pairs_in (take (count * 2) table)) = omega (arith, pairs-length part) in
    record {
      few = omega arith;
      all = all;
      fits = h;
      len = refl;
      nodes =
          λ j l.
          sym (get_or-take (count * 2) table (j * 2) 0 (omega arith))
          ∙ sym (ap (λ (x : ℕ × ℕ). x.0) (pairs-at part j (omega arith)));
      times =
          λ j l.
          sym (get_or-take (count * 2) table (j * 2 + 1) 0 (omega arith))
          ∙ sym (ap (λ (x : ℕ × ℕ). x.1) (pairs-at part j (omega arith)));
      is =
          let none : drop count (pairs_in (take (count * 2) table)) ≡ [] =
          drop_of_length-le (pairs_in part) {i = count} (omega arith)
          in
          rw none refl;
    }

module _ {l : List (ℕ × ℕ)} {table₀ table : List ℕ} {count k : ℕ} (w : Spreading l table₀ table count k) where
  pub spreading-more : (rail time : ℕ) {after : List ℕ} → 0 < k → rail ≡ get_or table ((k - 1) * 2) 0 →
      time ≡ get_or table ((k - 1) * 2 + 1) 0 → Put table (k - 1) rail time after →
      Spreading l table₀ after count (k - 1)
  unfolding lent_pairs
  spreading-more rail time {after} h r t put =
      let a : rail ≡ (pair_at l (k - 1)).0 = r ∙ w.nodes (k - 1) (omega arith) in
      let b : time ≡ (pair_at l (k - 1)).1 = t ∙ w.times (k - 1) (omega arith) in
      let e : (k - 1) * 3 + 3 ≡ k * 3 = omega arith in
      let f : suc (k - 1) ≡ k = omega arith in
      let here : drop (k - 1) l ≡ pair_at l (k - 1) ∷ drop k l =
      drop-cons l (k - 1) (0, 0) (omega (arith, w.few, w.all))
      ∙ ap (λ (n : ℕ). pair_at l (k - 1) ∷ drop n l) f
      in
      record {
        few = omega (arith, w.few);
        all = w.all;
        fits = w.fits;
        len = put.len ∙ w.len;
        nodes = λ j i. put.low (j * 2) (omega arith) ∙ w.nodes j (omega arith);
        times = λ j i. put.low (j * 2 + 1) (omega arith) ∙ w.times j (omega arith);
        is =
            put.is
            ∙ ap (λ (n : ℕ). rail / 2 ∷ rail % 2 ∷ time ∷ drop n table) e
            ∙ ap (λ (x : List ℕ). rail / 2 ∷ rail % 2 ∷ time ∷ x) w.is
            ∙ ap₂
            (λ (x y : ℕ). x / 2 ∷ x % 2 ∷ y ∷ (lent_pairs (apart []) (drop k l) ++ drop (count * 3) table₀)) a b
            ∙ ap (λ (x : List (ℕ × ℕ)). lent_pairs (apart []) x ++ drop (count * 3) table₀) (sym here);
      }

-- the lent table does not depend on the delays
lent_same : (falls other : List ℕ) (l : List (ℕ × ℕ)) → lent_pairs (apart falls) l ≡ lent_pairs (apart other) l
unfolding lent_pairs
lent_same falls other [] = refl
lent_same falls other (x ∷ l) = ap (λ (t : List ℕ). x.0 / 2 ∷ x.0 % 2 ∷ x.1 ∷ t) (lent_same falls other l)

-- zeros from a place on
drop-zeros : (n m : ℕ) → drop {A = ℕ} n (replicate m 0) ≡ replicate (m - n) 0
drop-zeros zero m = let e : m ≡ m - 0 = omega arith in ap (λ (k : ℕ). replicate {A = ℕ} k 0) e
drop-zeros (suc n) zero = let e : 0 ≡ 0 - suc n = omega arith in ap (λ (k : ℕ). replicate {A = ℕ} k 0) e
drop-zeros (suc n) (suc m) =
    let e : m - n ≡ suc m - suc n = omega arith in drop-zeros n m ∙ ap (λ (k : ℕ). replicate {A = ℕ} k 0) e

-- all are stored
pub spreading-ends : {table₀ table : List ℕ} {count k : ℕ} (falls : List ℕ) →
    Spreading (pairs_in (take (count * 2) table₀)) table₀ table count k → k ≡ 0 →
    Spread (apart falls) table₀ count table
spreading-ends {table₀} {table} {count} {k} falls w z =
    record {
      is =
          λ pairs all e.
          let long : length (flat_pairs pairs) ≡ count * 2 = flat-length pairs ∙ omega arith in
          let more : List ℕ = replicate (length table₀ - count * 2) 0 in
          let front : take (count * 2) table₀ ≡ flat_pairs pairs =
          ap (take (count * 2)) e ∙ take_at (flat_pairs pairs) more (count * 2) long
          in
          let same : pairs_in (take (count * 2) table₀) ≡ pairs = ap pairs_in front ∙ pairs-flat pairs in
          let i : count * 3 ≡ count * 2 + count = omega arith in
          let j : length table₀ - count * 2 - count ≡ length table₀ - count * 3 = omega arith in
          let rest : drop (count * 3) table₀ ≡ replicate (length table₀ - count * 3) 0 =
          ap (λ (n : ℕ). drop n table₀) i
          ∙ sym (drop-drop count (count * 2) table₀)
          ∙ ap (λ (x : List ℕ). drop count (drop (count * 2) x)) e
          ∙ ap (drop count) (drop_at (flat_pairs pairs) more (count * 2) long)
          ∙ drop-zeros count (length table₀ - count * 2)
          ∙ ap (λ (n : ℕ). replicate {A = ℕ} n 0) j
          in
          let start : drop (k * 3) table ≡ table = ap (λ (n : ℕ). drop (n * 3) table) z in
          let first : drop k (pairs_in (take (count * 2) table₀)) ≡ pairs =
          ap (λ (n : ℕ). drop n (pairs_in (take (count * 2) table₀))) z ∙ same
          in
          sym start
          ∙ w.is
          ∙ ap₂ (λ (x y : List ℕ). x ++ y) (ap (lent_pairs (apart [])) first ∙ lent_same [] falls pairs) rest;
    }

-- where a pair has two numbers, nothing is to be done
pub spread-single : (table : List ℕ) (count : ℕ) → Spread alike table count table
unfolding lent_pairs
spread-single table count = record { is = λ pairs all is. is }

-- what a table holds fits
pub spread-room : (slopes : Slopes) (count room : ℕ) → count ≤ table_holds (pair_numbers slopes) room →
    count * pair_numbers slopes ≤ room
spread-room alike count room h = omega arith
spread-room (apart falls) count room h = omega arith
