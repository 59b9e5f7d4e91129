-- The loops that fill the table, as they stand between two turns: all pairs of the rails from f on are found; or those
-- of rail f from a bound on, and the marks that are left are the times below the bound that are asked of f. Laws:
-- past-starts, past-below, past-marked, past-ends; finding-past, finding-next, finding-more, finding-full. Assumes
-- nothing.
use mathlib.Core.Path.{◌≡◌, refl, subst}
use mathlib.Core.List.{List, ◌∷◌}
use Prim.Native.Nat.{ℕ, ◌+◌, ◌*◌, ◌-◌, ◌/◌, ◌^◌, ◌<◌, ◌≤◌, min}
use native.Mathlib.Omega.{arith}
use lib.ListN.{length, get_or, set, drop}
use Rattle.netlist.specs.declared.Shape.{Shape}
use Rattle.netlist.specs.Netlist.{Slopes}
use Rattle.netlist.specs.Holds.{Given, Sloped}
use Rattle.pairs.specs.Rails.{node_of}
use Rattle.pairs.specs.Pairs.{flat_pairs}
use Rattle.pairs.specs.declared.Span.{Span}
use Rattle.pairs.specs.Table.{Marked, Adds, Highest, Spans, Within, AsksAll}
use Rattle.pairs.specs.Promise.{Tops, pairs_at}
use Rattle.pairs.proofs.Step.{first_rail, last_rail, AskedAt}
use Rattle.pairs.proofs.Scanning.{
  Scanning,
  scanning-fresh,
  scanning-next,
  scanning-none,
  scanning-clear,
  scanning-found,
  scanning-most,
  scanning-taken,
}
use Rattle.pairs.proofs.Filling.{
  found_in,
  Filling,
  filling-starts,
  filling-asks,
  filling-asked,
  filling-down,
  filling-more,
  filling-full,
  filling-ends,
}

pub record Finding (file : List ℕ) (shape : Shape) (arrivals : List ℕ) (slopes : Slopes) (target : ℕ)
    (table₀ table ends : List ℕ) (at f : ℕ) (marks : List ℕ) (low word bits : ℕ) : Type 0 where
  pub bound : ℕ
  pub filling : Filling file shape arrivals slopes target table₀ table ends at f bound
  pub scanning : Scanning (AskedAt file shape arrivals slopes target f) bound marks low word bits

-- all pairs of the rails from f on are found, and no mark is left
pub record Past (file : List ℕ) (shape : Shape) (arrivals : List ℕ) (slopes : Slopes) (target : ℕ)
    (table₀ table ends : List ℕ) (at f : ℕ) (marks : List ℕ) : Type 0 where
  pub bound : ℕ
  pub filling : Filling file shape arrivals slopes target table₀ table ends at f bound
  pub clear : (t : ℕ) → Marked marks t → ⊥
  pub none : (s : ℕ) → AskedAt file shape arrivals slopes target f s → s < bound → ⊥

module _ {file : List ℕ} {shape : Shape} {arrivals : List ℕ} (slopes : Slopes) (given : Given file shape arrivals)
    (sloped : Sloped shape slopes) (target : ℕ) where
  pub past-starts : (table ends marks : List ℕ) (f : ℕ) → f ≡ last_rail shape slopes →
      length table / 2 * 2 ≡ length table → ((t : ℕ) → Marked marks t → ⊥) →
      Past file shape arrivals slopes target table table ends (length table / 2) f marks
  past-starts table ends marks f i e h =
      rw i
      (record {
        bound = 0;
        filling = filling-starts slopes given sloped target table ends e;
        clear = h;
        none = λ s a l. absurd (omega arith);
      })

  module _ {table₀ table ends : List ℕ} {at f : ℕ} {marks : List ℕ}
      (w : Past file shape arrivals slopes target table₀ table ends at f marks) where
    -- on to the rail below, of which nothing is asked for above x, and before whose pairs v stand
    pub past-below : {tops : List ℕ} (y x v place : ℕ) → first_rail shape slopes < f →
        Tops file shape arrivals slopes tops → y ≡ get_or tops (node_of slopes (f - 1)) 0 → x ≡ min y target →
        place ≡ f - first_rail shape slopes → place < length ends → v ≡ length table₀ / 2 - at →
        Filling file shape arrivals slopes target table₀ table (set ends place v) at (f - 1) (x + 1)
    past-below y x v place h tops q i e room n =
        rw e
        (filling-down slopes given sloped target w.filling w.none h tops y x v q i
        (omega arith) (omega (arith, w.filling.room)))

    -- what is asked of it is marked
    pub past-marked : {ends' marks' : List ℕ} {span : Span} (x node : ℕ) → node ≡ node_of slopes (f - 1) →
        Filling file shape arrivals slopes target table₀ table ends' at (f - 1) (x + 1) →
        Adds marks (Within x (AsksAll (found_in table at) file shape slopes target node)) marks' →
        Spans x marks' span → span.high < length marks' →
        Finding file shape arrivals slopes target table₀ table ends' at (f - 1) marks' span.low span.high 0
    past-marked {marks' = marks'} x node e down more spans r =
        record {
          bound = x + 1;
          filling = down;
          scanning =
              scanning-fresh (AskedAt file shape arrivals slopes target (f - 1)) (x + 1) w.clear
              (subst
              (λ (n : ℕ). Adds marks (Within x (AsksAll (found_in table at) file shape slopes target n)) marks') e
              more)
              (filling-asks slopes given sloped target down x (omega (arith, down.bound)))
              (λ t a l. filling-asked slopes given sloped target down x refl t a l) spans r;
        }

    -- or all are found
    pub past-ends : f ≤ first_rail shape slopes →
        (at + length (pairs_at file shape arrivals slopes target) ≡ length table₀ / 2)
        × (drop (at * 2) table ≡ flat_pairs (pairs_at file shape arrivals slopes target))
    past-ends h = filling-ends slopes given sloped target w.filling w.none h

  -- no bit is left of the word, nor a word before it
  pub finding-past : {table₀ table ends : List ℕ} {at f : ℕ} {marks : List ℕ} {low word : ℕ} →
      Finding file shape arrivals slopes target table₀ table ends at f marks low word 0 → word ≤ low →
      Past file shape arrivals slopes target table₀ table ends at f marks
  finding-past w h =
      record {
        bound = w.bound;
        filling = w.filling;
        clear = scanning-clear w.scanning h;
        none = scanning-none w.scanning h;
      }

  -- on to the word before it
  pub finding-next : {table₀ table ends : List ℕ} {at f : ℕ} {marks : List ℕ} {low word : ℕ} →
      Finding file shape arrivals slopes target table₀ table ends at f marks low word 0 → low < word →
      Finding file shape arrivals slopes target table₀ table ends at f (set marks (word - 1) 0) low (word - 1)
      (get_or marks (word - 1) 0)
  finding-next w h = record { bound = w.bound; filling = w.filling; scanning = scanning-next w.scanning h }

  module _ {table₀ table ends : List ℕ} {at f : ℕ} {marks : List ℕ} {low word bits : ℕ}
      (w : Finding file shape arrivals slopes target table₀ table ends at f marks low word bits) where
    -- the highest bit of the word is bit k
    module _ {k : ℕ} (high : Highest bits k) where
      found : AskedAt file shape arrivals slopes target f (word * 64 + k) × (word * 64 + k < w.bound)
      found = scanning-found w.scanning high (word * 64 + k) refl

      -- one more pair
      pub finding-more : (table' : List ℕ) (rest : ℕ) → 0 < at → length table' ≡ length table →
          drop ((at - 1) * 2) table' ≡ f ∷ (word * 64 + k) ∷ drop ((at - 1) * 2 + 2) table → rest ≡ bits - 2 ^ k →
          Finding file shape arrivals slopes target table₀ table' ends (at - 1) f marks low word rest
      finding-more table' rest h l e q =
          record {
            bound = word * 64 + k;
            filling =
                filling-more slopes given sloped target w.filling (word * 64 + k) found
                (scanning-most w.scanning high (word * 64 + k) refl) table' h l e;
            scanning = scanning-taken w.scanning high (word * 64 + k) refl rest q;
          }

      -- one more than there is room for
      pub finding-full : at ≡ 0 → length table₀ / 2 < length (pairs_at file shape arrivals slopes target)
      finding-full e = filling-full slopes given sloped target w.filling (word * 64 + k) found e
