-- What the functions on the lent table say: its numbers as pairs, what a search in it finds, times as marks, what asks
-- for a pair where the pairs after it are known, and the pins of each node in chains. Interface: none of it; it serves
-- the functions under `table` and `place`.
use Rattle.std.specs.Prelude.{◌≡◌, ◌⊎◌, ℕ, suc, ◌+◌, ◌-◌, ◌*◌, ◌/◌, ◌%◌, ◌^◌, ◌≤◌, ◌<◌, max, length, get_or, drop}
use mathlib.Core.List.{List, [], ◌∷◌, Memᴰ}
use Rattle.netlist.specs.declared.Shape.{Shape}
use Rattle.netlist.specs.Netlist.{Slopes, alike, apart}
use Rattle.netlist.specs.File.{first_at, count_at, driver_at, delay_at, netlist_at}
use Rattle.settle.specs.Steps.{latest}
use Rattle.std.specs.Prelude.{Option, Some, None}
use Rattle.pairs.specs.declared.Span.{Span}
use Rattle.pairs.specs.Pairs.{flat_pairs}

-- ---- numbers as pairs

-- two numbers a pair; an odd last number is none
unfoldable pub pairs_in : List ℕ → List (ℕ × ℕ)
pairs_in [] = []
pairs_in (a ∷ []) = []
pairs_in (a ∷ b ∷ l) = (a, b) ∷ pairs_in l

-- pair number k of a list
abbrev pub pair_at : List (ℕ × ℕ) → ℕ → ℕ × ℕ
pair_at l k = get_or l k (0, 0)

-- a pair as one number: the order of the pairs is that of their keys
abbrev pub key_of : ℕ × ℕ → ℕ
key_of x = x.0 * 4294967296 + x.1

-- the keys rise
pub record Sorted (l : List (ℕ × ℕ)) : Type 0 where
  pub up : (j k : ℕ) → j < k → k < length l → key_of (pair_at l j) < key_of (pair_at l k)
  pub small : (k : ℕ) → (pair_at l k).1 < 4294967296

-- more than any top is, and less than a time may be in a key
abbrev pub far_time : ℕ
far_time = 1000000

-- ---- what a search finds

-- from `low` to `high` pairs stand before the key
pub record Searching (l : List (ℕ × ℕ)) (key low high : ℕ) : Type 0 where
  pub upto : low ≤ high
  pub within : high ≤ length l
  pub before : (k : ℕ) → k < low → key_of (pair_at l k) < key
  pub after : (k : ℕ) → high ≤ k → k < length l → key ≤ key_of (pair_at l k)

-- r pairs stand before the key
pub record Precede (l : List (ℕ × ℕ)) (key r : ℕ) : Type 0 where
  pub within : r ≤ length l
  pub before : (k : ℕ) → k < r → key_of (pair_at l k) < key
  pub after : (k : ℕ) → r ≤ k → k < length l → key ≤ key_of (pair_at l k)

-- ---- times marked in words of 64 bits

-- bit number k of a word
abbrev pub bit_at : ℕ → ℕ → ℕ
bit_at word k = word / 2 ^ k % 2

-- time t is marked
pub record Marked (marks : List ℕ) (t : ℕ) : Type 0 where
  pub is : bit_at (get_or marks (t / 64) 0) (t % 64) ≡ 1

-- what was marked stays so, and with it is marked just what has a property
pub record Adds (before : List ℕ) (Has : ℕ → Type 0) (after : List ℕ) : Type 0 where
  pub old : (t : ℕ) → Marked before t → Marked after t
  pub new : (t : ℕ) → Has t → Marked after t
  pub only : (t : ℕ) → Marked after t → Marked before t ⊎ Has t

-- the highest bit of a word is bit k
pub record Highest (word k : ℕ) : Type 0 where
  pub within : k < 64
  pub least : 2 ^ k ≤ word
  pub most : word < 2 ^ suc k

-- so many words are one more than the times up to the target and the largest top take, 64 times a word
abbrev pub Roomy : ℕ → ℕ → Type 0
Roomy target words = (t : ℕ) → t ≤ target → t ≤ latest → t / 64 + 1 < words

-- the marks stand in the words of a span, none of which is above a top's
pub record Spans (top : ℕ) (marks : List ℕ) (span : Span) : Type 0 where
  pub low : (t : ℕ) → Marked marks t → span.low ≤ t / 64
  pub high : (t : ℕ) → Marked marks t → t / 64 < span.high
  pub within : span.high ≤ top / 64 + 1

-- ---- delays by the file and the lent list

-- a pin's larger delay
abbrev pub slow_at : List ℕ → Shape → Slopes → ℕ → ℕ
slow_at file shape alike pin = delay_at file shape pin
slow_at file shape (apart falls) pin = max (delay_at file shape pin) (get_or falls pin 0)

-- the rails of a gate that a pin of it asks by, each with the pin's delay for it; x is the gate's number and the pin's
abbrev pub askers : List ℕ → Shape → Slopes → ℕ × ℕ → List (ℕ × ℕ)
askers file shape alike x = (shape.inputs + x.0, delay_at file shape x.1) ∷ []
askers file shape (apart falls) x =
    ((shape.inputs + x.0) * 2, get_or falls x.1 0)
    ∷ ((shape.inputs + x.0) * 2 + 1, delay_at file shape x.1) ∷ []

-- ---- what asks for the rails of node f at t, where the pairs l are known

-- a property, from 1 to a top
pub record Within (top : ℕ) (Has : ℕ → Type 0) (t : ℕ) : Type 0 where
  pub some : 0 < t
  pub few : t ≤ top
  pub has : Has t

-- a pin of rail n with this delay
pub record PinAsks (l : List (ℕ × ℕ)) (n delay t : ℕ) : Type 0 where
  pub has : Memᴰ (n, t + delay) l

-- a pin, by one of these rails with its delay
pub record LinkAsks (l by : List (ℕ × ℕ)) (t : ℕ) : Type 0 where
  pub rail : ℕ × ℕ
  pub own : Memᴰ rail by
  pub asks : PinAsks l rail.0 rail.1 t

-- an output, at the target
pub record OutputAsks (file : List ℕ) (shape : Shape) (target f t : ℕ) : Type 0 where
  pub same : t ≡ target
  pub output : Memᴰ f (netlist_at file shape).outputs

-- one of `count` pins of gate i, from the file's pin `first` on, as the gate's number and the pin's
pub record GateDrives (file : List ℕ) (shape : Shape) (first count i f : ℕ) (x : ℕ × ℕ) : Type 0 where
  pub pin : ℕ
  pub within : pin < count
  pub drives : driver_at file shape (first + pin) ≡ f
  pub is : x ≡ (i, first + pin)

-- a pin of one of the first i gates
pub record Drives (file : List ℕ) (shape : Shape) (i f : ℕ) (x : ℕ × ℕ) : Type 0 where
  pub gate : ℕ
  pub low : gate < i
  pub own : GateDrives file shape (first_at file shape gate) (count_at file shape gate) gate f x

-- an output, or a pin of these, each the number of its gate and its own
pub data Asks (Pin : ℕ × ℕ → Type 0) (l : List (ℕ × ℕ)) (file : List ℕ) (shape : Shape) (slopes : Slopes)
    (target f t : ℕ) : Type 0 where
  by_output : OutputAsks file shape target f t → Asks Pin l file shape slopes target f t
  by_pin : (x : ℕ × ℕ) → Pin x → LinkAsks l (askers file shape slopes x) t → Asks Pin l file shape slopes target f t

-- a pin that f drives
abbrev pub AsksAll : List (ℕ × ℕ) → List ℕ → Shape → Slopes → ℕ → ℕ → ℕ → Type 0
AsksAll l file shape slopes target f t = Asks (Drives file shape shape.gates f) l file shape slopes target f t

-- ---- the pins that a node drives, in chains of links

-- no netlist has more pins
abbrev pub most_pins : ℕ
most_pins = 2048

-- link number e, counted from 1, is that of pin e - 1, and holds its gate and the number of the next link
pub record Link (links : List ℕ) (e next : ℕ) (x : ℕ × ℕ) : Type 0 where
  pub some : 0 < e
  pub within : e ≤ length links
  pub back : next < e
  pub gate-small : x.0 < 512
  pub pin : e ≡ x.1 + 1
  pub is : get_or links (e - 1) 0 ≡ next * 512 + x.0

-- the links from number e on hold these pins, up to number 0
abbrev pub Chain : List ℕ → ℕ → List (ℕ × ℕ) → Type 0
Chain links e [] = e ≡ 0
Chain links e (x ∷ l) = (next : ℕ) × Link links e next x × Chain links next l

-- they are just the pins that have a property, by the first n links
pub record Holding (Has : ℕ × ℕ → Type 0) (links : List ℕ) (n e : ℕ) : Type 0 where
  pub pins : List (ℕ × ℕ)
  pub chain : Chain links e pins
  pub low : e ≤ n
  pub each : (x : ℕ × ℕ) → Memᴰ x pins → Has x
  pub all : (x : ℕ × ℕ) → Has x → Memᴰ x pins

-- and so for each node, from its head on
pub record Chains (Has : ℕ → ℕ × ℕ → Type 0) (heads links : List ℕ) (n : ℕ) : Type 0 where
  pub of : (f : ℕ) → f < length heads → Holding (Has f) links n (get_or heads f 0)

-- ---- where the pairs of each gate's rail begin among the pairs l, from whose front more are to come

-- by how many pairs stand from there on
pub record EndsAt (l : List (ℕ × ℕ)) (rail : ℕ) (ends : List ℕ) (number : ℕ) : Type 0 where
  pub few : get_or ends number 0 ≤ length l
  pub from : Precede l (rail * 4294967296) (length l - get_or ends number 0)

-- for each rail from `low` on, and for the one after the last; the rails of gates are those from `first` to before
-- `last`
pub record Ended (l : List (ℕ × ℕ)) (first last : ℕ) (ends : List ℕ) (low : ℕ) : Type 0 where
  pub of : (number : ℕ) → low ≤ first + number → first + number ≤ last → EndsAt l (first + number) ends number

-- the table's end holds the pairs l, or they are more than there is room for
abbrev pub Kept : List (ℕ × ℕ) → ℕ → List ℕ → Option ℕ → Type 0
Kept l room table (Some k) = (k + length l ≡ room) × (drop (k * 2) table ≡ flat_pairs l)
Kept l room table None = room < length l

-- a pair is stored at three places, and what is before it stays
pub record Put (before : List ℕ) (k rail time : ℕ) (after : List ℕ) : Type 0 where
  pub len : length after ≡ length before
  pub is : drop (k * 3) after ≡ rail / 2 ∷ rail % 2 ∷ time ∷ drop (k * 3 + 3) before
  pub low : (j : ℕ) → j < k * 3 → get_or after j 0 ≡ get_or before j 0
