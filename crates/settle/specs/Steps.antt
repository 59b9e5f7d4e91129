-- What the functions under `evaluate` lean on and what each of them makes, step by step. Serves their contracts alone:
-- Promise says what `evaluate` does, and does not cite it.
use Rattle.std.specs.Prelude.{◌≡◌, Bool, true, false, cond, ℕ, ◌+◌, ◌≤◌, ◌<◌, max, min, eqb, Option, None, Some}
use Rattle.std.specs.Prelude.{List, [], ◌∷◌, ◌++◌, map, length, get_or, drop}
use Rattle.std.specs.Bool.{beq}
use Rattle.netlist.specs.declared.Kind.{Kind}
use Rattle.netlist.specs.Netlist.{Pin, Slopes, alike, apart, delayed, fall_of, pins_for}
use Rattle.netlist.specs.Kinds.{bit}
use Rattle.netlist.specs.declared.circuit.Accepted.{Accepted}
use Rattle.netlist.specs.Accepts.{circuit_in}
use Rattle.netlist.specs.File.{driver_at, pin_at, pins_from}
use Rattle.settle.specs.declared.Signal.{Signal}
use Rattle.settle.specs.declared.Scan.{Scan}
use Rattle.settle.specs.Settling.{gate_value, settles, ready_at, values_of, times_of}
use Rattle.settle.specs.Promise.{bits}

-- ---- a gate's pins, over the lent slices

-- a pin of an accepted circuit
abbrev pub pin_in : Accepted → ℕ → Pin
pin_in a pin = pin_at a.file.now a.shape pin

-- and its pins from number `first` on, so many
abbrev pub pins_in : Accepted → ℕ → ℕ → List Pin
pins_in a first count = pins_from a.file.now a.shape first count

-- a pin's value, by a slice of values
abbrev pub pin_value : List ℕ → Pin → Bool
pin_value values p = eqb (get_or values p.driver 0) 1

-- when a pin is ready, by a slice of times
abbrev pub pin_ready : List ℕ → Pin → ℕ
pin_ready times = ready_at (λ node. get_or times node 0)

-- the signal at a pin
unfoldable pub pin_signal : List ℕ → List ℕ → Pin → Signal
pin_signal values times p = record { value = pin_value values p; at = pin_ready times p }

-- the signal that a gate gives
unfoldable pub gate_signal : List ℕ → List ℕ → Kind → List Pin → Signal
gate_signal values times kind ps =
    record { value = gate_value (pin_value values) kind ps; at = settles (pin_value values) (pin_ready times) kind ps }

-- a pin with its delay for its gate's final value
abbrev pub pin_for : Slopes → Bool → Pin → Pin
pin_for alike value p = p
pin_for (apart falls) true p = p
pin_for (apart falls) false p = delayed (fall_of falls) p

-- the signal that a gate gives by the delays for its own final value
abbrev pub sloped_signal : Slopes → List ℕ → List ℕ → Kind → List Pin → Signal
sloped_signal slopes values times kind ps =
    gate_signal values times kind (pins_for slopes (gate_value (pin_value values) kind ps) ps)

-- a simple gate's pin with the delay that it has if it counts: that for k where it is at c, since the gate then ends at
-- k; that for the opposite where it is not, since it counts only where no pin is at c
abbrev pub simple_pin : Slopes → List ℕ → Bool → Bool → Pin → Pin
simple_pin slopes values c k p = pin_for slopes (beq (beq (pin_value values p) c) k) p

-- the data pin that a multiplexer's select chooses, beside the other one
unfoldable pub chosen_signal : ℕ → Signal → Signal → Signal
chosen_signal select chosen other =
    record {
      value = chosen.value;
      at =
          cond (beq chosen.value other.value)
          (min (max select chosen.at) (max chosen.at other.at)) (max select chosen.at);
    }

-- the signal that a multiplexer gives by its three pins, with the delays for the chosen one's value
abbrev pub passed_signal : Slopes → List ℕ → List ℕ → Pin → Pin → Pin → Signal
passed_signal slopes values times select chosen other =
    let for : Pin → Pin = pin_for slopes (pin_value values chosen) in
    chosen_signal (pin_ready times (for select)) (pin_signal values times (for chosen))
    (pin_signal values times (for other))

-- the earlier of a time and another, where there is another
abbrev pub earlier : Option ℕ → ℕ → ℕ
earlier None time = time
earlier (Some other) time = min other time

-- one pin more, at c or not: when the first pin at c is ready, and when the last of all is
unfoldable pub with_pin : Scan → Bool → ℕ → Scan
with_pin scan controls ready =
    record {
      first = cond controls (Some (earlier scan.first ready)) scan.first;
      last = max scan.last ready;
    }

-- all pins of a simple gate
unfoldable pub scan_of : List ℕ → List ℕ → Bool → List Pin → Scan
scan_of values times c [] = record { first = None; last = 0 }
scan_of values times c (p ∷ ps) =
    with_pin (scan_of values times c ps) (beq (pin_value values p) c) (pin_ready times p)

-- no node settles later: 448 gates in a row, each behind a delay of 999, after the latest arrival; a delay more fits
abbrev pub latest : ℕ
latest = 457551

-- the pins stand in the file, and what drives them is among the first nodes, so many
pub record Wired (a : Accepted) (first count nodes : ℕ) : Type 0 where
  pub within : first + count ≤ a.shape.pins
  pub drivers : (pin : ℕ) → first ≤ pin → pin < first + count → driver_at a.file.now a.shape pin < nodes

-- each value stands as 0 or 1
abbrev pub Binary : List ℕ → Type 0
Binary values = (node : ℕ) → get_or values node 0 ≤ 1

-- ---- the nodes

-- all nodes are done; the rest is as it was
pub record Done (a : Accepted) (vector : List Bool) (values₀ times₀ values times : List ℕ) : Type 0 where
  pub values-are :
      values ≡ map bit (values_of (circuit_in a).net vector) ++ drop (a.shape.inputs + a.shape.gates) values₀
  pub times-are : times ≡ times_of (circuit_in a) vector ++ drop (a.shape.inputs + a.shape.gates) times₀

-- the vector has a bit for each input, and the slices have room for all nodes
pub record Usable (a : Accepted) (vector : List ℕ) (values_room times_room : ℕ) : Type 0 where
  pub long : length vector ≡ a.shape.inputs
  pub small : vector ≡ map bit (bits vector)
  pub values-room : a.shape.inputs + a.shape.gates ≤ values_room
  pub times-room : a.shape.inputs + a.shape.gates ≤ times_room
