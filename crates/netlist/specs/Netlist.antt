-- A netlist as data, apart from its bytes: inputs, gates with their pins, outputs. Interface: all of it.
use Rattle.std.specs.Prelude.{
  Bool,
  true,
  false,
  ◌&&◌,
  List,
  [],
  ◌∷◌,
  map,
  ℕ,
  suc,
  ◌+◌,
  max,
  leb,
  ltb,
  eqb,
  length,
  get_or,
  replicate,
}
use Rattle.basics.specs.Lists.{all, numbered}
use Rattle.netlist.specs.declared.Form.{Form}
use Rattle.netlist.specs.declared.Form.TheVariants.{Single, RiseFall}
use Rattle.netlist.specs.declared.Kind.{Kind}
use Rattle.netlist.specs.declared.Kind.TheVariants.{Simple, Parity, Mux}

-- a pin: the node that drives it, its delay, and its number among the pins of all gates
pub record Pin : Type 0 where
  pub driver : ℕ
  pub delay : ℕ
  pub number : ℕ

-- a gate with its pins
pub record Cell : Type 0 where
  pub kind : Kind
  pub pins : List Pin

-- input i is node i, gate g is node I + g (rule N8); an output is a node
pub record Netlist : Type 0 where
  pub inputs : ℕ
  pub gates : List Cell
  pub outputs : List ℕ

-- whether a pin's delay depends on its gate's final value (rule R1): it does not; or a gate that ends at 0 has these
-- delays, by the pins' numbers, and one that ends at 1 the file's own
pub data Slopes : Type 0 where
  alike : Slopes
  apart : List ℕ → Slopes

-- those of a form
abbrev pub slopes_of : Form → Slopes
slopes_of Single = alike
slopes_of (RiseFall falls) = apart falls.now

-- a circuit: a netlist, when each of its inputs arrives, and how its delays depend on a gate's final value
pub record Circuit : Type 0 where
  pub net : Netlist
  pub arrivals : List ℕ
  pub slopes : Slopes

-- the circuit whose inputs all arrive at 0, with one delay a pin
abbrev pub at_zero : Netlist → Circuit
at_zero net = record { net = net; arrivals = replicate net.inputs 0; slopes = alike }

-- a pin with another delay
abbrev pub delayed : (Pin → ℕ) → Pin → Pin
delayed delay p = record { driver = p.driver; delay = delay p; number = p.number }

-- a pin's delay where its gate ends at 0
abbrev pub fall_of : List ℕ → Pin → ℕ
fall_of falls p = get_or falls p.number 0

-- a gate's pins, with the delays for its final value
abbrev pub pins_for : Slopes → Bool → List Pin → List Pin
pins_for alike value ps = ps
pins_for (apart falls) true ps = ps
pins_for (apart falls) false ps = map (delayed (fall_of falls)) ps

-- a gate's pins, each with the larger of its delays
abbrev pub slowest : Slopes → List Pin → List Pin
slowest alike ps = ps
slowest (apart falls) ps = map (delayed (λ p. max p.delay (fall_of falls p))) ps

-- N, the nodes
abbrev pub node_count : Netlist → ℕ
node_count net = net.inputs + length net.gates

-- the gates with their nodes
abbrev pub nodes : Netlist → List (ℕ × Cell)
nodes net = numbered net.inputs net.gates

-- the number of pins that a kind can have: a simple gate 1 to 8, XOR and XNOR 2, MUX 3
abbrev pub takes : Kind → ℕ → Bool
takes (Simple c k) n = leb 1 n && leb n 8
takes (Parity equal) n = eqb n 2
takes Mux n = eqb n 3

-- what drives a gate lies below it (rule N9), and a delay is 999 or less (rule N6)
abbrev pub pin_fits : ℕ → Pin → Bool
pin_fits node pin = ltb pin.driver node && leb pin.delay 999

-- a gate at its node: the kind takes its pins, and each pin fits
abbrev pub gate_fits : ℕ × Cell → Bool
gate_fits x = takes x.1.kind (length x.1.pins) && all (pin_fits x.0) x.1.pins

-- each output is larger than the one in front of it (rule N7), and at least `from`
unfoldable pub rising : ℕ → List ℕ → Bool
rising from [] = true
rising from (x ∷ xs) = leb from x && rising (suc x) xs

-- what the checks 3, 5, 6 and 7 leave of a netlist
unfoldable pub valid : Netlist → Bool
valid net =
    (leb 1 net.inputs && leb net.inputs 64 && leb (length net.gates) 448)
    && all gate_fits (nodes net)
    && (rising 0 net.outputs && all (λ o. ltb o (node_count net)) net.outputs
    && leb 1 (length net.outputs) && leb (length net.outputs) 64)
