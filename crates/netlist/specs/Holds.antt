-- What every later read of an accepted file, and of its inputs' arrivals, may lean on. Interface: Holds, Tables,
-- Arrived, Given, Small, Sloped. InRange and Framed serve `open`.
use Rattle.std.specs.Prelude.{◌≡◌, false, List, ℕ, ◌+◌, ◌*◌, ◌≤◌, ◌<◌, T, length, get_or}
use Rattle.std.proofs.Props.{props}
use Rattle.netlist.specs.declared.Shape.{Shape}
use Rattle.std.specs.Prelude.{Ok}
use Rattle.netlist.specs.Netlist.{Slopes, alike, apart, valid}
use Rattle.netlist.specs.File.{
  version,
  shape_of,
  netlist_at,
  first_at,
  count_at,
  driver_at,
  delay_at,
  output_at,
}
use Rattle.netlist.specs.Open.{count_wrong, back_wrong, open_of, latest_arrival}

-- each count is in its range (rule N3)
pub record InRange (shape : Shape) : Type 0 where
  pub inputs-some : 1 ≤ shape.inputs
  pub inputs-few : shape.inputs ≤ 64
  pub gates-few : shape.gates ≤ 448
  pub pins-few : shape.pins ≤ 2048
  pub outputs-some : 1 ≤ shape.outputs
  pub outputs-few : shape.outputs ≤ 64

-- the tables and the trailer fill the file from `tables` on (rule N4)
pub record Tables (file : List ℕ) (shape : Shape) : Type 0 where
  pub room : shape.tables + shape.gates * 4 + shape.pins * 4 + shape.outputs * 2 + 14 ≡ length file

-- checks 1 to 4 have passed, and the trailer says this shape
pub record Framed (file : List ℕ) (shape : Shape) : Type 0 where
  pub long : 14 ≤ length file
  pub version-one : version file ≡ 1
  pub shape_is : shape ≡ shape_of file
  pub counts : 4 ≤ count_wrong shape
  pub back : back_wrong file ≡ false

-- the file is accepted with this shape; the rest follows from it (proofs/AcceptedFile)
pub record Holds (file : List ℕ) (shape : Shape) : Type 0 where
  pub opened : open_of file ≡ Ok shape
  pub valid : T (valid (netlist_at file shape))
  pub counts : InRange shape
  pub tables : Tables file shape
  pub pins-within : (gate : ℕ) → gate < shape.gates → first_at file shape gate + count_at file shape gate ≤ shape.pins
  pub drivers-below : (gate pin : ℕ) → gate < shape.gates → first_at file shape gate ≤ pin →
      pin < first_at file shape gate + count_at file shape gate → driver_at file shape pin < shape.inputs + gate
  pub delays-small : (pin : ℕ) → pin < shape.pins → delay_at file shape pin ≤ 999
  pub outputs-nodes : (position : ℕ) → position < shape.outputs →
      output_at file shape position < shape.inputs + shape.gates

-- an arrival for each input, none too late (row 16)
pub record Arrived (shape : Shape) (arrivals : List ℕ) : Type 0 where
  pub long : length arrivals ≡ shape.inputs
  pub early : (input : ℕ) → get_or arrivals input 0 ≤ latest_arrival

-- both
pub record Given (file : List ℕ) (shape : Shape) (arrivals : List ℕ) : Type 0 where
  pub holds : Holds file shape
  pub arrived : Arrived shape arrivals

-- the delays for a gate that ends at 0, where they stand apart, are small (row 19)
abbrev pub Small : Slopes → Type 0
Small alike = Unit {0}
Small (apart falls) = (pin : ℕ) → get_or falls pin 0 ≤ 999

-- and there is one for each pin
abbrev pub Sloped : Shape → Slopes → Type 0
Sloped shape alike = Unit {0}
Sloped shape (apart falls) = (length falls ≡ shape.pins) × Small (apart falls)

-- there is at most one way to show it
pub sloped-prop : (shape : Shape) (slopes : Slopes) → IsProp (Sloped shape slopes)
sloped-prop shape alike = Prim.hlevel props
sloped-prop shape (apart falls) = Prim.hlevel props
