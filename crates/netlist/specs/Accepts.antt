-- What every call asks first of a file, its arrivals and its form, and the circuit of what passes. Interface:
-- circuit_in, accept_rows, Takes, Accepts.
use Rattle.std.specs.Prelude.{◌≡◌, List, ◌++◌, ℕ, Result, Ok, MatchResult, Err}
use Rattle.refusal.specs.declared.Refusal.{Refusal}
use Rattle.refusal.specs.Rows.{Row, checked}
use Rattle.netlist.specs.declared.circuit.Accepted.{Accepted}
use Rattle.netlist.specs.Netlist.{Circuit, Slopes, slopes_of}
use Rattle.netlist.specs.File.{shape_of, circuit_with}
use Rattle.netlist.specs.Open.{circuit_rows, slope_rows, open_circuit_of}

-- the circuit of what is accepted
abbrev pub circuit_in : Accepted → Circuit
circuit_in a = circuit_with a.file.now a.shape a.arrivals.now (slopes_of a.form)

-- 1 to 7, 16 and 19
abbrev pub accept_rows : List ℕ → List ℕ → Slopes → List Row
accept_rows file arrivals slopes = circuit_rows file arrivals ++ slope_rows (shape_of file).pins slopes

-- what is accepted is what was given, with the shape that the file says
pub record Takes (file arrivals : List ℕ) (slopes : Slopes) (a : Accepted) : Type 0 where
  pub file-is : a.file.now ≡ file
  pub arrivals-are : a.arrivals.now ≡ arrivals
  pub slopes-are : slopes_of a.form ≡ slopes
  pub opens : open_circuit_of file arrivals ≡ Ok a.shape
  pub passes : checked (slope_rows a.shape.pins slopes) ≡ Ok tt

-- all of it is accepted, or the first row refuses
abbrev pub Accepts : List ℕ → List ℕ → Slopes → Result Accepted Refusal → Type 0
Accepts file arrivals slopes result =
    MatchResult result (Takes file arrivals slopes)
    (λ refusal. checked (accept_rows file arrivals slopes) ≡ Err refusal)
