-- Files on both sides of each bound of the refusals 1 to 7, each kind with its pin counts, and files with two faults,
-- where the earlier row answers: rows of the proved table. A file is written from its tables. Interface: written,
-- one_gate, Case, edges, edges-hold.
use Rattle.std.specs.Prelude.{◌≡◌, refl, List, [], ◌∷◌, ◌++◌, map, ℕ, ◌+◌, ◌*◌, ◌/◌, ◌%◌, length, replicate}
use Rattle.basics.specs.Lists.{concat_map, numbered}
use Rattle.refusal.specs.declared.Refusal.{Refusal}
use Rattle.refusal.specs.declared.Refusal.TheVariants.{Short, Version, Count, Back, Gate, Pin, Output}
use Rattle.std.specs.Prelude.{Result, Ok, Err}
use Rattle.netlist.specs.declared.Shape.{Shape}
use Rattle.netlist.specs.Kinds.{pins_fit, kind_of}
use Rattle.netlist.specs.File.{table_bytes, shape_of}
use Rattle.netlist.specs.Open.{
  open_of,
  netlist_rows,
  first_wrong,
  count_wrong,
  back_wrong,
  pins_before,
  gate_wrong,
  gate_place,
  sum_wrong,
  pins_at,
  pin_wrong,
  pin_place,
  output_wrong,
  output_place,
}

-- ---- files

-- a number's two bytes
abbrev pub two_of : ℕ → List ℕ
two_of n = n % 256 ∷ n / 256 ∷ []

-- the trailer: back, I, G, P, Q, version
abbrev pub trailer_of : ℕ → ℕ → ℕ → ℕ → ℕ → ℕ → List ℕ
trailer_of back inputs gates pins outputs version =
    two_of back ++ (0 ∷ 0 ∷ concat_map two_of (inputs ∷ gates ∷ pins ∷ outputs ∷ version ∷ []))

-- gates (kind, pin count, first pin), pins (driver, delay), outputs
abbrev pub tables_of : List (ℕ × ℕ × ℕ) → List (ℕ × ℕ) → List ℕ → List ℕ
tables_of gates pins outputs =
    concat_map (λ (g : ℕ × ℕ × ℕ). g.0 ∷ g.1 ∷ two_of g.2) gates
    ++ (concat_map (λ (p : ℕ × ℕ). two_of p.0 ++ two_of p.1) pins ++ concat_map two_of outputs)

-- a file of so many inputs, with the counts and the back of its tables
unfoldable pub written : ℕ → List (ℕ × ℕ × ℕ) → List (ℕ × ℕ) → List ℕ → List ℕ
written inputs gates pins outputs =
    tables_of gates pins outputs
    ++ trailer_of (length gates * 4 + length pins * 4 + length outputs * 2) inputs (length gates) (length pins)
    (length outputs) 1

-- one gate of a kind, an input for each pin, by the pins' delays; its node is the output
unfoldable pub one_gate : ℕ → List ℕ → List ℕ
one_gate kind delays =
    written (length delays) ((kind, length delays, 0) ∷ []) (numbered 0 delays) (length delays ∷ [])

-- ---- rows

-- a file, and what `open` says
pub record Case : Type 0 where
  pub file : List ℕ
  pub answer : Result Shape Refusal

abbrev case : List ℕ → Result Shape Refusal → Case
case file answer = record { file = file; answer = answer }

abbrev refuses : List ℕ → Refusal → Case
refuses file refusal = case file (Err refusal)

-- I, G, P, Q, and where the tables begin
abbrev shape : ℕ → ℕ → ℕ → ℕ → ℕ → Result Shape Refusal
shape inputs gates pins outputs tables =
    Ok (record { inputs = inputs; gates = gates; pins = pins; outputs = outputs; tables = tables })

-- a kind takes so many pins, or does not
abbrev takes : ℕ → ℕ → Case
takes kind count = case (one_gate kind (replicate count 1)) (shape count 1 count 1 0)

abbrev lacks : ℕ → ℕ → Case
lacks kind count = refuses (one_gate kind (replicate count 1)) (Gate 0)

-- rows 1 to 4, both sides of each bound; a trailer alone is a file
unfoldable pub frames : List Case
frames =
    refuses [] (Short 0)
    ∷ refuses (replicate 13 0) (Short 13)
    ∷ refuses (replicate 14 0) (Version 0)
    ∷ refuses (trailer_of 7 0 0 0 0 2) (Version 2)
    ∷ refuses (trailer_of 7 0 449 2049 65 1) (Count 0)
    ∷ refuses (trailer_of 2 65 0 0 1 1) (Count 0)
    ∷ refuses (trailer_of 7 64 449 2049 0 1) (Count 1)
    ∷ refuses (trailer_of 7 64 448 2049 0 1) (Count 2)
    ∷ refuses (trailer_of 7 64 448 2048 0 1) (Count 3)
    ∷ refuses (trailer_of 7 64 448 2048 65 1) (Count 3)
    ∷ refuses (trailer_of 7 64 448 2048 64 1) Back
    ∷ refuses (trailer_of 2 1 0 0 1 1) Back
    ∷ refuses (0 ∷ trailer_of 2 1 0 0 1 1) Back
    ∷ refuses (0 ∷ 0 ∷ 0 ∷ trailer_of 3 1 0 0 1 1) Back
    ∷ refuses (tables_of ((10, 1, 0) ∷ []) ((0, 1) ∷ []) (1 ∷ []) ++ trailer_of 9 1 1 1 1 1) Back
    ∷ case (0 ∷ 0 ∷ trailer_of 2 1 0 0 1 1) (shape 1 0 0 1 0)
    ∷ case (5 ∷ 0 ∷ 0 ∷ trailer_of 2 1 0 0 1 1) (shape 1 0 0 1 1)
    ∷ case (written 64 [] [] (63 ∷ [])) (shape 64 0 0 1 0) ∷ []

-- row 5: each kind on both sides of its pin counts, a first pin that is wrong, and the final sum
unfoldable pub counts : List Case
counts =
    lacks 0 1 ∷ lacks 10 1 ∷ lacks 10 2 ∷ lacks 10 3
    ∷ refuses (written 1 ((1, 0, 0) ∷ []) [] (1 ∷ [])) (Gate 0)
    ∷ takes 1 1 ∷ lacks 1 2
    ∷ takes 2 1 ∷ lacks 2 2
    ∷ lacks 3 1 ∷ takes 3 2 ∷ takes 3 8 ∷ lacks 3 9
    ∷ lacks 4 1 ∷ takes 4 2 ∷ takes 4 8 ∷ lacks 4 9
    ∷ lacks 5 1 ∷ takes 5 2 ∷ takes 5 8 ∷ lacks 5 9
    ∷ lacks 6 1 ∷ takes 6 2 ∷ takes 6 8 ∷ lacks 6 9
    ∷ lacks 7 1 ∷ takes 7 2 ∷ lacks 7 3
    ∷ lacks 8 1 ∷ takes 8 2 ∷ lacks 8 3
    ∷ lacks 9 2 ∷ takes 9 3 ∷ lacks 9 4
    ∷ refuses (written 1 ((1, 1, 1) ∷ []) ((0, 1) ∷ []) (1 ∷ [])) (Gate 0)
    ∷ refuses (written 1 ((1, 1, 0) ∷ (1, 1, 0) ∷ []) ((0, 1) ∷ (0, 1) ∷ []) (1 ∷ [])) (Gate 1)
    ∷ case (written 1 ((1, 1, 0) ∷ (1, 1, 1) ∷ []) ((0, 1) ∷ (0, 1) ∷ []) (1 ∷ [])) (shape 1 2 2 1 0)
    ∷ refuses (written 1 ((1, 1, 0) ∷ []) ((0, 1) ∷ (0, 1) ∷ []) (1 ∷ [])) (Gate 1) ∷ []

-- rows 6 and 7: a driver below its gate and its own gate, delays 999 and 1000, outputs that rise and that do not, the
-- last node and one more; then a wrong gate behind a wrong pin, a wrong sum with a wrong pin, a wrong pin with a wrong
-- output
unfoldable pub ends : List Case
ends =
    case (one_gate 1 (999 ∷ [])) (shape 1 1 1 1 0)
    ∷ refuses (one_gate 1 (1000 ∷ [])) (Pin 0)
    ∷ refuses (one_gate 3 (1 ∷ 1000 ∷ [])) (Pin 1)
    ∷ refuses (written 1 ((1, 1, 0) ∷ []) ((1, 1) ∷ []) (1 ∷ [])) (Pin 0)
    ∷ refuses (written 1 ((1, 1, 0) ∷ (1, 1, 1) ∷ []) ((0, 1) ∷ (2, 1) ∷ []) (1 ∷ [])) (Pin 1)
    ∷ case (written 1 ((1, 1, 0) ∷ (1, 1, 1) ∷ []) ((0, 1) ∷ (1, 1) ∷ []) (1 ∷ [])) (shape 1 2 2 1 0)
    ∷ case (written 2 [] [] (0 ∷ 1 ∷ [])) (shape 2 0 0 2 0)
    ∷ refuses (written 2 [] [] (1 ∷ 1 ∷ [])) (Output 1)
    ∷ refuses (written 2 [] [] (1 ∷ 0 ∷ [])) (Output 1)
    ∷ refuses (written 2 [] [] (2 ∷ 1 ∷ [])) (Output 0)
    ∷ refuses (written 2 [] [] (0 ∷ 2 ∷ [])) (Output 1)
    ∷ refuses (written 1 ((1, 1, 0) ∷ (10, 1, 1) ∷ []) ((0, 1000) ∷ (0, 1) ∷ []) (9 ∷ [])) (Gate 1)
    ∷ refuses (written 1 ((1, 1, 0) ∷ []) ((0, 1000) ∷ (0, 1) ∷ []) (9 ∷ [])) (Gate 1)
    ∷ refuses (written 1 ((1, 1, 0) ∷ []) ((0, 1000) ∷ []) (9 ∷ [])) (Pin 0) ∷ []

-- all of them
unfoldable pub edges : List Case
edges = frames ++ (counts ++ ends)

-- each file is answered so
pub edges-hold : map (λ (c : Case). open_of c.file) edges ≡ map (λ (c : Case). c.answer) edges
unfolding
    edges frames counts ends written one_gate open_of netlist_rows first_wrong count_wrong back_wrong pins_before
    gate_wrong gate_place sum_wrong pins_at pin_wrong pin_place output_wrong output_place pins_fit kind_of
    table_bytes shape_of
edges-hold = refl
