-- What serves the code that writes the formula: the numbers that it puts one after the other, how far it has come, and
-- how many numbers there can be.
use Rattle.std.specs.Prelude.{
  ◌≡◌,
  Bool,
  true,
  false,
  not,
  ◌||◌,
  cond,
  List,
  [],
  ◌∷◌,
  ◌++◌,
  map,
  ℕ,
  suc,
  ◌+◌,
  ◌*◌,
  ◌/◌,
  ◌%◌,
  ◌≤◌,
  eqb,
  ltb,
  ℤ,
  length,
  get_or,
}
use Rattle.basics.specs.Lists.{concat_map, up_from}
use Rattle.netlist.specs.declared.Kind.{Kind}
use Rattle.netlist.specs.declared.Kind.TheVariants.{Simple, Parity, Mux}
use Rattle.netlist.specs.Netlist.{Cell, Slopes, alike, apart}
use Rattle.clauses.specs.Clauses.{Literal}
use Rattle.clauses.specs.Codes.{literal_code, written}
use Rattle.formula.specs.declared.Asked.{Asked}
use Rattle.formula.specs.declared.Emitted.{Emitted}
use Rattle.formula.specs.declared.Writer.{Writer}
use Rattle.formula.specs.declared.Share.{Share}
use Rattle.formula.specs.declared.Share.TheVariants.{Forced, Driver, Control}
use Rattle.formula.specs.Formula.{node_variable, gate_clauses}

-- what is put next: a literal, by its code, or the 0 that ends a clause
pub data Token : Type 0 where
  coded : ℕ → Token
  ended : Token

-- the code that is put for it
abbrev pub token_code : Token → ℕ
token_code (coded code) = code
token_code ended = 0

-- how many clauses are ended
abbrev pub ends : List Token → ℕ
ends [] = 0
ends (coded code ∷ tokens) = ends tokens
ends (ended ∷ tokens) = suc (ends tokens)

-- a literal
abbrev pub wants : Literal → Token
wants l = coded (literal_code l)

-- each clause's literals, and the 0 behind them
unfoldable pub tokens_of : List (List Literal) → List Token
tokens_of [] = []
tokens_of (c ∷ cs) = map wants c ++ (ended ∷ tokens_of cs)

-- The tokens were put, at most so many: what the slice holds after it, the place reached, and the clauses so far
pub record Emits (most : ℕ) (tokens : List Token) (before : List ℤ) (from : Emitted) (after : List ℤ) (to : Emitted) :
    Type 0 where
  pub is : after ≡ written before from.numbers (map token_code tokens)
  pub numbers : to.numbers ≡ from.numbers + length tokens
  pub clauses : to.clauses ≡ from.clauses + ends tokens
  pub few : to.numbers ≤ from.numbers + most
  pub fewer : to.clauses ≤ to.numbers

-- the same of a writer, which keeps its slice
pub record Puts (most : ℕ) (tokens : List Token) (from to : Writer) : Type 0 where
  pub emits : Emits most tokens from.formula.now from.at to.formula.now to.at
  pub same : to.formula.ghost_name ≡ from.formula.ghost_name

-- before the first number
abbrev pub start : Emitted
start = record { numbers = 0; clauses = 0 }

-- ---- bounds

-- a variable's number is a signed number of 32 bits, and so a literal's code has at most 32 bits
abbrev pub variable_bound : ℕ
variable_bound = 2147483648

abbrev pub code_bound : ℕ
code_bound = 4294967296

-- a place has at most 32 bits too; the largest formula ends far below
abbrev pub last_place : ℕ
last_place = 4000000000

-- a driver adds at most a clause of four literals
abbrev pub share_most : ℕ
share_most = 5

-- a gate takes at most 8 pins; it puts two runs over them and a clause's first literal and end, or four clauses of
-- three literals; and a pair puts no more
abbrev pub gate_most : ℕ
gate_most = 8 * share_most + 8 * share_most + 2

-- at most 448 gates
abbrev pub gates_most : ℕ
gates_most = 448 * gate_most

-- at most 65,536 pairs
abbrev pub pairs_most : ℕ
pairs_most = 65536 * gate_most

-- at most 64 outputs, two parts each, and a clause's head and end
abbrev pub outputs_most : ℕ
outputs_most = 128 + 2

-- so many numbers more still have places, and there are no more clauses than numbers
pub record Fits (most : ℕ) (at : Emitted) : Type 0 where
  pub place : at.numbers + most ≤ last_place
  pub fewer : at.clauses ≤ at.numbers

-- ---- what is put for one driver

-- a part of a clause, as it is wanted, by its code: twice its variable; below 2 it is no literal
abbrev pub code_run : Bool → ℕ → List Token
code_run wanted code = cond (ltb code 2) [] (wants (wanted, code / 2) ∷ [])

-- the variable of a node (rule F5)
abbrev pub node_is : ℕ → Bool → Literal
node_is node wanted = (wanted, node + 1)

-- what was stored of driver i: its node and the codes of its being late, the second one 0, for no literal, where there
-- is but one
abbrev pub stored_at : Slopes → List ℕ → List ℕ → ℕ → Asked
stored_at alike nodes lates i = record { node = get_or nodes i 0; late = get_or lates i 0; more = 0 }
stored_at (apart falls) nodes lates i =
    record { node = get_or nodes i 0; late = get_or lates (i * 2) 0; more = get_or lates (i * 2 + 1) 0 }

-- a literal of a controlling cube: its driver late, by the codes, or the driver not at the literal's value
abbrev pub literal_run : Asked → Bool → List Token
literal_run driver value =
    (code_run true driver.late ++ code_run true driver.more) ++ (wants (node_is driver.node (not value)) ∷ [])

-- what a driver adds, beside a literal of the variable `own`
abbrev pub share_run : Share → Bool → Bool → ℕ → Asked → List Token
share_run Forced c k own driver = wants (node_is driver.node (not c)) ∷ wants (k, own) ∷ ended ∷ []
share_run Driver c k own driver = wants (node_is driver.node c) ∷ []
share_run Control c k own driver =
    cond (eqb driver.late 1) [] (((wants (false, own) ∷ []) ++ literal_run driver c) ++ (ended ∷ []))

-- the clause of a cube of two literals
abbrev pub cube_run : ℕ → Asked → Bool → Asked → Bool → List Token
cube_run own x a y b =
    cond (eqb x.late 1 || eqb y.late 1) []
    ((((wants (false, own) ∷ []) ++ literal_run x a) ++ literal_run y b) ++ (ended ∷ []))

-- that of entries i and j, by what was stored of them
abbrev pub pair_of_pins : Slopes → ℕ → List ℕ → List ℕ → ℕ → Bool → ℕ → Bool → List Token
pair_of_pins slopes own nodes lates i a j b =
    cube_run own (stored_at slopes nodes lates i) a (stored_at slopes nodes lates j) b

-- entry x at a and entry y at 0, then x at b and y at 1
abbrev pub two_cubes : Slopes → ℕ → List ℕ → List ℕ → ℕ → Bool → Bool → ℕ → List Token
two_cubes slopes own nodes lates x a b y =
    pair_of_pins slopes own nodes lates x a y false ++ pair_of_pins slopes own nodes lates x b y true

-- a multiplexer's controlling cubes, of select, a and b (rule K6)
abbrev pub mux_run : Slopes → ℕ → List ℕ → List ℕ → List Token
mux_run slopes own nodes lates =
    (two_cubes slopes own nodes lates 0 false false 1 ++ two_cubes slopes own nodes lates 0 true true 2)
    ++ two_cubes slopes own nodes lates 1 false true 2

-- what so many drivers add, by what was stored of them
abbrev pub shares_run : Slopes → Share → Bool → Bool → ℕ → List ℕ → List ℕ → ℕ → List Token
shares_run slopes share c k own nodes lates count =
    concat_map (λ i. share_run share c k own (stored_at slopes nodes lates i)) (up_from 0 count)

-- the clauses of what controls a gate of a kind
abbrev pub control_run : Slopes → Kind → ℕ → List ℕ → List ℕ → ℕ → List Token
control_run slopes (Simple c k) own nodes lates count = shares_run slopes Control c false own nodes lates count
control_run slopes (Parity equal) own nodes lates count = []
control_run slopes Mux own nodes lates count = mux_run slopes own nodes lates

-- the parts of so many codes
abbrev pub parts_run : List ℕ → ℕ → List Token
parts_run lates count = concat_map (λ i. code_run true (get_or lates i 0)) (up_from 0 count)

-- the clause of a negated head and of what is late, by so many codes, and whether something is late outright
abbrev pub late_run : ℕ → ℕ → List ℕ → Bool → List Token
late_run head count lates some = cond some [] ((code_run false head ++ parts_run lates count) ++ (ended ∷ []))

-- the final value that a rail of two speaks of
abbrev pub rail_value : ℕ → Bool
rail_value rail = eqb (rail % 2) 1

-- the clause that a pair's gate has the final value that its rail speaks of
abbrev pub fixed_run : Slopes → ℕ → ℕ → List Token
fixed_run alike rail own = []
fixed_run (apart falls) rail own = wants (false, own) ∷ wants (node_is (rail / 2) (rail_value rail)) ∷ ended ∷ []

-- ---- what is put for one gate

-- a simple gate (rule F9): two literals a pin, then one clause over all pins
abbrev pub simple_run : Slopes → Bool → Bool → ℕ → List ℕ → List ℕ → ℕ → List Token
simple_run slopes c k node nodes lates count =
    ((shares_run slopes Forced c k (node + 1) nodes lates count
    ++ shares_run slopes Driver c k (node + 1) nodes lates count)
    ++ (wants (node_is node (not k)) ∷ [])) ++ (ended ∷ [])

-- a clause of three literals
abbrev pub three : Literal → Literal → Literal → List Token
three x y z = wants x ∷ wants y ∷ wants z ∷ ended ∷ []

-- s chooses between a and b: s, or a is d, or f is e; s, or a is not d, or f is not e; then not s, with b and g
abbrev pub choice_run : ℕ → ℕ → ℕ → Bool → Bool → Bool → ℕ → List Token
choice_run s a b d e g f =
    three (node_is s true) (node_is a d) (node_is f e)
    ++ (three (node_is s true) (node_is a (not d)) (node_is f (not e))
    ++ (three (node_is s false) (node_is b d) (node_is f g)
    ++ three (node_is s false) (node_is b (not d)) (node_is f (not g))))

-- the clauses of a gate at its node
abbrev pub cell_run : ℕ × Cell → List Token
cell_run x = tokens_of (gate_clauses node_variable x.1.kind x.1.pins x.0)
