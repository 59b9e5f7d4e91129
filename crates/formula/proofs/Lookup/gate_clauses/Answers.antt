-- `formula::Lookup::gate_clauses` meets its contract: the kind decides which callee's run it is, and how many pins
-- there are. Assumes nothing.
use native.Mathlib.Omega.{arith}
use Rattle.netlist.proofs.Valid.{takes-parity, takes-mux}
use Rattle.formula.specs.Emission.{gate_most}
use Rattle.formula.proofs.Emission.{puts-as}
use Rattle.formula.proofs.Asking.{simple-read, parity-read, mux-read}
use Rattle.formula.proofs.Lookup.gate_clauses.Goals as goal

pub returns-in-Simple : goal.returns-in-Simple
returns-in-Simple c =
    rw c.in-Simple.is
    (puts-as gate_most c.simple_clauses.ensures
    (simple-read c.read.ensures c.in-Simple.c c.in-Simple.k c.args.node) (omega arith))

pub returns-in-Parity : goal.returns-in-Parity
returns-in-Parity c =
    rw c.in-Parity.is
    (puts-as gate_most c.choice_clauses.ensures
    (parity-read c.read.ensures c.in-Parity.equal c.args.node
    (takes-parity _ c.in-Parity.is c.requires.0.takes_all)) (omega arith))

pub returns-in-Mux : goal.returns-in-Mux
returns-in-Mux c =
    rw c.in-Mux.is
    (puts-as gate_most c.choice_clauses-in-Mux.ensures
    (mux-read c.read.ensures c.args.node (takes-mux _ c.in-Mux.is c.requires.0.takes_all)) (omega arith))
