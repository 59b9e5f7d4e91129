-- The promise of judge implies the theorem: where the answer is that the certificate passes, the rows before 14 passed
-- and the refutation's verdict is that it passes, so the delay is the largest settling time. Laws: judged-passes,
-- certificate-largest, slopes-pass, rows-admit, answers-largest, judges-largest. Assumes nothing.
use mathlib.Core.Path.{◌≡◌, refl, sym, ◌∙◌}
use mathlib.Core.List.{List, ◌++◌}
use Prim.Native.Nat.{ℕ, suc}
use native.Mathlib.Omega.{arith}
use lib.Dec.{T, eqb}
use lib.IntN.{ℤ}
use lib.ListN.{length-map}
use Rattle.std.specs.Prelude.{Ok, Err}
use Rattle.refusal.specs.Rows.{Checked}
use Rattle.refusal.specs.Rows.{Row, checked}
use Rattle.refusal.proofs.Rows.{first_passes, rest-passes}
use Rattle.netlist.specs.declared.Shape.{Shape}
use Rattle.netlist.specs.Netlist.{valid, Circuit, Slopes, alike, apart}
use Rattle.netlist.specs.File.{shape_of, circuit_of}
use Rattle.netlist.specs.Open.{circuit_rows, slope_rows, rows_over}
use Rattle.netlist.specs.Holds.{Sloped, Small}
use Rattle.netlist.proofs.Calls.{accepted, passed-both, falls-pass}
use Rattle.settle.proofs.Nodes.{Arrives}
use Rattle.settle.proofs.Gates.{net-arrives}
use Rattle.settle.specs.Promise.{bits}
use Rattle.clauses.specs.Clauses.{Literal, clauses_of}
use Rattle.refute.specs.Propagation.{Judged, passes}
use Rattle.refute.specs.Promise.{Answers, malformed, passed, stopped}
use Rattle.formula.specs.Promise.{numbers_for, counts_for}
use Rattle.certificate.specs.Largest.{Largest}
use Rattle.certificate.specs.Promise.{Rooms, Judgement, certificate_rows, judgement_of, Judges}
use Rattle.certificate.proofs.Accepted.{numbers-accepted}
use Rattle.certificate.proofs.Passing.{certificate-passes, refutation-passes}

-- an answer that is a pass: the rows passed, and so did the refutation
passes-both : {rows : List Row} {answer : Checked} {stored refutation : List (List Literal)} →
    Answers rows stored refutation answer → answer ≡ Ok tt →
    (checked rows ≡ Ok tt) × Judged stored refutation passes
passes-both (malformed e) p = let w : ◌≡◌ {A = ℕ} 0 1 = cc in absurd (omega arith)
passes-both (passed e verdict) p = (e, verdict)
passes-both (stopped e verdict) p = let w : ◌≡◌ {A = ℕ} 0 1 = cc in absurd (omega arith)

-- a judgement that passes is of a pass
answer-passes : (circuit : Circuit) (delay : ℕ) (vector : List ℕ) (rooms : Rooms) (answer : Checked) →
    (judgement_of circuit delay vector rooms answer).answer ≡ Ok tt → answer ≡ Ok tt
answer-passes circuit delay vector rooms (Ok tt) e = refl
answer-passes circuit delay vector rooms (Err refusal) e = let w : ◌≡◌ {A = ℕ} 0 1 = cc in absurd (omega arith)

-- where the answer is a pass, the rows passed, and so did the refutation
pub judged-passes : {file arrivals : List ℕ} {slopes : Slopes} {delay : ℕ} {vector : List ℕ} {refutation : List ℤ}
    {rooms : Rooms} {result : Judgement} → Judges file arrivals slopes delay vector refutation rooms result →
    result.answer ≡ Ok tt →
    (checked (rows_over file arrivals slopes (certificate_rows delay vector refutation rooms)) ≡ Ok tt)
    × Judged (clauses_of (numbers_for (circuit_of file arrivals slopes) (suc delay))) (clauses_of refutation) passes
judged-passes {file} {arrivals} {slopes} {delay} {vector} {refutation} {rooms} d e =
    passes-both d.answers
    (answer-passes (circuit_of file arrivals slopes) delay vector rooms d.answer (sym d.meets.answer-is ∙ e))

-- what the rows of a file, its arrivals and its slopes leave of a circuit: a valid netlist, with an arrival for each
-- input and small delays
pub record Admitted (circuit : Circuit) : Type 0 where
  pub valid : T (valid circuit.net)
  pub arrives : Arrives circuit
  pub small : Small circuit.slopes

-- of such a circuit: the rows and the refutation passed, so the delay is the largest settling time
pub certificate-largest : (circuit : Circuit) → Admitted circuit → (delay : ℕ) (vector : List ℕ) (refutation : List ℤ)
    (rooms : Rooms) → checked (certificate_rows delay vector refutation rooms circuit) ≡ Ok tt →
    Judged (clauses_of (numbers_for circuit (suc delay))) (clauses_of refutation) passes → Largest circuit delay
certificate-largest circuit a delay vector refutation rooms e verdict =
    let p = certificate-passes circuit delay vector refutation rooms e in
    numbers-accepted circuit a.valid a.arrives a.small delay (bits vector)
    (length-map vector (λ byte. eqb byte 1) ∙ p.long) p.settles refutation verdict
    (refutation-passes (counts_for circuit (suc delay)).variables refutation rooms.propagation p.testing)

-- slopes that pass row 19 have a small delay for each pin
pub slopes-pass : (shape : Shape) (slopes : Slopes) → checked (slope_rows shape.pins slopes) ≡ Ok tt →
    Sloped shape slopes
slopes-pass shape alike e = tt
slopes-pass shape (apart falls) e = falls-pass shape falls e

pub slopes-small : (shape : Shape) (slopes : Slopes) → Sloped shape slopes → Small slopes
slopes-small shape alike s = tt
slopes-small shape (apart falls) s = s.1

-- what passes the rows 1 to 7, 16 and 19 is such a circuit, and the rows behind them pass
pub rows-admit : (file arrivals : List ℕ) (slopes : Slopes) (rows : Circuit → List Row) →
    checked (rows_over file arrivals slopes rows) ≡ Ok tt →
    Admitted (circuit_of file arrivals slopes) × (checked (rows (circuit_of file arrivals slopes)) ≡ Ok tt)
rows-admit file arrivals slopes rows e =
    let own = rows (circuit_of file arrivals slopes) in
    let sloping = slope_rows (shape_of file).pins slopes in
    let opened = passed-both file arrivals (first_passes (circuit_rows file arrivals) (sloping ++ own) e) in
    let given = accepted file arrivals opened in
    let rest = rest-passes (circuit_rows file arrivals) (sloping ++ own) e in (
      record {
        valid = given.holds.valid;
        arrives = net-arrives file given.arrived;
        small =
            slopes-small (shape_of file) slopes (slopes-pass (shape_of file) slopes (first_passes sloping own rest));
      },
      rest-passes sloping own rest,
    )

-- of any bytes: a pass means the largest settling time
pub answers-largest : (file arrivals : List ℕ) (slopes : Slopes) (delay : ℕ) (vector : List ℕ) (refutation : List ℤ)
    (rooms : Rooms) {answer : Checked} →
    Answers (rows_over file arrivals slopes (certificate_rows delay vector refutation rooms))
    (clauses_of (numbers_for (circuit_of file arrivals slopes) (suc delay))) (clauses_of refutation) answer →
    answer ≡ Ok tt → Largest (circuit_of file arrivals slopes) delay
answers-largest file arrivals slopes delay vector refutation rooms d e =
    let both = passes-both d e in
    let a = rows-admit file arrivals slopes (certificate_rows delay vector refutation rooms) both.0 in
    certificate-largest (circuit_of file arrivals slopes) a.0 delay vector refutation rooms a.1 both.1

-- the same by the judgement
pub judges-largest : {file arrivals : List ℕ} {slopes : Slopes} {delay : ℕ} {vector : List ℕ} {refutation : List ℤ}
    {rooms : Rooms} {result : Judgement} → Judges file arrivals slopes delay vector refutation rooms result →
    result.answer ≡ Ok tt → Largest (circuit_of file arrivals slopes) delay
judges-largest {file} {arrivals} {slopes} {delay} {vector} {refutation} {rooms} d e =
    answers-largest file arrivals slopes delay vector refutation rooms d.answers
    (answer-passes (circuit_of file arrivals slopes) delay vector rooms d.answer (sym d.meets.answer-is ∙ e))
