-- The checks of a certificate in their order: a refusal of one is that of all rows, since those before it passed; where
-- all pass, what they left is what acceptance leaves. Laws: time-small, formula-front; answers-refused, unaccepted,
-- unsettled, late, unbuilt, tested, leaves-all. Assumes nothing.
use mathlib.Core.Path.{◌≡◌, refl, sym, ap, ap₂, ◌∙◌, subst}
use mathlib.Core.Bool.{not}
use mathlib.Core.List.{List, ◌∷◌}
use Prim.Native.Nat.{ℕ, suc, ◌-◌, ◌≤◌}
use native.Mathlib.Omega.{arith}
use lib.Dec.{T}
use lib.IntN.{ℤ, pos}
use lib.ListN.{length, take, replicate, length-append}
use lib.Seq.{take_at}
use borrow.Author.Tests.{eq-eqb, ne_eqb}
use Rattle.refusal.specs.declared.Refusal.{Refusal}
use Rattle.refusal.specs.declared.Refusal.TheVariants.{Witness}
use Rattle.std.specs.Prelude.{Result, Ok, Err}
use Rattle.refusal.specs.Rows.{Checked}
use Rattle.refusal.specs.Rows.{Row, checked}
use Rattle.refusal.proofs.Rows.{stops, goes_on, refused-first, passed_first}
use Rattle.netlist.specs.declared.circuit.Accepted.{Accepted}
use Rattle.netlist.specs.Netlist.{valid, Circuit, Slopes, slopes_of}
use Rattle.netlist.specs.File.{circuit_of}
use Rattle.netlist.specs.Open.{rows_over}
use Rattle.netlist.specs.Holds.{Given, Sloped}
use Rattle.netlist.specs.Accepts.{circuit_in, accept_rows, Takes}
use Rattle.netlist.proofs.Calls.{accepted-circuit}
use Rattle.netlist.proofs.Accepting.{same_circuit, rows-taken, rows-refused}
use Rattle.settle.specs.Settling.{circuit_time}
use Rattle.settle.specs.Promise.{bits, evaluation_rows, evaluation_of}
use Rattle.settle.proofs.Checks.{answer-refused, answer-time}
use Rattle.settle.specs.Steps.{latest}
use Rattle.settle.proofs.Nodes.{circuit-small}
use Rattle.settle.proofs.Gates.{net-arrives}
use Rattle.clauses.specs.Clauses.{Literal, clauses_of}
use Rattle.refute.specs.Rows.{refutation_rows, WellFormed}
use Rattle.refute.specs.Promise.{Answers, malformed, Tested}
use Rattle.refute.proofs.Judging.{answers-as}
use Rattle.formula.specs.declared.Counts.{Counts}
use Rattle.formula.specs.Promise.{Building, numbers_for, counts_for, built, building_rows, building_of}
use Rattle.formula.proofs.Answers.{answer-refused as build-refused, answer-counts, passed-built, pairs-fit}
use Rattle.certificate.specs.Promise.{Rooms, Meets, leaving, witness_row, refuting_rows, certificate_rows, certified}
use Rattle.certificate.proofs.Numbers.{numbers-well-formed}
use Rattle.certificate.proofs.Granted.{slopes-small}

-- ---- the vector

-- a time at which a vector settles is small
pub time-small : (a : Accepted) (vector : List ℕ) (values_room times_room : ℕ) {answer : Result ℕ Refusal} {time : ℕ} →
    Given a.file.now a.shape a.arrivals.now → Sloped a.shape (slopes_of a.form) →
    answer ≡ (evaluation_of (circuit_in a) vector values_room times_room).answer → answer ≡ Ok time → time ≤ latest
time-small a vector values_room times_room g sloped e i =
    let s = answer-time (circuit_in a) vector values_room times_room e i in
    let h =
    circuit-small (circuit_in a) g.holds.valid (net-arrives a.file.now g.arrived)
    (slopes-small a.shape (slopes_of a.form) sloped) g.arrived.early (bits vector)
    in
    omega (arith, s.1)

-- ---- the refutation's part

-- what the building leaves for the test: the formula's numbers are the front of its slice, and well formed
pub record FormulaFront (circuit : Circuit) (target : ℕ) (counts : Counts) (formula : List ℤ) : Type 0 where
  pub fit : counts.numbers ≤ length formula
  pub numbers-are : take counts.numbers formula ≡ numbers_for circuit target
  pub front_long : counts.numbers ≡ length (take counts.numbers formula)
  pub variables-are : counts.variables ≡ (counts_for circuit target).variables
  pub well-formed : WellFormed counts.variables (take counts.numbers formula)

pub formula-front : {circuit : Circuit} {target : ℕ} (pairs_room formula_room : ℕ) {answer : Result Counts Refusal}
    {counts : Counts} {formula : List ℤ} → T (valid circuit.net) →
    answer ≡ (building_of circuit target pairs_room formula_room).answer →
    formula ≡ (building_of circuit target pairs_room formula_room).formula → answer ≡ Ok counts →
    FormulaFront circuit target counts formula
unfolding counts_for built
formula-front {circuit} {target} pairs_room formula_room {answer} {counts} {formula} ok a f e =
    let b = answer-counts circuit target pairs_room formula_room a e in
    let n : counts.numbers ≡ length (numbers_for circuit target) = ap (λ (k : Counts). k.numbers) b.1 in
    let v = ap (λ (k : Counts). k.variables) b.1 in
    let whole = f ∙ ap (λ (k : Building). k.formula) (passed-built circuit target pairs_room formula_room b.0) in
    let zeros = replicate (formula_room - length (numbers_for circuit target)) (pos 0) in
    let front : take counts.numbers formula ≡ numbers_for circuit target =
    ap₂ take n whole ∙ take_at (numbers_for circuit target) zeros (length (numbers_for circuit target)) refl
    in
    record {
      fit = omega (arith, ap length whole, length-append (numbers_for circuit target) zeros);
      numbers-are = front;
      front_long = n ∙ sym (ap length front);
      variables-are = v;
      well-formed =
          subst (WellFormed counts.variables) (sym front)
          (subst (λ (k : ℕ). WellFormed k (numbers_for circuit target)) (sym v)
          (numbers-well-formed circuit ok target
          (omega (arith, pairs-fit circuit target pairs_room formula_room b.0))));
    }

-- ---- the rows of an accepted circuit

-- a refusal of the rows is the answer
pub answers-refused : {rows : List Row} {stored refutation : List (List Literal)} {answer : Checked}
    {refusal : Refusal} → answer ≡ Err refusal → checked rows ≡ Err refusal → Answers rows stored refutation answer
answers-refused {rows} {stored} {refutation} e r = subst (Answers rows stored refutation) (sym e) (malformed r)

-- the file, its arrivals or its form are refused
pub unaccepted : (file arrivals : List ℕ) (slopes : Slopes) (delay : ℕ) (vector : List ℕ) (refutation : List ℤ)
    (rooms : Rooms) {refusal : Refusal} → checked (accept_rows file arrivals slopes) ≡ Err refusal →
    checked (rows_over file arrivals slopes (certificate_rows delay vector refutation rooms)) ≡ Err refusal
unaccepted file arrivals slopes delay vector refutation rooms =
    rows-refused file arrivals slopes (certificate_rows delay vector refutation rooms)

module _ {file arrivals : List ℕ} {slopes : Slopes} {a : Accepted} (delay : ℕ) (vector : List ℕ) (refutation : List ℤ)
    (rooms : Rooms) (t : Takes file arrivals slopes a) where
  -- what is accepted is the circuit
  taken-circuit : circuit_of file arrivals slopes ≡ circuit_in a
  taken-circuit = accepted-circuit file arrivals slopes t.opens ∙ same_circuit file arrivals slopes t

  -- all rows of the call, and those of the vector, the formula and the refutation
  abbrev rows : List Row
  rows = rows_over file arrivals slopes (certificate_rows delay vector refutation rooms)

  abbrev evaluating : List Row
  evaluating = evaluation_rows (circuit_in a) vector rooms.values rooms.times

  abbrev building : ℕ → List Row
  building target = building_rows (circuit_in a) target rooms.pairs rooms.formula

  abbrev testing : ℕ → List Row
  testing target = refutation_rows (counts_for (circuit_in a) target).variables refutation rooms.propagation

  abbrev refuting : ℕ → List Row
  refuting target = refuting_rows (circuit_in a) target refutation rooms.pairs rooms.formula rooms.propagation

  abbrev after : List Row
  after = witness_row (circuit_in a) delay vector ∷ refuting (suc delay)

  module _ {settled : Result ℕ Refusal}
      (s : settled ≡ (evaluation_of (circuit_in a) vector rooms.values rooms.times).answer) where
    -- the vector or its rooms are refused
    pub unsettled : {refusal : Refusal} → settled ≡ Err refusal → checked rows ≡ Err refusal
    unsettled e =
        rows-taken file arrivals slopes (certificate_rows delay vector refutation rooms) t
        ∙ refused-first evaluating after
        (answer-refused (circuit_in a) vector rooms.values rooms.times s e)

    module _ {time : ℕ} (e : settled ≡ Ok time) where
      time-is : circuit_time (circuit_in a) (bits vector) ≡ time
      time-is = (answer-time (circuit_in a) vector rooms.values rooms.times s e).1

      settles : checked rows ≡ checked after
      settles =
          rows-taken file arrivals slopes (certificate_rows delay vector refutation rooms) t
          ∙ passed_first evaluating after (answer-time (circuit_in a) vector rooms.values rooms.times s e).0

      -- the vector settles at another time
      pub late : (time ≡ delay → ⊥) → checked rows ≡ Err (Witness time)
      late h =
          settles
          ∙ stops (Witness (circuit_time (circuit_in a) (bits vector))) (refuting (suc delay))
          (ap not (ne_eqb (circuit_time (circuit_in a) (bits vector)) delay (λ q. h (sym time-is ∙ q))))
          ∙ ap (λ (t : ℕ). Err (Witness t)) time-is

      module _ (h : time ≡ delay) {target : ℕ} (next : target ≡ suc delay) {made : Result Counts Refusal}
          (m : made ≡ (building_of (circuit_in a) target rooms.pairs rooms.formula).answer) where
        on_time : checked rows ≡ checked (refuting target)
        on_time =
            settles
            ∙ goes_on (Witness (circuit_time (circuit_in a) (bits vector))) (refuting (suc delay))
            (ap not (eq-eqb (circuit_time (circuit_in a) (bits vector)) delay (time-is ∙ h)))
            ∙ ap (λ (n : ℕ). checked (refuting n)) (sym next)

        -- the formula is refused
        pub unbuilt : {refusal : Refusal} → made ≡ Err refusal → checked rows ≡ Err refusal
        unbuilt f =
            on_time
            ∙ refused-first (building target) (testing target)
            (build-refused (circuit_in a) target rooms.pairs rooms.formula m f)

        -- it is built, and the refutation tested
        pub tested : {counts : Counts} {formula : List ℤ} {answer : Checked} → made ≡ Ok counts →
            FormulaFront (circuit_in a) target counts formula →
            Tested counts.variables (take counts.numbers formula) refutation rooms.propagation answer →
            Answers rows (clauses_of (numbers_for (circuit_of file arrivals slopes) (suc delay)))
            (clauses_of refutation) answer
        tested {counts} {formula} {answer} f b x =
            let passes = (answer-counts (circuit_in a) target rooms.pairs rooms.formula m f).0 in
            subst (λ (zs : List ℤ). Answers rows (clauses_of zs) (clauses_of refutation) answer)
            (b.numbers-are ∙ ap₂ numbers_for (sym taken-circuit) next)
            (answers-as (sym (on_time ∙ passed_first (building target) (testing target) passes))
            (subst
            (λ (k : ℕ). Tested k (take counts.numbers formula) refutation rooms.propagation answer)
            b.variables-are x))

  -- where all pass, the slices hold what acceptance leaves
  pub leaves-all : {target : ℕ} {answer : Checked} {values times pairs : List ℕ} {formula : List ℤ}
      {propagation : List ℕ} → target ≡ suc delay →
      values ≡ (evaluation_of (circuit_in a) vector rooms.values rooms.times).values →
      times ≡ (evaluation_of (circuit_in a) vector rooms.values rooms.times).times →
      pairs ≡ (building_of (circuit_in a) target rooms.pairs rooms.formula).pairs →
      formula ≡ (building_of (circuit_in a) target rooms.pairs rooms.formula).formula →
      propagation ≡ replicate rooms.propagation 0 → answer ≡ Ok tt →
      Meets (certified (circuit_of file arrivals slopes) delay vector rooms)
      (leaving answer values times pairs formula propagation)
  unfolding certified
  leaves-all next v w p f g e =
      rw taken-circuit
      (record {
        answer-is = e;
        values-are = v;
        times-are = w;
        pairs-are = cc;
        formula-is = cc;
        propagation-is = g;
      })
