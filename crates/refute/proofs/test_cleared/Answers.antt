-- `refute::test_cleared` meets its contract: where the rows pass, the slice's first V+1 elements are the marks of the
-- verdict. Assumes nothing.
use Rattle.std.proofs.Common.{◌≡◌, sym, ◌∙◌, arith, length, length-take-le, Err, rules}
use Rattle.refute.specs.Promise.{malformed}
use Rattle.refute.proofs.Judging as J
use Rattle.refute.proofs.test_cleared.Goals as goal
use Rattle.refute.proofs.test_cleared.Goals.{In_ok-refutation_rows}

-- what it means that the rows before 14 pass
fit : (c : In_ok-refutation_rows) → J.Fit c.args.variables c.args.refutation.now (length c.args.propagation.now)
fit c = J.rows_pass _ _ _ (sym c.refutation_rows.ensures ∙ c.in_ok-refutation_rows.was)

pub returns-in_err-refutation_rows-clause-tested : goal.returns-in_err-refutation_rows-clause-tested
returns-in_err-refutation_rows-clause-tested c =
    let same : c.from_residual.result ≡ Err c.in_err-refutation_rows.field-0.0 = search rules in
    rw same (malformed (sym c.refutation_rows.ensures ∙ c.in_err-refutation_rows.was))

pub slice_bounds-judge_clauses-end : goal.slice_bounds-judge_clauses-end
slice_bounds-judge_clauses-end c =
    let f = fit (goal.at.slice_bounds-judge_clauses-end c).In_ok-refutation_rows in omega (arith, f.roomy)

pub slice_bounds-judge_clauses-end-2 : goal.slice_bounds-judge_clauses-end-2
slice_bounds-judge_clauses-end-2 c =
    let f = fit (goal.at.slice_bounds-judge_clauses-end-2 c).In_ok-refutation_rows in
    sym (length-take-le _ _ (omega (arith, f.roomy)))

pub judge_clauses-requires-clause-clear : goal.judge_clauses-requires-clause-clear
judge_clauses-requires-clause-clear c = J.part-clear _ _ _ c.requires.clear

pub judge_clauses-requires-clause-formula : goal.judge_clauses-requires-clause-formula
judge_clauses-requires-clause-formula c =
    let f = fit (goal.at.judge_clauses-requires-clause-formula c).In_ok-refutation_rows in
    J.formula-stored (J.marks-long _ f) c.requires.well_formed

pub judge_clauses-requires-clause-refutation : goal.judge_clauses-requires-clause-refutation
judge_clauses-requires-clause-refutation c =
    let f = fit (goal.at.judge_clauses-requires-clause-refutation c).In_ok-refutation_rows in
    rw (← J.marks-long _ f) f.within

pub returns-clause-tested : goal.returns-clause-tested
returns-clause-tested c =
    let f = fit (goal.at.returns-clause-tested c).In_ok-refutation_rows in
    J.tested-answer (J.marks-long _ f) c.requires.well_formed f
    (sym c.refutation_rows.ensures ∙ c.in_ok-refutation_rows.was) c.judge_clauses.ensures.value

pub returns-clause-propagation_after : goal.returns-clause-propagation_after
returns-clause-propagation_after c =
    J.lent_back _ _ _ _ c.requires.clear c.judge_clauses.ensures.marks_after
