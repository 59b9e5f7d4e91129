-- `refute::check` meets its contract: row 11 first, and then what `test` promises. Assumes nothing.
use Rattle.std.proofs.Common.{◌≡◌, sym, ◌∙◌, Err, rules}
use Rattle.refute.specs.Promise.{malformed}
use Rattle.refute.proofs.Judging as J
use Rattle.refute.proofs.check.Goals as goal

pub returns-in_err-formula_rows-clause-checks : goal.returns-in_err-formula_rows-clause-checks
returns-in_err-formula_rows-clause-checks c =
    let same : c.from_residual.result ≡ Err c.in_err-formula_rows.field-0.0 = search rules in
    rw same
    (malformed (J.formula-refuses _ _ _ _ (sym c.formula_rows.ensures ∙ c.in_err-formula_rows.was)))

pub test_cleared-requires-clause-well_formed : goal.test_cleared-requires-clause-well_formed
test_cleared-requires-clause-well_formed c =
    J.formula-passes _ _ (sym c.formula_rows.ensures ∙ c.in_ok-formula_rows.was)

pub returns-clause-checks : goal.returns-clause-checks
returns-clause-checks c =
    J.formula-leaves _ _ _ _ (sym c.formula_rows.ensures ∙ c.in_ok-formula_rows.was)
    (rw c.fill.ensures.len at c.test_cleared.ensures.tested)
