-- Each row of specs/Edges is a computation read as the order-free promise, as those of Examples are. Law: edges-hold.
-- Assumes nothing.
use Rattle.std.proofs.Common.{◌≡◌, refl, map}
use mathlib.Core.List.{Memᴰ}
use Rattle.clauses.specs.Clauses.{clauses_from}
use Rattle.refute.specs.Examples.{Case}
use Rattle.refute.specs.Edges.{formulas, refutations, lasts, steps, edges}
use Rattle.refute.specs.Passes.{is_true, is_free, assign, say, pass, refutes, assert, follows, verdict}
use Rattle.refute.specs.Promise.{Checks}
use Rattle.refute.specs.Rows.{first_beyond, ended, formula_rows, refutation_form, first_empty, last_row}
use Rattle.refute.proofs.Examples.{answered, computed-hold}

computed : map answered edges ≡ map (λ (c : Case). c.answer) edges
unfolding edges formulas refutations lasts steps clauses_from first_beyond ended formula_rows refutation_form
    first_empty
    last_row is_true is_free assign say pass refutes assert follows verdict
computed = refl

-- each row's check has the row's answer
pub edges-hold : (c : Case) → Memᴰ c edges →
    Checks c.variables c.formula c.refutation c.room c.answer
edges-hold = computed-hold edges computed
