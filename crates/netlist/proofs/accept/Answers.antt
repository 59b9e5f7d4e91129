-- `netlist::accept` meets its contract: what the file and its arrivals answer, then the slopes. Assumes nothing.
use Rattle.std.proofs.Common.{rules}
use mathlib.Core.Path.{refl, sym, ◌∙◌}
use Rattle.netlist.proofs.Calls.{opened_both, accepted}
use Rattle.netlist.proofs.Accepting.{sloped-by, early-answer, late-answer}
use Rattle.netlist.proofs.accept.Goals as goal

pub returns-in_err-shape : goal.returns-in_err-shape
returns-in_err-shape c =
    early-answer _ _ _ c.in_err-shape.field-0.0 (opened_both _ _ c.open.ensures c.arrived.ensures) (search rules)
    (search rules)

pub returns-in_err-check_form : goal.returns-in_err-check_form
returns-in_err-check_form c =
    let o = opened_both _ _ c.open.ensures c.arrived.ensures in
    late-answer _ _ _ {shape = c.in_ok-shape.shape} c.in_err-check_form.field-0.0 (sym o ∙ search rules)
    (search rules) (search rules)

pub invariant_of-result : goal.invariant_of-result
invariant_of-result c =
    let o = opened_both _ _ c.open.ensures c.arrived.ensures in
    record {
      given = accepted _ _ (sym o ∙ search rules);
      sloped = sloped-by c.in_ok-shape.shape c.args.form (search rules);
    }

pub returns : goal.returns
returns c =
    let o = opened_both _ _ c.open.ensures c.arrived.ensures in
    record {
      file-is = refl;
      arrivals-are = refl;
      slopes-are = refl;
      opens = sym o ∙ search rules;
      passes = search rules;
    }
