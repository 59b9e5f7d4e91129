-- What the text holds is what the value shows.
use Rattle.std.proofs.Common.{◌∙◌}
use Rattle.std.specs.Fmt.{WritesInCalls}
use Rattle.std.specs.Fmt.InlineText.{AppendsIfIntact}
use Rattle.std.proofs.Output.{if_some_weaken}
use Rattle.console.proofs.Written.{text_after}
use Rattle.console.proofs.print_text.Goals as goal

pub returns : goal.returns
returns g c =
    if_some_weaken (g.D.Display.output c.args.value)
    (λ words. WritesInCalls AppendsIfIntact c.new-text.result words c.write.new.self) _
    (λ words wrote.
    let shown = text_after _ _ words c.new-text.ensures.intact c.new-text.ensures.text wrote in
    rw (c.as_bytes.ensures.value ∙ c.as_str.ensures.value ∙ shown) at c.print.ensures)
    c.in_ok-write.ensures.writes
