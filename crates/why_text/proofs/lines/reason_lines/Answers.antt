use Rattle.std.proofs.Common.{◌≡◌, subst}
use Rattle.std.specs.Prelude.{IfOk}
use Rattle.match_reasons.specs.declared.told.Told.{Told}
use Rattle.why_text.specs.Looks.{setup_in}
use Rattle.why_text.specs.WhyText.{told_lines}
use Rattle.why_text.proofs.lines.reason_lines.Goals as goal

pub returns : goal.returns
returns c =
    let look = c.args.look.now in
    subst (λ (told : Told). IfOk c.told_lines.result (λ lines. lines.items ≡ told_lines c.args.takes.now (setup_in look) look.live.now.devices look.parent look.spot told)) c.in_ok-told.ensures c.told_lines.ensures
