use Rattle.std.proofs.Common.{◌∙◌, ap, sym}
use Rattle.std.specs.Option.{option_map_or}
use Rattle.match_reasons.proofs.LineLaws.{value_by_line}
use Rattle.match_reasons.proofs.matches.match_value.Goals as goal

pub returns-in-Some : goal.returns-in-Some
returns-in-Some c =
    sym (value_by_line c.args.machine.now c.args.attach c.args.spot ∙ ap (λ o. option_map_or (λ line. line.value) o 0) (sym c.in-Some.ensures))

pub returns-in-None : goal.returns-in-None
returns-in-None c =
    sym (value_by_line c.args.machine.now c.args.attach c.args.spot ∙ ap (λ o. option_map_or (λ line. line.value) o 0) (sym c.in-None.ensures))
