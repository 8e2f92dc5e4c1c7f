use Rattle.std.proofs.Common.{◌==◌, ◌∙◌, ap, sym, is_some}
use Rattle.cf_types.proofs.PlaceLemmas.{find_found}
use Rattle.next_deed.proofs.power.is_live.Goals as goal

pub returns : goal.returns
returns c = sym (c.is_some.ensures ∙ ap is_some c.device.ensures.found ∙ find_found (λ d. d.serial == c.args.serial) c.args.going.now.live)
