use Rattle.std.proofs.Common.{◌∙◌, ap, sym, Some}
use Rattle.machine_model.proofs.WordLemmas.{match_is}
use Rattle.machine_model.proofs.word.ranged_match.Goals as goal

pub returns-in-Some : goal.returns-in-Some
returns-in-Some c = ap Some c.within_match.ensures ∙ match_is _ c.args.word.now (sym c.in-Some.is ∙ c.ranged.ensures)

pub returns-in-None : goal.returns-in-None
returns-in-None c = match_is _ c.args.word.now (sym c.in-None.is ∙ c.ranged.ensures)
