use Rattle.std.proofs.Common.{ℕ, List, subst}
use Rattle.config_rules.specs.ScriptText.{rescan_form}
use Rattle.script_text.specs.Left.{Leaves}
use Rattle.script_text.proofs.PairLemmas.{two_words}
use Rattle.script_text.proofs.command.rescan_command.Goals as goal

pub returns-in-len2-up : goal.returns-in-len2-up
returns-in-len2-up c = subst (λ (ws : List (List ℕ)). Leaves (rescan_form ws) c.rescan_on.result) (two_words c.args.words.now c.in-len2-up.len_at_least) c.rescan_on.ensures
