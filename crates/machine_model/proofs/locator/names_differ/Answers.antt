use Rattle.std.proofs.Common.{◌∙◌, ap, sym}
use Rattle.config_rules.specs.MachineText.{differ}
use Rattle.machine_model.proofs.WordLemmas.{names_given}
use Rattle.machine_model.proofs.locator.names_differ.Goals as goal

pub returns-then-found-le-FEW : goal.returns-then-found-le-FEW
returns-then-found-le-FEW c = c.differ_in_turn.ensures ∙ ap differ (sym (names_given c.args.found.now))

pub returns : goal.returns
returns c = c.differ_by_number.ensures ∙ ap differ (sym (names_given c.args.found.now))
