use Rattle.std.proofs.Common.{◌∙◌, sym}
use Rattle.std.proofs.lemmas.Bool.{not-false}
use Rattle.quiet_events.proofs.Quiet.{ends_no_wait}
use Rattle.quiet_events.proofs.waits.may_end_wait.Goals as goal

pub returns-clause-law : goal.returns-clause-law
returns-clause-law c = λ quiet. ends_no_wait c.args.act.now (sym c.is_quiet.ensures ∙ not-false c.is_quiet.result quiet)
