use Rattle.std.proofs.Common.{refl}
use Rattle.app_words.specs.Status.{status_of}
use Rattle.app_input.proofs.AskedLaws.{all_asked}
use Rattle.app_input.proofs.plans.load_plan.Goals as goal

pub returns-in-Ok-clause-asked : goal.returns-in-Ok-clause-asked
returns-in-Ok-clause-asked g c = all_asked _ (status_of c.judge_plan.result) _ _ c.in-Ok.ensures.asked
