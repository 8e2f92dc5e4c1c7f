-- How the callers of a board stand.
use Rattle.progress_laws.specs.Still.{HaveAllEnded, IsStuck, SomebodyDoes}
use Rattle.run_rules.specs.World.{World}
use Rattle.dev_board.specs.declared.waiting.Outlook.{Outlook}
use Rattle.dev_board.specs.declared.waiting.Outlook.TheVariants as standing

-- some caller goes on, or none does and some wait, or all have ended
abbrev pub StandsSo : Outlook → World → Type 0
StandsSo standing.Goes w = SomebodyDoes w
StandsSo standing.Stuck w = IsStuck w
StandsSo standing.Over w = HaveAllEnded w
