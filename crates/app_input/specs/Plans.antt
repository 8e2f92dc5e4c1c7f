-- What a plan file gives.
use Rattle.std.specs.Prelude.{ℕ, Result, List}
use Rattle.cf_types.specs.declared.tables.Tables.{Tables}
use Rattle.config_rules.specs.Reading.{Files}
use Rattle.live_rules.specs.declared.plan.Plan.{Plan}
use Rattle.live_rules.specs.PlanText.{plan_of}
use Rattle.app_words.specs.declared.status.Status.{Status}
use Rattle.app_input.specs.Scripted.{file_gives, unless_bad_line}

-- the plan that the file of this name has; its bad lines have the number 0
abbrev pub plan_from : Files → Tables → List ℕ → Result Plan Status
plan_from files tables name = file_gives (λ text. unless_bad_line 0 (plan_of tables text)) name (files name)
