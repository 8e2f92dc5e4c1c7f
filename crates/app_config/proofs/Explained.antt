-- What was not found is never so that all was written, nor that writing failed.
use Rattle.std.proofs.Common.{inl, inr, Option}
use Rattle.config_rules.specs.Reading.{Files}
use Rattle.app_words.specs.Words.{Form}
use Rattle.app_input.specs.declared.inputs.Inputs.{Inputs}
use Rattle.app_input.specs.declared.inputs.Inputs.TheVariants as input
use Rattle.app_words.specs.declared.status.Status.TheVariants.{Ok, WriteFault}
use Rattle.app_config.specs.Found.{IsRefused, Unfound}

found_or_not : (told : Option Files) (asked : Inputs) → Unfound told asked Ok → ⊥
found_or_not told (input.Ioconf tables) why = why
found_or_not told (input.Files name) why = why
found_or_not told (input.Boot tables machine) why = why
found_or_not told (input.Load n tables machine) why = why
found_or_not told (input.Play tables machine scripts order) why = why
found_or_not told (input.Replay tables machine scripts history) why = why
found_or_not told (input.Upgrade tables machine scripts history) why = why
found_or_not told (input.Watch tables machine scripts watch) why = why
found_or_not told (input.Follow tables machine plan) why = why
found_or_not told (input.Run tables machine scripts) why = why

written_or_not : (told : Option Files) (asked : Inputs) → Unfound told asked WriteFault → ⊥
written_or_not told (input.Ioconf tables) why = why
written_or_not told (input.Files name) why = why
written_or_not told (input.Boot tables machine) why = why
written_or_not told (input.Load n tables machine) why = why
written_or_not told (input.Play tables machine scripts order) why = why
written_or_not told (input.Replay tables machine scripts history) why = why
written_or_not told (input.Upgrade tables machine scripts history) why = why
written_or_not told (input.Watch tables machine scripts watch) why = why
written_or_not told (input.Follow tables machine plan) why = why
written_or_not told (input.Run tables machine scripts) why = why

pub never_found : (form : Option Form) (told : Option Files) → IsRefused form told Ok → ⊥
never_found form told (inl read) = read
never_found form told (inr (asked, read, why)) = found_or_not told asked why

pub never_written : (form : Option Form) (told : Option Files) → IsRefused form told WriteFault → ⊥
never_written form told (inl read) = read
never_written form told (inr (asked, read, why)) = written_or_not told asked why
