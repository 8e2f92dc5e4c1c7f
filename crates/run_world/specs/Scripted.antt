-- The scripts of a run.
use Rattle.std.specs.Prelude.{All}
use Rattle.config_rules.specs.ScriptText.{FormedScript}
use Rattle.run_rules.specs.declared.world.Setup.{Setup}

-- each script is formed
pub record FormedScripts (s : Setup) : Type 0 where
  pub formed : All FormedScript s.scripts
