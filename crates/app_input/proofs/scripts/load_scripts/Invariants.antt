use Rattle.std.proofs.Common.{◌≡◌, ◌+◌, length, map, string_bytes, drop}
use Rattle.std.specs.Prelude.{All}
use Rattle.config_rules.specs.ScriptText.{FormedScript}
use Rattle.app_input.proofs.AskedLaws.{ScriptsLeft}
use Rattle.app_input.proofs.ScriptedLaws.{Continues}
use Rattle.app_input.proofs.scripts.load_scripts.Given as goal

-- the scripts before this one were read
abbrev pub invariant-loop-name : goal.invariant-loop-name
invariant-loop-name g l = record {
  told : g.F.Files.told l.files ≡ g.F.Files.told l.initial.files;
  counted : g.F.Files.faults l.files ≡ g.F.Files.faults l.initial.files;
  number : l.which ≡ l.name-index + 1;
  many : length l.scripts ≡ l.name-index;
  formed : All FormedScript l.scripts;
  so_far : Continues (g.F.Files.told l.initial.files) (map string_bytes l.names) l.which l.scripts (map string_bytes (drop l.name-index l.names));
  asked : ScriptsLeft (g.F.Files.told l.initial.files) (map string_bytes l.names) l.which (map string_bytes (drop l.name-index l.names)) (g.F.Files.asked l.initial.files) (g.F.Files.asked l.files);
}
