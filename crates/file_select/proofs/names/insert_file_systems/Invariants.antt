use Rattle.std.proofs.Common.{◌≡◌, map, take}
use Rattle.std.specs.List.{All}
use Rattle.std.specs.Str.{str_to_ascii_lowercase}
use Rattle.file_select.specs.Texts.{IsShort, with_texts}
use Rattle.file_select.proofs.names.insert_file_systems.Given as goal

abbrev pub invariant-loop-name : goal.invariant-loop-name
invariant-loop-name l = record {
  names : l.names ≡ with_texts l.initial.names (map str_to_ascii_lowercase (take l.name-index l.file_systems));
  short : All IsShort l.initial.names → All IsShort l.names;
}
