use Rattle.std.proofs.Common.{◌≡◌, ◌-◌, ◌≤◌, length, map, take}
use Rattle.std.specs.List.{All}
use Rattle.std.specs.Str.{str_to_ascii_lowercase}
use Rattle.file_select.specs.Texts.{IsShort, with_texts}
use Rattle.file_select.proofs.names.insert_options.Given as goal

abbrev pub invariant-loop-place : goal.invariant-loop-place
invariant-loop-place l = record {
  within : l.place ≤ length l.options;
  names : l.names ≡ with_texts l.initial.names (map str_to_ascii_lowercase (map (λ i. i.name) (take l.place l.options)));
  short : All IsShort l.initial.names → All IsShort l.names;
}

abbrev pub decreases-loop-place : goal.decreases-loop-place
decreases-loop-place l = length l.options - l.place
