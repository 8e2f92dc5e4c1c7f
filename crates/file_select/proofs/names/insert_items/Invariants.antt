use Rattle.std.proofs.Common.{◌≡◌, map, take}
use Rattle.std.specs.List.{All}
use Rattle.std.specs.Str.{str_to_ascii_lowercase}
use Rattle.file_select.specs.Texts.{IsShort, with_texts}
use Rattle.file_select.proofs.names.insert_items.Given as goal

abbrev pub invariant-loop-item : goal.invariant-loop-item
invariant-loop-item l = record {
  names : l.names ≡ with_texts l.initial.names (map str_to_ascii_lowercase (map (λ i. i.name) (take l.item-index l.items)));
  short : All IsShort l.initial.names → All IsShort l.names;
}
