use Rattle.std.proofs.Common.{◌≡◌, false, map, get_or}
use Rattle.std.specs.Prelude.{filter}
use Rattle.std.specs.List.{All}
use Rattle.cf_types.specs.Numbers.{below}
use Rattle.file_rules.specs.Chosen.{attr_name}
use Rattle.file_select.specs.Texts.{IsShort, with_texts}
use Rattle.file_select.proofs.names.insert_attrs.Given as goal

abbrev pub invariant-loop-place : goal.invariant-loop-place
invariant-loop-place l = record {
  names : l.names ≡ with_texts l.initial.names (map (attr_name l.attrs) (filter (λ a. get_or l.marks a false) (below l.place)));
  short : All IsShort l.initial.names → All IsShort l.names;
}
