use Rattle.std.proofs.Common.{◌≡◌, ◌++◌, length}
use Rattle.std.specs.List.{All}
use Rattle.file_select.specs.Texts.{IsShort, texts_in}
use Rattle.file_select.proofs.texts.TextSet.into_names.Given as goal

abbrev pub invariant-loop-text : goal.invariant-loop-text
invariant-loop-text l = record {
  parts : l.names.items ++ texts_in l.texts ≡ texts_in l.initial.texts;
  short : All IsShort (texts_in l.texts);
}

abbrev pub decreases-loop-text : goal.decreases-loop-text
decreases-loop-text l = length l.texts.keys
