use Rattle.std.proofs.Common.{◌≡◌, ℕ, ◌+◌, ◌-◌, ◌*◌, true, Option, Some, List, [], length}
use Rattle.cf_io.specs.Load.{asked_behind}
use Rattle.cf_grammar.specs.Statement.{AreWithin}
use Rattle.config_rules.specs.Reading.{Files, statements_in, reader}
use Rattle.cf_expand.specs.Levels.{read_statements}
use Rattle.cf_lexer.specs.Rest.{all_tokens, is_closed}
use Rattle.cf_expand.specs.Steps.{here_of}
use Rattle.cf_expand.specs.Unread.{all_left}
use Rattle.cf_expand.proofs.reading.+statements.Given as goal

abbrev pub decreases-read_directive : goal.decreases-read_directive
decreases-read_directive g l = 3 * l.place.source.now.levels

abbrev pub decreases-read_with_include : goal.decreases-read_with_include
decreases-read_with_include g l = 3 * l.place.source.now.levels + 1

abbrev pub decreases-read_source : goal.decreases-read_source
decreases-read_source g l = 3 * l.source.now.levels + 2

abbrev pub invariant-read_source-loop-first : goal.invariant-read_source-loop-first
invariant-read_source-loop-first g l = record {
  told : g.F.Files.told l.files ≡ g.F.Files.told l.fn.files;
  counted : g.F.Files.faults l.files ≡ g.F.Files.faults l.fn.files;
  text : l.left.text ≡ l.source.text;
  within : AreWithin l.source.text (all_left l.left);
  closed : is_closed l.left.kept ≡ true;
  ready : l.left.kept ≡ [] → l.left.more ≡ [];
  asked : (named : Files) → g.F.Files.told l.fn.files ≡ Some named → (start : Option (List (List ℕ))) (around : ℕ) → l.source.room ≡ 16 - around
      → g.F.Files.asked l.fn.files ≡ asked_behind start l.fn.progress.asked → g.F.Files.asked l.files ≡ asked_behind start l.progress.asked;
  so_far : (named : Files) → g.F.Files.told l.fn.files ≡ Some named → (around : ℕ) → l.source.room ≡ 16 - around
      → read_statements named (reader l.source.levels named) (here_of around l.source) l.conditions (statements_in l.source.text (all_left l.left)) l.progress
      ≡ read_statements named (reader l.source.levels named) (here_of around l.source) [] (statements_in l.source.text (all_tokens l.source.text l.fn.cutting)) l.fn.progress;
}

abbrev pub decreases-read_source-loop-first : goal.decreases-read_source-loop-first
decreases-read_source-loop-first g l = length (all_left l.left)
