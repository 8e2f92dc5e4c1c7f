use Rattle.std.proofs.Common.{◌≡◌, ◌+◌, ◌≤◌, [], suc, length}
use Rattle.std.specs.Option.{option_map_or}
use Rattle.cf_types.specs.Lines.{lines_of}
use Rattle.config_rules.specs.MachineText.{after_lines, no_machine, word_lines}
use Rattle.machine_model.specs.Indexed.{IsDraft}
use Rattle.machine_model.proofs.MachineLemmas.{words_from}
use Rattle.machine_model.proofs.machine.read_with.Given as goal

abbrev pub invariant-loop-left : goal.invariant-loop-left
invariant-loop-left l = record {
  so_far : after_lines l.index.tables.now (words_from l.number (option_map_or (λ text. lines_of text.now) l.left [])) l.draft.machine ≡ after_lines l.index.tables.now (word_lines l.text) (no_machine l.index.tables.now);
  draft : IsDraft l.draft;
  count : l.number + option_map_or (λ text. suc (length text.now)) l.left 0 ≤ length l.text + 2;
}

abbrev pub decreases-loop-left : goal.decreases-loop-left
decreases-loop-left l = option_map_or (λ text. suc (length text.now)) l.left 0
