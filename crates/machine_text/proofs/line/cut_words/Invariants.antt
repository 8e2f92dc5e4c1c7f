use Rattle.std.proofs.Common.{◌≡◌, ◌++◌, [], suc, length}
use Rattle.std.specs.Option.{option_map_or}
use Rattle.config_rules.specs.MachineText.{words_of}
use Rattle.machine_text.specs.Words.{seen}
use Rattle.machine_text.proofs.line.cut_words.Given as goal

abbrev pub invariant-loop-left : goal.invariant-loop-left
invariant-loop-left l = seen l.words.items ++ option_map_or (λ text. words_of text.now) l.left [] ≡ words_of l.line

abbrev pub decreases-loop-left : goal.decreases-loop-left
decreases-loop-left l = option_map_or (λ text. suc (length text.now)) l.left 0
