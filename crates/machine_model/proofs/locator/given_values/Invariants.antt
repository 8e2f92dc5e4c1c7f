use Rattle.std.proofs.Common.{◌≡◌, drop, map}
use Rattle.config_rules.specs.Form.{each}
use Rattle.config_rules.specs.MachineText.{located_value}
use Rattle.cf_words.proofs.ListLemmas.{with_front}
use Rattle.machine_text.specs.Words.{seen}
use Rattle.machine_model.specs.Found.{given_of}
use Rattle.machine_model.proofs.locator.given_values.Given as goal

abbrev pub invariant-loop-word : goal.invariant-loop-word
invariant-loop-word l = with_front (map given_of l.found.items) (each located_value (seen (drop l.word-index l.words))) ≡ each located_value (seen l.words)
