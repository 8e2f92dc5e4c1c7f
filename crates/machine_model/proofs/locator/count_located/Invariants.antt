use Rattle.std.proofs.Common.{◌≡◌, ◌+◌, drop, length}
use Rattle.config_rules.specs.MachineText.{located}
use Rattle.machine_text.specs.Words.{seen}
use Rattle.machine_model.proofs.locator.count_located.Given as goal

abbrev pub invariant-loop-word : goal.invariant-loop-word
invariant-loop-word l = record {
  place : l.count ≡ l.word-index;
  so_far : l.count + length (located (seen (drop l.word-index l.words))) ≡ length (located (seen l.words));
}
