use Rattle.std.proofs.Common.{◌≡◌, drop}
use Rattle.config_rules.specs.MachineText.{differ}
use Rattle.machine_text.specs.Words.{seen}
use Rattle.machine_model.proofs.word.differ.Given as goal

abbrev pub invariant-loop-i : goal.invariant-loop-i
invariant-loop-i l = differ (seen (drop l.i l.words)) ≡ differ (seen l.words)
