use Rattle.std.proofs.Common.{◌≡◌, length}
use Rattle.config_rules.specs.ScriptText.{are_pairs}
use Rattle.machine_text.specs.Words.{seen}
use Rattle.script_text.proofs.pairs.are_pairs.Given as goal

abbrev pub invariant-loop-rest : goal.invariant-loop-rest
invariant-loop-rest l = are_pairs (seen l.rest) ≡ are_pairs (seen l.words)

abbrev pub decreases-loop-rest : goal.decreases-loop-rest
decreases-loop-rest l = length l.rest
