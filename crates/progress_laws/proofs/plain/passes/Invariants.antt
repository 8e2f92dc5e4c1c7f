use Rattle.std.proofs.Common.{◌≡◌, drop}
use Rattle.progress_laws.specs.Plain.{lets_go, lets_go_first}
use Rattle.progress_laws.proofs.plain.passes.Given as goal

abbrev pub invariant-loop-command : goal.invariant-loop-command
invariant-loop-command l = lets_go_first l.script ≡ lets_go l.names.items (drop l.command-index l.script)
