use Rattle.std.proofs.Common.{rules}
use Rattle.script_text.proofs.PairLemmas.{few_io, many_io}
use Rattle.script_text.proofs.command.io_command.Goals as goal
use Rattle.script_text.proofs.command.io_command.Goals.{in_default-via-then-words-lt2, in_default-via-else-words-lt2+else-words-lt3}

pub returns-in_default : goal.returns-in_default
returns-in_default c = elim c.in_default.branch [
  | in_default-via-then-words-lt2 w ↦ few_io c.args.words.now (search rules)
  | in_default-via-else-words-lt2+else-words-lt3 w ↦ many_io c.args.words.now (search rules)
]
