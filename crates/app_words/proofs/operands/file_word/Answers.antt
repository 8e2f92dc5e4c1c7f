use Rattle.std.proofs.Common.{map, string_bytes, None, Some}
use Rattle.app_words.specs.Words.{file_in}
use Rattle.app_words.proofs.OperandLemmas.{file_error, file_found, stopped_at}
use Rattle.app_words.proofs.operands.file_word.Goals as goal

pub returns-in_err-matches-clause-stop : goal.returns-in_err-matches-clause-stop
returns-in_err-matches-clause-stop c =
    stopped_at (file_in (map string_bytes c.args.operands.now)) _ _ c.from_residual-in_err-matches.ensures.1
    (file_error _ (map string_bytes c.args.operands.now) c.in_err-matches.field-0.0 c.in_ok-command.ensures c.requires c.in_err-matches.ensures.kinds)

pub returns-in-Some-clause-file : goal.returns-in-Some-clause-file
returns-in-Some-clause-file c =
    file_found _ (map string_bytes c.args.operands.now) c.in_ok-matches.matches (Some c.in-Some.file.now) c.in_ok-command.ensures c.requires
    c.in_ok-matches.ensures.kinds c.in_ok-matches.ensures.matches c.in-Some.ensures

pub returns-clause-stop : goal.returns-clause-stop
returns-clause-stop c =
    file_found _ (map string_bytes c.args.operands.now) c.in_ok-matches.matches None c.in_ok-command.ensures c.requires
    c.in_ok-matches.ensures.kinds c.in_ok-matches.ensures.matches c.in-None.ensures
