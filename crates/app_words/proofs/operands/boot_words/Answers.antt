use Rattle.std.proofs.Common.{map, string_bytes}
use Rattle.app_words.proofs.OperandLemmas.{boot_error, boot_found, given, lacks, stopped}
use Rattle.app_words.proofs.operands.boot_words.Goals as goal

pub returns-in_err-matches : goal.returns-in_err-matches
returns-in_err-matches c =
    stopped _ _ _ c.from_residual-in_err-matches.ensures.1
    (boot_error _ (map string_bytes c.args.operands.now) c.in_err-matches.field-0.0 c.in_ok-command.ensures c.requires c.in_err-matches.ensures.kinds)

pub returns-in_default : goal.returns-in_default
returns-in_default c =
    let found = boot_found _ (map string_bytes c.args.operands.now) c.in_ok-matches.matches c.in_ok-command.ensures c.requires
    c.in_ok-matches.ensures.kinds c.in_ok-matches.ensures.matches in
    lacks c.in_default.ensures found.3

pub returns-in_default-get_str : goal.returns-in_default-get_str
returns-in_default-get_str c =
    let found = boot_found _ (map string_bytes c.args.operands.now) c.in_ok-matches.matches c.in_ok-command.ensures c.requires
    c.in_ok-matches.ensures.kinds c.in_ok-matches.ensures.matches in
    lacks c.in_default-get_str.ensures found.4

pub returns : goal.returns
returns c =
    let found = boot_found _ (map string_bytes c.args.operands.now) c.in_ok-matches.matches c.in_ok-command.ensures c.requires
    c.in_ok-matches.ensures.kinds c.in_ok-matches.ensures.matches in
    given found.2 c.in-Some.ensures found.3 c.in-Some-get_str.ensures found.4
