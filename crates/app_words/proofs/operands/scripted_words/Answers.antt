use Rattle.std.proofs.Common.{◌∙◌, map, string_bytes}
use Rattle.app_words.proofs.OperandLemmas.{lacks, stopped}
use Rattle.app_words.proofs.ScriptedOperands.{read_of, says_scripted, scripted_error}
use Rattle.app_words.proofs.operands.scripted_words.Goals as goal

pub returns-in_err-matches : goal.returns-in_err-matches
returns-in_err-matches c =
    stopped _ _ _ c.from_residual-in_err-matches.ensures.1
    (scripted_error c.args.task _ (map string_bytes c.args.operands.now) c.in_err-matches.field-0.0 c.in_ok-command.ensures c.requires c.in_err-matches.ensures.kinds)

pub returns-in_default-get_str : goal.returns-in_default-get_str
returns-in_default-get_str c =
    let says = says_scripted c.args.task string_bytes c.args.operands.now _ c.in_ok-matches.matches c.in-len3-up.len_at_least c.in_ok-command.ensures c.requires
    c.in_ok-matches.ensures.kinds c.in_ok-matches.ensures.matches in
    lacks c.in_default-get_str.ensures says.reads_file

pub returns-in_default-get_str-2 : goal.returns-in_default-get_str-2
returns-in_default-get_str-2 c =
    let says = says_scripted c.args.task string_bytes c.args.operands.now _ c.in_ok-matches.matches c.in-len3-up.len_at_least c.in_ok-command.ensures c.requires
    c.in_ok-matches.ensures.kinds c.in_ok-matches.ensures.matches in
    lacks c.in_default-get_str-2.ensures says.reads_machine

pub returns-in_default-get_str-3 : goal.returns-in_default-get_str-3
returns-in_default-get_str-3 c =
    let says = says_scripted c.args.task string_bytes c.args.operands.now _ c.in_ok-matches.matches c.in-len3-up.len_at_least c.in_ok-command.ensures c.requires
    c.in_ok-matches.ensures.kinds c.in_ok-matches.ensures.matches in
    lacks c.in_default-get_str-3.ensures says.reads_course

pub returns : goal.returns
returns c =
    let says = says_scripted c.args.task string_bytes c.args.operands.now _ c.in_ok-matches.matches c.in-len3-up.len_at_least c.in_ok-command.ensures c.requires
    c.in_ok-matches.ensures.kinds c.in_ok-matches.ensures.matches in
    let file = read_of c.in-Some.ensures says.reads_file in
    let machine = read_of c.in-Some-get_str.ensures says.reads_machine in
    let course = read_of c.in-Some-get_str-2.ensures says.reads_course in
    (says.is ∙ cc, says.some, says.few)
