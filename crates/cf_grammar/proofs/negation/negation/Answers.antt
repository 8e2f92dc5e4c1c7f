use Rattle.std.proofs.Common.{Some, None}
use Rattle.cf_words.specs.Words.{piece_of}
use Rattle.cf_words.proofs.Blank.{blank}
use Rattle.cf_grammar.proofs.NegationLemmas.{no_stmt-words}
use Rattle.cf_grammar.proofs.negation.negation.Goals as goal

pub returns-in-Some : goal.returns-in-Some
returns-in-Some c =
    let e = no_stmt-words piece_of c.args.sized c.args.words.now blank (Some c.in-Some.negated) c.in-len1-up.len_at_least c.in-Some.ensures in
    rw (← e) c.no_by_word.ensures

pub returns-in-None : goal.returns-in-None
returns-in-None c =
    let e = no_stmt-words piece_of c.args.sized c.args.words.now blank None c.in-len1-up.len_at_least c.in-None.ensures in
    rw (← e) c.no_by_unit.ensures
