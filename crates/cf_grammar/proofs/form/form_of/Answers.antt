use Rattle.std.proofs.Common.{◌∙◌, Some, None, sym, ap, arith}
use Rattle.cf_types.specs.declared.keyword.Keyword.TheVariants.{No}
use Rattle.cf_words.specs.Words.{piece_of}
use Rattle.cf_words.proofs.Blank.{blank}
use Rattle.cf_grammar.proofs.FormLemmas.{form_of-none, form_of-words, keyword_first}
use Rattle.cf_grammar.proofs.form.form_of.Goals as goal

pub returns-in_default : goal.returns-in_default
returns-in_default c = form_of-none piece_of c.args.sized c.args.words.now (omega arith)

pub returns-in-Some-No : goal.returns-in-Some-No
returns-in-Some-No c =
    let found = ap Some (sym (rw c.in-Some-No.is at c.in-Some-No.field-0-is)) ∙ sym c.in-Some-No.is ∙ c.requires.keyword ∙ keyword_first piece_of c.args.words.now blank c.in-len1-up.len_at_least in
    let e = form_of-words piece_of c.args.sized c.args.words.now blank (Some No) c.in-len1-up.len_at_least (sym c.requires.short) found in
    rw (← e) c.negation.ensures

pub returns-in-Some : goal.returns-in-Some
returns-in-Some c =
    let e = form_of-words piece_of c.args.sized c.args.words.now blank (Some c.in-Some.keyword) c.in-len1-up.len_at_least (sym c.requires.short) (sym c.in-Some.is ∙ c.requires.keyword ∙ keyword_first piece_of c.args.words.now blank c.in-len1-up.len_at_least) in
    rw (← e) c.by_keyword.ensures

pub returns-in-None : goal.returns-in-None
returns-in-None c =
    let e = form_of-words piece_of c.args.sized c.args.words.now blank None c.in-len1-up.len_at_least (sym c.requires.short) (sym c.in-None.is ∙ c.requires.keyword ∙ keyword_first piece_of c.args.words.now blank c.in-len1-up.len_at_least) in
    rw (← e) c.instance.ensures
