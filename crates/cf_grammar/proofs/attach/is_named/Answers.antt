use Rattle.std.proofs.Common.{◌∙◌, ◌&&◌, ap, sym, not, codes, true, false}
use Rattle.std.proofs.lemmas.Bool.{true≢false}
use Rattle.cf_words.specs.Words.{piece_of}
use Rattle.cf_words.proofs.Blank.{blank}
use Rattle.cf_grammar.proofs.AttachLemmas.{before_last}
use Rattle.cf_grammar.proofs.attach.is_named.Goals as goal

pub returns-then-is_word : goal.returns-then-is_word
returns-then-is_word c =
    ap (λ b. b && not c.is_mark.result) (sym c.if-is_word.true)
    ∙ before_last piece_of (codes "with") c.args.words.now blank c.is_word.result c.is_mark.result c.in-len3-up.len_at_least c.is_word.ensures (λ _. c.is_mark.ensures)

pub returns-else-is_word : goal.returns-else-is_word
returns-else-is_word c =
    c.if-is_word.false ∙ ap (λ b. b && true) (sym c.if-is_word.false)
    ∙ before_last piece_of (codes "with") c.args.words.now blank c.is_word.result false c.in-len3-up.len_at_least c.is_word.ensures (λ here. absurd (true≢false (sym here ∙ c.if-is_word.false)))
