use Rattle.std.proofs.Common.{◌≡◌, ◌∙◌, ap, false, get_or, length, subst, sym}
use Rattle.std.specs.Prelude.{nat_le}
use Rattle.std.proofs.lemmas.Bool.{lt-leb}
use Rattle.std.proofs.lemmas.List.Folds.{list_all_at, list_all-map}
use Rattle.config_rules.specs.Cut.{piece}
use Rattle.cf_grammar.proofs.FileLemmas.{first}
use Rattle.cf_grammar.proofs.file.are_short.Goals as goal

pub returns-then-word_of-gt-MAX_TOKEN : goal.returns-then-word_of-gt-MAX_TOKEN
returns-then-word_of-gt-MAX_TOKEN c =
    let size : length c.word_of.result.text.now ≡ length (piece c.args.text.now (get_or c.args.tokens.now c.loop-token.token-index first)).text = ap (λ p. length p.text) c.word_of.ensures in
    let long : nat_le (length (piece c.args.text.now (get_or c.args.tokens.now c.loop-token.token-index first)).text) 1023 ≡ false = subst (λ n. nat_le n 1023 ≡ false) size (lt-leb (length c.word_of.result.text.now) 1023 c.if-word_of-gt-MAX_TOKEN.true) in
    sym (list_all-map (λ q. nat_le (length q.text) 1023) (piece c.args.text.now) c.args.tokens.now
    ∙ list_all_at (λ t. nat_le (length (piece c.args.text.now t).text) 1023) c.args.tokens.now c.loop-token.token-index first c.loop-token-test.true long)
