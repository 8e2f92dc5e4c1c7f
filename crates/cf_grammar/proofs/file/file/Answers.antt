use Rattle.std.proofs.Common.{◌≡◌, ◌≢◌, ◌∙◌, ◌-◌, arith, codes, drop, get_or, length, List, subst, sym, take, ℕ}
use Rattle.std.proofs.lemmas.Bool.{eqb-false}
use Rattle.std.proofs.lemmas.List.{length-map}
use Rattle.cf_types.specs.declared.stmt.Piece.{Piece}
use Rattle.cf_types.specs.declared.stmt.Stmt.TheVariants as stmt
use Rattle.cf_types.specs.declared.stmt.Token.{Token}
use Rattle.config_rules.specs.Cut.{piece, pieces}
use Rattle.config_rules.specs.Form.{Form}
use Rattle.cf_words.proofs.ListLemmas.{map_first_rest}
use Rattle.cf_grammar.proofs.FileLemmas.{first, form_file}
use Rattle.cf_grammar.proofs.file.file.Goals as goal

pub returns : goal.returns
returns c =
    let text : List ℕ = c.args.text.now in
    let tokens : List Token = c.args.tokens.now in
    let rest : List Token = take (length tokens - 1) (drop 1 tokens) in
    let word : c.in_ok-word.word ≡ codes "file" = c.in_ok-word.ensures ∙ c.spelling.ensures.bytes in
    let some : length rest ≢ 0 = eqb-false (length rest) 0 (sym c.if-is_empty.ensures) in
    let form = form_file (piece text (get_or tokens 0 first)) (pieces text rest) c.if-not-is_file_word.ensures (omega (arith, length-map rest (piece text))) c.if-not-are_short.ensures in
    let here : Form (pieces text tokens) (stmt.Free (codes "file") (pieces text rest)) =
    subst (λ (ps : List Piece). Form ps (stmt.Free (codes "file") (pieces text rest))) (map_first_rest (piece text) tokens first c.in-len1-up.len_at_least) form in
    subst (λ (w : List ℕ). Form (pieces text tokens) (stmt.Free w c.in_ok-rest.rest)) (sym word)
    (subst (λ (ps : List Piece). Form (pieces text tokens) (stmt.Free (codes "file") ps)) (sym c.in_ok-rest.ensures) here)
