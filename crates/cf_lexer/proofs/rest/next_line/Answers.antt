use Rattle.std.proofs.Common.{◌≡◌, ℕ, ◌+◌, ◌∙◌, List, Some, None, ap, subst, arith, drop}
use Rattle.std.proofs.lemmas.List.{drop-drop, take_rest}
use Rattle.memchr.specs.Find.{IsFirstByte, is_byte}
use Rattle.cf_types.specs.Lines.{lines_of}
use Rattle.cf_lexer.specs.Lines.{lines_behind}
use Rattle.cf_lexer.proofs.TextLemmas.{line_at, line_whole}
use Rattle.cf_lexer.proofs.rest.next_line.Goals as goal

pub returns-in-Some-clause-behind : goal.returns-in-Some-clause-behind
returns-in-Some-clause-behind c =
    let text = c.args.text.now in
    let start = c.args.start in
    let len = c.in-Some.len in
    let first : IsFirstByte (is_byte 10) (drop start text) (Some len) = subst (λ (xs : List ℕ). IsFirstByte (is_byte 10) xs (Some len)) (take_rest text start) c.in-Some.ensures in
    let place : start + (len + 1) ≡ start + len + 1 = omega arith in
    ap lines_behind (line_at (drop start text) len first) ∙ ap lines_of (drop-drop (len + 1) start text) ∙ ap (λ (k : ℕ). lines_of (drop k text)) place

pub returns-in-None-clause-behind : goal.returns-in-None-clause-behind
returns-in-None-clause-behind c =
    let text = c.args.text.now in
    let none : IsFirstByte (is_byte 10) (drop c.args.start text) None = subst (λ (xs : List ℕ). IsFirstByte (is_byte 10) xs None) (take_rest text c.args.start) c.in-None.ensures in
    ap lines_behind (line_whole (drop c.args.start text) none)
