use Rattle.std.proofs.Common.{rules, ◌≡◌, ◌≤◌, ◌+◌, ◌++◌, ◌∙◌, [], ap, sym, append-nil, arith, length, drop, Ok, Some}
use Rattle.std.specs.Prelude.{Option}
use Rattle.std.proofs.lemmas.Result.{err_from_is_err_and}
use Rattle.config_rules.specs.Cut.{cut_of}
use Rattle.cf_lexer.specs.Line.{Shows}
use Rattle.cf_lexer.specs.Lines.{first_of, lines_from, rest_of}
use Rattle.cf_lexer.proofs.PlaceLemmas.{next_place, next_within, place_of, so_far_at, some_within, text_further}
use Rattle.cf_lexer.proofs.TextWords.{finish}
use Rattle.config_rules.proofs.CutText.{cut_sound}
use Rattle.cf_lexer.specs.declared.rest.Rest.{Rest}
use Rattle.cf_lexer.specs.Rest.{all_result, all_tokens, is_closed, rest_tokens}
use Rattle.cf_lexer.proofs.RestLemmas.{check_fails, closed_statement, cut_up_to, fault_shown}
use Rattle.cf_lexer.proofs.TextLemmas.{line_fails, lines_end, cut_is}
use Rattle.cf_lexer.proofs.text.cut.Goals as goal

pub overflow_add-number : goal.overflow_add-number
overflow_add-number c =
    let text = c.args.text.now in
    let within : c.in-Some.start ≤ length text = some_within c.loop-left.left c.in-Some.start (length text) c.in-Some.is c.loop-left.invariant.within in
    omega (arith, within, c.loop-left.invariant.count, ap (place_of text) c.in-Some.is, c.requires)

pub returns-in_err-left : goal.returns-in_err-left
returns-in_err-left c =
    let text = c.args.text.now in
    let start = c.in-Some.start in
    let p = err_from_is_err_and c.from_residual-in_err-left.result c.from_residual-in_err-left.ensures.1 in
    let shown : Shows (cut_of text) (all_result text c.from_residual-in_err-left.result) =
    rw (p.1, p.2) (line_fails text c.loop-left.tokens.items c.end_statement.new.tokens.items c.cut_line.new.tokens.items c.loop-left.number start (first_of (drop start text)) (rest_of (drop start text)) _
    c.in_err-left.ensures.tokens
    (so_far_at text c.loop-left.tokens.items c.loop-left.number start c.loop-left.left _ c.in-Some.is c.loop-left.invariant.so_far)) in
    record { cut = search rules; fault = fault_shown text c.from_residual-in_err-left.result shown; exact = shown; closed = search rules; rest = search rules }

pub loop-left-preserved : goal.loop-left-preserved
loop-left-preserved c =
    let text = c.args.text.now in
    let start = c.in-Some.start in
    let left = c.in_ok-left.left in
    let within : start ≤ length text = some_within c.loop-left.left start (length text) c.in-Some.is c.loop-left.invariant.within in
    let most = next_within left start (length text) c.in_ok-left.ensures.further in
    record {
      so_far =
          text_further text c.loop-left.tokens.items c.end_statement.new.tokens.items c.cut_line.new.tokens.items c.loop-left.number start left _ within most
          c.in_ok-left.ensures.behind c.in_ok-end_statement.ensures c.in_ok-left.ensures.tokens
          (so_far_at text c.loop-left.tokens.items c.loop-left.number start c.loop-left.left _ c.in-Some.is c.loop-left.invariant.so_far);
      within = most;
      count = omega (arith, c.loop-left.invariant.count, ap (place_of text) c.in-Some.is, next_place text start left within most c.in_ok-left.ensures.behind);
    }

pub loop-left-smaller : goal.loop-left-smaller
loop-left-smaller c =
    let text = c.args.text.now in
    let start = c.in-Some.start in
    let left = c.in_ok-left.left in
    let within : start ≤ length text = some_within c.loop-left.left start (length text) c.in-Some.is c.loop-left.invariant.within in
    let most = next_within left start (length text) c.in_ok-left.ensures.further in
    omega (arith, within, ap (place_of text) c.in-Some.is, next_place text start left within most c.in_ok-left.ensures.behind)

pub returns : goal.returns
returns c =
    let text = c.args.text.now in
    let whole : cut_of text ≡ Ok c.push_stop.new.tokens.items =
    lines_end text c.loop-left.tokens.items c.push_stop.new.tokens.items c.loop-left.number (length text + 1) c.in_ok-push_stop.ensures
    (ap (λ o. finish c.loop-left.tokens.items c.loop-left.number (place_of text o) (lines_from text o)) (sym c.in_default.is) ∙ c.loop-left.invariant.so_far) in
    let exact = whole ∙ ap Ok (sym (append-nil c.from_vec-2.result ∙ c.from_vec-2.ensures)) in
    record {
      cut = cut_is text (Ok (c.from_vec-2.result ++ [])) exact;
      fault = tt;
      exact = exact;
      closed = ap is_closed (c.from_vec-2.ensures ∙ c.in_ok-push_stop.ensures) ∙ closed_statement c.loop-left.tokens.items;
      rest = tt;
    }

pub check-requires-clause-number : goal.check-requires-clause-number
check-requires-clause-number c = omega (arith, c.loop-left.invariant.count, ap (place_of c.args.text.now) c.in-Some.is)

pub returns-in_err-check : goal.returns-in_err-check
returns-in_err-check c =
    let text = c.args.text.now in
    let p = err_from_is_err_and c.from_residual-in_err-check.result c.from_residual-in_err-check.ensures.1 in
    let shown : Shows (cut_of text) (all_result text c.from_residual-in_err-check.result) =
    rw (p.1, p.2) (check_fails text c.loop-left.tokens.items c.loop-left.number c.in-Some.start _ c.in_err-check.ensures
    (so_far_at text c.loop-left.tokens.items c.loop-left.number c.in-Some.start c.loop-left.left _ c.in-Some.is c.loop-left.invariant.so_far)) in
    record { cut = search rules; fault = fault_shown text c.from_residual-in_err-check.result shown; exact = shown; closed = search rules; rest = search rules }

pub returns-then-opens : goal.returns-then-opens
returns-then-opens c =
    let text = c.args.text.now in
    let start = c.in-Some.start in
    let within : start ≤ length text = some_within c.loop-left.left start (length text) c.in-Some.is c.loop-left.invariant.within in
    let counted : c.loop-left.number ≤ start + 1 = omega (arith, c.loop-left.invariant.count, ap (place_of text) c.in-Some.is) in
    let up = cut_up_to text c.loop-left.tokens.items c.end_statement.new.tokens.items c.loop-left.number start c.requires within counted (c.opens.ensures c.if-opens.true) c.in_ok-end_statement.ensures c.in_ok-check.ensures
    (so_far_at text c.loop-left.tokens.items c.loop-left.number start c.loop-left.left _ c.in-Some.is c.loop-left.invariant.so_far) in
    let rest : Option Rest = Some (record { line = c.loop-left.number; place = start }) in
    let whole = up.0 ∙ ap (λ ts. Ok (ts ++ rest_tokens text rest)) (sym c.from_vec.ensures) in
    record {
      cut = cut_sound text (all_tokens text (record { tokens = c.from_vec.result; rest = rest })) whole;
      fault = tt;
      exact = whole;
      closed = ap is_closed c.from_vec.ensures ∙ up.2;
      rest = up.1;
    }
