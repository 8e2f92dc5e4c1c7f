use Rattle.std.proofs.Common.{rules, tests, ◌∙◌, ◌++◌, ℕ, List, ap, sym, append-nil, length}
use Rattle.std.specs.Prelude.{filter, nat_lt}
use Rattle.std.specs.List.{list_all}
use Rattle.std.proofs.lemmas.Result.{err_from_is_err_and}
use Rattle.std.proofs.lemmas.Iterator.Splits.{YieldsList-from_slice_split}
use Rattle.config_rules.specs.Cut.{is_space}
use Rattle.config_rules.specs.ScriptText.{is_turn, turns_of}
use Rattle.machine_text.proofs.TextLemmas.{empty_word, left_at, left_none, not_empty}
use Rattle.machine_text.specs.Words.{parted}
use Rattle.script_text.specs.Left.{AddsWords}
use Rattle.script_text.proofs.LeftLemmas.{ends_with}
use Rattle.script_text.proofs.OrderLemmas.{all_more, turns_more, word_none, words_stop}
use Rattle.script_text.proofs.order.add_words.Goals as goal

pub returns-in_err-caller_number : goal.returns-in_err-caller_number
returns-in_err-caller_number c =
    let left = left_at (YieldsList-from_slice_split _ is_space c.args.bytes.now (cc) (cc) (cc) (λ x r q k. search (rules, tests))) c.loop-part.yielded _ c.loop-part.yielded_by _ _ c.in-Some.part c.in-Some.is c.next.ensures.steps in
    ends_with (λ r. AddsWords c.args.callers (parted c.args.bytes.now) c.args.turns.now c.loop-part.turns r) _ _ (err_from_is_err_and _ c.from_residual.ensures.1)
    (words_stop c.args.callers (parted c.args.bytes.now) c.args.turns.now c.loop-part.turns c.in-Some.part.now c.in_err-caller_number.field-0.0 left
    (not_empty c.in-Some.part.now (sym c.is_empty.ensures ∙ c.if-not-is_empty.true)) c.loop-part.invariant.callers c.in_err-caller_number.ensures)

pub loop-part-preserved-in_ok-push : goal.loop-part-preserved-in_ok-push
loop-part-preserved-in_ok-push c =
    let left = left_at (YieldsList-from_slice_split _ is_space c.args.bytes.now (cc) (cc) (cc) (λ x r q k. search (rules, tests))) c.loop-part.yielded _ c.loop-part.yielded_by _ _ c.in-Some.part c.in-Some.is c.next.ensures.steps in
    let some = not_empty c.in-Some.part.now (sym c.is_empty.ensures ∙ c.if-not-is_empty.true) in
    let n = c.in_ok-caller_number.field-0 in
    record {
      iterator = search rules;
      callers = all_more c.args.callers c.in-Some.part.now n left some c.in_ok-caller_number.ensures ∙ c.loop-part.invariant.callers;
      so_far = rw c.in_ok-push.ensures.ok (turns_more c.args.callers c.in-Some.part.now n c.loop-part.turns left some c.in_ok-caller_number.ensures ∙ c.loop-part.invariant.so_far);
    }

pub loop-part-preserved : goal.loop-part-preserved
loop-part-preserved c =
    let left = left_at (YieldsList-from_slice_split _ is_space c.args.bytes.now (cc) (cc) (cc) (λ x r q k. search (rules, tests))) c.loop-part.yielded _ c.loop-part.yielded_by _ _ c.in-Some.part c.in-Some.is c.next.ensures.steps in
    let same = word_none c.in-Some.part.now left (empty_word c.in-Some.part.now (sym c.is_empty.ensures ∙ c.if-not-is_empty.false)) in
    record {
      iterator = search rules;
      callers = ap (list_all (is_turn c.args.callers)) (sym same) ∙ c.loop-part.invariant.callers;
      so_far = ap (λ (ws : List (List ℕ)). c.loop-part.turns ++ turns_of ws) (sym same) ∙ c.loop-part.invariant.so_far;
    }

pub returns : goal.returns
returns c =
    let none = left_none (YieldsList-from_slice_split _ is_space c.args.bytes.now (cc) (cc) (cc) (λ x r q k. search (rules, tests))) c.loop-part.yielded _ c.loop-part.yielded_by _ _ c.in-None.is c.next.ensures.steps in (
      sym c.loop-part.invariant.callers ∙ ap (λ (ps : List (List ℕ)). list_all (is_turn c.args.callers) (filter (λ w. nat_lt 0 (length w)) ps)) none,
      sym (append-nil c.loop-part.turns) ∙ ap (λ (ps : List (List ℕ)). c.loop-part.turns ++ turns_of (filter (λ w. nat_lt 0 (length w)) ps)) (sym none) ∙ c.loop-part.invariant.so_far,
    )
