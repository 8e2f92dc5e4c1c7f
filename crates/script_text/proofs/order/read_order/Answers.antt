use Rattle.std.proofs.Common.{rules, tests, ◌≡◌, ◌∙◌, ◌++◌, List, ℕ, sym, ap, subst, append-nil, arith, Err, Ok}
use Rattle.std.proofs.lemmas.List.{length_push}
use Rattle.config_rules.specs.ScriptText.{order_of}
use Rattle.config_rules.proofs.ScriptLaws.{bad_turns_from, turns_within}
use Rattle.script_text.specs.declared.stop.ScriptStop.{ScriptStop}
use Rattle.script_text.specs.Left.{Gives}
use Rattle.script_text.proofs.LineLoop.{next_line, next_number, no_line}
use Rattle.script_text.proofs.OrderLemmas.{fine_line, line_more, order_stops, order_whole, turns_in}
use Rattle.script_text.proofs.order.read_order.Goals as goal

pub overflow_add-number : goal.overflow_add-number
overflow_add-number c =
    omega (arith, next_number _ _ c.args.text.now (cc) (cc) (cc) (λ x r q k. search (rules, tests)) _ _ c.loop-line.yielded_by _ _ c.in-Some.line c.in-Some.is c.next.ensures.steps c.loop-line.number c.loop-line.invariant.count c.requires)

pub returns-in-Err-clause-gives : goal.returns-in-Err-clause-gives
returns-in-Err-clause-gives c =
    subst (λ (stop : ScriptStop). Gives (order_of c.args.callers c.args.text.now) (Err stop)) (sym c.at.ensures)
    (order_stops c.args.callers c.args.text.now c.loop-line.number c.in-Some.line.now c.loop-line.turns c.add_line.new.turns c.in-Err.stop (next_line _ _ c.args.text.now (cc) (cc) (cc) (λ x r q k. search (rules, tests)) _ _ c.loop-line.yielded_by _ _ c.in-Some.line c.in-Some.is c.next.ensures.steps) c.in-Err.ensures c.loop-line.invariant.bad)

pub loop-line-preserved : goal.loop-line-preserved
loop-line-preserved c =
    let left = next_line _ _ c.args.text.now (cc) (cc) (cc) (λ x r q k. search (rules, tests)) _ _ c.loop-line.yielded_by _ _ c.in-Some.line c.in-Some.is c.next.ensures.steps in
    record {
      iterator = search rules;
      bad = fine_line c.args.callers c.loop-line.number c.in-Some.line.now left c.in_default.ensures.0 ∙ c.loop-line.invariant.bad;
      so_far = line_more c.loop-line.turns _ c.in-Some.line.now left c.in_default.ensures.1 ∙ c.loop-line.invariant.so_far;
      count = omega (arith, c.loop-line.invariant.count, length_push c.loop-line.yielded c.in-Some.line);
    }

pub returns : goal.returns
returns c =
    let none = no_line _ _ c.args.text.now (cc) (cc) (cc) (λ x r q k. search (rules, tests)) _ _ c.loop-line.yielded_by _ _ c.in-None.is c.next.ensures.steps in
    let whole : order_of c.args.callers c.args.text.now ≡ Ok c.loop-line.turns =
    order_whole c.args.callers c.args.text.now c.loop-line.turns
    (ap (λ (ls : List (List ℕ)). bad_turns_from c.args.callers c.loop-line.number ls) (sym none) ∙ c.loop-line.invariant.bad)
    (sym (append-nil c.loop-line.turns) ∙ ap (λ (ls : List (List ℕ)). c.loop-line.turns ++ turns_in ls) (sym none) ∙ c.loop-line.invariant.so_far) in
    record { gives = whole; turns = turns_within c.args.callers c.args.text.now c.loop-line.turns whole }
