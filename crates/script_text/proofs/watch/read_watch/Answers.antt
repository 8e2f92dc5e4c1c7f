use Rattle.std.proofs.Common.{rules, tests, ◌≡◌, ◌∙◌, ◌++◌, List, ℕ, sym, ap, subst, append-nil, arith, Err, Ok}
use Rattle.std.proofs.lemmas.List.{length_push}
use Rattle.script_text.specs.declared.stop.ScriptStop.{ScriptStop}
use Rattle.script_text.specs.Left.{Gives}
use Rattle.script_text.proofs.LineLoop.{next_line, next_number, no_line}
use Rattle.script_text.specs.WatchText.{lines_said, watch_of}
use Rattle.script_text.proofs.WatchLemmas.{bad_after, bad_is, fine_line, line_more, said_from, watch_stops, watch_whole}
use Rattle.script_text.proofs.watch.read_watch.Goals as goal

pub overflow_add-number : goal.overflow_add-number
overflow_add-number c =
    omega (arith, next_number _ _ c.args.text.now (cc) (cc) (cc) (λ x r q k. search (rules, tests)) _ _ c.loop-line.yielded_by _ _ c.in-Some.line c.in-Some.is c.next.ensures.steps c.loop-line.number c.loop-line.invariant.count c.requires)

pub returns-in-Err-clause-gives : goal.returns-in-Err-clause-gives
returns-in-Err-clause-gives c =
    subst (λ (stop : ScriptStop). Gives (watch_of c.args.callers c.args.text.now) (Err stop)) (sym c.at.ensures)
    (watch_stops c.args.callers c.args.text.now c.loop-line.number c.in-Some.line.now c.loop-line.lines c.add_line.new.lines c.in-Err.stop (next_line _ _ c.args.text.now (cc) (cc) (cc) (λ x r q k. search (rules, tests)) _ _ c.loop-line.yielded_by _ _ c.in-Some.line c.in-Some.is c.next.ensures.steps) c.in-Err.ensures.adds (c.loop-line.invariant.bad ∙ bad_is c.args.callers c.args.text.now))

pub loop-line-preserved : goal.loop-line-preserved
loop-line-preserved c =
    let left = next_line _ _ c.args.text.now (cc) (cc) (cc) (λ x r q k. search (rules, tests)) _ _ c.loop-line.yielded_by _ _ c.in-Some.line c.in-Some.is c.next.ensures.steps in
    record {
      iterator = search rules;
      bad = fine_line c.args.callers c.loop-line.number c.in-Some.line.now c.loop-line.lines _ left c.in_default.ensures.adds.0 c.in_default.ensures.adds.1 ∙ c.loop-line.invariant.bad;
      so_far = line_more c.args.callers c.loop-line.number c.in-Some.line.now c.loop-line.lines _ left c.in_default.ensures.adds.0 c.in_default.ensures.adds.1 ∙ c.loop-line.invariant.so_far;
      count = omega (arith, c.loop-line.invariant.count, length_push c.loop-line.yielded c.in-Some.line);
      formed = c.in_default.ensures.formed c.loop-line.invariant.formed;
    }

pub returns : goal.returns
returns c =
    let none = no_line _ _ c.args.text.now (cc) (cc) (cc) (λ x r q k. search (rules, tests)) _ _ c.loop-line.yielded_by _ _ c.in-None.is c.next.ensures.steps in
    let whole : watch_of c.args.callers c.args.text.now ≡ Ok c.loop-line.lines =
    watch_whole c.args.callers c.args.text.now c.loop-line.lines
    (ap (λ (ls : List (List ℕ)). bad_after c.loop-line.lines (said_from c.args.callers c.loop-line.number ls)) (sym none) ∙ c.loop-line.invariant.bad ∙ bad_is c.args.callers c.args.text.now)
    (sym (append-nil c.loop-line.lines) ∙ ap (λ (ls : List (List ℕ)). c.loop-line.lines ++ lines_said (said_from c.args.callers c.loop-line.number ls)) (sym none) ∙ c.loop-line.invariant.so_far) in
    record { gives = whole; formed = c.loop-line.invariant.formed }
