use Rattle.std.proofs.Common.{rules, tests, ◌≡◌, ◌∙◌, ◌++◌, List, ℕ, length, sym, ap, subst, append-nil, arith, Err, Ok}
use Rattle.std.proofs.lemmas.List.{length_push}
use Rattle.config_rules.specs.ScriptText.{commands_of}
use Rattle.config_rules.proofs.ScriptLaws.{bad_said, commands_said, said_from, script_formed}
use Rattle.script_text.specs.declared.stop.ScriptStop.{ScriptStop}
use Rattle.script_text.specs.Left.{Gives}
use Rattle.script_text.proofs.LineLoop.{next_line, next_number, no_line}
use Rattle.script_text.proofs.ScriptLemmas.{fine_line, line_more, script_stops, script_whole}
use Rattle.script_text.proofs.script.read_script.Goals as goal

pub overflow_add-number : goal.overflow_add-number
overflow_add-number c =
    omega (arith, next_number _ _ c.args.text.now (cc) (cc) (cc) (λ x r q k. search (rules, tests)) _ _ c.loop-line.yielded_by _ _ c.in-Some.line c.in-Some.is c.next.ensures.steps c.loop-line.number c.loop-line.invariant.count c.requires)

pub returns-in-Err-clause-gives : goal.returns-in-Err-clause-gives
returns-in-Err-clause-gives c =
    subst (λ (stop : ScriptStop). Gives (commands_of c.args.text.now) (Err stop)) (sym c.at.ensures)
    (script_stops c.args.text.now c.loop-line.number c.in-Some.line.now c.loop-line.commands c.add_line.new.commands c.in-Err.stop (next_line _ _ c.args.text.now (cc) (cc) (cc) (λ x r q k. search (rules, tests)) _ _ c.loop-line.yielded_by _ _ c.in-Some.line c.in-Some.is c.next.ensures.steps) c.in-Err.ensures c.loop-line.invariant.bad)

pub loop-line-preserved : goal.loop-line-preserved
loop-line-preserved c =
    let left = next_line _ _ c.args.text.now (cc) (cc) (cc) (λ x r q k. search (rules, tests)) _ _ c.loop-line.yielded_by _ _ c.in-Some.line c.in-Some.is c.next.ensures.steps in
    record {
      iterator = search rules;
      bad = fine_line c.loop-line.number c.in-Some.line.now c.loop-line.commands _ left c.in_default.ensures.0 c.in_default.ensures.1 ∙ c.loop-line.invariant.bad;
      so_far = line_more c.loop-line.number c.in-Some.line.now c.loop-line.commands _ left c.in_default.ensures.0 c.in_default.ensures.1 ∙ c.loop-line.invariant.so_far;
      count = omega (arith, c.loop-line.invariant.count, length_push c.loop-line.yielded c.in-Some.line);
    }

pub returns : goal.returns
returns c =
    let none = no_line _ _ c.args.text.now (cc) (cc) (cc) (λ x r q k. search (rules, tests)) _ _ c.loop-line.yielded_by _ _ c.in-None.is c.next.ensures.steps in
    let whole : commands_of c.args.text.now ≡ Ok c.loop-line.commands =
    script_whole c.args.text.now c.loop-line.commands
    (ap (λ (ls : List (List ℕ)). bad_said (length c.loop-line.commands) (said_from c.loop-line.number ls)) (sym none) ∙ c.loop-line.invariant.bad)
    (sym (append-nil c.loop-line.commands) ∙ ap (λ (ls : List (List ℕ)). c.loop-line.commands ++ commands_said (said_from c.loop-line.number ls)) (sym none) ∙ c.loop-line.invariant.so_far) in
    record { gives = whole; formed = script_formed c.args.text.now c.loop-line.commands whole }
