use Rattle.std.proofs.Common.{rules, tests, ◌∙◌, List, ℕ, sym, ap, subst, arith, Err}
use Rattle.std.proofs.lemmas.List.{length_push}
use Rattle.std.proofs.lemmas.Iterator.Consumers.{YieldsList-turn}
use Rattle.std.proofs.lemmas.Iterator.Splits.{YieldsList-from_slice_split}
use Rattle.std.specs.Prelude.{◌==◌}
use Rattle.config_rules.specs.MachineText.{has_bad_byte, words_of}
use Rattle.machine_text.proofs.TextLemmas.{left_at, left_none, lines_few}
use Rattle.script_text.specs.declared.stop.ScriptStop.{ScriptStop}
use Rattle.script_text.specs.Left.{Gives}
use Rattle.live_rules.specs.PlanText.{plan_of}
use Rattle.live_tables.proofs.PlanLaws.{line_more, line_stops, lines_after, stays_formed}
use Rattle.live_tables.proofs.read.read_plan.Goals as goal

pub overflow_add-number : goal.overflow_add-number
overflow_add-number c =
    let turn = (YieldsList-turn (YieldsList-from_slice_split _ (λ b. b == 10) c.args.text.now (cc) (cc) (cc) (λ x r q k. search (rules, tests))) c.loop-line.yielded _ c.loop-line.yielded_by _ _ c.in-Some.line c.in-Some.is c.next.ensures.steps) in
    omega (arith, c.loop-line.invariant.count, turn.0, lines_few c.args.text.now, c.requires.short)

pub add_line-requires-clause-few : goal.add_line-requires-clause-few
add_line-requires-clause-few c = c.loop-line.invariant.formed.few

pub returns-in-Err-clause-gives : goal.returns-in-Err-clause-gives
returns-in-Err-clause-gives c =
    let left = left_at (YieldsList-from_slice_split _ (λ b. b == 10) c.args.text.now (cc) (cc) (cc) (λ x r q k. search (rules, tests))) c.loop-line.yielded _ c.loop-line.yielded_by _ _ c.in-Some.line c.in-Some.is c.next.ensures.steps in
    subst (λ (stop : ScriptStop). Gives (plan_of c.args.tables.now c.args.text.now) (Err stop)) (sym c.at.ensures)
    (line_stops c.args.tables.now c.loop-line.number c.in-Some.line.now _ _ c.loop-line.plan c.add_line.new.plan c.in-Err.stop (plan_of c.args.tables.now c.args.text.now) left c.in-Err.ensures c.loop-line.invariant.rest)

pub loop-line-preserved : goal.loop-line-preserved
loop-line-preserved c =
    let left = left_at (YieldsList-from_slice_split _ (λ b. b == 10) c.args.text.now (cc) (cc) (cc) (λ x r q k. search (rules, tests))) c.loop-line.yielded _ c.loop-line.yielded_by _ _ c.in-Some.line c.in-Some.is c.next.ensures.steps in
    record {
      iterator = search rules;
      rest = line_more c.args.tables.now c.loop-line.number c.in-Some.line.now _ _ c.loop-line.plan c.add_line.new.plan left c.in_default.ensures ∙ c.loop-line.invariant.rest;
      formed = stays_formed c.args.tables.now c.loop-line.plan c.add_line.new.plan (has_bad_byte c.in-Some.line.now) (words_of c.in-Some.line.now) c.loop-line.invariant.formed c.in_default.ensures;
      count = omega (arith, c.loop-line.invariant.count, length_push c.loop-line.yielded c.in-Some.line);
    }

pub returns : goal.returns
returns c =
    let none = left_none (YieldsList-from_slice_split _ (λ b. b == 10) c.args.text.now (cc) (cc) (cc) (λ x r q k. search (rules, tests))) c.loop-line.yielded _ c.loop-line.yielded_by _ _ c.in-None.is c.next.ensures.steps in
    record {
      gives = sym c.loop-line.invariant.rest ∙ ap (λ (ls : List (List ℕ)). lines_after c.args.tables.now c.loop-line.number ls c.loop-line.plan) none;
      formed = c.loop-line.invariant.formed;
    }
