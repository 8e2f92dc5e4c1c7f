use Rattle.std.proofs.Common.{rules, tests, ◌∙◌, sym, ap, arith}
use Rattle.std.proofs.lemmas.List.{length_push}
use Rattle.std.proofs.lemmas.Iterator.Consumers.{YieldsList-turn}
use Rattle.std.proofs.lemmas.Iterator.Splits.{YieldsList-from_slice_split}
use Rattle.std.specs.Prelude.{◌==◌}
use Rattle.machine_text.proofs.TextLemmas.{left_at, left_none, lines_few, bad_from, bad_here, bad_later}
use Rattle.machine_text.proofs.text.first_bad_line.Goals as goal

pub returns-then-has_bad_byte : goal.returns-then-has_bad_byte
returns-then-has_bad_byte c =
    let left = left_at (YieldsList-from_slice_split _ (λ b. b == 10) c.args.text.now (cc) (cc) (cc) (λ x r q k. search (rules, tests))) c.loop-line.yielded _ c.loop-line.yielded_by _ _ c.in-Some.line c.in-Some.is c.next.ensures.steps in
    sym (bad_here c.loop-line.number c.in-Some.line.now left (sym c.has_bad_byte.ensures ∙ c.if-has_bad_byte.true))
    ∙ c.loop-line.invariant.so_far

pub overflow_add-number : goal.overflow_add-number
overflow_add-number c =
    let turn = YieldsList-turn (YieldsList-from_slice_split _ (λ b. b == 10) c.args.text.now (cc) (cc) (cc) (λ x r q k. search (rules, tests))) c.loop-line.yielded _ c.loop-line.yielded_by _ _ c.in-Some.line c.in-Some.is c.next.ensures.steps in
    omega (arith, c.loop-line.invariant.count, turn.0, lines_few c.args.text.now, c.requires)

pub loop-line-preserved : goal.loop-line-preserved
loop-line-preserved c =
    let left = left_at (YieldsList-from_slice_split _ (λ b. b == 10) c.args.text.now (cc) (cc) (cc) (λ x r q k. search (rules, tests))) c.loop-line.yielded _ c.loop-line.yielded_by _ _ c.in-Some.line c.in-Some.is c.next.ensures.steps in
    record {
      iterator = search rules;
      so_far =
          bad_later c.loop-line.number c.in-Some.line.now left (sym c.has_bad_byte.ensures ∙ c.if-has_bad_byte.false)
          ∙ c.loop-line.invariant.so_far;
      count = omega (arith, c.loop-line.invariant.count, length_push c.loop-line.yielded c.in-Some.line);
    }

pub returns : goal.returns
returns c =
    let none = left_none (YieldsList-from_slice_split _ (λ b. b == 10) c.args.text.now (cc) (cc) (cc) (λ x r q k. search (rules, tests))) c.loop-line.yielded _ c.loop-line.yielded_by _ _ c.in-None.is c.next.ensures.steps in
    ap (bad_from c.loop-line.number) (sym none)
    ∙ c.loop-line.invariant.so_far
