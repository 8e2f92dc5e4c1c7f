use Rattle.std.proofs.Common.{◌==◌, ◌∙◌, sym, arith}
use Rattle.std.specs.List.{list_any}
use Rattle.machine_model.proofs.SeenLemmas.{front_end, front_more, front_none}
use Rattle.machine_model.proofs.locator.count_located.Goals as goal

pub returns-then-not-has_equals : goal.returns-then-not-has_equals
returns-then-not-has_equals c =
    omega (arith, c.loop-word.invariant.so_far, front_none (λ w. list_any (λ b. b == 61) w) c.args.words.now c.loop-word.word-index _ c.loop-word-test.true (sym c.has_equals.ensures ∙ c.if-not-has_equals.true))

pub loop-word-preserved : goal.loop-word-preserved
loop-word-preserved c = record {
  place = omega (arith, c.loop-word.invariant.place);
  so_far = omega (arith, c.loop-word.invariant.so_far, front_more (λ w. list_any (λ b. b == 61) w) c.args.words.now c.loop-word.word-index _ c.loop-word-test.true (sym c.has_equals.ensures ∙ c.if-not-has_equals.false));
}

pub returns : goal.returns
returns c = omega (arith, c.loop-word.invariant.so_far, front_end (λ w. list_any (λ b. b == 61) w) c.args.words.now c.loop-word.word-index (omega (arith, c.loop-word-test.false)))
