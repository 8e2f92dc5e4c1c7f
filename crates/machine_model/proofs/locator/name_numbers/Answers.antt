use Rattle.std.proofs.Common.{get_or}
use Rattle.machine_model.specs.declared.locator.FoundValue.{FoundValue}
use Rattle.machine_model.proofs.NumberLemmas.{have_more, have_with}
use Rattle.machine_model.proofs.SeenLemmas.{itself}
use Rattle.machine_model.proofs.WordLemmas.{no_value}
use Rattle.machine_model.proofs.locator.name_numbers.Goals as goal

pub loop-i-preserved : goal.loop-i-preserved
loop-i-preserved c =
    let found = c.args.found.now in
    let at = get_or found c.loop-i.i no_value in
    have_more (λ (v : FoundValue). v.name.now) found c.loop-i.i at c.loop-i.numbers.items c.push.new.numbers.items c.loop-i-test.true (itself found c.loop-i.i no_value c.loop-i-test.true) c.loop-i.invariant
    (λ names have size. have_with c.loop-i.numbers.items c.push.new.numbers.items at.name.now c.loop-i.i names c.in_ok-push.ensures have size)
