use Rattle.std.proofs.Common.{◌∙◌, get_or, sym}
use Rattle.machine_model.specs.declared.locator.FoundValue.{FoundValue}
use Rattle.machine_model.proofs.NumberLemmas.{apart_more, not_apart}
use Rattle.machine_model.proofs.SeenLemmas.{itself}
use Rattle.machine_model.proofs.WordLemmas.{no_value}
use Rattle.machine_model.proofs.locator.differ_by_number.Goals as goal

pub returns-then-not-has_number : goal.returns-then-not-has_number
returns-then-not-has_number c =
    let found = c.args.found.now in
    let at = get_or found c.loop-i.i no_value in
    sym (not_apart (λ (v : FoundValue). v.name.now) found c.loop-i.i at c.args.numbers.now.items c.loop-i-test.true (itself found c.loop-i.i no_value c.loop-i-test.true) c.requires.each (sym c.has_number.ensures ∙ c.if-not-has_number.true))

pub loop-i-preserved : goal.loop-i-preserved
loop-i-preserved c =
    let found = c.args.found.now in
    let at = get_or found c.loop-i.i no_value in
    apart_more (λ (v : FoundValue). v.name.now) found c.loop-i.i at c.args.numbers.now.items c.loop-i-test.true (itself found c.loop-i.i no_value c.loop-i-test.true) c.requires.each (sym c.has_number.ensures ∙ c.if-not-has_number.false) c.loop-i.invariant
