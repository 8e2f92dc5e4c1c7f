use Rattle.std.proofs.Common.{◌∙◌, get_or, not, ap, sym}
use Rattle.std.specs.Prelude.{is_none}
use Rattle.machine_model.proofs.SpotLemmas.{found_next, here, past}
use Rattle.machine_model.proofs.SeenLemmas.{itself}
use Rattle.machine_model.proofs.WordLemmas.{no_value}
use Rattle.machine_model.proofs.spot.found_fault.Goals as goal

pub returns-then-not-has_locator : goal.returns-then-not-has_locator
returns-then-not-has_locator c =
    let at = get_or c.args.found.now c.loop-value.value-index no_value in
    let left = found_next c.args.locs.now c.args.found.now c.loop-value.value-index at c.loop-value-test.true (itself c.args.found.now c.loop-value.value-index no_value c.loop-value-test.true) c.has_locator.ensures in
    here (not c.has_locator.result) 5 _ (ap not c.if-not-has_locator.true) ∙ left ∙ c.loop-value.invariant

pub returns-then-is_far : goal.returns-then-is_far
returns-then-is_far c =
    let at = get_or c.args.found.now c.loop-value.value-index no_value in
    let left = found_next c.args.locs.now c.args.found.now c.loop-value.value-index at c.loop-value-test.true (itself c.args.found.now c.loop-value.value-index no_value c.loop-value-test.true) c.has_locator.ensures in
    here (is_none at.value) 7 _ (sym c.is_far.ensures ∙ c.if-is_far.true)
    ∙ past (not c.has_locator.result) 5 _ (ap not c.if-not-has_locator.false) ∙ left ∙ c.loop-value.invariant

pub loop-value-preserved : goal.loop-value-preserved
loop-value-preserved c =
    let at = get_or c.args.found.now c.loop-value.value-index no_value in
    let left = found_next c.args.locs.now c.args.found.now c.loop-value.value-index at c.loop-value-test.true (itself c.args.found.now c.loop-value.value-index no_value c.loop-value-test.true) c.has_locator.ensures in
    past (is_none at.value) 7 _ (sym c.is_far.ensures ∙ c.if-is_far.false)
    ∙ past (not c.has_locator.result) 5 _ (ap not c.if-not-has_locator.false) ∙ left ∙ c.loop-value.invariant
