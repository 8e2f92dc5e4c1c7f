use Rattle.std.proofs.Common.{◌∙◌, ◌+◌, ap, sym, drop, length, arith, ◌-◌}
use Rattle.std.proofs.lemmas.List.{drop_all, drop_more, length-drop, take_all}
use Rattle.config_rules.specs.MachineText.{differ}
use Rattle.machine_model.specs.Found.{names_of}
use Rattle.machine_model.proofs.WordLemmas.{no_value, once, twice}
use Rattle.machine_model.proofs.locator.differ_in_turn.Goals as goal

pub returns-then-has_name : goal.returns-then-has_name
returns-then-has_name c =
    let i = c.loop-i.i in
    let found = c.args.found.now in
    let rest = take_all (length found - (i + 1)) (drop (i + 1) found) (omega (arith, length-drop (i + 1) found, c.loop-i-test.true)) in
    sym (ap (λ vs. differ (names_of vs)) (drop_more found i no_value c.loop-i-test.true) ∙ twice _ (names_of (drop (i + 1) found)) (rw rest at (sym c.has_name.ensures ∙ c.if-has_name.true))) ∙ c.loop-i.invariant

pub loop-i-preserved : goal.loop-i-preserved
loop-i-preserved c =
    let i = c.loop-i.i in
    let found = c.args.found.now in
    let rest = take_all (length found - (i + 1)) (drop (i + 1) found) (omega (arith, length-drop (i + 1) found, c.loop-i-test.true)) in
    sym (ap (λ vs. differ (names_of vs)) (drop_more found i no_value c.loop-i-test.true) ∙ once _ (names_of (drop (i + 1) found)) (rw rest at (sym c.has_name.ensures ∙ c.if-has_name.false))) ∙ c.loop-i.invariant

pub returns : goal.returns
returns c = ap (λ vs. differ (names_of vs)) (sym (drop_all c.loop-i.i c.args.found.now (omega (arith, c.loop-i-test.false)))) ∙ c.loop-i.invariant
