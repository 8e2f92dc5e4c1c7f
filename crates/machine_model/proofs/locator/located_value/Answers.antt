use Rattle.std.proofs.Common.{◌∙◌, ◌+◌, ◌-◌, sym, ap, length, take, drop, arith, length-drop}
use Rattle.std.specs.Prelude.{option_map}
use Rattle.std.proofs.lemmas.List.{take_all}
use Rattle.config_rules.specs.MachineText.{ranged}
use Rattle.machine_model.proofs.LocatedLemmas.{after_first, located_at, located_first, located_none}
use Rattle.machine_model.proofs.locator.located_value.Goals as goal

pub returns-in_default : goal.returns-in_default
returns-in_default c = located_none c.args.word.now (sym c.equals_at.ensures ∙ c.in_default.is)

pub returns-then-place-eq0 : goal.returns-then-place-eq0
returns-then-place-eq0 c = located_first c.args.word.now c.in-Some.place (sym c.equals_at.ensures ∙ c.in-Some.is) c.if-place-eq0.true

pub returns-in-Some-ranged : goal.returns-in-Some-ranged
returns-in-Some-ranged c =
    let word = c.args.word.now in
    let k = c.in-Some.place in
    let rest = take_all (length word - (k + 1)) (drop (k + 1) word) (omega (arith, length-drop (k + 1) word)) in
    ap (option_map (λ v. record { name = take k word; value = v })) (sym c.in-Some-ranged.is ∙ c.ranged.ensures ∙ ap ranged rest)
    ∙ sym (located_at word k (sym c.equals_at.ensures ∙ c.in-Some.is) (after_first k c.if-place-eq0.false))

pub returns-in-None : goal.returns-in-None
returns-in-None c =
    let word = c.args.word.now in
    let k = c.in-Some.place in
    let rest = take_all (length word - (k + 1)) (drop (k + 1) word) (omega (arith, length-drop (k + 1) word)) in
    ap (option_map (λ v. record { name = take k word; value = v })) (sym c.in-None.is ∙ c.ranged.ensures ∙ ap ranged rest)
    ∙ sym (located_at word k (sym c.equals_at.ensures ∙ c.in-Some.is) (after_first k c.if-place-eq0.false))
