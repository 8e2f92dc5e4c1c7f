use Rattle.std.proofs.Common.{◌∙◌, ◌+◌, ap, sym, drop, length, arith, ◌-◌}
use Rattle.std.proofs.lemmas.List.{drop_all, length-drop, take_all}
use Rattle.config_rules.specs.MachineText.{differ}
use Rattle.machine_text.specs.Words.{seen}
use Rattle.machine_model.proofs.SeenLemmas.{seen_from}
use Rattle.machine_model.proofs.WordLemmas.{twice, once}
use Rattle.machine_model.proofs.word.differ.Goals as goal

pub returns-then-is_one : goal.returns-then-is_one
returns-then-is_one c =
    let i = c.loop-i.i in
    let words = c.args.words.now in
    let rest = take_all (length words - (i + 1)) (drop (i + 1) words) (omega (arith, length-drop (i + 1) words, c.loop-i-test.true)) in
    sym (ap differ (seen_from words i _ c.loop-i-test.true) ∙ twice _ (seen (drop (i + 1) words)) (rw rest at (sym c.is_one.ensures ∙ c.if-is_one.true))) ∙ c.loop-i.invariant

pub loop-i-preserved : goal.loop-i-preserved
loop-i-preserved c =
    let i = c.loop-i.i in
    let words = c.args.words.now in
    let rest = take_all (length words - (i + 1)) (drop (i + 1) words) (omega (arith, length-drop (i + 1) words, c.loop-i-test.true)) in
    sym (ap differ (seen_from words i _ c.loop-i-test.true) ∙ once _ (seen (drop (i + 1) words)) (rw rest at (sym c.is_one.ensures ∙ c.if-is_one.false))) ∙ c.loop-i.invariant

pub returns : goal.returns
returns c = ap (λ ws. differ (seen ws)) (sym (drop_all c.loop-i.i c.args.words.now (omega (arith, c.loop-i-test.false)))) ∙ c.loop-i.invariant
