use Rattle.std.proofs.Common.{◌∙◌, ◌+◌, [], ◌∷◌, List, ap, sym, map, drop}
use Rattle.std.specs.Prelude.{option_map}
use Rattle.std.proofs.lemmas.List.{map-append}
use Rattle.config_rules.specs.Form.{each}
use Rattle.config_rules.specs.MachineText.{GivenValue, located_value}
use Rattle.cf_words.proofs.ListLemmas.{with_front}
use Rattle.machine_text.specs.Words.{seen}
use Rattle.machine_model.specs.declared.locator.FoundValue.{FoundValue}
use Rattle.machine_model.specs.Found.{given_of}
use Rattle.machine_model.proofs.SeenLemmas.{value_more, value_none}
use Rattle.machine_model.proofs.locator.given_values.Goals as goal

pub loop-word-preserved : goal.loop-word-preserved
loop-word-preserved c =
    let words = c.args.words.now in
    let i = c.loop-word.word-index in
    ap (λ (found : List FoundValue). with_front (map given_of found) (each located_value (seen (drop (i + 1) words)))) c.in_ok-push-in-Some.ensures.ok
    ∙ ap (λ (found : List GivenValue). with_front found (each located_value (seen (drop (i + 1) words)))) (map-append given_of c.loop-word.found.items (c.in-Some.value ∷ []))
    ∙ value_more words i _ (map given_of c.loop-word.found.items) (given_of c.in-Some.value) c.loop-word-test.true
    (ap (option_map given_of) (sym c.in-Some.is) ∙ c.located_value.ensures)
    ∙ c.loop-word.invariant

pub returns-in-None : goal.returns-in-None
returns-in-None c =
    sym (value_none c.args.words.now c.loop-word.word-index _ (map given_of c.loop-word.found.items) c.loop-word-test.true (ap (option_map given_of) (sym c.in-None.is) ∙ c.located_value.ensures))
    ∙ c.loop-word.invariant
