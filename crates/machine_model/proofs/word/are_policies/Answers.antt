use Rattle.std.proofs.Common.{rules, tests, ◌∙◌, sym}
use Rattle.std.proofs.lemmas.Iterator.Search.{all_from_yields_List}
use Rattle.std.proofs.lemmas.Iterator.{YieldsList-from_slice}
use Rattle.config_rules.specs.MachineText.{is_one, policy_words}
use Rattle.machine_model.proofs.SeenLemmas.{all_seen}
use Rattle.machine_model.proofs.word.are_policies.Goals as goal

pub returns : goal.returns
returns c =
    all_from_yields_List (λ v. is_one policy_words v.now) _ _ c.all.result c.all.ensures.ran (YieldsList-from_slice c.args.words.now cc) (λ x b q k. search (rules, tests))
    ∙ sym (all_seen (is_one policy_words) c.args.words.now)
