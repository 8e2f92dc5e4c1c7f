use Rattle.std.proofs.Common.{rules, tests, ◌∙◌, sym}
use Rattle.std.proofs.lemmas.Iterator.Search.{any_from_yields_List}
use Rattle.std.proofs.lemmas.Iterator.{YieldsList-from_slice}
use Rattle.std.specs.Prelude.{bytes_eq}
use Rattle.machine_model.proofs.SeenLemmas.{any_seen}
use Rattle.machine_model.proofs.word.is_one.Goals as goal

pub returns : goal.returns
returns c =
    any_from_yields_List (λ w. bytes_eq c.args.word.now w.now) _ _ c.any.result c.any.ensures.ran (YieldsList-from_slice c.args.words.now cc) (λ x b q k. search (rules, tests))
    ∙ sym (any_seen (bytes_eq c.args.word.now) c.args.words.now)
