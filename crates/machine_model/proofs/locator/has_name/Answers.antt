use Rattle.std.proofs.Common.{rules, tests, ◌∙◌, sym}
use Rattle.std.proofs.lemmas.Iterator.Search.{any_from_yields_List}
use Rattle.std.proofs.lemmas.Iterator.{YieldsList-from_slice}
use Rattle.std.specs.Prelude.{bytes_eq}
use Rattle.machine_model.proofs.WordLemmas.{any_named}
use Rattle.machine_model.proofs.locator.has_name.Goals as goal

pub returns : goal.returns
returns c =
    any_from_yields_List (λ v. bytes_eq c.args.name.now v.name.now) _ _ c.any.result c.any.ensures.ran (YieldsList-from_slice c.args.found.now cc) (λ x b q k. search (rules, tests))
    ∙ sym (any_named (bytes_eq c.args.name.now) c.args.found.now)
