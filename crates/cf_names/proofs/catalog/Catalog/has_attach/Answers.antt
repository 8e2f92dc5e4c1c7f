use Rattle.std.proofs.Common.{◌∙◌, ap}
use Rattle.std.specs.Prelude.{is_some, bytes_eq}
use Rattle.cf_types.proofs.PlaceLemmas.{position_found}
use Rattle.cf_types.specs.Lookups.{has_attach}
use Rattle.config_rules.specs.Declared.{Declared}
use Rattle.cf_names.proofs.NumberLemmas.{number_is}
use Rattle.cf_names.proofs.catalog.Catalog.has_attach.Goals as goal

pub returns : goal.returns
returns c =
    c.is_some.ensures ∙ ap is_some c.number_in.ensures
    ∙ ap is_some (number_is (λ a. a.name) c.self.inside.lists.attaches c.self.inside.index.attaches c.args.name.now c.self.invariant.of_attach_names)
    ∙ position_found (λ a. bytes_eq a.name c.args.name.now) c.self.inside.lists.attaches
    ∙ ap (λ (d : Declared). has_attach d.attaches c.args.name.now) c.self.view_is
