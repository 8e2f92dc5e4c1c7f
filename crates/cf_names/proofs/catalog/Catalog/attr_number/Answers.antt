use Rattle.std.proofs.Common.{◌∙◌, ap}
use Rattle.cf_types.specs.Lookups.{attr_number}
use Rattle.config_rules.specs.Declared.{Declared}
use Rattle.cf_names.proofs.NumberLemmas.{number_is}
use Rattle.cf_names.proofs.catalog.Catalog.attr_number.Goals as goal

pub returns-clause-found : goal.returns-clause-found
returns-clause-found c =
    c.number_in.ensures
    ∙ number_is (λ a. a.name) c.self.inside.lists.attrs c.self.inside.index.attrs c.args.name.now c.self.invariant.of_attrs
    ∙ ap (λ (d : Declared). attr_number d.attrs c.args.name.now) c.self.view_is
