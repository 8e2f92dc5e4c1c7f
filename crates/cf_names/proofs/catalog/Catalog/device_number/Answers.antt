use Rattle.std.proofs.Common.{◌∙◌, ap}
use Rattle.cf_types.specs.Lookups.{device_number}
use Rattle.config_rules.specs.Declared.{Declared}
use Rattle.cf_names.proofs.NumberLemmas.{number_is}
use Rattle.cf_names.proofs.catalog.Catalog.device_number.Goals as goal

pub returns-clause-found : goal.returns-clause-found
returns-clause-found c =
    c.number_in.ensures
    ∙ number_is (λ x. x.name) c.self.inside.lists.devices c.self.inside.index.devices c.args.name.now c.self.invariant.of_device_names
    ∙ ap (λ (d : Declared). device_number d.devices c.args.name.now) c.self.view_is
