use Rattle.std.proofs.Common.{◌∙◌, sym}
use Rattle.cf_types.specs.declared.machine.Spot.{Spot}
use Rattle.machine_model.proofs.NameLemmas.{number_is}
use Rattle.machine_model.proofs.lookup.spot_number.Goals as goal

pub returns-in-Some : goal.returns-in-Some
returns-in-Some c = sym c.in-Some.is ∙ c.number_of.ensures ∙ number_is (λ (x : Spot). x.name) c.args.draft.now.machine.spots c.args.draft.now.names c.args.name.now c.requires.spots

pub returns-in-None : goal.returns-in-None
returns-in-None c = sym c.in-None.is ∙ c.number_of.ensures ∙ number_is (λ (x : Spot). x.name) c.args.draft.now.machine.spots c.args.draft.now.names c.args.name.now c.requires.spots
