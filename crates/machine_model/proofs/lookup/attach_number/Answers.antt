use Rattle.std.proofs.Common.{◌∙◌, sym}
use Rattle.cf_types.specs.declared.tables.Attach.{Attach}
use Rattle.machine_model.proofs.NameLemmas.{number_is}
use Rattle.machine_model.proofs.lookup.attach_number.Goals as goal

pub returns-in-Some : goal.returns-in-Some
returns-in-Some c = sym c.in-Some.is ∙ c.number_of.ensures ∙ number_is (λ (x : Attach). x.name) c.args.index.now.tables.now.attaches c.args.index.now.attaches c.args.name.now c.requires.attaches

pub returns-in-None : goal.returns-in-None
returns-in-None c = sym c.in-None.is ∙ c.number_of.ensures ∙ number_is (λ (x : Attach). x.name) c.args.index.now.tables.now.attaches c.args.index.now.attaches c.args.name.now c.requires.attaches
