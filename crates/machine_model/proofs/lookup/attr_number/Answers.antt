use Rattle.std.proofs.Common.{◌∙◌, sym}
use Rattle.cf_types.specs.declared.tables.Attr.{Attr}
use Rattle.machine_model.proofs.NameLemmas.{number_is}
use Rattle.machine_model.proofs.lookup.attr_number.Goals as goal

pub returns-in-Some : goal.returns-in-Some
returns-in-Some c = sym c.in-Some.is ∙ c.number_of.ensures ∙ number_is (λ (x : Attr). x.name) c.args.index.now.tables.now.attrs c.args.index.now.attrs c.args.name.now c.requires.attrs

pub returns-in-None : goal.returns-in-None
returns-in-None c = sym c.in-None.is ∙ c.number_of.ensures ∙ number_is (λ (x : Attr). x.name) c.args.index.now.tables.now.attrs c.args.index.now.attrs c.args.name.now c.requires.attrs
