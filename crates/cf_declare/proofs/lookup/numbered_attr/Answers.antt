use Rattle.std.proofs.Common.{◌∙◌, ap, get_or, List}
use Rattle.std.specs.Prelude.{bytes_eq}
use Rattle.cf_types.specs.declared.tables.Attr.{Attr}
use Rattle.cf_declare.proofs.LookupLemmas.{found_here, found_nowhere}
use Rattle.cf_declare.proofs.lookup.numbered_attr.Goals as goal

pub returns-in-Some-clause-attr : goal.returns-in-Some-clause-attr
returns-in-Some-clause-attr c =
    found_here (λ (a : Attr). bytes_eq a.name c.args.name.now) c.args.declared.now.attrs c.in-Some.number c.index-attrs-number.result (c.index-attrs-number.is ∙ ap (λ (xs : List Attr). get_or xs c.in-Some.number c.index-attrs-number.result) c.attrs.ensures) c.in-Some.ensures.found

pub returns-in-None-clause-attr : goal.returns-in-None-clause-attr
returns-in-None-clause-attr c = found_nowhere (λ (a : Attr). bytes_eq a.name c.args.name.now) c.args.declared.now.attrs c.in-None.ensures.found
