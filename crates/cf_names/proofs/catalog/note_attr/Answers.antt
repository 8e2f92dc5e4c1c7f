use Rattle.std.proofs.Common.{◌++◌, ◌∷◌, [], refl}
use Rattle.cf_types.specs.declared.tables.Attr.{Attr}
use Rattle.cf_names.proofs.NumberLemmas.{numbers_push}
use Rattle.cf_names.proofs.catalog.note_attr.Goals as goal

pub returns : goal.returns
returns c =
    record {
      of_attrs = numbers_push (λ (x : Attr). x.name) c.args.lists.now.attrs (c.args.lists.now.attrs ++ c.args.attr.now ∷ []) c.args.attr.now c.args.attr.now.name c.len-number.result c.args.index.now.attrs c.add_name.new.numbers
          c.requires.of_attrs refl c.len-number.ensures refl c.in_ok-add_name.ensures;
      of_device_names = c.requires.of_device_names;
      of_attach_names = c.requires.of_attach_names;
      of_attaches = c.requires.of_attaches;
      of_spots = c.requires.of_spots;
    }
