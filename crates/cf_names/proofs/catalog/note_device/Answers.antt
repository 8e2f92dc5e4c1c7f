use Rattle.std.proofs.Common.{◌++◌, ◌∷◌, [], refl}
use Rattle.cf_types.specs.declared.tables.Device.{Device}
use Rattle.cf_names.proofs.NumberLemmas.{numbers_push}
use Rattle.cf_names.proofs.catalog.note_device.Goals as goal

pub returns : goal.returns
returns c =
    record {
      of_attrs = c.requires.of_attrs;
      of_device_names = numbers_push (λ (x : Device). x.name) c.args.lists.now.devices (c.args.lists.now.devices ++ c.args.device.now ∷ []) c.args.device.now c.args.device.now.name c.len-number.result c.args.index.now.devices c.add_name.new.numbers
          c.requires.of_device_names refl c.len-number.ensures refl c.in_ok-add_name.ensures;
      of_attach_names = c.requires.of_attach_names;
      of_attaches = c.requires.of_attaches;
      of_spots = c.requires.of_spots;
    }
