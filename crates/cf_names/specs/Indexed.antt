-- What is kept beside the lists of what is declared.
use Rattle.std.specs.Prelude.{◌++◌, ◌∷◌, [], map, IfSome}
use Rattle.cf_types.specs.declared.declared.Declared.{Declared}
use Rattle.cf_types.specs.declared.tables.Attach.{Attach}
use Rattle.cf_types.specs.declared.tables.Attr.{Attr}
use Rattle.cf_types.specs.declared.tables.Device.{Device}
use Rattle.cf_names.specs.declared.index.Index.{Index}
use Rattle.cf_names.specs.Attaches.{AreOfDevices}
use Rattle.cf_names.specs.NameNumbers.{AreNumbers}
use Rattle.cf_names.specs.Spots.{AreSpots, all_spots}

-- the numbers of all names, and of the attachments of all devices, and their first spots where these are noted
pub record IsIndexOf (d : Declared) (index : Index) : Type 0 where
  pub of_attrs : AreNumbers index.attrs (map (λ a. a.name) d.attrs)
  pub of_device_names : AreNumbers index.devices (map (λ x. x.name) d.devices)
  pub of_attach_names : AreNumbers index.attaches (map (λ a. a.name) d.attaches)
  pub of_attaches : AreOfDevices index.of_devices.items d.attaches
  pub of_spots : IfSome index.spots (λ spots. AreSpots spots (all_spots d.attaches))

-- one more attribute, device or attachment is declared
abbrev pub with_attr : Declared → Attr → Declared
with_attr d attr = record d { attrs = d.attrs ++ attr ∷ [] }

abbrev pub with_device : Declared → Device → Declared
with_device d device = record d { devices = d.devices ++ device ∷ [] }

abbrev pub with_attach : Declared → Attach → Declared
with_attach d attach = record d { attaches = d.attaches ++ attach ∷ [] }
