-- The line of an entry.
use Rattle.std.specs.Prelude.{ℕ, List}
use Rattle.cf_types.specs.declared.tables.Tables.{Tables}
use Rattle.config_rules.specs.Listing.{attr_line, device_text, attach_line, row_line, pseudo_line, item_line, file_system_line, warning_line}
use Rattle.ioconf_text.specs.declared.entry.Entry.{Entry}
use Rattle.ioconf_text.specs.declared.entry.Entry.TheVariants as entries

-- the line of an entry
abbrev pub entry_text : Tables → Entry → List ℕ
entry_text t (entries.Attr attr) = attr_line attr.now
entry_text t (entries.Device device offered) = device_text t device.now offered.now
entry_text t (entries.Attach attach) = attach_line t attach.now
entry_text t (entries.Row n row) = row_line t (n, row.now)
entry_text t (entries.Pseudo pseudo) = pseudo_line pseudo.now
entry_text t (entries.Item word item) = item_line word.now item.now
entry_text t (entries.FileSystem name) = file_system_line name.now
entry_text t (entries.Warning warning) = warning_line warning.now
