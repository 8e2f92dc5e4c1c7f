-- What runs a plan shows, and what it keeps.
use Rattle.std.specs.Prelude.{◌≡◌, length}
use Rattle.live_tables.specs.Running.{Keeps, Running}
use Rattle.live_tables.specs.declared.live_tables.LiveTables.TheInside.{Inside}

abbrev pub live_view : Inside → Running
live_view it = record { site = record { setup = it.site.setup; groups = it.groups }; world = record { live = it.tree.live; next = it.tree.next; on = it.on.on } }

pub record LiveKept (it : Inside) : Type 0 where
  pub kept : Keeps (live_view it) it.tree.drivers it.rows it.units it.driver_groups.items
  pub count : it.on.count ≡ length it.groups
