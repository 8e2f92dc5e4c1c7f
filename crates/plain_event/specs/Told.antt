-- The event of a deed: its head, and the device that its line names alone.
use Rattle.std.specs.Prelude.{ℕ, Option, Some, None}
use Rattle.run_rules.specs.declared.deed.Deed.{Deed}
use Rattle.run_rules.specs.declared.deed.Deed.TheVariants.{Drop, Done, Free, Sleep, Wake}
use Rattle.run_rules.specs.declared.event.Act.{Act}
use Rattle.run_rules.specs.declared.event.Event.{Event}
use Rattle.run_rules.specs.World.{World}
use Rattle.run_rules.specs.Run.{number_of}

-- the event by which a caller tells an act
abbrev pub event_with : World → ℕ → Act → Event
event_with w k a = record { caller = k; number = number_of w k; act = a }

-- the device that the line of a deed tells alone
abbrev pub device_told : Deed → Option ℕ
device_told (Drop s) = Some s
device_told (Done ticket) = Some ticket.serial
device_told (Free s) = Some s
device_told (Sleep s) = Some s
device_told (Wake s) = Some s
device_told _ = None
