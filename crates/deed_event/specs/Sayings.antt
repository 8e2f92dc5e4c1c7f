-- Which deeds name one device alone, and of which an act is kept.
use Rattle.std.specs.Prelude.{ℕ, Bool, true, false, Option, Some, None}
use Rattle.run_rules.specs.declared.deed.Deed.{Deed}
use Rattle.run_rules.specs.declared.deed.Deed.TheVariants.{Search, Finalise, Drop, Done, Free, Sleep, Wake}

-- the deeds whose acts, or the names in them, are kept
abbrev pub is_kept : Deed → Bool
is_kept (Search p spot to got) = true
is_kept (Finalise s shown got listed anew) = true
is_kept (Sleep s) = true
is_kept (Wake s) = true
is_kept _ = false

-- the device that the line of a deed tells alone
abbrev pub device_told : Deed → Option ℕ
device_told (Drop s) = Some s
device_told (Done ticket) = Some ticket.serial
device_told (Free s) = Some s
device_told _ = None
