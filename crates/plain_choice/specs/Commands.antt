-- What a command does to the device that it names.
use Rattle.std.specs.Prelude.{ℕ, nat_lt, if◌then◌else◌, false, true, Option}
use Rattle.std.specs.Option.{option_map_or}
use Rattle.run_rules.specs.declared.deed.Deed.{Deed}
use Rattle.run_rules.specs.declared.deed.Deed.TheVariants.{BeginPower, Close, Detach, Open, Refuse, Start}
use Rattle.run_rules.specs.declared.deed.CommandRefusal.TheVariants as refusal
use Rattle.run_rules.specs.declared.event.PowerKind.{PowerKind}
use Rattle.run_rules.specs.declared.world.Dev.{Dev}
use Rattle.run_rules.specs.Next.{ticket_of, unless_hindered}
use Rattle.run_rules.specs.References.{count_in}
use Rattle.run_rules.specs.World.{World, has, is_held, is_referred}

-- not held, or what follows
abbrev pub if_held : World → ℕ → Option Dev → (Dev → Deed) → Deed
if_held w k found body = option_map_or (λ d. if is_held w k d.serial then body d else Refuse refusal.NotHeld) found (Refuse refusal.NotHeld)

-- a reference, unless a caller has the device alone, or this one has it 15 times
abbrev pub granted : World → ℕ → Dev → Deed
granted w k d =
    if has w.sole d.serial then Refuse refusal.Exclusive
    else (if nat_lt (count_in w.refs k d.serial) 15 then Open d.serial false else Refuse refusal.TooMany)

-- the only reference, unless there is one
abbrev pub granted_alone : World → Dev → Deed
granted_alone w d = if is_referred w d.serial then Refuse refusal.Shared else Open d.serial true

abbrev pub closed : Dev → Deed
closed d = Close d.serial

-- the transfer of a command of this number, which sends this value
abbrev pub started : World → ℕ → ℕ → ℕ → Dev → Deed
started w k number value d = if d.asleep then Refuse refusal.Asleep else Start (ticket_of w k number d value)

abbrev pub detached : World → ℕ → Dev → Deed
detached w k d = unless_hindered w k d.serial false (Detach d.serial)

abbrev pub begun : PowerKind → Dev → Deed
begun kind d = BeginPower kind d.serial
