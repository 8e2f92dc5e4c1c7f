-- The print of a world: a number by which it is found. Equal worlds have equal prints.
use Rattle.std.specs.Prelude.{ℕ, ◌+◌, ◌*◌, ◌%◌, ◌^◌, Bool, if◌then◌else◌, List, fold, Option, Some, None, bit_xor}
use Rattle.run_rules.specs.declared.world.Activity.{Activity}
use Rattle.run_rules.specs.declared.world.Activity.TheVariants.{Idle, Transfer, Frees, Scans, Power, Ended}
use Rattle.run_rules.specs.declared.world.Deferred.{Deferred}
use Rattle.run_rules.specs.declared.world.Dev.{Dev}
use Rattle.run_rules.specs.declared.world.Frame.{Frame}
use Rattle.run_rules.specs.declared.world.Frame.TheVariants.{Scan, Finaliser}
use Rattle.run_rules.specs.declared.world.Ref.{Ref}
use Rattle.run_rules.specs.World.{World, Caller}

-- a print with one number more
unfoldable pub mixed : ℕ → ℕ → ℕ
mixed print n = (bit_xor print n * 11400714819323198485) % 2 ^ 64

abbrev pub mark_number : Bool → ℕ
mark_number b = if b then 1 else 0

abbrev pub option_number : Option ℕ → ℕ
option_number None = 0
option_number (Some n) = n + 1

abbrev pub with_device : ℕ → Dev → ℕ
with_device print d =
    mixed (mixed (mixed (mixed (mixed (mixed print d.serial) d.row) d.unit) d.spot) (mark_number d.asleep)) (option_number d.condemned)

abbrev pub with_ref : ℕ → Ref → ℕ
with_ref print r = mixed (mixed print r.serial) r.caller

abbrev pub with_deferred : ℕ → Deferred → ℕ
with_deferred print e = mixed print e.child

abbrev pub with_frame : ℕ → Frame → ℕ
with_frame print (Scan s only wanted at) = mixed (mixed (mixed (mixed print s) at.attr) at.row) at.spot
with_frame print (Finaliser s) = mixed (mixed print 7) s

abbrev pub with_activity : ℕ → Activity → ℕ
with_activity print Idle = mixed print 1
with_activity print (Transfer ticket) = mixed (mixed print 2) ticket.serial
with_activity print (Frees s) = mixed (mixed print 3) s
with_activity print Scans = mixed print 4
with_activity print (Power kind s) = mixed (mixed print 5) s
with_activity print Ended = mixed print 6

abbrev pub with_caller : ℕ → Caller → ℕ
with_caller print c = fold with_frame (with_activity (mixed print c.over) c.doing) c.stack

-- of the devices, the references, the spots and the scans that were put off
abbrev pub hardware_print : World → ℕ
hardware_print w =
    fold mixed (fold mixed (fold with_ref (fold with_device w.next w.live) w.refs) w.absent) w.hidden

abbrev pub whole_print : World → ℕ
whole_print w = fold with_caller (fold with_deferred (mixed (hardware_print w) (option_number w.power_owner)) w.deferred) w.callers

unfoldable pub print_of : World → ℕ
print_of w = whole_print w
