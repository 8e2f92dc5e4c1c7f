-- Which devices a power command has still to reach, and how a suspension goes on with the one that sleeps next.
use Rattle.std.specs.Prelude.{ℕ, Bool, not, ◌&&◌, ◌||◌, List, if◌then◌else◌}
use Rattle.run_rules.specs.declared.deed.Choice.{Choice}
use Rattle.run_rules.specs.declared.deed.Choice.TheVariants.{Does, Waits}
use Rattle.run_rules.specs.declared.deed.Deed.TheVariants.{EndPower, Sleep}
use Rattle.run_rules.specs.declared.deed.PowerEnd.TheVariants as ends
use Rattle.run_rules.specs.declared.world.Dev.{Dev}
use Rattle.run_rules.specs.declared.world.Wait.TheVariants as wait
use Rattle.run_rules.specs.World.{World, is_pinned, is_under, policy_of}

-- an awake device in the subtree of the target of a suspension
abbrev pub has_to_sleep : List Dev → ℕ → Dev → Bool
has_to_sleep live target d = not d.asleep && is_under live target d.serial

-- a sleeping device among the target of a resumption and its ancestors, or among its descendants if all are to wake
abbrev pub has_to_wake : List Dev → ℕ → Bool → Dev → Bool
has_to_wake live target whole d = d.asleep && (is_under live d.serial target || (whole && is_under live target d.serial))

-- it is waited for, is in the way, or is put to sleep
abbrev pub sleeping : World → Dev → Choice
sleeping w d =
    if is_pinned w d.serial then Waits (wait.Scan d.serial)
    else (if (policy_of w.setup d.row).nopower then Does (EndPower (ends.NotSupported d.serial))
    else (if (policy_of w.setup d.row).failsuspend then Does (EndPower (ends.Failed d.serial))
    else Does (Sleep d.serial)))
