-- How much of a run is left: a number that each event lowers, whoever does it.
use Rattle.std.specs.Prelude.{ℕ, suc, ◌+◌, ◌-◌, ◌*◌, not, cond, List, length, sum_by, count_by}
use Rattle.std.specs.Option.{option_map_or}
use Rattle.cf_types.specs.Numbers.{below}
use Rattle.run_rules.specs.declared.event.PowerKind.TheVariants as kind
use Rattle.run_rules.specs.declared.world.Dev.{Dev}
use Rattle.run_rules.specs.declared.world.Activity.{Activity}
use Rattle.run_rules.specs.declared.world.Activity.TheVariants as activity
use Rattle.run_rules.specs.World.{World, caller_at, has_ended, is_condemned}
use Rattle.run_sound.specs.Left.{free_spots, scan_left, spot_worth, whole_scan}
use Rattle.run_sound.specs.Scripts.{script_of}
use Rattle.script_laws.specs.Begun.{begun_by}

-- ---- the callers

-- the commands that a caller has not begun, and its end
abbrev pub ahead : World → ℕ → ℕ
ahead w k = (length (script_of w.setup k) - begun_by (caller_at w k).over (caller_at w k).doing) + cond (has_ended w k) 0 1

-- those that are not over
abbrev pub unfinished : World → ℕ → ℕ
unfinished w k = length (script_of w.setup k) - (caller_at w k).over

-- what its frames have left
abbrev pub frames_of : ℕ → World → ℕ → ℕ
frames_of n w k = sum_by (scan_left n) (caller_at w k).stack

-- over all callers
abbrev pub over_callers : (World → ℕ → ℕ) → World → ℕ
over_callers f w = sum_by (f w) (below (suc (length w.setup.scripts)))

-- ---- the board

-- the scans that were put off, the free spots, the boot's finalisers, the hidden spots, and interrupts
abbrev pub board_left : ℕ → World → ℕ
board_left n w =
    sum_by (λ e. whole_scan n) w.deferred
    + spot_worth n * free_spots w.live n
    + (length w.finalisers - w.next_finaliser)
    + cond w.pass_repeats n 0
    + n * length w.hidden
    + cond w.interrupts_on 0 1

-- a condemned device will leave a free spot
abbrev pub free_worth : ℕ → ℕ
free_worth n = 2 * spot_worth n + 1

abbrev pub condemned_in : List Dev → ℕ
condemned_in live = count_by is_condemned live

abbrev pub asleep_in : List Dev → ℕ
asleep_in live = count_by (λ d. d.asleep) live

abbrev pub awake_in : List Dev → ℕ
awake_in live = count_by (λ d. not d.asleep) live

-- what a power command may still put to sleep, or wake
abbrev pub power_left : List Dev → Activity → ℕ
power_left live (activity.Power kind.Suspend target) = awake_in live
power_left live (activity.Power kind.Resume target) = asleep_in live
power_left live (activity.Power kind.ResumeTree target) = asleep_in live
power_left live _ = 0

-- of the caller that has the power turn
abbrev pub turn_left : World → ℕ
turn_left w = option_map_or (λ k. power_left w.live (caller_at w k).doing) w.power_owner 0

-- ---- all of it

-- what is left of the commands that have begun, where the machine has n spots
abbrev pub begun_left : ℕ → World → ℕ
begun_left n w =
    2 * (over_callers (frames_of n) w + board_left n w) + free_worth n * condemned_in w.live + turn_left w + length w.refs
    + over_callers unfinished w

-- more than a command adds as it begins: it may condemn all devices, search one again, or put all to sleep
abbrev pub command_worth : ℕ → ℕ
command_worth n = free_worth n * n + 2 * whole_scan n + n + 2

unfoldable pub run_left : World → ℕ
run_left w = command_worth (length w.setup.machine.spots) * over_callers ahead w + begun_left (length w.setup.machine.spots) w
