-- What a caller does next. The first line that applies counts.
use Rattle.std.specs.Prelude.{ℕ, ◌+◌, ◌-◌, Bool, true, false, not, ◌&&◌, ◌||◌, ◌==◌, nat_lt, if◌then◌else◌, List, [], ◌∷◌, length, reverse, map, find, slice_get, slice_index_or, Option, Some, None, option_map, option_and_then}
use Rattle.std.specs.List.{list_any}
use Rattle.std.specs.Option.{option_map_or}
use Rattle.cf_types.specs.Locators.{locators_at}
use Rattle.cf_types.specs.declared.tables.Place.{Place}
use Rattle.cf_types.specs.declared.tables.Place.TheVariants.{Root, At}
use Rattle.cf_types.specs.declared.machine.Command.{Command}
use Rattle.cf_types.specs.declared.machine.Command.TheVariants as command
use Rattle.cf_types.specs.declared.machine.Given.{Given}
use Rattle.cf_types.specs.declared.machine.Spot.{Spot}
use Rattle.cf_types.specs.declared.machine.Ticket.{Ticket}
use Rattle.run_rules.specs.declared.event.PowerKind.{PowerKind}
use Rattle.run_rules.specs.declared.event.PowerKind.TheVariants as kind
use Rattle.run_rules.specs.declared.world.Dev.{Dev}
use Rattle.run_rules.specs.declared.world.Frame.{Frame}
use Rattle.run_rules.specs.declared.world.Frame.TheVariants.{Scan, Finaliser}
use Rattle.run_rules.specs.declared.world.Position.{Position}
use Rattle.run_rules.specs.declared.world.Wanted.{Wanted}
use Rattle.run_rules.specs.declared.world.Wait.TheVariants as wait
use Rattle.run_rules.specs.declared.world.Activity.{Activity}
use Rattle.run_rules.specs.declared.world.Activity.TheVariants as activity
use Rattle.run_rules.specs.declared.world.Setup.{Setup}
use Rattle.run_rules.specs.World.{World, has, is_number, serial_of, device_at, device_on, is_live, is_under, name_of, device_named, policy_of, offered_by, is_pinned, is_held, is_referred, is_condemned, caller_at, has_ended}
use Rattle.cf_types.specs.Numbers.{below}
use Rattle.cf_types.specs.Lookups.{attr_number, place_of_name, spot_number}
use Rattle.run_rules.specs.References.{count_in}
use Rattle.run_rules.specs.Search.{winner_at, unit_of, due, after_turn}
use Rattle.run_rules.specs.declared.deed.Deed.{Deed}
use Rattle.run_rules.specs.declared.deed.Deed.TheVariants.{Search, EndScan, BeginInterrupts, Finalise, EndCaller, Drop, Refuse, Open, Close, Start, Done, Detach, Free, Rescan, BeginPower, Sleep, Wake, EndPower, Plug, Unplug, Tell}
use Rattle.run_rules.specs.declared.deed.CommandRefusal.TheVariants as refusal
use Rattle.run_rules.specs.declared.deed.PowerEnd.TheVariants as ends
use Rattle.run_rules.specs.declared.deed.Choice.{Choice}
use Rattle.run_rules.specs.declared.deed.Choice.TheVariants.{Ended, Waits, Does}
use Rattle.run_rules.specs.declared.world.Arrival.{Arrival}

abbrev pub name_at : World → ℕ → List ℕ
name_at w s = option_map_or (name_of w.setup) (device_at w.live s) []

-- ---- searching: after autoconf(9)

-- what comes to a spot below a parent at a place, if there is a candidate
unfoldable pub arrival : Setup → List Dev → ℕ → Place → ℕ → Option Arrival
arrival s live p place x =
    option_map (λ r. record { row = r; unit = unit_of s live r; parent = p; spot = x }) (winner_at s live p place x)

unfoldable pub next_scan : Setup → List Dev → List ℕ → List ℕ → ℕ → Option ℕ → List Wanted → Position → Deed
next_scan s live absent hidden p only wanted from =
    option_map_or (λ t. Search p t.at.spot (after_turn t) (arrival s live p t.place t.at.spot)) (due s live absent hidden p only wanted from) (EndScan p)

-- ---- finalisers: after autoconf(9); that each call shows one late spot is this project's profile

abbrev pub offers_place : List ℕ → Place → Bool
offers_place offered Root = false
offers_place offered (At a) = has offered a

-- whether a spot hangs below the device, on an attribute that the device offers
abbrev pub hangs_below : Setup → Dev → Spot → Bool
hangs_below s d x = is_number x.parent d.spot && offers_place (offered_by s d.row) x.place

-- the first spot below the device that is hidden (only late spots are) and present
unfoldable pub late_spot : World → Dev → Option ℕ
late_spot w d =
    find (λ x. has w.hidden x && not (has w.absent x) && option_map_or (hangs_below w.setup d) (slice_get w.setup.machine.spots x) false)
    (below (length w.setup.machine.spots))

abbrev pub place_of_spot : World → ℕ → Place
place_of_spot w x = option_map_or (λ spot. spot.place) (slice_get w.setup.machine.spots x) Root

unfoldable pub finalise : World → ℕ → Option ℕ → Bool → Deed
finalise w s listed anew =
    option_map_or (λ x. Finalise s (Some x) (arrival w.setup w.live s (place_of_spot w x) x) listed anew)
    (option_and_then (late_spot w) (device_at w.live s))
    (Finalise s None None listed anew)

-- ---- the boot, without a frame: after autoconf(9), interrupts first, then the finalisers, in passes until none answers 1

unfoldable pub next_boot : World → Choice
next_boot w =
    if not w.interrupts_on then Does BeginInterrupts
    else (if nat_lt w.next_finaliser (length w.finalisers) then Does (finalise w (slice_index_or w.finalisers w.next_finaliser 0) (Some w.next_finaliser) false)
    else (if w.pass_repeats then Does (finalise w (slice_index_or w.finalisers 0 0) (Some 0) true)
    else Does EndCaller))

-- ---- freeing: after autoconf(9), children before their parent; that it waits for references is this project's profile

-- of the devices that the caller condemned the one of greatest serial
unfoldable pub next_free : List Dev → ℕ → Option ℕ
next_free live k = serial_of (find (λ d. is_number d.condemned k) (reverse live))

-- ---- power: after pmf(9), children sleep before their parent and wake after it; that a scan is waited for is this project's profile

-- of the devices awake in the subtree the one of greatest serial
unfoldable pub next_sleep : List Dev → ℕ → Option Dev
next_sleep live target = find (λ d. not d.asleep && is_under live target d.serial) (reverse live)

-- of the sleeping devices among the target and its ancestors, or its descendants too, the one of least serial
unfoldable pub next_wake : List Dev → ℕ → Bool → Option Dev
next_wake live target whole =
    find (λ d. d.asleep && (is_under live d.serial target || (whole && is_under live target d.serial))) live

-- while a caller frees there is one that it condemned
unfoldable pub freeing : World → ℕ → Choice
freeing w k =
    option_map_or (λ s. if is_referred w s then Waits (wait.Refs s) else Does (Free s)) (next_free w.live k) Ended

unfoldable pub suspending : World → ℕ → Choice
suspending w target =
    option_map_or (λ d.
    if is_pinned w d.serial then Waits (wait.Scan d.serial)
    else (if (policy_of w.setup d.row).nopower then Does (EndPower (ends.NotSupported d.serial))
    else (if (policy_of w.setup d.row).failsuspend then Does (EndPower (ends.Failed d.serial))
    else Does (Sleep d.serial))))
    (next_sleep w.live target) (Does (EndPower ends.Done))

unfoldable pub waking : World → ℕ → Bool → Choice
waking w target whole = option_map_or (λ d. Does (Wake d.serial)) (next_wake w.live target whole) (Does (EndPower ends.Done))

abbrev pub powering : World → PowerKind → ℕ → Choice
powering w kind.Suspend target = suspending w target
powering w kind.Resume target = waking w target false
powering w kind.ResumeTree target = waking w target true

-- ---- commands

-- what keeps a device from going: its driver (after autoconf(9)); a scan, another freeing, or a reference of this caller (this project's profile)
abbrev pub is_hindrance : World → ℕ → ℕ → Bool → Dev → Bool
is_hindrance w s k forced d =
    is_under w.live s d.serial
    && ((not forced && (policy_of w.setup d.row).nodetach) || is_pinned w d.serial || is_condemned d || is_held w k d.serial)

-- the device of least serial in the subtree that stands in the way
unfoldable pub hindered : World → ℕ → ℕ → Bool → Option Dev
hindered w s k forced = find (is_hindrance w s k forced) w.live

-- busy with what stands in the way, or what follows
abbrev pub unless_hindered : World → ℕ → ℕ → Bool → Deed → Deed
unless_hindered w k s forced deed = option_map_or (λ x. Refuse (refusal.Busy x.serial)) (hindered w s k forced) deed

-- no device, gone, or what follows
abbrev pub on_device : World → List ℕ → (Dev → Deed) → Deed
on_device w name body =
    option_map_or (λ d. if is_condemned d then Refuse refusal.Gone else body d)
    (device_named w.setup w.live name) (Refuse refusal.NoDevice)

-- not held, or what follows; a condemned device that the caller holds is as good as another
abbrev pub on_held : World → ℕ → List ℕ → (Dev → Deed) → Deed
on_held w k name body =
    option_map_or (λ d. if is_held w k d.serial then body d else Refuse refusal.NotHeld)
    (device_named w.setup w.live name) (Refuse refusal.NotHeld)

abbrev pub ticket_of : World → ℕ → ℕ → Dev → ℕ → Ticket
ticket_of w k number d value = record {
  caller = k;
  number = number;
  serial = d.serial;
  slot = d.spot;
  bad = option_map_or (λ spot. spot.bad) (slice_get w.setup.machine.spots d.spot) false;
  value = value;
}

-- after drvctl(8): the locator values that a rescan gives, each by its place; none where one is no locator or is given twice
unfoldable pub wanted_of : List (List ℕ) → List Given → Option (List Wanted)
wanted_of names [] = Some []
wanted_of names (g ∷ gs) =
    option_and_then (λ rest.
    option_and_then (λ i.
    if list_any (λ v. v.place == i) rest then None else Some (record { place = i; value = g.value } ∷ rest))
    (place_of_name names g.name)) (wanted_of names gs)

-- bad attribute, bad locator, or the rescan
unfoldable pub rescan_of : World → Dev → Option (List ℕ) → List Given → Deed
rescan_of w d None given = Rescan d.serial None
rescan_of w d (Some name) given =
    option_map_or (λ a.
    if has (offered_by w.setup d.row) a
    then option_map_or (λ wanted. Rescan d.serial (Some a))
    (wanted_of (map (λ l. l.name) (locators_at w.setup.tables.attrs (At a))) given) (Refuse refusal.BadLocator)
    else Refuse refusal.BadAttribute)
    (attr_number w.setup.tables.attrs name) (Refuse refusal.BadAttribute)

abbrev pub has_nothing : List ℕ → Bool
has_nothing [] = true
has_nothing (x ∷ xs) = false

-- busy with the device itself, asleep, no rescan, or what follows
abbrev pub rescanning : World → Dev → Option (List ℕ) → List Given → Deed
rescanning w d attr given =
    if is_pinned w d.serial then Refuse (refusal.Busy d.serial)
    else (if d.asleep then Refuse refusal.Asleep
    else (if (policy_of w.setup d.row).norescan || has_nothing (offered_by w.setup d.row) then Refuse refusal.NoRescan
    else rescan_of w d attr given))

-- the spot is absent from now on, and what stood there goes with its subtree, unless something in it is busy
abbrev pub unplugging : World → ℕ → ℕ → Deed
unplugging w k x =
    option_map_or (λ d. unless_hindered w k d.serial true (Unplug x (Some d.serial))) (device_on w.live x) (Unplug x None)

-- no device, or its names; a condemned device is told of too
abbrev pub telling : World → Option (List ℕ) → Deed
telling w None = Tell
telling w (Some name) = option_map_or (λ d. Tell) (device_named w.setup w.live name) (Refuse refusal.NoDevice)

-- the deed of a command of this number: the first reply whose condition holds, or what it does
unfoldable pub command_deed : World → ℕ → ℕ → Command → Deed
-- references and transfers: this project's profile
command_deed w k number (command.OpenDev name) =
    on_device w name (λ d.
    if has w.sole d.serial then Refuse refusal.Exclusive
    else (if nat_lt (count_in w.refs k d.serial) 15 then Open d.serial false else Refuse refusal.TooMany))
command_deed w k number (command.OpenSole name) =
    on_device w name (λ d. if is_referred w d.serial then Refuse refusal.Shared else Open d.serial true)
command_deed w k number (command.CloseDev name) = on_held w k name (λ d. Close d.serial)
command_deed w k number (command.Io name value) =
    on_held w k name (λ d. if d.asleep then Refuse refusal.Asleep else Start (ticket_of w k number d value))
-- detaching, searching again and listing: after drvctl(8); the replies and their order are this project's profile
command_deed w k number (command.Detach name) =
    on_device w name (λ d. unless_hindered w k d.serial false (Detach d.serial))
command_deed w k number (command.Rescan name attr given) = on_device w name (λ d. rescanning w d attr given)
command_deed w k number (command.ListDev name) = telling w name
command_deed w k number (command.TreeDev name) = telling w name
-- power: after drvctl(8) and pmf(9)
command_deed w k number (command.Suspend name) = on_device w name (λ d. BeginPower kind.Suspend d.serial)
command_deed w k number (command.Resume name) = on_device w name (λ d. BeginPower kind.Resume d.serial)
command_deed w k number (command.ResumeTree name) = on_device w name (λ d. BeginPower kind.ResumeTree d.serial)
-- spots: this project's profile
command_deed w k number (command.Plug name) = option_map_or (λ x. Plug x) (spot_number w.setup.machine.spots name) (Refuse refusal.NoSpot)
command_deed w k number (command.Unplug name) = option_map_or (unplugging w k) (spot_number w.setup.machine.spots name) (Refuse refusal.NoSpot)

abbrev pub is_power : Command → Bool
is_power (command.Suspend name) = true
is_power (command.Resume name) = true
is_power (command.ResumeTree name) = true
is_power _ = false

-- the caller, not this one, that has the power turn: this project's profile
abbrev pub other_turn : Option ℕ → ℕ → Option ℕ
other_turn None k = None
other_turn (Some j) k = if j == k then None else Some j

-- the device of least serial that the caller holds
abbrev pub first_held : World → ℕ → Option Dev
first_held w k = find (λ d. is_held w k d.serial) w.live

abbrev pub command_of : World → ℕ → Option Command
command_of w k = slice_get (slice_index_or w.setup.scripts (k - 1) []) (caller_at w k).over

-- a power command waits while another caller has the power turn
abbrev pub starting : World → ℕ → Command → Choice
starting w k said =
    option_map_or (λ j. Waits (wait.Power j)) (if is_power said then other_turn w.power_owner k else None)
    (Does (command_deed w k ((caller_at w k).over + 1) said))

-- after its last command a caller returns what it holds, and then it ends
abbrev pub closing : World → ℕ → Choice
closing w k = option_map_or (λ d. Does (Drop d.serial)) (first_held w k) (Does EndCaller)

unfoldable pub next_command : World → ℕ → Choice
next_command w k = option_map_or (starting w k) (command_of w k) (closing w k)

-- ---- all of it

abbrev pub on_top : World → ℕ → List Frame → Choice
on_top w k (Scan p only wanted from ∷ rest) = Does (next_scan w.setup w.live w.absent w.hidden p only wanted from)
on_top w k (Finaliser s ∷ rest) = Does (finalise w s None false)
on_top w k [] = if k == 0 then next_boot w else next_command w k

abbrev pub by_activity : World → ℕ → Activity → Choice
by_activity w k activity.Ended = Ended
by_activity w k (activity.Transfer ticket) = Does (Done ticket)
by_activity w k (activity.Frees target) = freeing w k
by_activity w k (activity.Power kind target) = if is_live w.live target then powering w kind target else Does (EndPower ends.Gone)
by_activity w k activity.Scans = on_top w k (caller_at w k).stack
by_activity w k activity.Idle = on_top w k (caller_at w k).stack

unfoldable pub next : World → ℕ → Choice
next w k =
    if has_ended w k then Ended
    else (if not (k == 0) && not (has_ended w 0) then Waits wait.Boot
    else by_activity w k (caller_at w k).doing)
