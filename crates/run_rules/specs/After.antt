-- The world after a deed. What a line does not name stays.
use Rattle.std.specs.Prelude.{ℕ, ◌+◌, Bool, true, false, not, ◌&&◌, ◌||◌, ◌==◌, if◌then◌else◌, List, [], ◌∷◌, ◌++◌, map, filter, slice_set, Option, Some, None, is_some, unwrap_or}
use Rattle.std.specs.Option.{option_map_or}
use Rattle.cf_types.specs.Locators.{locators_at}
use Rattle.cf_types.specs.declared.machine.Command.{Command}
use Rattle.cf_types.specs.declared.machine.Command.TheVariants as command
use Rattle.cf_types.specs.declared.machine.Given.{Given}
use Rattle.cf_types.specs.declared.machine.Policy.{Policy}
use Rattle.cf_types.specs.declared.tables.Place.TheVariants.{At}
use Rattle.run_rules.specs.declared.world.Setup.{Setup}
use Rattle.run_rules.specs.declared.world.Wanted.{Wanted}
use Rattle.run_rules.specs.declared.world.Dev.{Dev}
use Rattle.run_rules.specs.declared.world.Frame.{Frame}
use Rattle.run_rules.specs.declared.world.Frame.TheVariants.{Scan, Finaliser}
use Rattle.run_rules.specs.declared.world.Position.{Position}
use Rattle.run_rules.specs.declared.world.Key.{Key}
use Rattle.run_rules.specs.declared.world.Placing.{Placing}
use Rattle.run_rules.specs.declared.world.Placing.TheVariants.{Nowhere, Queued, PutOff, Pushed}
use Rattle.run_rules.specs.declared.world.Key.TheVariants as key
use Rattle.run_rules.specs.declared.world.Activity.{Activity}
use Rattle.run_rules.specs.declared.world.Activity.TheVariants as activity
use Rattle.run_rules.specs.World.{World, Caller, is_under, policy_of, offered_by, caller_at, has_ended, scan_of, start}
use Rattle.run_rules.specs.References.{given_back, shared_again, sole_with}
use Rattle.run_rules.specs.Next.{command_of, has_nothing, wanted_of}
use Rattle.run_rules.specs.declared.deed.Deed.{Deed}
use Rattle.run_rules.specs.declared.deed.Deed.TheVariants.{Search, EndScan, BeginInterrupts, Finalise, EndCaller, Drop, Refuse, Open, Close, Start, Done, Detach, Free, Rescan, BeginPower, Sleep, Wake, EndPower, Plug, Unplug, Tell}
use Rattle.run_rules.specs.declared.world.Arrival.{Arrival}

abbrev pub with_caller : World → ℕ → Caller → World
with_caller w k c = record w { callers = slice_set w.callers k c }

-- a rescan is over where the stack is empty
abbrev pub settled : Caller → Caller
settled c = finish c.over c.doing c.stack
  where
    finish : ℕ → Activity → List Frame → Caller
    finish over activity.Scans [] = record { over = over + 1; doing = activity.Idle; stack = [] }
    finish over doing stack = record { over = over; doing = doing; stack = stack }

abbrev pub doing : World → ℕ → Activity → World
doing w k a = with_caller w k (record { over = (caller_at w k).over; doing = a; stack = (caller_at w k).stack })

-- the caller's command is over
abbrev pub over : World → ℕ → World
over w k = with_caller w k (record { over = (caller_at w k).over + 1; doing = activity.Idle; stack = (caller_at w k).stack })

abbrev pub with_stack : World → ℕ → List Frame → World
with_stack w k stack = with_caller w k (settled (record { over = (caller_at w k).over; doing = (caller_at w k).doing; stack = stack }))

abbrev pub pushed : World → ℕ → Frame → World
pushed w k f = with_stack w k (f ∷ (caller_at w k).stack)

abbrev pub under_top : List Frame → List Frame
under_top [] = []
under_top (f ∷ fs) = fs

abbrev pub moved_top : Position → List Frame → List Frame
moved_top to (Scan s only wanted from ∷ fs) = Scan s only wanted to ∷ fs
moved_top to (Finaliser s ∷ fs) = Finaliser s ∷ fs
moved_top to [] = []

-- ---- attaching: after autoconf(9)

abbrev pub new_device : World → Arrival → Dev
new_device w a = record { serial = w.next; row = a.row; unit = a.unit; parent = a.parent; spot = a.spot; asleep = false; condemned = None }

-- the device is in the list, and has the next serial
unfoldable pub listed : World → Arrival → World
listed w a = record w { live = w.live ++ new_device w a ∷ []; next = w.next + 1 }

unfoldable pub finaliser_placing : Policy → Bool → Placing
finaliser_placing p booted = if p.finaliser then (if booted then Pushed else Queued) else Nowhere

abbrev pub place_finaliser : Placing → World → ℕ → ℕ → World
place_finaliser Nowhere w k s = w
place_finaliser Queued w k s = record w { finalisers = w.finalisers ++ s ∷ [] }
place_finaliser PutOff w k s = w
place_finaliser Pushed w k s = pushed w k (Finaliser s)

unfoldable pub scan_placing : Policy → List ℕ → Bool → Bool → Placing
scan_placing p offered interrupts_on may_defer =
    if has_nothing offered then Nowhere
    else (if p.interrupts && not interrupts_on then Queued else (if p.defer && may_defer then PutOff else Pushed))

abbrev pub place_scan : Placing → World → ℕ → ℕ → ℕ → World
place_scan Nowhere w k parent s = w
place_scan Queued w k parent s = record w { deferred = w.deferred ++ record { key = key.Interrupts; child = s } ∷ [] }
place_scan PutOff w k parent s = record w { deferred = w.deferred ++ record { key = key.Parent parent; child = s } ∷ [] }
place_scan Pushed w k parent s = pushed w k (scan_of s)

-- by the policy of its attachment its finaliser is put on the boot's list, or after the boot pushed
unfoldable pub finaliser_placed : Policy → World → ℕ → ℕ → World
finaliser_placed p w k s = place_finaliser (finaliser_placing p (has_ended w 0)) w k s

-- by the policy of its attachment and by what it offers its scan joins the interrupts queue, is put off on the parent, or is pushed
unfoldable pub scan_placed : Policy → List ℕ → World → ℕ → ℕ → ℕ → Bool → World
scan_placed p offered w k parent s may_defer = place_scan (scan_placing p offered w.interrupts_on may_defer) w k parent s

unfoldable pub attached : World → ℕ → Arrival → Bool → World
attached w k a may_defer =
    scan_placed (policy_of w.setup a.row) (offered_by w.setup a.row)
    (finaliser_placed (policy_of w.setup a.row) (listed w a) k w.next) k a.parent w.next may_defer

abbrev pub arrived : World → ℕ → Option Arrival → Bool → World
arrived w k None may_defer = w
arrived w k (Some a) may_defer = attached w k a may_defer

-- ---- queues: after autoconf(9), what was put off first is done first

abbrev pub same_key : Key → Key → Bool
same_key key.Interrupts key.Interrupts = true
same_key (key.Parent a) (key.Parent b) = a == b
same_key key.Interrupts (key.Parent b) = false
same_key (key.Parent a) key.Interrupts = false

-- the queue's entries become frames, the first on top
unfoldable pub released : World → ℕ → Key → List Frame → World
released w k which rest =
    with_stack (record w { deferred = filter (λ e. not (same_key e.key which)) w.deferred }) k
    (map (λ e. scan_of e.child) (filter (λ e. same_key e.key which) w.deferred) ++ rest)

-- ---- finalisers

-- a late spot is seen from now on
abbrev pub show_spot : World → Option ℕ → World
show_spot w None = w
show_spot w (Some x) = record w { hidden = filter (λ y. not (y == x)) w.hidden }

-- the place in the boot's list moves on, an answer 1 sets the mark, and a new pass clears it first
abbrev pub list_moved : World → Option ℕ → Bool → Bool → World
list_moved w None anew answer = w
list_moved w (Some place) anew answer = record w { next_finaliser = place + 1; pass_repeats = answer || (not anew && w.pass_repeats) }

-- a frame goes at answer 0
abbrev pub finaliser_done : World → ℕ → Option ℕ → Bool → World
finaliser_done w k (Some place) answer = w
finaliser_done w k None true = w
finaliser_done w k None false = with_stack w k (under_top (caller_at w k).stack)

-- ---- devices

abbrev pub with_sleep : ℕ → Bool → Dev → Dev
with_sleep s asleep d = if d.serial == s then record d { asleep = asleep } else d

abbrev pub with_condemner : List Dev → ℕ → ℕ → Dev → Dev
with_condemner live k s d = if is_under live s d.serial then record d { condemned = Some k } else d

abbrev pub marked : World → ℕ → Bool → World
marked w s asleep = record w { live = map (with_sleep s asleep) w.live }

abbrev pub condemned : World → ℕ → ℕ → World
condemned w k s = record w { live = map (with_condemner w.live k s) w.live }

abbrev pub freed : World → ℕ → World
freed w s = record w { live = filter (λ d. not (d.serial == s)) w.live }

-- ---- references: this project's profile

-- a caller has one reference more to a device, which may be the only one
abbrev pub referred : World → ℕ → ℕ → Bool → World
referred w k s sole = record w { refs = w.refs ++ record { serial = s; caller = k } ∷ []; sole = sole_with w.sole s sole }

-- or one less, and nobody has it solely
abbrev pub unreferred : World → ℕ → ℕ → World
unreferred w k s = record w { refs = given_back w.refs k s; sole = shared_again w.sole s }

abbrev pub freeing_target : Activity → ℕ → Bool
freeing_target (activity.Frees target) s = target == s
freeing_target _ s = false

-- ---- rescans: after drvctl(8)

-- the locator values that a command gives, and those that the caller's command does
abbrev pub given_in : Command → List Given
given_in (command.Rescan device attr given) = given
given_in _ = []

abbrev pub given_by : Option Command → List Given
given_by said = option_map_or given_in said []

-- those that a rescan of an attribute wants by them
abbrev pub wanted_by : Setup → List Given → Option ℕ → List Wanted
wanted_by s given None = []
wanted_by s given (Some a) = unwrap_or (wanted_of (map (λ l. l.name) (locators_at s.tables.attrs (At a))) given) []

-- the scan of a rescan, by what its caller's command gives
abbrev pub rescan_frame : World → ℕ → ℕ → Option ℕ → Frame
rescan_frame w k s only = Scan s only (wanted_by w.setup (given_by (command_of w k)) only) start

unfoldable pub after : World → ℕ → Deed → World
after w k (Search p spot to got) = arrived (with_stack w k (moved_top to (caller_at w k).stack)) k got true
after w k (EndScan p) = released w k (key.Parent p) (under_top (caller_at w k).stack)
after w k BeginInterrupts = released (record w { interrupts_on = true }) k key.Interrupts (caller_at w k).stack
after w k (Finalise s spot got listed anew) =
    finaliser_done (list_moved (arrived (show_spot w spot) k got false) listed anew (is_some spot)) k listed (is_some spot)
after w k EndCaller = doing w k activity.Ended
after w k (Drop s) = unreferred w k s
after w k (Refuse why) = over w k
after w k (Open s sole) = over (referred w k s sole) k
after w k (Close s) = over (unreferred w k s) k
after w k (Start ticket) = doing w k (activity.Transfer ticket)
after w k (Done ticket) = over w k
after w k (Detach s) = doing (condemned w k s) k (activity.Frees s)
after w k (Free s) = if freeing_target (caller_at w k).doing s then over (freed w s) k else freed w s
after w k (Rescan s only) = pushed (doing w k activity.Scans) k (rescan_frame w k s only)
after w k (BeginPower kind s) = doing (record w { power_owner = Some k }) k (activity.Power kind s)
after w k (Sleep s) = marked w s true
after w k (Wake s) = marked w s false
after w k (EndPower end) = over (record w { power_owner = None }) k
after w k (Plug x) = over (record w { absent = filter (λ y. not (y == x)) w.absent }) k
after w k (Unplug x None) = over (record w { absent = x ∷ filter (λ y. not (y == x)) w.absent }) k
after w k (Unplug x (Some s)) =
    doing (condemned (record w { absent = x ∷ filter (λ y. not (y == x)) w.absent }) k s) k (activity.Frees s)
after w k Tell = over w k
