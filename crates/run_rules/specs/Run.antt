-- What is printed of a deed, and the runs of events.
use Rattle.std.specs.Prelude.{◌≡◌, ℕ, ◌+◌, true, if◌then◌else◌, ◌==◌, List, [], ◌∷◌, ◌++◌, length, map, slice_get, Option, Some, None, option_map, ◌%◌, ◌^◌}
use Rattle.std.specs.List.{AllByRecursion}
use Rattle.std.specs.Option.{option_map_or}
use Rattle.cf_types.specs.declared.machine.Command.{Command}
use Rattle.cf_types.specs.declared.machine.Command.TheVariants as command
use Rattle.cf_types.specs.declared.machine.Ticket.{Ticket}
use Rattle.run_rules.specs.declared.event.Event.{Event}
use Rattle.run_rules.specs.declared.event.Act.{Act}
use Rattle.run_rules.specs.declared.event.Act.TheVariants as act
use Rattle.run_rules.specs.declared.event.Got.{Got}
use Rattle.run_rules.specs.declared.event.Shown.{Shown}
use Rattle.run_rules.specs.declared.event.Reply.{Reply}
use Rattle.run_rules.specs.declared.event.Reply.TheVariants as reply
use Rattle.run_rules.specs.declared.event.IoAnswer.{IoAnswer}
use Rattle.run_rules.specs.declared.event.IoAnswer.TheVariants as answer
use Rattle.run_rules.specs.declared.event.DepthName.{DepthName}
use Rattle.run_rules.specs.declared.event.PowerKind.TheVariants as kind
use Rattle.run_rules.specs.declared.world.Dev.{Dev}
use Rattle.run_rules.specs.declared.world.Setup.{Setup}
use Rattle.run_rules.specs.Tree.{tree_below}
use Rattle.run_rules.specs.World.{World, children, name_of, unit_name, parent_name, device_named, caller_at, has_ended}
use Rattle.run_rules.specs.Next.{next, command_of, name_at}
use Rattle.run_rules.specs.After.{after}
use Rattle.run_rules.specs.declared.deed.Deed.{Deed}
use Rattle.run_rules.specs.declared.deed.Deed.TheVariants.{Search, EndScan, BeginInterrupts, Finalise, EndCaller, Drop, Refuse, Open, Close, Start, Done, Detach, Free, Rescan, BeginPower, Sleep, Wake, EndPower, Plug, Unplug, Tell}
use Rattle.run_rules.specs.declared.deed.CommandRefusal.{CommandRefusal}
use Rattle.run_rules.specs.declared.deed.CommandRefusal.TheVariants as refusal
use Rattle.run_rules.specs.declared.deed.PowerEnd.{PowerEnd}
use Rattle.run_rules.specs.declared.deed.PowerEnd.TheVariants as ends
use Rattle.run_rules.specs.declared.deed.Choice.{Choice}
use Rattle.run_rules.specs.declared.deed.Choice.TheVariants.{Does}
use Rattle.run_rules.specs.declared.world.Arrival.{Arrival}

-- the number of a caller's next event
abbrev pub number_of : World → ℕ → ℕ
number_of w k = if k == 0 then 0 else (caller_at w k).over + 1

abbrev pub spot_name : Setup → ℕ → List ℕ
spot_name s x = option_map_or (λ spot. spot.name) (slice_get s.machine.spots x) []

-- the name and the row of a device that comes
abbrev pub got_of : Setup → Option Arrival → Option Got
got_of s got = option_map (λ a. record { name = unit_name s a.row a.unit; row = a.row }) got

-- the spot that a finaliser showed, and what came there
abbrev pub shown_of : Setup → Option ℕ → Option Arrival → Option Shown
shown_of s spot got = option_map (λ x. record { spot = spot_name s x; got = got_of s got }) spot

-- the defined answer of a transfer
unfoldable pub answer_of : Ticket → IoAnswer
answer_of t = if t.bad then answer.DeviceError else answer.Number ((t.slot + t.value) % 2 ^ 32)

-- what `list` tells: the children's names, by serial
unfoldable pub list_names : World → Option (List ℕ) → Option (List (List ℕ))
list_names w None = Some (map (name_of w.setup) (children w.live 0))
list_names w (Some name) = option_map (λ d. map (name_of w.setup) (children w.live d.serial)) (device_named w.setup w.live name)

abbrev pub depth_name : Setup → ℕ × Dev → DepthName
depth_name s e = record { depth = e.0; name = name_of s e.1 }

-- what `tree` tells: the device, and what stands below it with its depth
unfoldable pub tree_names : World → Option (List ℕ) → Option (List DepthName)
tree_names w None = Some (map (depth_name w.setup) (tree_below (length w.live) w.live 0 0))
tree_names w (Some name) =
    option_map (λ d. map (depth_name w.setup) ((0, d) ∷ tree_below (length w.live) w.live 1 d.serial)) (device_named w.setup w.live name)

-- the reply of a refusal; a device is named as it is live
abbrev pub reply_of : World → CommandRefusal → Reply
reply_of w refusal.NoDevice = reply.NoDevice
reply_of w refusal.Gone = reply.Gone
reply_of w refusal.Exclusive = reply.Exclusive
reply_of w refusal.TooMany = reply.TooMany
reply_of w refusal.Shared = reply.Shared
reply_of w refusal.NotHeld = reply.NotHeld
reply_of w refusal.Asleep = reply.Asleep
reply_of w (refusal.Busy s) = reply.Busy (name_at w s)
reply_of w refusal.NoRescan = reply.NoRescan
reply_of w refusal.BadAttribute = reply.BadAttribute
reply_of w refusal.BadLocator = reply.BadLocator
reply_of w refusal.NoSpot = reply.NoSpot

-- and that with which a power command ends
abbrev pub end_of : World → PowerEnd → Reply
end_of w ends.Done = reply.Ok
end_of w ends.Gone = reply.Gone
end_of w (ends.NotSupported s) = reply.NotSupported (name_at w s)
end_of w (ends.Failed s) = reply.SuspendFailed (name_at w s)

-- the line of a command with its reply
abbrev pub told : World → Command → Reply → Act
told w (command.OpenDev name) r = act.OpenDev name r
told w (command.OpenSole name) r = act.OpenSole name r
told w (command.CloseDev name) r = act.CloseDev name r
told w (command.Io name value) r = act.IoStart name value r
told w (command.Detach name) r = act.Detach name r
told w (command.Rescan name attr given) r = act.Rescan name r
told w (command.ListDev name) r = act.ListDev name (list_names w name)
told w (command.TreeDev name) r = act.TreeDev name (tree_names w name)
told w (command.Suspend name) r = act.Power kind.Suspend name r
told w (command.Resume name) r = act.Power kind.Resume name r
told w (command.ResumeTree name) r = act.Power kind.ResumeTree name r
told w (command.Plug name) r = act.Plug name r
told w (command.Unplug name) r = act.Unplug name r

-- the name that the power command in force was given; it is printed also where the device of that name is another one by then
abbrev pub power_name : Option Command → List ℕ
power_name (Some (command.Suspend name)) = name
power_name (Some (command.Resume name)) = name
power_name (Some (command.ResumeTree name)) = name
power_name _ = []

-- the line of its caller's command; a caller with none left has but its end to tell
abbrev pub answered : World → ℕ → Reply → Act
answered w k r = option_map_or (λ said. told w said r) (command_of w k) act.End

unfoldable pub printed : World → ℕ → Deed → Act
printed w k (Search p spot to got) = act.Found (parent_name w.setup w.live p) (spot_name w.setup spot) (got_of w.setup got)
printed w k (EndScan p) = act.ScanEnd (parent_name w.setup w.live p)
printed w k BeginInterrupts = act.Interrupts
printed w k (Finalise s spot got listed anew) = act.Final (name_at w s) (shown_of w.setup spot got)
printed w k EndCaller = act.End
printed w k (Drop s) = act.DropRef (name_at w s)
printed w k (Refuse why) = answered w k (reply_of w why)
printed w k (Open s sole) = answered w k reply.Ok
printed w k (Close s) = answered w k reply.Ok
printed w k (Start ticket) = answered w k reply.Ok
printed w k (Done ticket) = act.IoDone (name_at w ticket.serial) (answer_of ticket)
printed w k (Detach s) = answered w k reply.Ok
printed w k (Free s) = act.Free (name_at w s)
printed w k (Rescan s only) = answered w k reply.Ok
printed w k (BeginPower kind s) = answered w k reply.Ok
printed w k (Sleep s) = act.Sleep (name_at w s)
printed w k (Wake s) = act.Wake (name_at w s)
printed w k (EndPower end) = act.PowerEnd (power_name (command_of w k)) (end_of w end)
printed w k (Plug x) = answered w k reply.Ok
printed w k (Unplug x of) = answered w k reply.Ok
printed w k Tell = answered w k reply.Ok

unfoldable pub event_of : World → ℕ → Deed → Event
event_of w k deed = record { caller = k; number = number_of w k; act = printed w k deed }

-- from w, caller k does this one event and leaves v
pub record Step (w : World) (k : ℕ) (e : Event) (v : World) : Type 0 where
  pub deed : Deed
  pub chosen : next w k ≡ Does deed
  pub event : e ≡ event_of w k deed
  pub world : v ≡ after w k deed

-- the events lead from w to v
abbrev pub Run : World → List Event → World → Type 0
Run w [] v = w ≡ v
Run w (e ∷ es) v = (m : World) × Step w e.caller e m × Run m es v

-- the boot: the run of caller 0 alone, until it has ended
pub record Boot (w : World) (h : List Event) (v : World) : Type 0 where
  pub run : Run w h v
  pub alone : AllByRecursion (λ e. e.caller ≡ 0) h
  pub over : has_ended v 0 ≡ true

abbrev pub taken : World → ℕ → Choice → List Event × World
taken w k (Does deed) = (event_of w k deed ∷ [], after w k deed)
taken w k _ = ([], w)

-- the turns of the callers of the list, of which those with no event are passed
unfoldable pub played : World → List ℕ → List Event × World
played w [] = ([], w)
played w (k ∷ ks) =
    let one = taken w k (next w k) in
    let rest = played one.1 ks in
    (one.0 ++ rest.0, rest.1)
