-- What the line of a deed is made of: the name that a command gives, its reply, and the devices and spots that are named.
use Rattle.std.specs.Prelude.{◌≡◌, ◌<◌, ⊤, ℕ, Bool, true, false, length, IfSome, List, Option, Some, None}
use Rattle.std.specs.Option.{option_map_or}
use Rattle.cf_types.specs.declared.machine.Command.{Command}
use Rattle.cf_types.specs.declared.machine.Command.TheVariants as command
use Rattle.run_rules.specs.declared.deed.Deed.{Deed}
use Rattle.run_rules.specs.declared.deed.Deed.TheVariants.{Search, Finalise, Drop, Refuse, Done, Free, Sleep, Wake, EndPower}
use Rattle.run_rules.specs.declared.deed.PowerEnd.{PowerEnd}
use Rattle.run_rules.specs.declared.deed.PowerEnd.TheVariants as ends
use Rattle.run_rules.specs.declared.deed.CommandRefusal.{CommandRefusal}
use Rattle.run_rules.specs.declared.deed.CommandRefusal.TheVariants as refusal
use Rattle.run_rules.specs.declared.event.Act.{Act}
use Rattle.run_rules.specs.declared.event.Act.TheVariants as act
use Rattle.run_rules.specs.declared.event.Reply.{Reply}
use Rattle.run_rules.specs.declared.event.Reply.TheVariants as reply
use Rattle.run_rules.specs.declared.world.Arrival.{Arrival}
use Rattle.run_rules.specs.declared.world.Dev.{Dev}
use Rattle.run_rules.specs.declared.world.Setup.{Setup}
use Rattle.run_rules.specs.Next.{command_of, is_power}
use Rattle.run_rules.specs.Run.{end_of, got_of, power_name, reply_of, spot_name}
use Rattle.run_rules.specs.World.{World, is_live, parent_name}

-- the line of a search of a spot, with what came there
abbrev pub found_act : Setup → List Dev → ℕ → ℕ → Option Arrival → Act
found_act s live parent spot got = act.Found (parent_name s live parent) (spot_name s spot) (got_of s got)

-- the line with which the power command that a caller is at ends
abbrev pub power_end_act : World → ℕ → PowerEnd → Act
power_end_act w k end = act.PowerEnd (power_name (command_of w k)) (end_of w end)

-- the reply of a command: that of a refusal, or that it had its effect
abbrev pub answer_by : World → Option CommandRefusal → Reply
answer_by w None = reply.Ok
answer_by w (Some why) = reply_of w why

-- the name that a command gives, which is neither a list nor a tree
abbrev pub name_given : Command → Option (List ℕ)
name_given (command.OpenDev name) = Some name
name_given (command.OpenSole name) = Some name
name_given (command.CloseDev name) = Some name
name_given (command.Io name value) = Some name
name_given (command.Detach name) = Some name
name_given (command.Rescan name attr given) = Some name
name_given (command.ListDev name) = None
name_given (command.TreeDev name) = None
name_given (command.Suspend name) = Some name
name_given (command.Resume name) = Some name
name_given (command.ResumeTree name) = Some name
name_given (command.Plug name) = Some name
name_given (command.Unplug name) = Some name

-- whether the reply of a refusal names a device
abbrev pub names_device : CommandRefusal → Bool
names_device (refusal.Busy s) = true
names_device _ = false

-- the device that the reply of a refusal names is live
abbrev pub RefusesLive : List Dev → CommandRefusal → Type 0
RefusesLive live (refusal.Busy s) = is_live live s ≡ true
RefusesLive live _ = ⊤

abbrev pub AnswersLive : List Dev → Option CommandRefusal → Type 0
AnswersLive live None = ⊤
AnswersLive live (Some why) = RefusesLive live why

-- and that which the end of a power command names
abbrev pub EndsLive : List Dev → PowerEnd → Type 0
EndsLive live (ends.NotSupported s) = is_live live s ≡ true
EndsLive live (ends.Failed s) = is_live live s ≡ true
EndsLive live _ = ⊤

-- the devices that the line of a deed names are live, its spots are of the machine, and what ends as a power command is one
abbrev pub MayBeTold : World → ℕ → Deed → Type 0
MayBeTold w k (Search p spot to got) = spot < length w.setup.machine.spots
MayBeTold w k (Finalise s shown got listed anew) = (is_live w.live s ≡ true) × IfSome shown (λ x. x < length w.setup.machine.spots)
MayBeTold w k (Refuse why) = RefusesLive w.live why
MayBeTold w k (Done ticket) = is_live w.live ticket.serial ≡ true
MayBeTold w k (Free s) = is_live w.live s ≡ true
MayBeTold w k (Sleep s) = is_live w.live s ≡ true
MayBeTold w k (Wake s) = is_live w.live s ≡ true
MayBeTold w k (Drop s) = is_live w.live s ≡ true
MayBeTold w k (EndPower end) = EndsLive w.live end × (option_map_or is_power (command_of w k) false ≡ true)
MayBeTold w k _ = ⊤
