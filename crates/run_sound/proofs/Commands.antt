-- What the choice of a command's deed tells of the world: `Next` read backwards, for proofs.
use Rattle.std.specs.Prelude.{◌≡◌, ◌≢◌, ◌⊎◌, ⊤, ℕ, ◌+◌, Bool, true, false, List, [], Option, Some, None, map}
use Rattle.std.specs.List.{Contains}
use Rattle.cf_types.specs.Locators.{locators_at}
use Rattle.cf_types.specs.declared.tables.Place.TheVariants.{At}
use Rattle.cf_types.specs.declared.machine.Command.{Command}
use Rattle.cf_types.specs.declared.machine.Command.TheVariants as command
use Rattle.cf_types.specs.declared.machine.Given.{Given}
use Rattle.cf_types.specs.declared.machine.Ticket.{Ticket}
use Rattle.cf_types.specs.Lookups.{attr_number, spot_number}
use Rattle.run_rules.specs.declared.event.PowerKind.{PowerKind}
use Rattle.run_rules.specs.declared.event.PowerKind.TheVariants as kind
use Rattle.run_rules.specs.declared.world.Dev.{Dev}
use Rattle.run_rules.specs.declared.world.Wanted.{Wanted}
use Rattle.run_rules.specs.declared.world.Activity.TheVariants as activity
use Rattle.run_rules.specs.World.{World, caller_at, device_named, device_on, has, is_condemned, is_held, is_live, is_pinned, is_referred, offered_by, policy_of}
use Rattle.run_rules.specs.declared.deed.Deed.{Deed}
use Rattle.run_rules.specs.declared.deed.Deed.TheVariants.{Drop, Refuse, Open, Close, Start, Done, Detach, Free, Rescan, BeginPower, Sleep, Wake, EndPower, Plug, Unplug, Tell}
use Rattle.run_rules.specs.declared.deed.PowerEnd.{PowerEnd}
use Rattle.run_rules.specs.declared.deed.PowerEnd.TheVariants as ends
use Rattle.run_rules.specs.declared.deed.Choice.TheVariants.{Does}
use Rattle.run_rules.specs.References.{MayHold}
use Rattle.run_rules.specs.Next.{command_deed, command_of, first_held, has_nothing, hindered, is_power, next_free, next_sleep, next_wake, other_turn, powering, ticket_of, wanted_of}
use Rattle.run_sound.specs.Scripts.{power_command}

-- ---- where a caller stands

-- the caller of a script is between two commands, with no frame
pub record IsBetween (w : World) (k : ℕ) : Type 0 where
  pub later : k ≢ 0
  pub idle : ((caller_at w k).doing ≡ activity.Idle) ⊎ ((caller_at w k).doing ≡ activity.Scans)
  pub no_frames : (caller_at w k).stack ≡ []

-- its next command comes to this deed; where that is a power command, no other caller has the power turn
pub record Begins (w : World) (k : ℕ) (d : Deed) : Type 0 where
  pub between : IsBetween w k
  pub said : Command
  pub command : command_of w k ≡ Some said
  pub turn : is_power said ≡ true → other_turn w.power_owner k ≡ None
  pub deed : command_deed w k ((caller_at w k).over + 1) said ≡ d

-- the device of a name is live, and has this serial
pub record IsNamed (w : World) (name : List ℕ) (s : ℕ) : Type 0 where
  pub dev : Dev
  pub found : device_named w.setup w.live name ≡ Some dev
  pub there : Contains w.live dev
  pub serial : dev.serial ≡ s
  pub live : is_live w.live s ≡ true

-- ---- references and transfers

-- the command that asks for a reference, or for the only one
abbrev pub open_command : Bool → List ℕ → Command
open_command true name = command.OpenSole name
open_command false name = command.OpenDev name

-- a device that is not condemned and that the caller may hold once more
pub record OpensFree (w : World) (k s : ℕ) (sole : Bool) : Type 0 where
  pub begins : Begins w k (Open s sole)
  pub name : List ℕ
  pub words : begins.said ≡ open_command sole name
  pub named : IsNamed w name s
  pub spared : is_condemned named.dev ≡ false
  pub room : MayHold w.refs w.sole k s sole

pub record ClosesHeld (w : World) (k s : ℕ) : Type 0 where
  pub begins : Begins w k (Close s)
  pub name : List ℕ
  pub words : begins.said ≡ command.CloseDev name
  pub named : IsNamed w name s
  pub held : is_held w k s ≡ true

-- a device that the caller holds, and that is awake
pub record StartsHeld (w : World) (k : ℕ) (t : Ticket) : Type 0 where
  pub begins : Begins w k (Start t)
  pub name : List ℕ
  pub value : ℕ
  pub words : begins.said ≡ command.Io name value
  pub named : IsNamed w name t.serial
  pub held : is_held w k t.serial ≡ true
  pub awake : named.dev.asleep ≡ false
  pub ticket : t ≡ ticket_of w k ((caller_at w k).over + 1) named.dev value

-- no command is left, and the device is the first one that the caller holds
pub record ReturnsFirst (w : World) (k s : ℕ) : Type 0 where
  pub between : IsBetween w k
  pub over : command_of w k ≡ None
  pub dev : Dev
  pub first : first_held w k ≡ Some dev
  pub serial : dev.serial ≡ s
  pub live : is_live w.live s ≡ true
  pub held : is_held w k s ≡ true

-- ---- detaching

-- a device that is not condemned, with nothing in the way below it
pub record DetachesFree (w : World) (k s : ℕ) : Type 0 where
  pub begins : Begins w k (Detach s)
  pub name : List ℕ
  pub words : begins.said ≡ command.Detach name
  pub named : IsNamed w name s
  pub spared : is_condemned named.dev ≡ false
  pub free : hindered w s k false ≡ None

-- the last device that the caller condemned, and nobody holds it
pub record FreesLast (w : World) (k s : ℕ) : Type 0 where
  pub target : ℕ
  pub amid : (caller_at w k).doing ≡ activity.Frees target
  pub last : next_free w.live k ≡ Some s
  pub live : is_live w.live s ≡ true
  pub free : is_referred w s ≡ false

-- ---- rescans

-- what is searched again: all that the device offers, or one attribute with the values that are given
abbrev pub IsOnly : World → Dev → Option (List ℕ) → List Given → Option ℕ → Type 0
IsOnly w d None given only = only ≡ None
IsOnly w d (Some name) given only =
    (a : ℕ) × (wanted : List Wanted) × (attr_number w.setup.tables.attrs name ≡ Some a) × (has (offered_by w.setup d.row) a ≡ true)
    × (wanted_of (map (λ l. l.name) (locators_at w.setup.tables.attrs (At a))) given ≡ Some wanted) × (only ≡ Some a)

-- a device that is neither condemned nor pinned nor asleep, whose driver offers something and does not refuse
pub record SearchesAgain (w : World) (k s : ℕ) (only : Option ℕ) : Type 0 where
  pub begins : Begins w k (Rescan s only)
  pub name : List ℕ
  pub attr : Option (List ℕ)
  pub given : List Given
  pub words : begins.said ≡ command.Rescan name attr given
  pub named : IsNamed w name s
  pub spared : is_condemned named.dev ≡ false
  pub unpinned : is_pinned w s ≡ false
  pub awake : named.dev.asleep ≡ false
  pub may : (policy_of w.setup named.dev.row).norescan ≡ false
  pub offers : has_nothing (offered_by w.setup named.dev.row) ≡ false
  pub scope : IsOnly w named.dev attr given only

-- ---- telling

-- of the root, or of a device that is live
pub record TellsOf (w : World) (k : ℕ) : Type 0 where
  pub begins : Begins w k Tell
  pub name : Option (List ℕ)
  pub words : (begins.said ≡ command.ListDev name) ⊎ (begins.said ≡ command.TreeDev name)
  pub known : (of : List ℕ) → name ≡ Some of → (d : Dev) × (device_named w.setup w.live of ≡ Some d)

-- ---- power

-- a device that is not condemned, while no other caller has the power turn
pub record TakesTurn (w : World) (k : ℕ) (kind : PowerKind) (s : ℕ) : Type 0 where
  pub begins : Begins w k (BeginPower kind s)
  pub name : List ℕ
  pub words : begins.said ≡ power_command kind name
  pub named : IsNamed w name s
  pub spared : is_condemned named.dev ≡ false
  pub nobody : other_turn w.power_owner k ≡ None

-- the last one awake below the target: it is not pinned, and its driver neither refuses nor fails
pub record SendsToSleep (w : World) (k s : ℕ) : Type 0 where
  pub target : ℕ
  pub dev : Dev
  pub amid : (caller_at w k).doing ≡ activity.Power kind.Suspend target
  pub live : is_live w.live target ≡ true
  pub last : next_sleep w.live target ≡ Some dev
  pub serial : dev.serial ≡ s
  pub unpinned : is_pinned w s ≡ false
  pub may : (policy_of w.setup dev.row).nopower ≡ false
  pub works : (policy_of w.setup dev.row).failsuspend ≡ false

-- whether a kind of power command wakes what is below the target too; none for the one that wakes nothing
abbrev pub wakes_below : PowerKind → Option Bool
wakes_below kind.Suspend = None
wakes_below kind.Resume = Some false
wakes_below kind.ResumeTree = Some true

-- the first one that sleeps, of the target, its ancestors, and what is below it where that wakes too
pub record Wakes (w : World) (k s : ℕ) : Type 0 where
  pub target : ℕ
  pub kind : PowerKind
  pub below : Bool
  pub dev : Dev
  pub amid : (caller_at w k).doing ≡ activity.Power kind target
  pub live : is_live w.live target ≡ true
  pub wakes : wakes_below kind ≡ Some below
  pub first : next_wake w.live target below ≡ Some dev
  pub serial : dev.serial ≡ s

-- the target is gone, or the power command came to its end
pub record EndsPower (w : World) (k : ℕ) (end : PowerEnd) : Type 0 where
  pub kind : PowerKind
  pub target : ℕ
  pub amid : (caller_at w k).doing ≡ activity.Power kind target
  pub why : ((is_live w.live target ≡ false) × (end ≡ ends.Gone)) ⊎ ((is_live w.live target ≡ true) × (powering w kind target ≡ Does (EndPower end)))

-- ---- spots

pub record Plugs (w : World) (k x : ℕ) : Type 0 where
  pub begins : Begins w k (Plug x)
  pub name : List ℕ
  pub words : begins.said ≡ command.Plug name
  pub spot : spot_number w.setup.machine.spots name ≡ Some x

-- no device stands on the spot
pub record UnplugsBare (w : World) (k x : ℕ) : Type 0 where
  pub begins : Begins w k (Unplug x None)
  pub name : List ℕ
  pub words : begins.said ≡ command.Unplug name
  pub spot : spot_number w.setup.machine.spots name ≡ Some x
  pub bare : device_on w.live x ≡ None

-- a device stands on the spot, with nothing in the way below it
pub record UnplugsFree (w : World) (k x s : ℕ) : Type 0 where
  pub begins : Begins w k (Unplug x (Some s))
  pub name : List ℕ
  pub words : begins.said ≡ command.Unplug name
  pub spot : spot_number w.setup.machine.spots name ≡ Some x
  pub dev : Dev
  pub stands : device_on w.live x ≡ Some dev
  pub serial : dev.serial ≡ s
  pub live : is_live w.live s ≡ true
  pub free : hindered w s k true ≡ None

-- ---- all of them

-- the reason of a command's deed; of frames' deeds nothing is said here
abbrev pub HasCommandReason : World → ℕ → Deed → Type 0
HasCommandReason w k (Drop s) = ReturnsFirst w k s
HasCommandReason w k (Refuse why) = Begins w k (Refuse why)
HasCommandReason w k (Open s sole) = OpensFree w k s sole
HasCommandReason w k (Close s) = ClosesHeld w k s
HasCommandReason w k (Start t) = StartsHeld w k t
HasCommandReason w k (Done t) = (caller_at w k).doing ≡ activity.Transfer t
HasCommandReason w k (Detach s) = DetachesFree w k s
HasCommandReason w k (Free s) = FreesLast w k s
HasCommandReason w k (Rescan s only) = SearchesAgain w k s only
HasCommandReason w k (BeginPower kind s) = TakesTurn w k kind s
HasCommandReason w k (Sleep s) = SendsToSleep w k s
HasCommandReason w k (Wake s) = Wakes w k s
HasCommandReason w k (EndPower end) = EndsPower w k end
HasCommandReason w k (Plug x) = Plugs w k x
HasCommandReason w k (Unplug x None) = UnplugsBare w k x
HasCommandReason w k (Unplug x (Some s)) = UnplugsFree w k x s
HasCommandReason w k Tell = TellsOf w k
HasCommandReason w k _ = ⊤
