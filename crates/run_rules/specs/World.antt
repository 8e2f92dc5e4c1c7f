-- A world: what a run has come to, in plain lists and numbers. The device tree follows autoconf(9).
use Rattle.std.specs.Prelude.{ℕ, zero, suc, Bool, true, false, ◌&&◌, ◌||◌, ◌==◌, List, [], ◌∷◌, ◌++◌, length, map, filter, find, slice_get, slice_index_or, Option, Some, None, is_some, option_map, unwrap_or, bytes_eq, codes, decimal}
use Rattle.std.specs.List.{list_any}
use Rattle.std.specs.Option.{option_map_or}
use Rattle.cf_types.specs.Numbers.{below}
use Rattle.cf_types.specs.Policies.{no_policy}
use Rattle.cf_types.specs.Offers.{interfaces}
use Rattle.cf_types.specs.declared.machine.Command.{Command}
use Rattle.cf_types.specs.declared.machine.Machine.{Machine}
use Rattle.cf_types.specs.declared.tables.Row.{Row}
use Rattle.cf_types.specs.declared.tables.Tables.{Tables}
use Rattle.cf_types.specs.declared.tables.Place.{Place}
use Rattle.cf_types.specs.declared.tables.Place.TheVariants.{Root, At}
use Rattle.cf_types.specs.declared.machine.Policy.{Policy}
use Rattle.run_rules.specs.declared.world.Setup.{Setup}
use Rattle.run_rules.specs.declared.world.Dev.{Dev}
use Rattle.run_rules.specs.declared.world.Frame.{Frame}
use Rattle.run_rules.specs.declared.world.Frame.TheVariants.{Scan, Finaliser}
use Rattle.run_rules.specs.declared.world.Position.{Position}
use Rattle.run_rules.specs.declared.world.Deferred.{Deferred}
use Rattle.run_rules.specs.declared.world.Ref.{Ref}
use Rattle.run_rules.specs.declared.world.Activity.{Activity}
use Rattle.run_rules.specs.declared.world.Activity.TheVariants as activity

-- a caller: how many of its commands are over, what it is in the middle of, and its frames, the top first
pub record Caller : Type 0 where
  pub over : ℕ
  pub doing : Activity
  pub stack : List Frame

pub record World : Type 0 where
  -- the tables, the machine and the scripts, which no event changes
  pub setup : Setup
  -- the live devices in the order in which they were attached, and the serial of the next one
  pub live : List Dev
  pub next : ℕ
  -- the references, of which a pair stands as often as the caller holds the device, and the devices that are held solely
  pub refs : List Ref
  pub sole : List ℕ
  -- the spots without hardware, and those that no finaliser has shown yet
  pub absent : List ℕ
  pub hidden : List ℕ
  -- whether interrupts work
  pub interrupts_on : Bool
  -- the caller in whose hands the power commands are
  pub power_owner : Option ℕ
  -- the scans that were put off, in that order
  pub deferred : List Deferred
  -- the boot's list of devices with a finaliser, the place in it, and whether one of this pass answered 1
  pub finalisers : List ℕ
  pub next_finaliser : ℕ
  pub pass_repeats : Bool
  -- caller 0, which boots, and then the caller of each script
  pub callers : List Caller

-- what a run goes by
abbrev pub setup_of : Tables → Machine → List (List Command) → Setup
setup_of tables machine scripts = record { tables = tables; machine = machine; scripts = scripts }

-- ---- small words

abbrev pub has : List ℕ → ℕ → Bool
has xs x = list_any (λ y. y == x) xs

abbrev pub same_place : Place → Place → Bool
same_place Root Root = true
same_place (At a) (At b) = a == b
same_place Root (At b) = false
same_place (At a) Root = false

abbrev pub is_number : Option ℕ → ℕ → Bool
is_number None n = false
is_number (Some m) n = m == n

-- the device's serial, if there is one
abbrev pub serial_of : Option Dev → Option ℕ
serial_of d = option_map (λ d. d.serial) d

-- ---- the live devices

abbrev pub device_at : List Dev → ℕ → Option Dev
device_at live s = find (λ d. d.serial == s) live

abbrev pub is_live : List Dev → ℕ → Bool
is_live live s = list_any (λ d. d.serial == s) live

abbrev pub device_on : List Dev → ℕ → Option Dev
device_on live x = find (λ d. d.spot == x) live

-- the parent of a device; 0 for the root, and where no such device is live
abbrev pub parent_of : List Dev → ℕ → ℕ
parent_of live s = option_map_or (λ d. d.parent) (device_at live s) 0

-- the chain of parents that begins with s, of at most so many
unfoldable pub lineage : ℕ → List Dev → ℕ → List ℕ
lineage zero live s = []
lineage (suc n) live s = s ∷ lineage n live (parent_of live s)

-- whether a chain of parents leads from the device to s
unfoldable pub is_under : List Dev → ℕ → ℕ → Bool
is_under live s x = has (lineage (length live) live x) s

-- the devices below s, with s, by serial
abbrev pub subtree : List Dev → ℕ → List Dev
subtree live s = filter (λ d. is_under live s d.serial) live

abbrev pub children : List Dev → ℕ → List Dev
children live s = filter (λ d. d.parent == s) live

-- ---- rows, drivers and names

abbrev pub row_at : Setup → ℕ → Option Row
row_at s r = slice_get s.tables.rows r

-- the driver of a row, and its attachment
abbrev pub driver_of : Setup → ℕ → ℕ
driver_of s r = option_map_or (λ row. row.device) (row_at s r) 0

abbrev pub attach_of : Setup → ℕ → ℕ
attach_of s r = option_map_or (λ row. row.attach) (row_at s r) 0

abbrev pub driver_name : Setup → ℕ → List ℕ
driver_name s d = option_map_or (λ device. device.name) (slice_get s.tables.devices d) []

-- an external name: that of a row's driver, followed by the unit in decimal
unfoldable pub unit_name : Setup → ℕ → ℕ → List ℕ
unit_name s r unit = driver_name s (driver_of s r) ++ decimal unit

unfoldable pub root_name : List ℕ
root_name = codes "root"

abbrev pub name_of : Setup → Dev → List ℕ
name_of s d = unit_name s d.row d.unit

-- the name of a parent, which may be the root
unfoldable pub parent_name : Setup → List Dev → ℕ → List ℕ
parent_name s live p = option_map_or (name_of s) (device_at live p) root_name

abbrev pub device_named : Setup → List Dev → List ℕ → Option Dev
device_named s live name = find (λ d. bytes_eq (name_of s d) name) live

-- what the driver of a row does, by the row's attachment
abbrev pub policy_of : Setup → ℕ → Policy
policy_of s r = unwrap_or (slice_get s.machine.policies (attach_of s r)) no_policy

-- the interface attributes that the driver of a row offers, in the order in which they are searched
abbrev pub offered_by : Setup → ℕ → List ℕ
offered_by s r = interfaces s.tables.attrs s.tables.devices (driver_of s r)

-- ---- frames and pins

abbrev pub frame_serial : Frame → ℕ
frame_serial (Scan s only filter position) = s
frame_serial (Finaliser s) = s

-- this project's profile: whether a frame of any caller, or a scan that was put off, is for the device
unfoldable pub is_pinned : World → ℕ → Bool
is_pinned w s = list_any (λ c. list_any (λ f. frame_serial f == s) c.stack) w.callers || list_any (λ e. e.child == s) w.deferred

-- whether a caller holds the device, and whether any does: this project's profile
abbrev pub holds_in : List Ref → ℕ → ℕ → Bool
holds_in refs k s = list_any (λ r. r.serial == s && r.caller == k) refs

abbrev pub refers_to : List Ref → ℕ → Bool
refers_to refs s = list_any (λ r. r.serial == s) refs

abbrev pub is_held : World → ℕ → ℕ → Bool
is_held w k s = holds_in w.refs k s

abbrev pub is_referred : World → ℕ → Bool
is_referred w s = refers_to w.refs s

abbrev pub is_condemned : Dev → Bool
is_condemned d = is_some d.condemned

-- ---- callers

abbrev pub nobody : Caller
nobody = record { over = 0; doing = activity.Ended; stack = [] }

abbrev pub caller_at : World → ℕ → Caller
caller_at w k = slice_index_or w.callers k nobody

abbrev pub is_ended : Activity → Bool
is_ended activity.Ended = true
is_ended _ = false

abbrev pub has_ended : World → ℕ → Bool
has_ended w k = is_ended (caller_at w k).doing

-- a position at the very start
abbrev pub start : Position
start = record { attr = 0; row = 0; spot = 0 }

abbrev pub scan_of : ℕ → Frame
scan_of s = Scan s None [] start

-- the spots that the machine marks absent, and those that it marks late
unfoldable pub absent_spots : Setup → List ℕ
absent_spots s = filter (λ x. option_map_or (λ spot. spot.absent) (slice_get s.machine.spots x) false) (below (length s.machine.spots))

unfoldable pub late_spots : Setup → List ℕ
late_spots s = filter (λ x. option_map_or (λ spot. spot.late) (slice_get s.machine.spots x) false) (below (length s.machine.spots))

-- a caller before its first command
abbrev pub beginning : List Frame → Caller
beginning stack = record { over = 0; doing = activity.Idle; stack = stack }

-- the world before any event: nothing is attached, and caller 0 has the scan of the root before it
unfoldable pub opening : Setup → World
opening s = record {
  setup = s;
  live = [];
  next = 1;
  refs = [];
  sole = [];
  absent = absent_spots s;
  hidden = late_spots s;
  interrupts_on = false;
  power_owner = None;
  deferred = [];
  finalisers = [];
  next_finaliser = 0;
  pass_repeats = false;
  callers = beginning (scan_of 0 ∷ []) ∷ map (λ script. beginning []) s.scripts;
}
