-- Tables, machines and boots that several worked runs have.
use Prim.Native.String.{String}
use Rattle.std.proofs.Common.{codes, ℕ, ◌+◌, Bool, List, true, false, Some, None, [], ◌∷◌, ◌++◌, length, map}
use Rattle.std.specs.Prelude.{ℤ, pos, negsuc}
use Rattle.cf_types.specs.Numbers.{below}
use Rattle.cf_types.specs.Policies.{no_policy}
use Rattle.cf_types.specs.declared.machine.Command.{Command}
use Rattle.cf_types.specs.declared.machine.Machine.{Machine}
use Rattle.cf_types.specs.declared.machine.MatchLine.{MatchLine}
use Rattle.cf_types.specs.declared.machine.Policy.{Policy}
use Rattle.cf_types.specs.declared.machine.Spot.{Spot}
use Rattle.cf_types.specs.declared.machine.StyleLine.{StyleLine}
use Rattle.cf_types.specs.declared.tables.Attach.{Attach}
use Rattle.cf_types.specs.declared.tables.Place.TheVariants as place
use Rattle.cf_types.specs.declared.tables.Row.{Row}
use Rattle.cf_types.specs.declared.tables.Tables.{Tables}
use Rattle.run_rules.specs.World.{setup_of}
use Rattle.run_rules.specs.declared.world.Dev.{Dev}
use Rattle.run_rules.specs.declared.world.Setup.{Setup}
use Rattle.worked_runs.proofs.Inputs.{absent, attach, attr, device, late, locator, match_line, parent, row, spot, tables_of}
use Rattle.worked_runs.proofs.Worked.{asleep, dev}

-- names of devices
abbrev pub isa0 : List ℕ
isa0 = codes "isa0"

abbrev pub com0 : List ℕ
com0 = codes "com0"

abbrev pub com1 : List ℕ
com1 = codes "com1"

abbrev pub bus0 : List ℕ
bus0 = codes "bus0"

abbrev pub leaf0 : List ℕ
leaf0 = codes "leaf0"

-- no styles, and no policies for so many attachments
abbrev pub machine_of : ℕ → List Spot → List MatchLine → Machine
machine_of attaches spots matches = record {
  spots = spots;
  matches = matches;
  styles = [];
  policies = map (λ _. no_policy) (below attaches);
}

-- the root's scan ends, and the boot
abbrev pub booted : List String
booted = "0.0 scan root: done" ∷ "0.0 interrupts" ∷ "0.0 end" ∷ []

-- ---- an isa bus

-- a row of the driver com: its unit, its star, its port and its interrupt
abbrev pub com_row : ℕ → Bool → ℤ → ℤ → Row
com_row unit star port irq = row 2 unit star 2 (place.At 1) (Some (parent 1 None)) (port ∷ irq ∷ [])

abbrev pub isa_with : List Row → Tables
isa_with coms = tables_of
    (attr "mainbus" [] [] ∷ attr "isa" (locator "port" ∷ locator "irq" ∷ []) [] ∷ [])
    (device "mainbus" (Some 0) [] ∷ device "isa" (Some 1) [] ∷ device "com" None [] ∷ [])
    (attach "mainbus" 0 (place.Root ∷ []) ∷ attach "isa" 1 (place.At 0 ∷ []) ∷ attach "com_isa" 2 (place.At 1 ∷ []) ∷ [])
    (row 0 0 false 0 place.Root None [] ∷ row 1 0 false 1 (place.At 0) (Some (parent 0 (Some 0))) [] ∷ coms)

-- a fixed row and a starred one
abbrev pub isa_tables : Tables
isa_tables = isa_with (com_row 0 false (pos 1016) (pos 4) ∷ com_row 1 true (negsuc 0) (negsuc 0) ∷ [])

-- a spot on the isa bus, its port and its interrupt
abbrev pub port : String → ℕ → ℕ → Spot
port name at irq = spot name (Some 1) (place.At 1) (pos at ∷ pos irq ∷ [])

abbrev pub isa_ports : List Spot → Machine
isa_ports ports = machine_of 3 (spot "mb" None place.Root [] ∷ spot "isa" (Some 0) (place.At 0) [] ∷ ports)
    (match_line 0 (Some 0) 10 ∷ match_line 1 (Some 1) 10 ∷ match_line 2 None 10 ∷ [])

abbrev pub isa_machine : Machine
isa_machine = isa_ports (port "u0" 1016 4 ∷ port "u1" 760 3 ∷ [])

-- a driver that refuses to be detached
abbrev pub kept_coms : Machine
kept_coms = record isa_machine { policies = no_policy ∷ no_policy ∷ record no_policy { nodetach = true } ∷ [] }

abbrev pub isa : List (List Command) → Setup
isa scripts = setup_of isa_tables isa_machine scripts

-- the buses come
abbrev pub isa_found : List String
isa_found = "0.0 found root on mb: mainbus0 row 0" ∷ "0.0 found mainbus0 on isa: isa0 row 1" ∷ []

abbrev pub isa_booted : List String
isa_booted = "0.0 scan isa0: done" ∷ "0.0 scan mainbus0: done" ∷ booted

-- the boot of the machine, and the devices that it leaves
abbrev pub isa_boot : List String
isa_boot = isa_found ++ "0.0 found isa0 on u0: com0 row 2" ∷ "0.0 found isa0 on u1: com1 row 3" ∷ isa_booted

abbrev pub isa_live : List Dev
isa_live = dev 1 0 0 0 0 ∷ dev 2 1 0 1 1 ∷ dev 3 2 0 2 2 ∷ dev 4 3 1 2 3 ∷ []

-- the same after a suspension of the isa bus
abbrev pub isa_asleep : List Dev
isa_asleep = dev 1 0 0 0 0 ∷ asleep (dev 2 1 0 1 1) ∷ asleep (dev 3 2 0 2 2) ∷ asleep (dev 4 3 1 2 3) ∷ []

-- ---- a bus with one fixed row for each driver

abbrev attached_at_bus : ℕ → List String → List Attach
attached_at_bus n [] = []
attached_at_bus n (driver ∷ drivers) = attach driver n (place.At 0 ∷ []) ∷ attached_at_bus (n + 1) drivers

abbrev pub bus_row : Row
bus_row = row 0 0 false 0 place.Root None []

-- the row of a driver below the bus: its number, its star and its locators
abbrev pub below_bus : ℕ → Bool → List ℤ → Row
below_bus n star locs = row n 0 star n (place.At 0) (Some (parent 0 None)) locs

abbrev pub bus_of : List String → Tables
bus_of drivers = tables_of (attr "bus" [] [] ∷ []) (device "bus" (Some 0) [] ∷ map (λ d. device d None []) drivers)
    (attach "bus" 0 (place.Root ∷ []) ∷ attached_at_bus 1 drivers)
    (bus_row ∷ map (λ n. below_bus (n + 1) false []) (below (length drivers)))

abbrev pub on_bus : String → List String → List Spot
on_bus root names = spot root None place.Root [] ∷ map (λ name. spot name (Some 0) (place.At 0) []) names

abbrev pub bus_booted : List String
bus_booted = "0.0 scan bus0: done" ∷ booted

abbrev pub pair_tables : Tables
pair_tables = bus_of ("aa" ∷ "bb" ∷ [])

-- spots on the bus of the pair
abbrev pub pair_machine : List String → List MatchLine → List StyleLine → Machine
pair_machine names matches styles = record (machine_of 3 (on_bus "b" names) (match_line 0 None 1 ∷ matches)) { styles = styles }

abbrev pub three_tables : Tables
three_tables = bus_of ("xa" ∷ "xb" ∷ "xc" ∷ [])

-- three spots
abbrev pub three_spots : Machine
three_spots = machine_of 4 (on_bus "b" ("s" ∷ "t" ∷ "v" ∷ [])) (match_line 0 (Some 0) 1 ∷ match_line 1 None 5 ∷ match_line 2 None 5 ∷ [])

-- their boot: two rows take a spot each
abbrev pub three_boot : List String
three_boot =
    "0.0 found root on b: bus0 row 0" ∷ "0.0 found bus0 on s: xa0 row 1" ∷ "0.0 found bus0 on t: xb0 row 2"
    ∷ "0.0 found bus0 on v: not configured" ∷ bus_booted

-- a boot in which nothing but the bus comes
abbrev pub bare_boot : List String
bare_boot = "0.0 found root on b: bus0 row 0" ∷ bus_booted

-- ---- a bus with hubs

-- leaves on the hubs
abbrev pub hub_tables : Tables
hub_tables = tables_of (attr "bus" [] [] ∷ attr "hub" [] [] ∷ [])
    (device "bus" (Some 0) [] ∷ device "hub" (Some 1) [] ∷ device "leaf" None [] ∷ [])
    (attach "bus" 0 (place.Root ∷ []) ∷ attach "hub" 1 (place.At 0 ∷ []) ∷ attach "leaf" 2 (place.At 1 ∷ []) ∷ [])
    (bus_row ∷ below_bus 1 true [] ∷ row 2 0 true 2 (place.At 1) (Some (parent 1 None)) [] ∷ [])

-- leaves on the bus and on the hubs, each with a locator
abbrev pub hub_slots_tables : Tables
hub_slots_tables = record hub_tables {
  attrs = attr "bus" (locator "slot" ∷ []) [] ∷ attr "hub" (locator "n" ∷ []) [] ∷ [];
  attaches = attach "bus" 0 (place.Root ∷ []) ∷ attach "hub" 1 (place.At 0 ∷ []) ∷ attach "leaf" 2 (place.At 0 ∷ place.At 1 ∷ []) ∷ [];
  rows = bus_row ∷ below_bus 1 true (negsuc 0 ∷ []) ∷ below_bus 2 true (negsuc 0 ∷ [])
      ∷ row 2 0 true 2 (place.At 1) (Some (parent 1 None)) (negsuc 0 ∷ []) ∷ [];
}

-- the spot of a leaf below a spot of a hub
abbrev pub leaf : String → ℕ → Spot
leaf name hub = spot name (Some hub) (place.At 1) []

-- spots on and below the bus, and the policy of hubs
abbrev pub hubs : Policy → List Spot → Machine
hubs policy spots = record (machine_of 3 (spot "b" None place.Root [] ∷ spots)
    (match_line 0 (Some 0) 1 ∷ match_line 1 None 1 ∷ match_line 2 None 1 ∷ [])) {
      policies = no_policy ∷ policy ∷ no_policy ∷ [];
    }

abbrev pub two_hubs : Policy → Machine
two_hubs policy = hubs policy (spot "h0" (Some 0) (place.At 0) [] ∷ leaf "l0" 1 ∷ spot "h1" (Some 0) (place.At 0) [] ∷ leaf "l1" 3 ∷ [])

-- what came to them
abbrev pub hubs_live : List Dev
hubs_live = dev 1 0 0 0 0 ∷ dev 2 1 0 1 1 ∷ dev 3 1 1 1 3 ∷ dev 4 2 0 2 2 ∷ dev 5 2 1 3 4 ∷ []

-- hubs whose scans are put off
abbrev pub put_off_hubs : Machine
put_off_hubs = two_hubs (record no_policy { defer = true })

-- a spot on the bus with a value of its locator
abbrev pub slot : String → ℤ → Spot
slot name value = spot name (Some 0) (place.At 0) (value ∷ [])

abbrev pub slots : List Spot → Machine
slots spots = machine_of 3 (spot "b" None place.Root [] ∷ spots) (match_line 0 None 1 ∷ match_line 2 None 1 ∷ [])

-- spots without hardware
abbrev pub unplugged_pair : Machine
unplugged_pair = slots (absent (slot "u0" (pos 3)) ∷ absent (slot "u1" (negsuc 0)) ∷ [])

abbrev pub unplugged_three : Machine
unplugged_three = slots (absent (slot "u0" (negsuc 0)) ∷ absent (slot "u1" (negsuc 0)) ∷ absent (slot "u2" (negsuc 0)) ∷ [])

-- a hub that is not there yet, with a late spot below it
abbrev pub late_below_hub : Machine
late_below_hub = record (slots (
    absent (slot "h" (negsuc 0)) ∷ late (spot "l" (Some 1) (place.At 1) (negsuc 0 ∷ [])) ∷ spot "d" (Some 1) (place.At 1) (negsuc 0 ∷ [])
    ∷ absent (slot "u" (negsuc 0)) ∷ [])) {
      matches = match_line 0 None 1 ∷ match_line 1 (Some 1) 2 ∷ match_line 2 None 1 ∷ [];
      policies = no_policy ∷ record no_policy { defer = true; finaliser = true } ∷ no_policy ∷ [];
    }
