-- Worked boots: root and direct buses, indirect buses, deferral, interrupts and finalisers.
use Rattle.std.proofs.Common.{refl, true, false, Some, None, [], ◌∷◌, ◌++◌}
use Rattle.std.specs.Prelude.{pos, negsuc}
use Rattle.cf_types.specs.Policies.{no_policy}
use Rattle.cf_types.specs.declared.machine.Command.TheVariants.{OpenDev}
use Rattle.cf_types.specs.declared.tables.Place.TheVariants as place
use Rattle.cf_types.specs.declared.tables.Tables.{Tables}
use Rattle.run_rules.specs.World.{scan_of, setup_of}
use Rattle.run_rules.specs.declared.world.Activity.TheVariants as activity
use Rattle.run_rules.specs.declared.world.Setup.{Setup}
use Rattle.run_rules.specs.declared.world.Wait.TheVariants as wait
use Rattle.worked_runs.proofs.Inputs.{attr, late, locator, match_line, spot, style, tables_of}
use Rattle.worked_runs.proofs.Worked.{Over, Stays, Worked, caller, computed, dev, ended, goes, idle, left, put_off}
use Rattle.worked_runs.proofs.Worlds.{below_bus, booted, bus_booted, bus_row, com0, com_row, hub_tables, hubs, hubs_live, isa, isa_boot, isa_booted, isa_found, isa_live, isa_machine, isa_ports, isa_with, leaf, machine_of, port, put_off_hubs, slot, three_boot, three_spots, three_tables, two_hubs}

-- an empty machine
nothing : Worked (setup_of (tables_of [] [] [] []) (machine_of 0 [] []) []) "000"
    booted
    (left 1 [] (ended 0 ∷ [])) "tree:" (Over ∷ [])
unfolding computed
nothing = refl

-- a fixed and a starred row on one bus
isa_boots : Worked (isa []) "000000000"
    isa_boot
    (left 5 isa_live (ended 0 ∷ [])) "tree: 0 mainbus0 1 isa0 2 com0 2 com1" (Over ∷ [])
unfolding computed
isa_boots = refl

-- a starred row begins behind the fixed units of its driver
abbrev isa_first_unit_setup : Setup
isa_first_unit_setup = setup_of
    (isa_with (com_row 0 false (pos 1016) (pos 4) ∷ com_row 3 false (pos 744) (negsuc 0) ∷ com_row 4 true (negsuc 0) (negsuc 0) ∷ []))
    isa_machine []

isa_first_unit : Worked isa_first_unit_setup "000000000"
    (isa_found ++ "0.0 found isa0 on u0: com0 row 2" ∷ "0.0 found isa0 on u1: com4 row 4" ∷ isa_booted)
    (left 5 (dev 1 0 0 0 0 ∷ dev 2 1 0 1 1 ∷ dev 3 2 0 2 2 ∷ dev 4 4 4 2 3 ∷ []) (ended 0 ∷ []))
    "tree: 0 mainbus0 1 isa0 2 com0 2 com4" (Over ∷ [])
unfolding computed
isa_first_unit = refl

-- of equal match values the earlier row wins; each fixed row comes once
equal_values : Worked (setup_of three_tables three_spots []) "00000000"
    three_boot
    (left 4 (dev 1 0 0 0 0 ∷ dev 2 1 0 1 1 ∷ dev 3 2 0 1 2 ∷ []) (ended 0 ∷ [])) "tree: 0 bus0 1 xa0 1 xb0" (Over ∷ [])
unfolding computed
equal_values = refl

-- a better row whose locators differ from what is found is no candidate
abbrev best_row_elsewhere : Tables
best_row_elsewhere = record three_tables {
  attrs = attr "bus" (locator "slot" ∷ []) [] ∷ [];
  rows = bus_row ∷ below_bus 1 true (pos 8 ∷ []) ∷ below_bus 2 true (negsuc 0 ∷ []) ∷ [];
}

abbrev submatch_first_setup : Setup
submatch_first_setup = setup_of best_row_elsewhere
    (machine_of 4 (spot "b" None place.Root [] ∷ slot "s" (pos 7) ∷ slot "t" (pos 8) ∷ [])
    (match_line 0 (Some 0) 1 ∷ match_line 1 None 9 ∷ match_line 2 None 5 ∷ [])) []

submatch_first : Worked submatch_first_setup "0000000"
    ("0.0 found root on b: bus0 row 0" ∷ "0.0 found bus0 on s: xb0 row 2" ∷ "0.0 found bus0 on t: xa0 row 1" ∷ bus_booted)
    (left 4 (dev 1 0 0 0 0 ∷ dev 2 2 0 1 1 ∷ dev 3 1 0 1 2 ∷ []) (ended 0 ∷ [])) "tree: 0 bus0 1 xb0 1 xa0" (Over ∷ [])
unfolding computed
submatch_first = refl

-- an indirect bus takes a fixed row once and says nothing of the other spot
abbrev indirect_once_setup : Setup
indirect_once_setup = setup_of (isa_with (com_row 0 false (pos 1016) (pos 4) ∷ []))
    (record (isa_ports (port "u0" 1016 4 ∷ port "u1" 1016 4 ∷ [])) { styles = style 1 1 true ∷ [] }) []

indirect_once : Worked indirect_once_setup "00000000"
    (isa_found ++ "0.0 found isa0 on u0: com0 row 2" ∷ isa_booted)
    (left 4 (dev 1 0 0 0 0 ∷ dev 2 1 0 1 1 ∷ dev 3 2 0 2 2 ∷ []) (ended 0 ∷ [])) "tree: 0 mainbus0 1 isa0 2 com0" (Over ∷ [])
unfolding computed
indirect_once = refl

-- scans that were put off come when the parent's scan is done, the first first
hubs_put_off : Worked (setup_of hub_tables put_off_hubs []) "00000000000"
    ("0.0 found root on b: bus0 row 0" ∷ "0.0 found bus0 on h0: hub0 row 1" ∷ "0.0 found bus0 on h1: hub1 row 1" ∷ "0.0 scan bus0: done"
    ∷ "0.0 found hub0 on l0: leaf0 row 2" ∷ "0.0 scan hub0: done" ∷ "0.0 found hub1 on l1: leaf1 row 2" ∷ "0.0 scan hub1: done" ∷ booted)
    (left 6 hubs_live (ended 0 ∷ [])) "tree: 0 bus0 1 hub0 2 leaf0 1 hub1 2 leaf1" (Over ∷ [])
unfolding computed
hubs_put_off = refl

-- scans that wait for interrupts
after_interrupts : Worked (setup_of hub_tables (two_hubs (record no_policy { interrupts = true })) []) "00000000000"
    ("0.0 found root on b: bus0 row 0" ∷ "0.0 found bus0 on h0: hub0 row 1" ∷ "0.0 found bus0 on h1: hub1 row 1" ∷ "0.0 scan bus0: done"
    ∷ "0.0 scan root: done" ∷ "0.0 interrupts" ∷ "0.0 found hub0 on l0: leaf0 row 2" ∷ "0.0 scan hub0: done"
    ∷ "0.0 found hub1 on l1: leaf1 row 2" ∷ "0.0 scan hub1: done" ∷ "0.0 end" ∷ [])
    (left 6 hubs_live (ended 0 ∷ [])) "tree: 0 bus0 1 hub0 2 leaf0 1 hub1 2 leaf1" (Over ∷ [])
unfolding computed
after_interrupts = refl

-- a finaliser that answers 1 is called in another pass
abbrev pub late_spots_shown_setup : Setup
late_spots_shown_setup = setup_of hub_tables
    (hubs (record no_policy { finaliser = true }) (spot "h" (Some 0) (place.At 0) [] ∷ late (leaf "l0" 1) ∷ late (leaf "l1" 1) ∷ [])) []

late_spots_shown : Worked late_spots_shown_setup "0000000000"
    ("0.0 found root on b: bus0 row 0" ∷ "0.0 found bus0 on h: hub0 row 1" ∷ "0.0 scan hub0: done" ∷ "0.0 scan bus0: done"
    ∷ "0.0 scan root: done" ∷ "0.0 interrupts" ∷ "0.0 final hub0: 1 on l0: leaf0 row 2" ∷ "0.0 final hub0: 1 on l1: leaf1 row 2"
    ∷ "0.0 final hub0: 0" ∷ "0.0 end" ∷ [])
    (λ w. record (left 5 (dev 1 0 0 0 0 ∷ dev 2 1 0 1 1 ∷ dev 3 2 0 2 2 ∷ dev 4 2 1 2 3 ∷ []) (ended 0 ∷ []) w) {
      finalisers = 2 ∷ [];
      next_finaliser = 1;
    })
    "tree: 0 bus0 1 hub0 2 leaf0 2 leaf1" (Over ∷ [])
unfolding computed
late_spots_shown = refl

-- in the middle of the boot every other caller waits
before_the_end : Worked (setup_of hub_tables put_off_hubs ((OpenDev com0 ∷ []) ∷ [] ∷ [])) "100120"
    ("0.0 found root on b: bus0 row 0" ∷ "0.0 found bus0 on h0: hub0 row 1" ∷ "0.0 found bus0 on h1: hub1 row 1" ∷ [])
    (λ w. record (left 4 (dev 1 0 0 0 0 ∷ dev 2 1 0 1 1 ∷ dev 3 1 1 1 3 ∷ [])
    (caller 0 activity.Idle (scan_of 1 ∷ scan_of 0 ∷ []) ∷ idle 0 ∷ idle 0 ∷ []) w) {
      interrupts_on = false;
      deferred = put_off 1 2 ∷ put_off 1 3 ∷ [];
    })
    "tree: 0 bus0 1 hub0 1 hub1" (goes "0.0 scan bus0: done" ∷ Stays wait.Boot ∷ Stays wait.Boot ∷ [])
unfolding computed
before_the_end = refl
