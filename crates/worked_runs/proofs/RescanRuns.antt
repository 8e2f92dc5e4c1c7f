-- Plugging and searching again.
use Rattle.std.proofs.Common.{refl, codes, Some, None, [], ◌∷◌, ◌++◌, List}
use Rattle.std.specs.Prelude.{pos, negsuc}
use Rattle.cf_types.specs.declared.machine.Command.TheVariants.{Detach, Rescan, ListDev, Plug}
use Rattle.cf_types.specs.declared.machine.Given.{Given}
use Rattle.run_rules.specs.World.{scan_of, setup_of, start}
use Rattle.run_rules.specs.declared.world.Frame.TheVariants as frame
use Rattle.run_rules.specs.declared.world.Setup.{Setup}
use Rattle.worked_runs.proofs.Inputs.{absent, given}
use Rattle.worked_runs.proofs.Worked.{Over, Worked, computed, dev, ended, goes, idle, left, put_off, scans}
use Rattle.worked_runs.proofs.Worlds.{bare_boot, bus0, com0, hub_slots_tables, isa, isa0, isa_boot, isa_booted, isa_found, isa_live, isa_ports, isa_tables, late_below_hub, port, unplugged_pair}

-- a plugged spot is found by the next rescan
abbrev plugged_in_setup : Setup
plugged_in_setup = setup_of isa_tables (isa_ports (port "u0" 1016 4 ∷ absent (port "u1" 760 3) ∷ []))
    ((Rescan isa0 None [] ∷ Plug (codes "u1") ∷ Rescan isa0 None [] ∷ ListDev (Some isa0) ∷ []) ∷ [])

plugged_in : Worked plugged_in_setup "00000000 11111111"
    (isa_found ++ "0.0 found isa0 on u0: com0 row 2" ∷ isa_booted ++ "1.1 rescan isa0: ok" ∷ "1.1 scan isa0: done" ∷ "1.2 plug u1: ok"
    ∷ "1.3 rescan isa0: ok" ∷ "1.3 found isa0 on u1: com1 row 3" ∷ "1.3 scan isa0: done" ∷ "1.4 list isa0: com0 com1" ∷ "1.5 end" ∷ [])
    (left 5 isa_live (ended 0 ∷ ended 4 ∷ [])) "tree: 0 mainbus0 1 isa0 2 com0 2 com1" (Over ∷ Over ∷ [])
unfolding computed
plugged_in = refl

-- replies of a rescan
abbrev rescan_replies_setup : Setup
rescan_replies_setup = isa ((Rescan com0 None [] ∷ Rescan isa0 (Some (codes "mainbus")) []
    ∷ Rescan isa0 (Some (codes "isa")) (given "slot" (pos 1) ∷ []) ∷ Rescan (codes "lpt0") None [] ∷ []) ∷ [])

rescan_replies : Worked rescan_replies_setup "000000000 1111"
    (isa_boot ++ "1.1 rescan com0: no rescan" ∷ "1.2 rescan isa0: bad attribute" ∷ "1.3 rescan isa0: bad locator"
    ∷ "1.4 rescan lpt0: no device" ∷ [])
    (left 5 isa_live (ended 0 ∷ idle 4 ∷ [])) "tree: 0 mainbus0 1 isa0 2 com0 2 com1" (Over ∷ goes "1.5 end" ∷ [])
unfolding computed
rescan_replies = refl

-- two spots are plugged, and the bus searches again with this filter
abbrev plugged_and_filtered : List Given → Setup
plugged_and_filtered filter = setup_of hub_slots_tables unplugged_pair
    ((Plug (codes "u0") ∷ Plug (codes "u1") ∷ Rescan bus0 (Some (codes "bus")) filter ∷ []) ∷ [])

-- a filter with the default's value is no wildcard
filter_default : Worked (plugged_and_filtered (given "slot" (negsuc 0) ∷ [])) "00000 11111"
    (bare_boot ++ "1.1 plug u0: ok" ∷ "1.2 plug u1: ok" ∷ "1.3 rescan bus0: ok" ∷ "1.3 found bus0 on u1: leaf0 row 2"
    ∷ "1.3 scan bus0: done" ∷ [])
    (left 3 (dev 1 0 0 0 0 ∷ dev 2 2 0 1 2 ∷ []) (ended 0 ∷ idle 3 ∷ [])) "tree: 0 bus0 1 leaf0" (Over ∷ goes "1.4 end" ∷ [])
unfolding computed
filter_default = refl

-- a filter with a value
filter_value : Worked (plugged_and_filtered (given "slot" (pos 3) ∷ [])) "00000 1111"
    (bare_boot ++ "1.1 plug u0: ok" ∷ "1.2 plug u1: ok" ∷ "1.3 rescan bus0: ok" ∷ "1.3 found bus0 on u0: leaf0 row 2" ∷ [])
    (left 3 (dev 1 0 0 0 0 ∷ dev 2 2 0 1 1 ∷ [])
    (ended 0 ∷ scans 2 (frame.Scan 1 (Some 0) (record { place = 0; value = pos 3 } ∷ []) start ∷ []) ∷ []))
    "tree: 0 bus0 1 leaf0" (Over ∷ goes "1.3 scan bus0: done" ∷ [])
unfolding computed
filter_value = refl

-- a rescan of one attribute without a filter
filter_none : Worked (plugged_and_filtered []) "00000 111111"
    (bare_boot ++ "1.1 plug u0: ok" ∷ "1.2 plug u1: ok" ∷ "1.3 rescan bus0: ok" ∷ "1.3 found bus0 on u0: leaf0 row 2"
    ∷ "1.3 found bus0 on u1: leaf1 row 2" ∷ "1.3 scan bus0: done" ∷ [])
    (left 4 (dev 1 0 0 0 0 ∷ dev 2 2 0 1 1 ∷ dev 3 2 1 1 2 ∷ []) (ended 0 ∷ idle 3 ∷ []))
    "tree: 0 bus0 1 leaf0 1 leaf1" (Over ∷ goes "1.4 end" ∷ [])
unfolding computed
filter_none = refl

-- a locator given twice, after which the attribute is not offered, and one that is unknown
abbrev filter_twice_setup : Setup
filter_twice_setup = setup_of hub_slots_tables unplugged_pair
    ((Rescan bus0 (Some (codes "bus")) (given "slot" (pos 3) ∷ given "slot" (pos 3) ∷ [])
    ∷ Rescan bus0 (Some (codes "hub")) (given "slot" (pos 3) ∷ []) ∷ Rescan bus0 (Some (codes "bus")) (given "n" (pos 1) ∷ [])
    ∷ Rescan bus0 (Some (codes "none")) [] ∷ []) ∷ [])

filter_twice : Worked filter_twice_setup "00000 11111"
    (bare_boot ++ "1.1 rescan bus0: bad locator" ∷ "1.2 rescan bus0: bad attribute" ∷ "1.3 rescan bus0: bad locator"
    ∷ "1.4 rescan bus0: bad attribute" ∷ "1.5 end" ∷ [])
    (λ w. record (left 2 (dev 1 0 0 0 0 ∷ []) (ended 0 ∷ ended 4 ∷ []) w) { absent = 1 ∷ 2 ∷ [] }) "tree: 0 bus0" (Over ∷ Over ∷ [])
unfolding computed
filter_twice = refl

-- in a rescan the finaliser comes at once, the scan that was put off after the parent's; a late spot stays shown
abbrev finaliser_in_rescan_setup : Setup
finaliser_in_rescan_setup = setup_of hub_slots_tables late_below_hub
    ((Plug (codes "h") ∷ Plug (codes "u") ∷ Rescan bus0 None [] ∷ Detach (codes "hub0") ∷ Rescan bus0 None [] ∷ []) ∷ [])

finaliser_in_rescan : Worked finaliser_in_rescan_setup "00000 11111111111111111111"
    (bare_boot ++ "1.1 plug h: ok" ∷ "1.2 plug u: ok" ∷ "1.3 rescan bus0: ok" ∷ "1.3 found bus0 on h: hub0 row 1"
    ∷ "1.3 final hub0: 1 on l: leaf0 row 3" ∷ "1.3 final hub0: 0" ∷ "1.3 found bus0 on u: leaf1 row 2" ∷ "1.3 scan bus0: done"
    ∷ "1.3 found hub0 on d: leaf2 row 3" ∷ "1.3 scan hub0: done" ∷ "1.4 detach hub0: ok" ∷ "1.4 free leaf2" ∷ "1.4 free leaf0"
    ∷ "1.4 free hub0" ∷ "1.5 rescan bus0: ok" ∷ "1.5 found bus0 on h: hub0 row 1" ∷ "1.5 final hub0: 0" ∷ "1.5 scan bus0: done"
    ∷ "1.5 found hub0 on l: leaf0 row 3" ∷ "1.5 found hub0 on d: leaf2 row 3" ∷ [])
    (left 9 (dev 1 0 0 0 0 ∷ dev 4 2 1 1 4 ∷ dev 6 1 0 1 1 ∷ dev 7 3 0 6 2 ∷ dev 8 3 2 6 3 ∷ [])
    (ended 0 ∷ scans 4 (scan_of 6 ∷ []) ∷ []))
    "tree: 0 bus0 1 leaf1 1 hub0 2 leaf0 2 leaf2" (Over ∷ goes "1.5 scan hub0: done" ∷ [])
unfolding computed
finaliser_in_rescan = refl

-- the same, in the middle
abbrev finaliser_frame_waits_setup : Setup
finaliser_frame_waits_setup = setup_of hub_slots_tables late_below_hub
    ((Plug (codes "h") ∷ Plug (codes "u") ∷ Rescan bus0 None [] ∷ []) ∷ [])

finaliser_frame_waits : Worked finaliser_frame_waits_setup "00000 1111"
    (bare_boot ++ "1.1 plug h: ok" ∷ "1.2 plug u: ok" ∷ "1.3 rescan bus0: ok" ∷ "1.3 found bus0 on h: hub0 row 1" ∷ [])
    (λ w. record (left 3 (dev 1 0 0 0 0 ∷ dev 2 1 0 1 1 ∷ []) (ended 0 ∷ scans 2 (frame.Finaliser 2 ∷ scan_of 1 ∷ []) ∷ []) w) {
      hidden = 2 ∷ [];
      deferred = put_off 1 2 ∷ [];
    })
    "tree: 0 bus0 1 hub0" (Over ∷ goes "1.3 final hub0: 1 on l: leaf0 row 3" ∷ [])
unfolding computed
finaliser_frame_waits = refl
