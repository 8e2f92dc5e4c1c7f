-- Corners of a search: where it stands, what comes again, which line counts.
use Rattle.std.proofs.Common.{refl, codes, true, false, Some, None, [], ◌∷◌, ◌++◌, List}
use Rattle.std.specs.Prelude.{negsuc}
use Rattle.cf_types.specs.declared.machine.Command.TheVariants.{Detach, Rescan, Plug}
use Rattle.cf_types.specs.declared.machine.Command.{Command}
use Rattle.cf_types.specs.declared.tables.Place.TheVariants as place
use Rattle.run_rules.specs.World.{setup_of}
use Rattle.run_rules.specs.declared.world.Setup.{Setup}
use Rattle.worked_runs.proofs.Inputs.{attach, attr, device, match_line, row, spot, style, tables_of}
use Rattle.worked_runs.proofs.Worked.{Over, Worked, computed, dev, ended, goes, idle, left}
use Rattle.worked_runs.proofs.Worlds.{bare_boot, below_bus, bus0, bus_booted, bus_row, hub_slots_tables, leaf0, machine_of, pair_machine, pair_tables, slot, slots, unplugged_three}

-- two that plug, and one that searches
abbrev two_that_plug : List (List Command)
two_that_plug = (Plug (codes "u0") ∷ Plug (codes "u2") ∷ Rescan bus0 None [] ∷ []) ∷ (Plug (codes "u1") ∷ []) ∷ []

-- the position moves by events alone: a spot that is plugged meanwhile is found
plugged_before_position : Worked (setup_of hub_slots_tables unplugged_three two_that_plug) "00000 1111211111"
    (bare_boot ++ "1.1 plug u0: ok" ∷ "1.2 plug u2: ok" ∷ "1.3 rescan bus0: ok" ∷ "1.3 found bus0 on u0: leaf0 row 2"
    ∷ "2.1 plug u1: ok" ∷ "1.3 found bus0 on u1: leaf1 row 2" ∷ "1.3 found bus0 on u2: leaf2 row 2" ∷ "1.3 scan bus0: done" ∷ "1.4 end"
    ∷ [])
    (left 5 (dev 1 0 0 0 0 ∷ dev 2 2 0 1 1 ∷ dev 3 2 1 1 2 ∷ dev 4 2 2 1 3 ∷ []) (ended 0 ∷ ended 3 ∷ idle 1 ∷ []))
    "tree: 0 bus0 1 leaf0 1 leaf1 1 leaf2" (Over ∷ Over ∷ goes "2.2 end" ∷ [])
unfolding computed
plugged_before_position = refl

-- a spot that is plugged behind the position is not found
plugged_behind_position : Worked (setup_of hub_slots_tables unplugged_three two_that_plug) "00000 111112111"
    (bare_boot ++ "1.1 plug u0: ok" ∷ "1.2 plug u2: ok" ∷ "1.3 rescan bus0: ok" ∷ "1.3 found bus0 on u0: leaf0 row 2"
    ∷ "1.3 found bus0 on u2: leaf1 row 2" ∷ "2.1 plug u1: ok" ∷ "1.3 scan bus0: done" ∷ "1.4 end" ∷ [])
    (left 4 (dev 1 0 0 0 0 ∷ dev 2 2 0 1 1 ∷ dev 3 2 1 1 3 ∷ []) (ended 0 ∷ ended 3 ∷ idle 1 ∷ []))
    "tree: 0 bus0 1 leaf0 1 leaf1" (Over ∷ Over ∷ goes "2.2 end" ∷ [])
unfolding computed
plugged_behind_position = refl

-- on an indirect bus a fixed row comes again where its device was freed meanwhile
abbrev indirect_again_setup : Setup
indirect_again_setup = setup_of (record hub_slots_tables { rows = bus_row ∷ below_bus 2 false (negsuc 0 ∷ []) ∷ [] })
    (record (slots (slot "u0" (negsuc 0) ∷ slot "u1" (negsuc 0) ∷ [])) { styles = style 0 0 true ∷ [] })
    ((Detach leaf0 ∷ Rescan bus0 None [] ∷ []) ∷ (Detach leaf0 ∷ []) ∷ [])

indirect_again : Worked indirect_again_setup "000000 11112211"
    ("0.0 found root on b: bus0 row 0" ∷ "0.0 found bus0 on u0: leaf0 row 1" ∷ bus_booted ++ "1.1 detach leaf0: ok" ∷ "1.1 free leaf0"
    ∷ "1.2 rescan bus0: ok" ∷ "1.2 found bus0 on u0: leaf0 row 1" ∷ "2.1 detach leaf0: ok" ∷ "2.1 free leaf0"
    ∷ "1.2 found bus0 on u0: leaf0 row 1" ∷ "1.2 scan bus0: done" ∷ [])
    (left 5 (dev 1 0 0 0 0 ∷ dev 4 1 0 1 1 ∷ []) (ended 0 ∷ idle 2 ∷ idle 1 ∷ []))
    "tree: 0 bus0 1 leaf0" (Over ∷ goes "1.3 end" ∷ goes "2.2 end" ∷ [])
unfolding computed
indirect_again = refl

-- on an indirect bus a row before the position never comes again
abbrev indirect_behind_setup : Setup
indirect_behind_setup = setup_of pair_tables
    (pair_machine ("u0" ∷ "u1" ∷ []) (match_line 1 (Some 1) 5 ∷ match_line 2 (Some 2) 5 ∷ []) (style 0 0 true ∷ []))
    ((Detach (codes "aa0") ∷ Detach (codes "bb0") ∷ Rescan bus0 None [] ∷ []) ∷ (Detach (codes "aa0") ∷ []) ∷ [])

indirect_behind : Worked indirect_behind_setup "0000000 1111111221"
    ("0.0 found root on b: bus0 row 0" ∷ "0.0 found bus0 on u0: aa0 row 1" ∷ "0.0 found bus0 on u1: bb0 row 2"
    ∷ bus_booted ++ "1.1 detach aa0: ok" ∷ "1.1 free aa0" ∷ "1.2 detach bb0: ok" ∷ "1.2 free bb0" ∷ "1.3 rescan bus0: ok"
    ∷ "1.3 found bus0 on u0: aa0 row 1" ∷ "1.3 found bus0 on u1: bb0 row 2" ∷ "2.1 detach aa0: ok" ∷ "2.1 free aa0"
    ∷ "1.3 scan bus0: done" ∷ [])
    (left 6 (dev 1 0 0 0 0 ∷ dev 5 2 0 1 2 ∷ []) (ended 0 ∷ idle 3 ∷ idle 1 ∷ []))
    "tree: 0 bus0 1 bb0" (Over ∷ goes "1.4 end" ∷ goes "2.2 end" ∷ [])
unfolding computed
indirect_behind = refl

-- the last line for a spot counts, before the last one for all spots; the last style counts
abbrev last_lines_setup : Setup
last_lines_setup = setup_of pair_tables (pair_machine ("u0" ∷ "u1" ∷ [])
    (match_line 1 None 9 ∷ match_line 1 (Some 1) 5 ∷ match_line 1 (Some 1) 3 ∷ match_line 2 None 7 ∷ match_line 2 None 4 ∷ [])
    (style 0 0 true ∷ style 0 0 false ∷ [])) []

last_lines : Worked last_lines_setup "0000000"
    ("0.0 found root on b: bus0 row 0" ∷ "0.0 found bus0 on u0: bb0 row 2"
    ∷ "0.0 found bus0 on u1: aa0 row 1" ∷ bus_booted)
    (left 4 (dev 1 0 0 0 0 ∷ dev 2 2 0 1 1 ∷ dev 3 1 0 1 2 ∷ []) (ended 0 ∷ [])) "tree: 0 bus0 1 bb0 1 aa0" (Over ∷ [])
unfolding computed
last_lines = refl

-- the last style counts: a direct bus says what it did not configure
abbrev last_style_setup : Setup
last_style_setup = setup_of pair_tables (pair_machine
    ("u0" ∷ "u1" ∷ "u2" ∷ []) (match_line 1 None 9 ∷ match_line 2 None 4 ∷ []) (style 0 0 true ∷ style 0 0 false ∷ [])) []

last_style : Worked last_style_setup "00000000"
    ("0.0 found root on b: bus0 row 0" ∷ "0.0 found bus0 on u0: aa0 row 1"
    ∷ "0.0 found bus0 on u1: bb0 row 2" ∷ "0.0 found bus0 on u2: not configured" ∷ bus_booted)
    (left 4 (dev 1 0 0 0 0 ∷ dev 2 1 0 1 1 ∷ dev 3 2 0 1 2 ∷ []) (ended 0 ∷ [])) "tree: 0 bus0 1 aa0 1 bb0" (Over ∷ [])
unfolding computed
last_style = refl

-- an attribute is searched before those that it needs, and each is searched once
abbrev two_attributes : Setup
two_attributes = setup_of
    (tables_of (attr "a" [] [] ∷ attr "b" [] (0 ∷ []) ∷ [])
    (device "bus" None (1 ∷ 0 ∷ []) ∷ device "aa" None [] ∷ device "bb" None [] ∷ [])
    (attach "bus" 0 (place.Root ∷ []) ∷ attach "aa" 1 (place.At 0 ∷ []) ∷ attach "bb" 2 (place.At 1 ∷ []) ∷ [])
    (bus_row ∷ row 1 0 true 1 (place.At 0) None [] ∷ row 2 0 true 2 (place.At 1) None [] ∷ []))
    (machine_of 3 (
    spot "r" None place.Root [] ∷ spot "s0" (Some 0) (place.At 0) [] ∷ spot "s1" (Some 0) (place.At 1) []
    ∷ spot "s2" (Some 0) (place.At 0) [] ∷ [])
    (match_line 0 None 1 ∷ match_line 2 None 1 ∷ match_line 1 (Some 1) 1 ∷ []))
    []

offered_in_order : Worked two_attributes "00000000"
    ("0.0 found root on r: bus0 row 0" ∷ "0.0 found bus0 on s1: bb0 row 2" ∷ "0.0 found bus0 on s0: aa0 row 1"
    ∷ "0.0 found bus0 on s2: not configured" ∷ bus_booted)
    (left 4 (dev 1 0 0 0 0 ∷ dev 2 2 0 1 2 ∷ dev 3 1 0 1 1 ∷ []) (ended 0 ∷ [])) "tree: 0 bus0 1 bb0 1 aa0" (Over ∷ [])
unfolding computed
offered_in_order = refl
