-- Callers that wait for each other in a ring, a pair of scripts that lets go first, and an indirect bus that leaves a spot to a row.
use Rattle.std.proofs.Common.{◌≡◌, refl, codes, true, false, Some, None, [], ◌∷◌, ◌++◌}
use Rattle.cf_types.specs.Locators.{submatch}
use Rattle.cf_types.specs.Offers.{firsts, interfaces, interfaces_of, offers, walk}
use Rattle.cf_types.specs.declared.machine.Command.TheVariants.{OpenDev, OpenSole, CloseDev, Detach}
use Rattle.cf_types.specs.declared.tables.Place.TheVariants as place
use Rattle.run_rules.specs.Search.{is_candidate, match_value, winner, winner_at}
use Rattle.run_rules.specs.World.{setup_of}
use Rattle.run_rules.specs.declared.world.ParentRef.TheVariants as under
use Rattle.run_rules.specs.declared.world.Setup.{Setup}
use Rattle.run_rules.specs.declared.world.Wait.TheVariants as wait
use Rattle.worked_runs.proofs.Inputs.{match_line, style}
use Rattle.worked_runs.proofs.Worked.{Over, Stays, Worked, computed, condemned, dev, ended, frees, left, ref}
use Rattle.worked_runs.proofs.Worlds.{below_bus, bus_booted, bus_of, bus_row, com0, com1, isa, isa_boot, isa_booted, isa_found, isa_ports, isa_tables, machine_of, on_bus, port}

-- more turns change nothing: each waits for the device that the other one holds
two_in_a_ring : Worked (isa ((OpenDev com0 ∷ Detach com1 ∷ []) ∷ (OpenDev com1 ∷ Detach com0 ∷ []) ∷ [])) "000000000 121212"
    (isa_boot ++ "1.1 open com0: ok" ∷ "2.1 open com1: ok" ∷ "1.2 detach com1: ok" ∷ "2.2 detach com0: ok" ∷ [])
    (λ w. record (left 5 (dev 1 0 0 0 0 ∷ dev 2 1 0 1 1 ∷ condemned 2 (dev 3 2 0 2 2) ∷ condemned 1 (dev 4 3 1 2 3) ∷ [])
    (ended 0 ∷ frees 1 4 ∷ frees 1 3 ∷ []) w) { refs = ref 3 1 ∷ ref 4 2 ∷ [] })
    "tree: 0 mainbus0 1 isa0 2 com0 2 com1" (Over ∷ Stays (wait.Refs 4) ∷ Stays (wait.Refs 3) ∷ [])
unfolding computed
two_in_a_ring = refl

-- each waits for the device that the next one holds, and the last one for that of the first
abbrev three_setup : Setup
three_setup = setup_of isa_tables (isa_ports (port "u0" 1016 4 ∷ port "u1" 760 3 ∷ port "u2" 1000 5 ∷ []))
    ((OpenDev com0 ∷ Detach com1 ∷ []) ∷ (OpenDev com1 ∷ Detach (codes "com2") ∷ []) ∷ (OpenDev (codes "com2") ∷ Detach com0 ∷ []) ∷ [])

three_in_a_ring : Worked three_setup "0000000000 123123123"
    (isa_found ++ "0.0 found isa0 on u0: com0 row 2" ∷ "0.0 found isa0 on u1: com1 row 3" ∷ "0.0 found isa0 on u2: com2 row 3"
    ∷ isa_booted ++ "1.1 open com0: ok" ∷ "2.1 open com1: ok" ∷ "3.1 open com2: ok" ∷ "1.2 detach com1: ok" ∷ "2.2 detach com2: ok"
    ∷ "3.2 detach com0: ok" ∷ [])
    (λ w. record (left 6 (dev 1 0 0 0 0 ∷ dev 2 1 0 1 1 ∷ condemned 3 (dev 3 2 0 2 2) ∷ condemned 1 (dev 4 3 1 2 3)
    ∷ condemned 2 (dev 5 3 2 2 4) ∷ [])
    (ended 0 ∷ frees 1 4 ∷ frees 1 5 ∷ frees 1 3 ∷ []) w) { refs = ref 3 1 ∷ ref 4 2 ∷ ref 5 3 ∷ [] })
    "tree: 0 mainbus0 1 isa0 2 com0 2 com1 2 com2" (Over ∷ Stays (wait.Refs 4) ∷ Stays (wait.Refs 5) ∷ Stays (wait.Refs 3) ∷ [])
unfolding computed
three_in_a_ring = refl

-- in rounds it ends
abbrev pair_setup : Setup
pair_setup = isa ((OpenDev com0 ∷ CloseDev com0 ∷ Detach com1 ∷ []) ∷ (OpenSole com1 ∷ CloseDev com1 ∷ Detach com0 ∷ []) ∷ [])

pair_ends : Worked pair_setup "000000000 1212121212"
    (isa_boot ++ "1.1 open com0: ok" ∷ "2.1 open -x com1: ok" ∷ "1.2 close com0: ok" ∷ "2.2 close com1: ok" ∷ "1.3 detach com1: ok"
    ∷ "2.3 detach com0: ok" ∷ "1.3 free com1" ∷ "2.3 free com0" ∷ "1.4 end" ∷ "2.4 end" ∷ [])
    (left 5 (dev 1 0 0 0 0 ∷ dev 2 1 0 1 1 ∷ []) (ended 0 ∷ ended 3 ∷ ended 3 ∷ [])) "tree: 0 mainbus0 1 isa0" (Over ∷ Over ∷ Over ∷ [])
unfolding computed
pair_ends = refl

-- the second row is starred, the third one has one unit and matches better
abbrev spot_left_setup : Setup
spot_left_setup = setup_of (record (bus_of ("a" ∷ "b" ∷ [])) { rows = bus_row ∷ below_bus 1 true [] ∷ below_bus 2 false [] ∷ [] })
    (record (machine_of 3 (on_bus "m" ("x" ∷ "y" ∷ []))
    (match_line 0 None 1 ∷ match_line 1 None 1 ∷ match_line 2 None 2 ∷ [])) { styles = style 0 0 true ∷ [] }) []

spot_left : Worked spot_left_setup "000000"
    ("0.0 found root on m: bus0 row 0" ∷ "0.0 found bus0 on x: b0 row 2" ∷ bus_booted)
    (left 3 (dev 1 0 0 0 0 ∷ dev 2 2 0 1 1 ∷ []) (ended 0 ∷ [])) "tree: 0 bus0 1 b0" (Over ∷ [])
unfolding computed
spot_left = refl

-- now the second row would take the second spot, where before any device came the third row was the best
second_row_now : winner_at spot_left_setup (dev 1 0 0 0 0 ∷ dev 2 2 0 1 1 ∷ []) 1 (place.At 0) 2 ≡ Some 1
unfolding winner is_candidate match_value submatch offers interfaces interfaces_of firsts walk
second_row_now = refl

third_row_first : winner spot_left_setup [] (under.Dev 0 0) (place.At 0) 2 ≡ Some 2
unfolding winner is_candidate match_value submatch offers interfaces interfaces_of firsts walk
third_row_first = refl
