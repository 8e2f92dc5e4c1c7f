-- Suspending and resuming.
use Rattle.std.proofs.Common.{refl, codes, true, Some, None, [], ◌∷◌, ◌++◌}
use Rattle.std.specs.Prelude.{negsuc}
use Rattle.cf_types.specs.Policies.{no_policy}
use Rattle.cf_types.specs.declared.machine.Command.TheVariants.{Detach, Rescan, Suspend, ResumeTree}
use Rattle.run_rules.specs.World.{scan_of, setup_of}
use Rattle.run_rules.specs.declared.world.Setup.{Setup}
use Rattle.run_rules.specs.declared.world.Wait.TheVariants as wait
use Rattle.worked_runs.proofs.Worked.{Over, Stays, Worked, asleep, computed, dev, ended, goes, idle, left, scans, suspends}
use Rattle.worked_runs.proofs.Worlds.{bus0, bus_booted, com0, hub_slots_tables, isa, isa0, isa_asleep, isa_boot, isa_live, leaf0, slot, slots, three_boot, three_spots, three_tables}

-- a suspension stops at a driver that does not support it
abbrev no_power_setup : Setup
no_power_setup = setup_of three_tables
    (record three_spots { policies = no_policy ∷ record no_policy { nopower = true } ∷ no_policy ∷ no_policy ∷ [] })
    ((Suspend bus0 ∷ []) ∷ [])

no_power : Worked no_power_setup "00000000 1111"
    (three_boot ++ "1.1 suspend bus0: ok" ∷ "1.1 sleep xb0" ∷ "1.1 power bus0: not supported xa0" ∷ "1.2 end" ∷ [])
    (left 4 (dev 1 0 0 0 0 ∷ dev 2 1 0 1 1 ∷ asleep (dev 3 2 0 1 2) ∷ []) (ended 0 ∷ ended 1 ∷ []))
    "tree: 0 bus0 1 xa0 1 xb0" (Over ∷ Over ∷ [])
unfolding computed
no_power = refl

-- one caller suspends at a time
power_turn : Worked (isa ((Suspend isa0 ∷ []) ∷ (Suspend com0 ∷ []) ∷ [])) "000000000 12111122"
    (isa_boot ++ "1.1 suspend isa0: ok" ∷ "1.1 sleep com1" ∷ "1.1 sleep com0" ∷ "1.1 sleep isa0" ∷ "1.1 power isa0: ok"
    ∷ "2.1 suspend com0: ok" ∷ "2.1 power com0: ok" ∷ [])
    (left 5 isa_asleep (ended 0 ∷ idle 1 ∷ idle 1 ∷ []))
    "tree: 0 mainbus0 1 isa0 2 com0 2 com1" (Over ∷ goes "1.2 end" ∷ goes "2.2 end" ∷ [])
unfolding computed
power_turn = refl

-- the other caller waits for the turn
power_turn_waits : Worked (isa ((Suspend isa0 ∷ []) ∷ (Suspend com0 ∷ []) ∷ [])) "000000000 12"
    (isa_boot ++ "1.1 suspend isa0: ok" ∷ [])
    (λ w. record (left 5 isa_live (ended 0 ∷ suspends 0 2 ∷ idle 0 ∷ []) w) { power_owner = Some 1 })
    "tree: 0 mainbus0 1 isa0 2 com0 2 com1" (Over ∷ goes "1.1 sleep com1" ∷ Stays (wait.Power 1) ∷ [])
unfolding computed
power_turn_waits = refl

-- a suspension waits for a scan
scanned_meanwhile : Worked (isa ((Rescan isa0 None [] ∷ []) ∷ (Suspend isa0 ∷ []) ∷ [])) "000000000 12222122"
    (isa_boot ++ "1.1 rescan isa0: ok" ∷ "2.1 suspend isa0: ok" ∷ "2.1 sleep com1" ∷ "2.1 sleep com0"
    ∷ "1.1 scan isa0: done" ∷ "2.1 sleep isa0" ∷ "2.1 power isa0: ok" ∷ [])
    (left 5 isa_asleep (ended 0 ∷ idle 1 ∷ idle 1 ∷ []))
    "tree: 0 mainbus0 1 isa0 2 com0 2 com1" (Over ∷ goes "1.2 end" ∷ goes "2.2 end" ∷ [])
unfolding computed
scanned_meanwhile = refl

-- the same, while it waits
scanned_waits : Worked (isa ((Rescan isa0 None [] ∷ []) ∷ (Suspend isa0 ∷ []) ∷ [])) "000000000 12222"
    (isa_boot ++ "1.1 rescan isa0: ok" ∷ "2.1 suspend isa0: ok" ∷ "2.1 sleep com1" ∷ "2.1 sleep com0" ∷ [])
    (λ w. record (left 5 (dev 1 0 0 0 0 ∷ dev 2 1 0 1 1 ∷ asleep (dev 3 2 0 2 2) ∷ asleep (dev 4 3 1 2 3) ∷ [])
    (ended 0 ∷ scans 0 (scan_of 2 ∷ []) ∷ suspends 0 2 ∷ []) w) { power_owner = Some 2 })
    "tree: 0 mainbus0 1 isa0 2 com0 2 com1" (Over ∷ goes "1.1 scan isa0: done" ∷ Stays (wait.Scan 2) ∷ [])
unfolding computed
scanned_waits = refl

-- a power command whose target was freed ends with gone, though another device has the name
abbrev power_of_freed_setup : Setup
power_of_freed_setup = setup_of hub_slots_tables
    (slots (slot "u0" (negsuc 0) ∷ [])) ((Suspend leaf0 ∷ []) ∷ (Detach leaf0 ∷ Rescan bus0 None [] ∷ []) ∷ [])

power_of_freed : Worked power_of_freed_setup "000000 12222211"
    ("0.0 found root on b: bus0 row 0" ∷ "0.0 found bus0 on u0: leaf0 row 2" ∷ bus_booted ++ "1.1 suspend leaf0: ok"
    ∷ "2.1 detach leaf0: ok" ∷ "2.1 free leaf0" ∷ "2.2 rescan bus0: ok" ∷ "2.2 found bus0 on u0: leaf0 row 2" ∷ "2.2 scan bus0: done"
    ∷ "1.1 power leaf0: gone" ∷ "1.2 end" ∷ [])
    (left 4 (dev 1 0 0 0 0 ∷ dev 3 2 0 1 1 ∷ []) (ended 0 ∷ ended 1 ∷ idle 2 ∷ []))
    "tree: 0 bus0 1 leaf0" (Over ∷ Over ∷ goes "2.3 end" ∷ [])
unfolding computed
power_of_freed = refl

-- the power turn is waited for before the reply
turn_before_reply : Worked (isa ((Suspend com0 ∷ []) ∷ (Suspend (codes "lpt9") ∷ []) ∷ [])) "000000000 1221122"
    (isa_boot ++ "1.1 suspend com0: ok" ∷ "1.1 sleep com0" ∷ "1.1 power com0: ok" ∷ "2.1 suspend lpt9: no device" ∷ "2.2 end" ∷ [])
    (left 5 (dev 1 0 0 0 0 ∷ dev 2 1 0 1 1 ∷ asleep (dev 3 2 0 2 2) ∷ dev 4 3 1 2 3 ∷ []) (ended 0 ∷ idle 1 ∷ ended 1 ∷ []))
    "tree: 0 mainbus0 1 isa0 2 com0 2 com1" (Over ∷ goes "1.2 end" ∷ Over ∷ [])
unfolding computed
turn_before_reply = refl

-- a power command that runs when its subtree is condemned
condemned_suspended : Worked (isa ((Suspend isa0 ∷ ResumeTree isa0 ∷ []) ∷ (Detach isa0 ∷ []) ∷ [])) "000000000 1211111212221"
    (isa_boot ++ "1.1 suspend isa0: ok" ∷ "2.1 detach isa0: ok" ∷ "1.1 sleep com1" ∷ "1.1 sleep com0" ∷ "1.1 sleep isa0"
    ∷ "1.1 power isa0: ok" ∷ "1.2 resumetree isa0: gone" ∷ "2.1 free com1" ∷ "1.3 end" ∷ "2.1 free com0" ∷ "2.1 free isa0" ∷ "2.2 end"
    ∷ [])
    (left 5 (dev 1 0 0 0 0 ∷ []) (ended 0 ∷ ended 2 ∷ ended 1 ∷ [])) "tree: 0 mainbus0" (Over ∷ Over ∷ Over ∷ [])
unfolding computed
condemned_suspended = refl
