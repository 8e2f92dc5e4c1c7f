-- Detaching and unplugging.
use Rattle.std.proofs.Common.{refl, codes, Some, None, [], ◌∷◌, ◌++◌}
use Rattle.cf_types.specs.declared.machine.Command.TheVariants.{OpenDev, CloseDev, Io, Detach, Rescan, ListDev, TreeDev, Suspend, Unplug}
use Rattle.run_rules.specs.World.{setup_of}
use Rattle.run_rules.specs.declared.world.Setup.{Setup}
use Rattle.worked_runs.proofs.Worked.{Over, Worked, computed, dev, ended, goes, idle, left}
use Rattle.worked_runs.proofs.Worlds.{com0, com1, isa, isa0, isa_boot, isa_live, isa_tables, kept_coms}

-- a driver that refuses to be detached
no_detach : Worked (setup_of isa_tables kept_coms ((Detach (codes "mainbus0") ∷ []) ∷ [])) "000000000 11"
    (isa_boot ++ "1.1 detach mainbus0: busy com0" ∷ "1.2 end" ∷ [])
    (left 5 isa_live (ended 0 ∷ ended 1 ∷ [])) "tree: 0 mainbus0 1 isa0 2 com0 2 com1" (Over ∷ Over ∷ [])
unfolding computed
no_detach = refl

-- pulling it out asks no driver
pulled_out : Worked (setup_of isa_tables kept_coms ((Unplug (codes "u0") ∷ []) ∷ [])) "000000000 111"
    (isa_boot ++ "1.1 unplug u0: ok" ∷ "1.1 free com0" ∷ "1.2 end" ∷ [])
    (λ w. record (left 5 (dev 1 0 0 0 0 ∷ dev 2 1 0 1 1 ∷ dev 4 3 1 2 3 ∷ []) (ended 0 ∷ ended 1 ∷ []) w) { absent = 2 ∷ [] })
    "tree: 0 mainbus0 1 isa0 2 com1" (Over ∷ Over ∷ [])
unfolding computed
pulled_out = refl

-- the root is no device
abbrev root_unnamed_setup : Setup
root_unnamed_setup = isa ((OpenDev (codes "root") ∷ ListDev (Some (codes "root")) ∷ TreeDev (Some (codes "root"))
    ∷ Rescan (codes "root") None [] ∷ CloseDev (codes "root") ∷ Io (codes "root") 1 ∷ []) ∷ [])

root_unnamed : Worked root_unnamed_setup "000000000 111111"
    (isa_boot ++ "1.1 open root: no device" ∷ "1.2 list root: no device" ∷ "1.3 tree root: no device" ∷ "1.4 rescan root: no device"
    ∷ "1.5 close root: not held" ∷ "1.6 io root 1: not held" ∷ [])
    (left 5 isa_live (ended 0 ∷ idle 6 ∷ [])) "tree: 0 mainbus0 1 isa0 2 com0 2 com1" (Over ∷ goes "1.7 end" ∷ [])
unfolding computed
root_unnamed = refl

-- commands on a condemned device, and unplug of its spot
abbrev condemned_commands_setup : Setup
condemned_commands_setup = isa ((OpenDev com0 ∷ CloseDev com0 ∷ []) ∷ (Detach isa0 ∷ [])
    ∷ (OpenDev com0 ∷ ListDev (Some isa0) ∷ TreeDev (Some (codes "mainbus0")) ∷ Io com0 1 ∷ Unplug (codes "u0") ∷ Unplug (codes "isa")
    ∷ Suspend isa0 ∷ Rescan isa0 None [] ∷ []) ∷ [])

condemned_commands : Worked condemned_commands_setup "000000000 1233333333212222"
    (isa_boot ++ "1.1 open com0: ok" ∷ "2.1 detach isa0: ok" ∷ "3.1 open com0: gone" ∷ "3.2 list isa0: com0 com1"
    ∷ "3.3 tree mainbus0: 0 mainbus0 1 isa0 2 com0 2 com1" ∷ "3.4 io com0 1: not held" ∷ "3.5 unplug u0: busy com0"
    ∷ "3.6 unplug isa: busy isa0" ∷ "3.7 suspend isa0: gone" ∷ "3.8 rescan isa0: gone" ∷ "2.1 free com1" ∷ "1.2 close com0: ok"
    ∷ "2.1 free com0" ∷ "2.1 free isa0" ∷ "2.2 end" ∷ [])
    (left 5 (dev 1 0 0 0 0 ∷ []) (ended 0 ∷ idle 2 ∷ ended 1 ∷ idle 8 ∷ []))
    "tree: 0 mainbus0" (Over ∷ goes "1.3 end" ∷ Over ∷ goes "3.9 end" ∷ [])
unfolding computed
condemned_commands = refl

-- busy with a device that the caller holds, and with one that is scanned
abbrev other_hindrances_setup : Setup
other_hindrances_setup = isa ((OpenDev com1 ∷ Detach isa0 ∷ CloseDev com1 ∷ []) ∷ (Rescan (codes "mainbus0") None [] ∷ [])
    ∷ (Detach (codes "mainbus0") ∷ Detach com0 ∷ Unplug (codes "u1") ∷ []) ∷ [])

other_hindrances : Worked other_hindrances_setup "000000000 12132133313"
    (isa_boot ++ "1.1 open com1: ok" ∷ "2.1 rescan mainbus0: ok" ∷ "1.2 detach isa0: busy com1" ∷ "3.1 detach mainbus0: busy mainbus0"
    ∷ "2.1 scan mainbus0: done" ∷ "1.3 close com1: ok" ∷ "3.2 detach com0: ok" ∷ "3.2 free com0" ∷ "3.3 unplug u1: ok" ∷ "1.4 end"
    ∷ "3.3 free com1" ∷ [])
    (λ w. record (left 5 (dev 1 0 0 0 0 ∷ dev 2 1 0 1 1 ∷ []) (ended 0 ∷ ended 3 ∷ idle 1 ∷ idle 3 ∷ []) w) { absent = 3 ∷ [] })
    "tree: 0 mainbus0 1 isa0" (Over ∷ Over ∷ goes "2.2 end" ∷ goes "3.4 end" ∷ [])
unfolding computed
other_hindrances = refl
