-- References and transfers.
use Rattle.std.proofs.Common.{refl, codes, [], ◌∷◌, ◌++◌}
use Rattle.std.specs.Prelude.{replicate}
use Rattle.cf_types.specs.declared.machine.Command.TheVariants.{OpenDev, OpenSole, CloseDev, Io, Detach, Suspend, Resume}
use Rattle.run_rules.specs.World.{setup_of}
use Rattle.run_rules.specs.declared.world.Setup.{Setup}
use Rattle.run_rules.specs.declared.world.Wait.TheVariants as wait
use Rattle.worked_runs.proofs.Inputs.{bad}
use Rattle.worked_runs.proofs.Worked.{Over, Stays, Worked, computed, condemned, dev, ended, frees, goes, idle, left, ref}
use Rattle.worked_runs.proofs.Worlds.{com0, com1, isa, isa_boot, isa_live, isa_ports, isa_tables, port}

-- a device is freed when its reference is returned
held_while_condemned : Worked (isa ((OpenDev com0 ∷ CloseDev com0 ∷ []) ∷ (Detach com0 ∷ []) ∷ [])) "000000000 1221212"
    (isa_boot ++ "1.1 open com0: ok" ∷ "2.1 detach com0: ok" ∷ "1.2 close com0: ok" ∷ "2.1 free com0" ∷ "1.3 end" ∷ "2.2 end" ∷ [])
    (left 5 (dev 1 0 0 0 0 ∷ dev 2 1 0 1 1 ∷ dev 4 3 1 2 3 ∷ []) (ended 0 ∷ ended 2 ∷ ended 1 ∷ []))
    "tree: 0 mainbus0 1 isa0 2 com1" (Over ∷ Over ∷ Over ∷ [])
unfolding computed
held_while_condemned = refl

-- the same, while the reference is held
abbrev pub condemned_and_held_setup : Setup
condemned_and_held_setup = isa ((OpenDev com0 ∷ CloseDev com0 ∷ []) ∷ (Detach com0 ∷ []) ∷ [])

condemned_and_held : Worked condemned_and_held_setup "000000000 12"
    (isa_boot ++ "1.1 open com0: ok" ∷ "2.1 detach com0: ok" ∷ [])
    (λ w. record (left 5 (dev 1 0 0 0 0 ∷ dev 2 1 0 1 1 ∷ condemned 2 (dev 3 2 0 2 2) ∷ dev 4 3 1 2 3 ∷ [])
    (ended 0 ∷ idle 1 ∷ frees 0 3 ∷ []) w) { refs = ref 3 1 ∷ [] })
    "tree: 0 mainbus0 1 isa0 2 com0 2 com1" (Over ∷ goes "1.2 close com0: ok" ∷ Stays (wait.Refs 3) ∷ [])
unfolding computed
condemned_and_held = refl

-- transfers, a suspension between them, and a reference that is returned at the end
transfers : Worked (isa ((OpenDev com1 ∷ Suspend com1 ∷ Io com1 1 ∷ Resume com1 ∷ Io com1 4294967295 ∷ []) ∷ [])) "000000000 111111111111"
    (isa_boot ++ "1.1 open com1: ok" ∷ "1.2 suspend com1: ok" ∷ "1.2 sleep com1" ∷ "1.2 power com1: ok" ∷ "1.3 io com1 1: asleep"
    ∷ "1.4 resume com1: ok" ∷ "1.4 wake com1" ∷ "1.4 power com1: ok" ∷ "1.5 io com1 4294967295: started" ∷ "1.5 done com1: 2"
    ∷ "1.6 drop com1" ∷ "1.6 end" ∷ [])
    (left 5 isa_live (ended 0 ∷ ended 5 ∷ [])) "tree: 0 mainbus0 1 isa0 2 com0 2 com1" (Over ∷ Over ∷ [])
unfolding computed
transfers = refl

-- a transfer to a bad spot, one that wraps, and one without a reference
abbrev bad_transfer_setup : Setup
bad_transfer_setup = setup_of isa_tables
    (isa_ports (bad (port "u0" 1016 4) ∷ port "u1" 760 3 ∷ []))
    ((Io com0 1 ∷ OpenDev com0 ∷ OpenSole com0 ∷ Io com0 3 ∷ OpenDev com1 ∷ Io com1 4294967293 ∷ OpenDev (codes "nil0") ∷ CloseDev com0
    ∷ CloseDev com0 ∷ []) ∷ [])

bad_transfer : Worked bad_transfer_setup "000000000 1111111111111"
    (isa_boot ++ "1.1 io com0 1: not held" ∷ "1.2 open com0: ok" ∷ "1.3 open -x com0: shared" ∷ "1.4 io com0 3: started"
    ∷ "1.4 done com0: error" ∷ "1.5 open com1: ok" ∷ "1.6 io com1 4294967293: started" ∷ "1.6 done com1: 0" ∷ "1.7 open nil0: no device"
    ∷ "1.8 close com0: ok" ∷ "1.9 close com0: not held" ∷ "1.10 drop com1" ∷ "1.10 end" ∷ [])
    (left 5 isa_live (ended 0 ∷ ended 9 ∷ [])) "tree: 0 mainbus0 1 isa0 2 com0 2 com1" (Over ∷ Over ∷ [])
unfolding computed
bad_transfer = refl

-- a device is held twice and by two callers, another one solely
abbrev pub counted_and_sole_setup : Setup
counted_and_sole_setup = isa ((OpenDev com0 ∷ OpenDev com0 ∷ OpenSole com0 ∷ CloseDev com0 ∷ [])
    ∷ (OpenDev com0 ∷ OpenSole com1 ∷ OpenDev com1 ∷ []) ∷ [])

counted_and_sole : Worked counted_and_sole_setup "000000000 112122"
    (isa_boot ++ "1.1 open com0: ok" ∷ "1.2 open com0: ok" ∷ "2.1 open com0: ok" ∷ "1.3 open -x com0: shared" ∷ "2.2 open -x com1: ok"
    ∷ "2.3 open com1: exclusive" ∷ [])
    (λ w. record (left 5 isa_live (ended 0 ∷ idle 3 ∷ idle 3 ∷ []) w) {
      refs = ref 3 1 ∷ ref 3 1 ∷ ref 3 2 ∷ ref 4 2 ∷ [];
      sole = 4 ∷ [];
    })
    "tree: 0 mainbus0 1 isa0 2 com0 2 com1" (Over ∷ goes "1.4 close com0: ok" ∷ goes "2.4 drop com0" ∷ [])
unfolding computed
counted_and_sole = refl

-- the same to the end: each reference is returned by an event of its own, least serial first
returned_one_by_one : Worked counted_and_sole_setup "000000000 112122111222"
    (isa_boot ++ "1.1 open com0: ok" ∷ "1.2 open com0: ok" ∷ "2.1 open com0: ok" ∷ "1.3 open -x com0: shared" ∷ "2.2 open -x com1: ok"
    ∷ "2.3 open com1: exclusive" ∷ "1.4 close com0: ok" ∷ "1.5 drop com0" ∷ "1.5 end" ∷ "2.4 drop com0" ∷ "2.4 drop com1" ∷ "2.4 end"
    ∷ [])
    (left 5 isa_live (ended 0 ∷ ended 4 ∷ ended 3 ∷ [])) "tree: 0 mainbus0 1 isa0 2 com0 2 com1" (Over ∷ Over ∷ Over ∷ [])
unfolding computed
returned_one_by_one = refl

-- a caller holds a device up to 15 times
abbrev pub sixteenth_open_setup : Setup
sixteenth_open_setup = isa (replicate 16 (OpenDev com0) ∷ [])

sixteenth_open : Worked sixteenth_open_setup "000000000 1111111111111111"
    (isa_boot ++ "1.1 open com0: ok" ∷ "1.2 open com0: ok" ∷ "1.3 open com0: ok" ∷ "1.4 open com0: ok" ∷ "1.5 open com0: ok"
    ∷ "1.6 open com0: ok" ∷ "1.7 open com0: ok" ∷ "1.8 open com0: ok" ∷ "1.9 open com0: ok" ∷ "1.10 open com0: ok"
    ∷ "1.11 open com0: ok" ∷ "1.12 open com0: ok" ∷ "1.13 open com0: ok" ∷ "1.14 open com0: ok" ∷ "1.15 open com0: ok"
    ∷ "1.16 open com0: too many" ∷ [])
    (λ w. record (left 5 isa_live (ended 0 ∷ idle 16 ∷ []) w) { refs = replicate 15 (ref 3 1) })
    "tree: 0 mainbus0 1 isa0 2 com0 2 com1" (Over ∷ goes "1.17 drop com0" ∷ [])
unfolding computed
sixteenth_open = refl

-- sole use bars its holder too and ends with the return; a condemned device is gone before anything else is asked
abbrev sole_use_over_setup : Setup
sole_use_over_setup = isa ((OpenSole com0 ∷ OpenSole com0 ∷ CloseDev com0 ∷ OpenDev com0 ∷ [])
    ∷ (OpenDev com0 ∷ OpenDev com0 ∷ OpenSole com0 ∷ []) ∷ (Detach com0 ∷ OpenDev com0 ∷ OpenSole com0 ∷ []) ∷ [])

sole_use_over : Worked sole_use_over_setup "000000000 11232112"
    (isa_boot ++ "1.1 open -x com0: ok" ∷ "1.2 open -x com0: shared" ∷ "2.1 open com0: exclusive" ∷ "3.1 detach com0: ok"
    ∷ "2.2 open com0: gone" ∷ "1.3 close com0: ok" ∷ "1.4 open com0: gone" ∷ "2.3 open -x com0: gone" ∷ [])
    (left 5 (dev 1 0 0 0 0 ∷ dev 2 1 0 1 1 ∷ condemned 3 (dev 3 2 0 2 2) ∷ dev 4 3 1 2 3 ∷ [])
    (ended 0 ∷ idle 4 ∷ idle 3 ∷ frees 0 3 ∷ []))
    "tree: 0 mainbus0 1 isa0 2 com0 2 com1" (Over ∷ goes "1.5 end" ∷ goes "2.4 end" ∷ goes "3.1 free com0" ∷ [])
unfolding computed
sole_use_over = refl
