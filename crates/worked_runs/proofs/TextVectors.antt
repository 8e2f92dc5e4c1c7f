-- What is written of a history and of a tree: one line of each kind, in both formats, and lines of a tree.
use Prim.Native.String.{String}
use Rattle.std.proofs.Common.{◌≡◌, ℕ, Bool, true, false, Some, None, List, [], ◌∷◌, map, refl, codes}
use Rattle.std.specs.Fmt.{digits}
use Rattle.cf_types.specs.declared.tree.DevLine.{DevLine}
use Rattle.cf_types.specs.declared.tree.Hold.{Hold}
use Rattle.run_rules.specs.declared.event.Act.{Act}
use Rattle.run_rules.specs.declared.event.Act.TheVariants as act
use Rattle.run_rules.specs.declared.event.IoAnswer.TheVariants as answer
use Rattle.run_rules.specs.declared.event.PowerKind.TheVariants as kind
use Rattle.run_rules.specs.declared.event.Reply.TheVariants as reply
use Rattle.run_rules.specs.Lines.{act_text, line_of, lines, act_text_1, line_of_1}
use Rattle.run_rules.specs.Tree.{dev_text}
use Rattle.worked_runs.proofs.Inputs.{event, got, shown}
use Rattle.worked_runs.proofs.Worlds.{com0, com1, isa0}

-- what caller 3's command 7 says, and its line
abbrev spelt : List (Act × String)
spelt =
    (act.Found isa0 (codes "u0") (Some (got "com0" 2)), "3.7 found isa0 on u0: com0 row 2")
    ∷ (act.Found isa0 (codes "u0") (Some (got "com0" 8191)), "3.7 found isa0 on u0: com0 row 8191")
    ∷ (act.Found (codes "root") (codes "mb") None, "3.7 found root on mb: not configured")
    ∷ (act.ScanEnd isa0, "3.7 scan isa0: done") ∷ (act.Interrupts, "3.7 interrupts")
    ∷ (act.Final (codes "hub0") (Some (shown "l0" (Some (got "leaf0" 2)))), "3.7 final hub0: 1 on l0: leaf0 row 2")
    ∷ (act.Final (codes "hub0") (Some (shown "l0" None)), "3.7 final hub0: 1 on l0: not configured")
    ∷ (act.Final (codes "hub0") None, "3.7 final hub0: 0") ∷ (act.End, "3.7 end") ∷ (act.DropRef com0, "3.7 drop com0")
    ∷ (act.OpenDev com0 reply.Ok, "3.7 open com0: ok") ∷ (act.OpenDev com0 reply.Exclusive, "3.7 open com0: exclusive")
    ∷ (act.OpenDev com0 reply.TooMany, "3.7 open com0: too many") ∷ (act.OpenSole com0 reply.Ok, "3.7 open -x com0: ok")
    ∷ (act.OpenSole com0 reply.Shared, "3.7 open -x com0: shared") ∷ (act.CloseDev com0 reply.NotHeld, "3.7 close com0: not held")
    ∷ (act.IoStart com0 4294967295 reply.Ok, "3.7 io com0 4294967295: started")
    ∷ (act.IoStart com0 10 reply.Asleep, "3.7 io com0 10: asleep")
    ∷ (act.IoDone com0 (answer.Number 42), "3.7 done com0: 42") ∷ (act.IoDone com0 answer.DeviceError, "3.7 done com0: error")
    ∷ (act.Detach isa0 (reply.Busy com0), "3.7 detach isa0: busy com0") ∷ (act.Free com0, "3.7 free com0")
    ∷ (act.Rescan isa0 reply.BadLocator, "3.7 rescan isa0: bad locator")
    ∷ (act.ListDev (Some isa0) (Some (com0 ∷ com1 ∷ [])), "3.7 list isa0: com0 com1")
    ∷ (act.ListDev None (Some []), "3.7 list:") ∷ (act.ListDev (Some com0) None, "3.7 list com0: no device")
    ∷ (act.TreeDev None (Some (record { depth = 0; name = isa0 } ∷ record { depth = 1; name = com0 } ∷ [])), "3.7 tree: 0 isa0 1 com0")
    ∷ (act.Power kind.Suspend com0 reply.Gone, "3.7 suspend com0: gone")
    ∷ (act.Power kind.ResumeTree com0 reply.NoDevice, "3.7 resumetree com0: no device")
    ∷ (act.Sleep com0, "3.7 sleep com0") ∷ (act.Wake com0, "3.7 wake com0")
    ∷ (act.PowerEnd com0 (reply.SuspendFailed com0), "3.7 power com0: suspend failed com0")
    ∷ (act.Plug (codes "u0") reply.Ok, "3.7 plug u0: ok") ∷ (act.Unplug (codes "u0") reply.NoSpot, "3.7 unplug u0: no spot") ∷ []

written : map (λ p. line_of (event 3 7 p.0)) spelt ≡ map (λ p. codes p.1) spelt
unfolding line_of act_text digits
written = refl

history : lines (event 0 0 act.Interrupts ∷ event 0 0 act.End ∷ []) ≡ codes "history 2\n0.0 interrupts\n0.0 end\n"
unfolding lines line_of act_text digits
history = refl

-- format 1 tells no spot and no row, and is else the same
abbrev spelt_1 : List (Act × String)
spelt_1 =
    (act.Found isa0 (codes "u0") (Some (got "com0" 2)), "3.7 found isa0: com0")
    ∷ (act.Found (codes "root") (codes "mb") None, "3.7 found root: not configured")
    ∷ (act.Final (codes "hub0") (Some (shown "l0" (Some (got "leaf0" 2)))), "3.7 final hub0: 1 leaf0")
    ∷ (act.Final (codes "hub0") (Some (shown "l0" None)), "3.7 final hub0: 1 not configured")
    ∷ (act.Final (codes "hub0") None, "3.7 final hub0: 0") ∷ (act.OpenSole com0 reply.Ok, "3.7 open -x com0: ok") ∷ []

written_1 : map (λ p. line_of_1 (event 3 7 p.0)) spelt_1 ≡ map (λ p. codes p.1) spelt_1
unfolding line_of_1 act_text_1 act_text digits
written_1 = refl

-- ---- a tree

abbrev held : ℕ → ℕ → Bool → Hold
held caller count sole = record { caller = caller; count = count; sole = sole }

-- a device two levels deep
abbrev device : DevLine
device = record { depth = 2; name = com0; parent = isa0; row = 12; asleep = false; condemned = false; holders = [] }

-- asleep, condemned and held by callers 1 and 3; on the root; held 15 times by caller 2 and once by caller 16; held solely
abbrev devices : List (DevLine × String)
devices = (
  record device { asleep = true; condemned = true; holders = held 1 1 false ∷ held 3 1 false ∷ [] },
  "    com0 at isa0 row 12 asleep condemned held 1 3",
)
    ∷ (record device { depth = 0; name = codes "mainbus0"; parent = codes "root"; row = 0 }, "mainbus0 at root row 0")
    ∷ (record device { depth = 1; row = 2; holders = held 2 15 false ∷ held 16 1 false ∷ [] }, "  com0 at isa0 row 2 held 2*15 16")
    ∷ (record device { depth = 1; row = 2; holders = held 16 1 true ∷ [] }, "  com0 at isa0 row 2 held 16!") ∷ []

drawn : map (λ p. dev_text p.0) devices ≡ map (λ p. codes p.1) devices
unfolding dev_text digits
drawn = refl
