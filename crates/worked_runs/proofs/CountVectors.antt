-- What is counted on the lines of a history: how often a caller holds a device, and whether it has it solely.
use Rattle.std.proofs.Common.{◌≡◌, true, false, List, [], ◌∷◌, ◌++◌, refl}
use Rattle.std.specs.Prelude.{pos, negsuc}
use Rattle.run_rules.specs.declared.event.Event.{Event}
use Rattle.run_rules.specs.declared.event.Act.TheVariants as act
use Rattle.run_rules.specs.declared.event.Reply.TheVariants as reply
use Rattle.run_rules.specs.Laws.{holds, sole_in}
use Rattle.worked_runs.proofs.Inputs.{event}
use Rattle.worked_runs.proofs.Worlds.{com0, com1}

-- only what was granted counts; a sole open counts as any
abbrev opened : List Event
opened = event 1 1 (act.OpenDev com0 reply.Ok) ∷ event 1 2 (act.OpenDev com0 reply.Ok) ∷ event 2 1 (act.OpenSole com0 reply.Shared)
    ∷ event 2 2 (act.OpenSole com1 reply.Ok) ∷ event 1 3 (act.OpenDev com1 reply.Exclusive) ∷ []

granted : (holds opened 1 com0 ≡ pos 2) × (holds opened 2 com0 ≡ pos 0)
unfolding holds
granted = (refl, refl)

held_solely : (holds opened 2 com1 ≡ pos 1) × (sole_in opened 2 com1 ≡ true)
unfolding holds sole_in
held_solely = (refl, refl)

not_solely : (sole_in opened 1 com0 ≡ false) × (sole_in opened 2 com0 ≡ false)
unfolding sole_in
not_solely = (refl, refl)

-- a close and a drop return one each; a close that was refused returns none
abbrev returned : List Event
returned = opened
    ++ event 1 4 (act.CloseDev com0 reply.Ok) ∷ event 1 5 (act.CloseDev com0 reply.NotHeld) ∷ event 2 3 (act.DropRef com1) ∷ []

given_back : (holds returned 1 com0 ≡ pos 1) × (holds returned 2 com1 ≡ pos 0) × (sole_in returned 2 com1 ≡ false)
unfolding holds sole_in
given_back = (refl, refl, refl)

-- a return of another caller, or of another device, ends nobody's sole use
still_solely : sole_in (opened ++ event 1 4 (act.CloseDev com1 reply.Ok) ∷ event 2 3 (act.DropRef com0) ∷ []) 2 com1 ≡ true
unfolding sole_in
still_solely = refl

-- and after a return it has to be asked for again
asked_again : (sole_in (returned ++ event 2 4 (act.OpenDev com1 reply.Ok) ∷ []) 2 com1 ≡ false)
    × (sole_in (returned ++ event 2 4 (act.OpenSole com1 reply.Ok) ∷ []) 2 com1 ≡ true)
unfolding sole_in
asked_again = (refl, refl)

-- a number below none is told as such
returned_too_often : holds (returned ++ event 2 4 (act.DropRef com1) ∷ []) 2 com1 ≡ negsuc 0
unfolding holds
returned_too_often = refl
