-- Each event of a history stands in the order of its caller's commands.
use Rattle.std.proofs.Common.{List, [], ◌∷◌, ◌++◌, refl, sym, subst}
use Rattle.run_rules.specs.declared.event.Event.{Event}
use Rattle.run_rules.specs.declared.world.Setup.{Setup}
use Rattle.run_rules.specs.Run.{Run}
use Rattle.run_rules.specs.World.{World, opening}
use Rattle.history_laws.specs.Always.{OfEveryRun}
use Rattle.whole_laws.specs.Order.{AreInOrder, CommandsInOrder}
use Rattle.whole_laws.proofs.Commands.{always_in_order, same_setup}

-- a run up to one of its events
up_to : (w : World) (h : List Event) (e : Event) (rest : List Event) (v : World) → Run w (h ++ e ∷ rest) v → (m : World) × Run w (h ++ e ∷ []) m
up_to w [] e rest v run = (run.0, (run.0, run.1, refl))
up_to w (f ∷ h) e rest v run = let more = up_to run.0 h e rest v run.2 in (more.0, (run.0, run.1, more.1))

pub all_in_order : OfEveryRun AreInOrder
all_in_order s h v may run before rest e is =
    let here = up_to (opening s) before e rest v (subst (λ (g : List Event). Run (opening s) g v) is run) in
    subst (λ (x : Setup). CommandsInOrder x before e) (sym (same_setup s h v run)) (always_in_order s before e here.0 may here.1)
