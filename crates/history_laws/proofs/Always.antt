-- The laws one by one.
use Rattle.std.proofs.Common.{List, [], ◌∷◌, ◌++◌, refl, sym, subst, append_assoc}
use Rattle.std.proofs.lemmas.List.{append-nil}
use Rattle.run_rules.specs.declared.event.Event.{Event}
use Rattle.run_rules.specs.declared.world.Setup.{Setup}
use Rattle.run_rules.specs.World.{World, opening}
use Rattle.run_rules.specs.Laws.{FreesChildless, FreesUnheld, IsLawfulNext, Lawful, LawfulFrom}
use Rattle.run_rules.specs.Run.{Run, Step}
use Rattle.run_rules.specs.Sound.{HaveOwnNames}
use Rattle.run_sound.specs.Kept.{MayRun}
use Rattle.history_laws.specs.Always.{OfEveryEvent, OfEveryRun}
use Rattle.history_laws.specs.Reliable.{AtEach, IsReliable}
use Rattle.history_laws.proofs.LawsHold.{always_lawful, lawful_next}
use Rattle.history_laws.proofs.Names.{world_names}
use Rattle.history_laws.proofs.Stands.{Stands, stands_always}
use Rattle.history_laws.proofs.TreeTold.{tells_tree}

-- the last event of a run
pub record Ends (w : World) (h : List Event) (e : Event) (v : World) : Type 0 where
  pub before : World
  pub run : Run w h before
  pub step : Step before e.caller e v

pub ends : (w : World) (h : List Event) (e : Event) (v : World) → Run w (h ++ e ∷ []) v → Ends w h e v
ends w [] e v run = record { before = w; run = refl; step = subst (Step w e.caller e) run.2 run.1 }
ends w (f ∷ h) e v run = let rest = ends run.0 h e v run.2 in record { before = rest.before; run = (run.0, run.1, rest.run); step = rest.step }

-- what holds of a history and the world that it led to
pub of_run : (P : List Event → World → Type 0) → ((h : List Event) (w : World) → Stands h w → P h w) → OfEveryRun P
of_run P f s h v may run = f h v (stands_always s h v may run)

-- what holds where an event stands
pub of_event : (P : List Event → Event → Type 0) → ((h : List Event) (w v : World) (e : Event) → Stands h w → Step w e.caller e v → P h e) → OfEveryEvent P
of_event P f s h e v may run = let last = ends (opening s) h e v run in f h last.before v e (stands_always s h last.before may last.run) last.step

pub of_lawful : (P : List Event → Event → Type 0) → ((h : List Event) (e : Event) → IsLawfulNext h e → P h e) → OfEveryEvent P
of_lawful P f = of_event P (λ h w v e at step. f h e (lawful_next h w v e at step))

pub own_names : (h : List Event) (w : World) → Stands h w → HaveOwnNames w.setup w.live
own_names h w at = (world_names w at.may at.kept).own

-- ---- what may be relied on

-- what is lawful where an event stands
lawful_at : (g before rest : List Event) (e : Event) → LawfulFrom g (before ++ e ∷ rest) → IsLawfulNext (g ++ before) e
lawful_at g [] rest e all = subst (λ (f : List Event). IsLawfulNext f e) (sym (append-nil g)) all.0
lawful_at g (f ∷ before) rest e all =
    subst (λ (i : List Event). IsLawfulNext i e) (append_assoc g (f ∷ []) before) (lawful_at (g ++ f ∷ []) before rest e all.1)

at_each : (P : List Event → Event → Type 0) → ((before : List Event) (e : Event) → IsLawfulNext before e → P before e) → (h : List Event) → Lawful h → AtEach P h
at_each P f h lawful before rest e is = f before e (lawful_at [] before rest e (subst Lawful is lawful))

pub reliable : (h : List Event) (w : World) → Stands h w → Lawful h → IsReliable h w
reliable h w at lawful = record {
  references_first = at_each FreesUnheld (λ before e law. law.unreferred) h lawful;
  children_first = at_each FreesChildless (λ before e law. law.childless) h lawful;
  lawful = lawful;
  tree = tells_tree h w at;
}

pub always_reliable : (s : Setup) (h : List Event) (v : World) → MayRun s → Run (opening s) h v → IsReliable h v
always_reliable s h v may run = reliable h v (stands_always s h v may run) (always_lawful s h v may run)
