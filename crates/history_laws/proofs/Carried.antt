-- What each step carries on holds of every run, and wherever an event stands.
use Rattle.std.proofs.Common.{List, [], ◌∷◌, ◌++◌, sym, subst, append_assoc}
use Rattle.std.proofs.lemmas.List.{append-nil}
use Rattle.run_rules.specs.declared.event.Event.{Event}
use Rattle.run_rules.specs.declared.world.Setup.{Setup}
use Rattle.run_rules.specs.World.{World, opening}
use Rattle.run_rules.specs.Run.{Run, Step}
use Rattle.run_sound.specs.Kept.{MayRun}
use Rattle.history_laws.specs.Always.{OfEveryEvent, OfEveryRun}
use Rattle.history_laws.proofs.Always.{ends}
use Rattle.history_laws.proofs.Stands.{Stands, stands_on, stands_open}

-- it holds at the opening, and each step carries it on
pub record IsCarried (P : List Event → World → Type 0) : Type 0 where
  pub opens : (s : Setup) → MayRun s → P [] (opening s)
  pub goes : (h : List Event) (w : World) (e : Event) (v : World) → Stands h w → P h w → Step w e.caller e v → P (h ++ e ∷ []) v

-- what is carried, beside what stands anyway
pub record Has (P : List Event → World → Type 0) (h : List Event) (w : World) : Type 0 where
  pub stands : Stands h w
  pub has : P h w

has_on : (P : List Event → World → Type 0) → IsCarried P → (h : List Event) (w : World) (es : List Event) (v : World) → Has P h w → Run w es v → Has P (h ++ es) v
has_on P c h w [] v at run = subst (λ (g : List Event). Has P g v) (sym (append-nil h)) (subst (Has P h) run at)
has_on P c h w (e ∷ es) v at run =
    subst (λ (g : List Event). Has P g v) (append_assoc h (e ∷ []) es)
    (has_on P c (h ++ e ∷ []) run.0 es v (record { stands = stands_on h w e.caller e run.0 at.stands run.1; has = c.goes h w e run.0 at.stands at.has run.1 }) run.2)

pub has_always : (P : List Event → World → Type 0) → IsCarried P → (s : Setup) (h : List Event) (v : World) → MayRun s → Run (opening s) h v → Has P h v
has_always P c s h v may run = has_on P c [] (opening s) h v (record { stands = stands_open s may; has = c.opens s may }) run

pub in_run : (P Q : List Event → World → Type 0) → IsCarried P → ((h : List Event) (w : World) → Stands h w → P h w → Q h w) → OfEveryRun Q
in_run P Q c f s h v may run = let at = has_always P c s h v may run in f h v at.stands at.has

pub at_event : (P : List Event → World → Type 0) (Q : List Event → Event → Type 0) → IsCarried P
    → ((h : List Event) (w : World) (e : Event) (v : World) → Stands h w → P h w → Step w e.caller e v → Q h e) → OfEveryEvent Q
at_event P Q c f s h e v may run =
    let last = ends (opening s) h e v run in
    let at = has_always P c s h last.before may last.run in
    f h last.before e v at.stands at.has last.step

-- two are carried together
pub both : (P Q : List Event → World → Type 0) → IsCarried P → IsCarried Q → IsCarried (λ h w. P h w × Q h w)
both P Q a b = record { opens = λ s may. (a.opens s may, b.opens s may); goes = λ h w e v at has step. (a.goes h w e v at has.0 step, b.goes h w e v at has.1 step) }
