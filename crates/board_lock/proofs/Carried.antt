-- Runs whose transfers were carried out.
use Rattle.std.proofs.Common.{◌≡◌, ℕ, List, [], ◌∷◌, ◌++◌, Some, None, refl, sym, ◌∙◌, subst}
use Rattle.std.specs.List.{AllByRecursion}
use Rattle.cf_types.specs.declared.machine.Ticket.{Ticket}
use Rattle.run_rules.specs.declared.deed.Choice.TheVariants.{Does}
use Rattle.run_rules.specs.declared.deed.Deed.{Deed}
use Rattle.run_rules.specs.declared.deed.Deed.TheVariants.{Done}
use Rattle.run_rules.specs.declared.event.Event.{Event}
use Rattle.run_rules.specs.declared.world.Activity.{Activity}
use Rattle.run_rules.specs.declared.world.Activity.TheVariants as activity
use Rattle.run_rules.specs.declared.world.Setup.{Setup}
use Rattle.run_rules.specs.After.{after}
use Rattle.run_rules.specs.Next.{next}
use Rattle.run_rules.specs.Run.{Boot, Run, Step, event_of}
use Rattle.run_rules.specs.World.{World, caller_at, opening}
use Rattle.run_rules.proofs.Setups.{after_setup}
use Rattle.run_sound.specs.Kept.{Kept, MayRun}
use Rattle.run_sound.proofs.Callers.{doing_so}
use Rattle.run_sound.proofs.Opening.{opening_kept}
use Rattle.run_sound.proofs.Reasons.{has_command_reason}
use Rattle.run_sound.proofs.Steps.{kept_after}
use Rattle.dev_board.specs.Shown.{Shown}
use Rattle.dev_board.specs.Stepping.{DoesNext, kept_ticket}
use Rattle.dev_board.specs.Witness.{Witness}
use Rattle.dev_board.proofs.Kept.{boot_idle}
use Rattle.dev_board.proofs.NextLaws.{next_kept}
use Rattle.board_lock.specs.Carried.{CarriedRun, CarriedStep}

-- an event more
carried_on : (P : Ticket → Type 0) (w : World) (es : List Event) (m : World) (e : Event) (v : World) → CarriedRun P w es m → CarriedStep P m e.caller e v → CarriedRun P w (es ++ e ∷ []) v
carried_on P w [] m e v run step = (v, subst (λ (x : World). CarriedStep P x e.caller e v) (sym run) step, refl)
carried_on P w (f ∷ es) m e v run step = (run.0, run.1, carried_on P run.0 es m e v run.2 step)

-- as the board does it: where it ends a transfer, that one was carried out
pub carried_next : (P : Ticket → Type 0) (w : World) (k p : ℕ) (old new : Shown) (told : Witness) → CarriedRun P w old.events old.world → DoesNext old k p told new
    → ((ticket : Ticket) → next old.world k ≡ Does (Done ticket) → P ticket) → CarriedRun P w new.events new.world
unfolding event_of
carried_next P w k p old new told run did transfer =
    let v : World = after old.world k did.deed in
    let e : Event = event_of old.world k did.deed in
    let step : CarriedStep P old.world k e v = record { step = record { deed = did.deed; chosen = did.chosen; event = refl; world = refl }; transfer = transfer } in
    subst (λ (s : Shown). CarriedRun P w s.events s.world) (sym did.board) (carried_on P w old.events old.world e v run step)

clash : (ticket : Ticket) → None ≡ Some ticket → ⊥
clash ticket e = cc

-- who is in no transfer ends none
pub ends_none : (w : World) (k : ℕ) (ticket : Ticket) → kept_ticket w k ≡ None → next w k ≡ Does (Done ticket) → ⊥
ends_none w k ticket none chosen = clash ticket (sym none ∙ next_kept w k ticket chosen)

pub same_deed : (d e : Deed) → Does d ≡ Does e → d ≡ e
same_deed d e h = cc

pub same_ticket : (t u : Ticket) → Does (Done t) ≡ Does (Done u) → t ≡ u
same_ticket t u h = cc

-- where nothing changes
pub carried_same : (P : Ticket → Type 0) (w : World) (b v : Shown) → CarriedRun P w b.events b.world → v ≡ b → CarriedRun P w v.events v.world
carried_same P w b v run same = subst (λ (s : Shown). CarriedRun P w s.events s.world) (sym same) run

-- ---- the boot ends no transfer

no_transfer : (ticket : Ticket) (a : Activity) → a ≡ activity.Idle → a ≡ activity.Transfer ticket → ⊥
no_transfer ticket a idle e = cc

boot_ends_none : (w : World) (ticket : Ticket) → Kept w → next w 0 ≡ Does (Done ticket) → ⊥
boot_ends_none w ticket kept e =
    no_transfer ticket (caller_at w 0).doing (boot_idle w kept (doing_so w 0 (Done ticket) e).unended) (has_command_reason w 0 (Done ticket) e)

alone_carried : (P : Ticket → Type 0) (w : World) (es : List Event) (v : World) → MayRun w.setup → Kept w → Run w es v → AllByRecursion (λ (e : Event). e.caller ≡ 0) es → CarriedRun P w es v
alone_carried P w [] v may kept run alone = run
alone_carried P w (e ∷ es) v may kept run alone =
    let step : Step w e.caller e run.0 = run.1 in
    let goes : MayRun run.0.setup = subst (λ (x : World). MayRun x.setup) (sym step.world) (subst MayRun (sym (after_setup w e.caller step.deed)) may) in
    let stays : Kept run.0 = subst Kept (sym step.world) (kept_after w e.caller step.deed may kept step.chosen) in
    let one : CarriedStep P w e.caller e run.0 = record {
      step = step;
      transfer = λ ticket chosen. absurd (boot_ends_none w ticket kept (subst (λ (k : ℕ). next w k ≡ Does (Done ticket)) alone.0 chosen));
    } in
    (run.0, one, alone_carried P run.0 es v goes stays run.2 alone.1)

pub boot_carried : (P : Ticket → Type 0) (s : Setup) (h : List Event) (v : World) → MayRun s → Boot (opening s) h v → CarriedRun P (opening s) h v
unfolding opening
boot_carried P s h v may boot = alone_carried P (opening s) h v may (opening_kept s may) boot.run boot.alone
