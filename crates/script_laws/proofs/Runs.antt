-- So of every run.
use Rattle.std.proofs.Common.{◌≡◌, ℕ, zero, suc, ◌<◌, true, List, [], ◌∷◌, ◌++◌, length, sym, ap, ◌∙◌, subst, append_assoc, arith}
use Rattle.std.proofs.lemmas.List.{append-nil}
use Rattle.cf_types.specs.declared.machine.Command.{Command}
use Rattle.run_rules.specs.declared.event.Event.{Event}
use Rattle.run_rules.specs.declared.world.Setup.{Setup}
use Rattle.run_rules.specs.Counts.{ends_of}
use Rattle.run_rules.specs.World.{World, has_ended, opening}
use Rattle.run_rules.specs.After.{after}
use Rattle.run_rules.specs.Run.{Run, Step, event_of}
use Rattle.run_sound.specs.Kept.{MayRun}
use Rattle.run_sound.specs.Scripts.{IsOfScript, script_of}
use Rattle.history_laws.proofs.Stands.{Stands, stands_on, stands_open}
use Rattle.script_laws.specs.Whole.{AllRanWhole, AnswerEach, RanWhole, answers_to}
use Rattle.script_laws.proofs.Answered.{IsAnswered, answered_on, answered_open}
use Rattle.script_laws.proofs.Boots.{WaitsForBoot, begins, boot_over, waits_on, waits_open}
use Rattle.script_laws.proofs.Ends.{all_ended, ended_to, ends_on, ends_open}

-- each caller's commands are answered as far as it is, and the ends of scripts are counted
record Tells (h : List Event) (w : World) : Type 0 where
  stands : Stands h w
  each : (k : ℕ) → IsAnswered h w (suc k)
  ends : ends_of h ≡ ended_to w (length w.setup.scripts)
  waits : WaitsForBoot w

tells_on : (h : List Event) (w : World) (k : ℕ) (e : Event) (v : World) → Tells h w → Step w k e v → Tells (h ++ e ∷ []) v
tells_on h w k e v at step =
    let kept = at.stands.kept in
    let each : (j : ℕ) → IsAnswered (h ++ event_of w k step.deed ∷ []) (after w k step.deed) (suc j) =
    λ j. answered_on h w k (suc j) step.deed kept step.chosen (λ same. omega (arith, same)) (at.each j) in
    let ends : ends_of (h ++ event_of w k step.deed ∷ []) ≡ ended_to (after w k step.deed) (length (after w k step.deed).setup.scripts) = ends_on h w k step.deed kept step.chosen at.ends in
    record {
      stands = stands_on h w k e v at.stands step;
      each = λ j. subst (λ (f : Event). IsAnswered (h ++ f ∷ []) v (suc j)) (sym step.event) (subst (λ (x : World). IsAnswered (h ++ event_of w k step.deed ∷ []) x (suc j)) (sym step.world) (each j));
      ends =
          subst (λ (f : Event). ends_of (h ++ f ∷ []) ≡ ended_to v (length v.setup.scripts)) (sym step.event)
          (subst (λ (x : World). ends_of (h ++ event_of w k step.deed ∷ []) ≡ ended_to x (length x.setup.scripts)) (sym step.world) ends);
      waits = subst WaitsForBoot (sym step.world) (waits_on w k step.deed step.chosen at.waits);
    }

tells_run : (h : List Event) (w : World) (es : List Event) (v : World) → Tells h w → Run w es v → Tells (h ++ es) v
tells_run h w [] v at run = subst (λ (g : List Event). Tells g v) (sym (append-nil h)) (subst (Tells h) run at)
tells_run h w (e ∷ es) v at run =
    subst (λ (g : List Event). Tells g v) (append_assoc h (e ∷ []) es) (tells_run (h ++ e ∷ []) run.0 es v (tells_on h w e.caller e run.0 at run.1) run.2)

tells_open : (s : Setup) → MayRun s → Tells [] (opening s)
unfolding opening
tells_open s may = record { stands = stands_open s may; each = answered_open s; ends = ends_open s; waits = waits_open s }

tells_always : (s : Setup) (h : List Event) (v : World) → MayRun s → Run (opening s) h v → Tells h v
tells_always s h v may run = tells_run [] (opening s) h v (tells_open s may) run

-- ---- a script that has ended

whole : (h : List Event) (w : World) (k : ℕ) → IsAnswered h w k → has_ended w k ≡ true → RanWhole h w k
whole h w k at ended =
    let all : at.done ≡ script_of w.setup k = sym (at.split ∙ ap (λ (l : List Command). at.done ++ l) (at.whole ended) ∙ append-nil at.done) in
    record { ended = ended; answers = subst (λ (cs : List Command). AnswerEach 1 cs (answers_to k h)) all at.each }

whole_at : (h : List Event) (w : World) → Tells h w → (k : ℕ) → IsOfScript w.setup k → has_ended w k ≡ true → RanWhole h w k
whole_at h w at zero of ended = absurd (omega (arith, of.0))
whole_at h w at (suc k) of ended = whole h w (suc k) (at.each k) ended

pub whole_once_ended : (s : Setup) (h : List Event) (v : World) → MayRun s → Run (opening s) h v → (k : ℕ) → IsOfScript v.setup k → has_ended v k ≡ true → RanWhole h v k
whole_once_ended s h v may run = whole_at h v (tells_always s h v may run)

-- where all have ended
each_ended : (h : List Event) (w : World) → Tells h w → ends_of h ≡ length w.setup.scripts → (k : ℕ) → k < length w.setup.scripts → has_ended w (suc k) ≡ true
each_ended h w at full k lt = all_ended w (length w.setup.scripts) (sym at.ends ∙ full) k lt

each_whole : (h : List Event) (w : World) → Tells h w → ends_of h ≡ length w.setup.scripts → (k : ℕ) → IsOfScript w.setup k → RanWhole h w k
each_whole h w at full zero of = absurd (omega (arith, of.0))
each_whole h w at full (suc k) of = whole h w (suc k) (at.each k) (each_ended h w at full k (omega (arith, of.1)))

pub all_ran_whole : (s : Setup) (h : List Event) (v : World) → MayRun s → Run (opening s) h v → 0 < length v.setup.scripts → ends_of h ≡ length v.setup.scripts → AllRanWhole h v
all_ran_whole s h v may run some full =
    let at : Tells h v = tells_always s h v may run in
    record {
      boot = begins s h v run (boot_over v at.waits some (each_ended h v at full 0 some));
      scripts = each_whole h v at full;
    }
