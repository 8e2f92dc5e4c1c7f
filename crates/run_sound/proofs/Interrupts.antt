-- Interrupts work once the boot has ended.
use Rattle.std.proofs.Common.{◌≡◌, Bool, true, false, List, [], ◌∷◌, Some, None, refl, sym, ap, ◌∙◌, inl, inr, ℕ}
use Rattle.std.specs.Prelude.{if◌then◌else◌}
use Rattle.run_rules.specs.declared.world.Activity.{Activity}
use Rattle.run_rules.specs.declared.world.Activity.TheVariants as activity
use Rattle.run_rules.specs.declared.world.Arrival.{Arrival}
use Rattle.run_rules.specs.declared.world.Frame.{Frame}
use Rattle.run_rules.specs.declared.world.Setup.{Setup}
use Rattle.run_rules.specs.declared.deed.Deed.{Deed}
use Rattle.run_rules.specs.declared.deed.Deed.TheVariants.{Search, EndScan, BeginInterrupts, Finalise, EndCaller, Free, Unplug}
use Rattle.run_rules.specs.declared.deed.Choice.TheVariants.{Does}
use Rattle.run_rules.specs.World.{World, caller_at, has_ended, is_ended, opening}
use Rattle.run_rules.specs.Next.{next}
use Rattle.run_rules.specs.After.{after, freed, freeing_target, listed, over, released, settled}
use Rattle.run_sound.proofs.Coming.{IsEnd}
use Rattle.run_sound.specs.Kept.{Kept}
use Rattle.run_sound.specs.InFull.{InterruptsWork}
use Rattle.run_sound.proofs.Beside.{IsBeside, call_part, search_part}
use Rattle.run_sound.proofs.Callers.{boot_alone, clash}
use Rattle.run_sound.proofs.OwnCaller.{IsBootDeed, StaysStacked, own_finalised, own_scan_over, own_searched}
use Rattle.run_sound.proofs.RangesCallers.{boot_deed}
use Rattle.run_sound.proofs.Reasons.{has_reason}

-- ---- they go on working

on_beside : IsBeside (λ (w : World). w.interrupts_on)
on_beside = record { callers = λ w cs. refl; finalisers = λ w xs. refl; deferred = λ w es. refl; place = λ w n b. refl; hidden = λ w xs. refl }

come_on : (w : World) (a : Arrival) → (listed w a).interrupts_on ≡ w.interrupts_on
unfolding listed
come_on w a = refl

freed_on : (w : World) (k s : ℕ) (last : Bool) → (if last then over (freed w s) k else freed w s).interrupts_on ≡ w.interrupts_on
freed_on w k s true = refl
freed_on w k s false = refl

stay_on : (w : World) (k : ℕ) (d : Deed) → w.interrupts_on ≡ true → (after w k d).interrupts_on ≡ true
unfolding after released
stay_on w k (Search p spot to got) on = search_part (λ (w : World). w.interrupts_on) on_beside come_on w k p spot to got ∙ on
stay_on w k BeginInterrupts on = refl
stay_on w k (Finalise s shown got place anew) on = call_part (λ (w : World). w.interrupts_on) on_beside come_on w k s shown got place anew ∙ on
stay_on w k (Free s) on = freed_on w k s (freeing_target (caller_at w k).doing s) ∙ on
stay_on w k (Unplug x None) on = on
stay_on w k (Unplug x (Some s)) on = on
stay_on w k d on = on

-- ---- the boot ends where they work

-- no change of frames ends a caller
goes_on : StaysStacked (λ c. is_ended c.doing ≡ false)
goes_on c stack h = settles c.over c.doing stack h
  where
    settles : (n : ℕ) (a : Activity) (fs : List Frame) → is_ended a ≡ false → is_ended (settled (record { over = n; doing = a; stack = fs })).doing ≡ false
    settles n activity.Idle fs e = e
    settles n activity.Ended fs e = e
    settles n (activity.Transfer t) fs e = e
    settles n (activity.Frees s) fs e = e
    settles n activity.Scans [] e = refl
    settles n activity.Scans (f ∷ fs) e = e
    settles n (activity.Power kind s) fs e = e

begun_on : (w : World) → (after w 0 BeginInterrupts).interrupts_on ≡ true
unfolding after released
begun_on w = refl

-- so only its end ends caller 0
ends_on : (w : World) (d : Deed) → next w 0 ≡ Does d → IsBootDeed d → has_ended w 0 ≡ false → has_ended (after w 0 d) 0 ≡ true → (after w 0 d).interrupts_on ≡ true
ends_on w (Search p spot to got) e is goes ended =
    clash (has_ended (after w 0 (Search p spot to got)) 0) ended (own_searched (λ c. is_ended c.doing ≡ false) goes_on w 0 p spot to got goes)
ends_on w (EndScan p) e is goes ended = clash (has_ended (after w 0 (EndScan p)) 0) ended (own_scan_over (λ c. is_ended c.doing ≡ false) goes_on w 0 p goes)
ends_on w BeginInterrupts e is goes ended = begun_on w
ends_on w (Finalise s shown got place anew) e is goes ended =
    clash (has_ended (after w 0 (Finalise s shown got place anew)) 0) ended (own_finalised (λ c. is_ended c.doing ≡ false) goes_on w 0 s shown got place anew goes)
ends_on w EndCaller e is goes ended =
    let why : IsEnd w 0 = has_reason w 0 EndCaller e in
    stay_on w 0 EndCaller (elim why.over [ inl boot ↦ boot.1 | inr script ↦ absurd (script.0 refl) ])
ends_on w d e is goes ended = absurd is

pub interrupts_after : (w : World) (k : ℕ) (d : Deed) → Kept w → next w k ≡ Does d → InterruptsWork w → InterruptsWork (after w k d)
interrupts_after w k d kept e before ended = cases (has_ended w 0) refl
  where
    by_boot : has_ended w 0 ≡ false → k ≡ 0 → (after w k d).interrupts_on ≡ true
    by_boot goes same =
        let chosen : next w 0 ≡ Does d = ap (next w) (sym same) ∙ e in
        ap (λ (j : ℕ). (after w j d).interrupts_on) same
        ∙ ends_on w d chosen (boot_deed w d kept.ranges.callers.booting chosen) goes (ap (λ (j : ℕ). has_ended (after w j d) 0) (sym same) ∙ ended)

    cases : (b : Bool) → has_ended w 0 ≡ b → (after w k d).interrupts_on ≡ true
    cases true is = stay_on w k d (before is)
    cases false is = by_boot is (boot_alone w k d e is)

pub interrupts_open : (s : Setup) → InterruptsWork (opening s)
unfolding opening
interrupts_open s ended = absurd cc
