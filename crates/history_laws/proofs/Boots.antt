-- A boot condemns nothing, refers to nothing, and does nothing in a script's name.
use Rattle.std.proofs.Common.{◌≡◌, ℕ, Bool, true, false, cond, List, [], ◌∷◌, ◌++◌, Some, None, refl, sym, ap, ◌∙◌, subst, arith}
use Rattle.std.specs.Prelude.{count_by}
use Rattle.std.specs.List.{AllByRecursion}
use Rattle.std.proofs.lemmas.List.Sums.{sum_by-cons}
use Rattle.run_rules.specs.declared.event.Event.{Event}
use Rattle.run_rules.specs.declared.world.Arrival.{Arrival}
use Rattle.run_rules.specs.declared.world.Dev.{Dev}
use Rattle.run_rules.specs.declared.world.Setup.{Setup}
use Rattle.run_rules.specs.declared.deed.Deed.{Deed}
use Rattle.run_rules.specs.declared.deed.Deed.TheVariants.{Search, EndScan, BeginInterrupts, Finalise, EndCaller, Drop, Refuse, Open, Close, Start, Done, Detach, Free, Rescan, BeginPower, Sleep, Wake, EndPower, Plug, Unplug, Tell}
use Rattle.run_rules.specs.declared.deed.Choice.TheVariants.{Does}
use Rattle.run_rules.specs.After.{after, new_device}
use Rattle.run_rules.specs.Counts.{closes_script, dids_of, ends_of, is_of_script}
use Rattle.run_rules.specs.Next.{next}
use Rattle.run_rules.specs.Run.{Boot, Run, Step}
use Rattle.run_rules.specs.World.{World, opening}
use Rattle.run_rules.proofs.Devices.{all_snoc}
use Rattle.run_sound.specs.Holding.{opened_by, returned_by}
use Rattle.run_sound.specs.Kept.{Kept, MayRun}
use Rattle.run_sound.proofs.Holding.{refs_same}
use Rattle.run_sound.proofs.Reasons.{has_command_reason}
use Rattle.run_sound.proofs.References.{amid_later}
use Rattle.history_laws.specs.Calm.{IsCalm}
use Rattle.history_laws.proofs.Stands.{Stands, stands_on, stands_open}
use Rattle.run_sound.proofs.Beside.{leaves_devices, live_found, live_same, live_shown}

-- nothing is condemned, and nothing is held
record IsQuiet (w : World) : Type 0 where
  spared : AllByRecursion (λ d. d.condemned ≡ None) w.live
  unheld : w.refs ≡ []

calm_same : (w : World) (k : ℕ) (d : Deed) → leaves_devices d ≡ true → opened_by d ≡ None → returned_by d ≡ None → IsQuiet w → IsQuiet (after w k d)
calm_same w k d leaves opens returns calm = record { spared = rw (live_same w k d leaves) calm.spared; unheld = refs_same w k d opens returns ∙ calm.unheld }

calm_come : (w : World) (k : ℕ) (d : Deed) (a : Arrival) → (after w k d).live ≡ w.live ++ new_device w a ∷ [] → opened_by d ≡ None → returned_by d ≡ None → IsQuiet w → IsQuiet (after w k d)
calm_come w k d a live opens returns calm = record {
  spared = rw live (all_snoc (λ (c : Dev). c.condemned ≡ None) w.live (new_device w a) calm.spared refl);
  unheld = refs_same w k d opens returns ∙ calm.unheld;
}

-- caller 0 has no commands, and is in the middle of nothing
calm_after : (w : World) (d : Deed) → Kept w → next w 0 ≡ Does d → IsQuiet w → IsQuiet (after w 0 d)
calm_after w (Search p spot to None) kept e calm = calm_same w 0 (Search p spot to None) refl refl refl calm
calm_after w (Search p spot to (Some a)) kept e calm = calm_come w 0 (Search p spot to (Some a)) a (live_found w 0 p spot to a) refl refl calm
calm_after w (EndScan p) kept e calm = calm_same w 0 (EndScan p) refl refl refl calm
calm_after w BeginInterrupts kept e calm = calm_same w 0 BeginInterrupts refl refl refl calm
calm_after w (Finalise s shown None place anew) kept e calm = calm_same w 0 (Finalise s shown None place anew) refl refl refl calm
calm_after w (Finalise s shown (Some a) place anew) kept e calm = calm_come w 0 (Finalise s shown (Some a) place anew) a (live_shown w 0 s shown a place anew) refl refl calm
calm_after w EndCaller kept e calm = calm_same w 0 EndCaller refl refl refl calm
calm_after w (Drop s) kept e calm = absurd ((has_command_reason w 0 (Drop s) e).between.later refl)
calm_after w (Refuse why) kept e calm = absurd ((has_command_reason w 0 (Refuse why) e).between.later refl)
calm_after w (Open s sole) kept e calm = absurd ((has_command_reason w 0 (Open s sole) e).begins.between.later refl)
calm_after w (Close s) kept e calm = absurd ((has_command_reason w 0 (Close s) e).begins.between.later refl)
calm_after w (Start t) kept e calm = absurd ((has_command_reason w 0 (Start t) e).begins.between.later refl)
calm_after w (Detach s) kept e calm = absurd ((has_command_reason w 0 (Detach s) e).begins.between.later refl)
calm_after w (Rescan s only) kept e calm = absurd ((has_command_reason w 0 (Rescan s only) e).begins.between.later refl)
calm_after w (BeginPower what s) kept e calm = absurd ((has_command_reason w 0 (BeginPower what s) e).begins.between.later refl)
calm_after w (Plug x) kept e calm = absurd ((has_command_reason w 0 (Plug x) e).begins.between.later refl)
calm_after w (Unplug x None) kept e calm = absurd ((has_command_reason w 0 (Unplug x None) e).begins.between.later refl)
calm_after w (Unplug x (Some s)) kept e calm = absurd ((has_command_reason w 0 (Unplug x (Some s)) e).begins.between.later refl)
calm_after w Tell kept e calm = absurd ((has_command_reason w 0 Tell e).begins.between.later refl)
calm_after w (Done t) kept e calm = let amid = has_command_reason w 0 (Done t) e in absurd (amid_later w 0 kept.ranges (λ idle. absurd cc) (λ over. absurd cc) refl)
calm_after w (Free s) kept e calm = let amid = (has_command_reason w 0 (Free s) e).amid in absurd (amid_later w 0 kept.ranges (λ idle. absurd cc) (λ over. absurd cc) refl)
calm_after w (Sleep s) kept e calm = let amid = (has_command_reason w 0 (Sleep s) e).amid in absurd (amid_later w 0 kept.ranges (λ idle. absurd cc) (λ over. absurd cc) refl)
calm_after w (Wake s) kept e calm = let amid = (has_command_reason w 0 (Wake s) e).amid in absurd (amid_later w 0 kept.ranges (λ idle. absurd cc) (λ over. absurd cc) refl)
calm_after w (EndPower end) kept e calm = let amid = (has_command_reason w 0 (EndPower end) e).amid in absurd (amid_later w 0 kept.ranges (λ idle. absurd cc) (λ over. absurd cc) refl)

abbrev AreOfBoot : List Event → Type 0
AreOfBoot h = AllByRecursion (λ e. e.caller ≡ 0) h

calm_run : (g : List Event) (w : World) (h : List Event) (v : World) → Stands g w → AreOfBoot h → Run w h v → IsQuiet w → IsQuiet v
calm_run g w [] v at alone run calm = subst IsQuiet run calm
calm_run g w (e ∷ h) v at alone run calm =
    let step : Step w 0 e run.0 = subst (λ (k : ℕ). Step w k e run.0) alone.0 run.1 in
    calm_run (g ++ e ∷ []) run.0 h v (stands_on g w e.caller e run.0 at run.1) alone.1 run.2 (subst IsQuiet (sym step.world) (calm_after w step.deed at.kept step.chosen calm))

calm_open : (s : Setup) → IsQuiet (opening s)
unfolding opening
calm_open s = record { spared = tt; unheld = refl }

-- ---- what is counted of it

none_counted : (p : Event → Bool) (h : List Event) → AllByRecursion (λ e. p e ≡ false) h → count_by p h ≡ 0
none_counted p [] off = refl
none_counted p (e ∷ h) off = omega (arith, sum_by-cons (λ e. cond (p e) 1 0) e h, ap (λ (b : Bool). one_if b) off.0, none_counted p h off.1)
  where
    one_if : Bool → ℕ
    one_if b = cond b 1 0

not_scripts : (h : List Event) → AreOfBoot h → AllByRecursion (λ e. is_of_script e ≡ false) h
not_scripts [] alone = tt
not_scripts (e ∷ h) alone = (rw alone.0 refl, not_scripts h alone.1)

no_closes : (h : List Event) → AreOfBoot h → AllByRecursion (λ e. closes_script e ≡ false) h
unfolding closes_script
no_closes [] alone = tt
no_closes (e ∷ h) alone = (rw alone.0 refl, no_closes h alone.1)

no_dids : (h : List Event) → AreOfBoot h → dids_of h ≡ 0
no_dids h alone = none_counted is_of_script h (not_scripts h alone)

no_ends : (h : List Event) → AreOfBoot h → ends_of h ≡ 0
no_ends h alone = none_counted closes_script h (no_closes h alone)

pub calm_boot : (s : Setup) (h : List Event) (v : World) → MayRun s → Boot (opening s) h v → IsCalm h v
calm_boot s h v may boot =
    let quiet : IsQuiet v = calm_run [] (opening s) h v (stands_open s may) boot.alone boot.run (calm_open s) in
    record { spared = quiet.spared; unheld = quiet.unheld; no_dids = no_dids h boot.alone; no_ends = no_ends h boot.alone }
