-- A boot attaches each device that lives after it by one event.
use Rattle.std.proofs.Common.{◌≡◌, ℕ, ◌+◌, Bool, true, false, cond, not, List, [], ◌∷◌, ◌++◌, length, Option, Some, None, refl, sym, ◌∙◌, ap, subst, arith}
use Rattle.std.specs.Prelude.{count_by, filter, is_some, map, option_map, slice_set, slice_index_or}
use Rattle.std.specs.List.{AllByRecursion}
use Rattle.std.specs.Option.{option_map_or}
use Rattle.std.proofs.lemmas.List.{length_push}
use Rattle.std.proofs.lemmas.List.Sums.{sum_by-append}
use Rattle.cf_types.specs.declared.machine.Policy.{Policy}
use Rattle.run_rules.specs.declared.event.Event.{Event}
use Rattle.run_rules.specs.declared.world.Activity.{Activity}
use Rattle.run_rules.specs.declared.world.Activity.TheVariants as activity
use Rattle.run_rules.specs.declared.world.Arrival.{Arrival}
use Rattle.run_rules.specs.declared.world.Frame.{Frame}
use Rattle.run_rules.specs.declared.world.Frame.TheVariants.{Scan, Finaliser}
use Rattle.run_rules.specs.declared.world.Key.{Key}
use Rattle.run_rules.specs.declared.world.Key.TheVariants as key
use Rattle.run_rules.specs.declared.world.Placing.{Placing}
use Rattle.run_rules.specs.declared.world.Placing.TheVariants.{Nowhere, Queued, PutOff, Pushed}
use Rattle.run_rules.specs.declared.world.Setup.{Setup}
use Rattle.run_rules.specs.World.{World, Caller, caller_at, has_ended, nobody, offered_by, opening, policy_of, scan_of}
use Rattle.run_rules.specs.declared.deed.Deed.{Deed}
use Rattle.run_rules.specs.declared.deed.Deed.TheVariants.{Search, EndScan, BeginInterrupts, Finalise, EndCaller}
use Rattle.run_rules.specs.declared.deed.Choice.{Choice}
use Rattle.run_rules.specs.declared.deed.Choice.TheVariants.{Ended, Does}
use Rattle.run_rules.specs.Next.{by_activity, finalise, next, next_boot, next_scan, on_top}
use Rattle.run_rules.specs.After.{after, arrived, attached, finaliser_done, finaliser_placed, finaliser_placing, list_moved, listed, moved_top, place_finaliser, place_scan, released, same_key, scan_placed, scan_placing, settled, show_spot, under_top, with_stack}
use Rattle.run_rules.specs.Run.{Boot, Run, event_of, printed}
use Rattle.run_rules.proofs.Lives.{attached_live}
use Rattle.app_tasks.specs.Summary.{attaches}

-- ---- what a boot does

-- what comes when a finaliser is called comes to the spot that it shows
abbrev comes_to : Option ℕ → Option Arrival → Bool
comes_to None got = not (is_some got)
comes_to (Some x) got = true

-- the deeds of a boot
abbrev is_of_boot : Deed → Bool
is_of_boot (Search p spot to got) = true
is_of_boot (EndScan p) = true
is_of_boot BeginInterrupts = true
is_of_boot (Finalise s spot got listed anew) = comes_to spot got
is_of_boot EndCaller = true
is_of_boot _ = false

abbrev does_of_boot : Choice → Bool
does_of_boot (Does deed) = is_of_boot deed
does_of_boot _ = true

-- a record, so that a lemma's arguments can be found from it
record OfBoot (c : Choice) : Type 0 where
  of_boot : does_of_boot c ≡ true

boot_if : (b : Bool) (x y : Choice) → OfBoot x → OfBoot y → OfBoot (cond b x y)
boot_if true x y p q = p
boot_if false x y p q = q

boot_option : {A : Type 0} (f : A → Deed) (o : Option A) (d : Deed) → ((a : A) → OfBoot (Does (f a))) → OfBoot (Does d) → OfBoot (Does (option_map_or f o d))
boot_option f None d p q = q
boot_option f (Some a) d p q = p a

boot_leaf : (c : Choice) → does_of_boot c ≡ true → OfBoot c
boot_leaf c h = record { of_boot = h }

ruleset boot_steps = (boot_if, boot_option, boot_leaf)

finalise_of_boot : (w : World) (s : ℕ) (listed : Option ℕ) (anew : Bool) → OfBoot (Does (finalise w s listed anew))
unfolding finalise
finalise_of_boot w s listed anew = search boot_steps

next_boot_of_boot : (w : World) → OfBoot (next_boot w)
unfolding next_boot
next_boot_of_boot w = search (boot_steps, finalise_of_boot)

on_top_of_boot : (w : World) (stack : List Frame) → OfBoot (on_top w 0 stack)
unfolding next_scan
on_top_of_boot w [] = next_boot_of_boot w
on_top_of_boot w (Scan p only wanted from ∷ rest) = search boot_steps
on_top_of_boot w (Finaliser s ∷ rest) = finalise_of_boot w s None false

-- the activities of a caller that has no command in force
abbrev is_calm : Activity → Bool
is_calm activity.Ended = true
is_calm activity.Idle = true
is_calm activity.Scans = true
is_calm _ = false

abbrev Calm : World → Type 0
Calm w = is_calm (caller_at w 0).doing ≡ true

activity_of_boot : (w : World) (a : Activity) → is_calm a ≡ true → OfBoot (by_activity w 0 a)
activity_of_boot w activity.Ended calm = boot_leaf Ended refl
activity_of_boot w activity.Idle calm = on_top_of_boot w (caller_at w 0).stack
activity_of_boot w activity.Scans calm = on_top_of_boot w (caller_at w 0).stack
activity_of_boot w (activity.Transfer ticket) calm = absurd cc
activity_of_boot w (activity.Frees target) calm = absurd cc
activity_of_boot w (activity.Power kind target) calm = absurd cc

next_of_boot : (w : World) → Calm w → OfBoot (next w 0)
unfolding next
next_of_boot w calm = boot_if (has_ended w 0) Ended (by_activity w 0 (caller_at w 0).doing) (boot_leaf Ended refl) (activity_of_boot w (caller_at w 0).doing calm)

-- ---- the boot's caller stays so

calm_with : (callers : List Caller) (c : Caller) → is_calm c.doing ≡ true → is_calm (slice_index_or (slice_set callers 0 c) 0 nobody).doing ≡ true
calm_with [] c calm = refl
calm_with (other ∷ callers) c calm = calm

calm_settled : (over : ℕ) (a : Activity) (stack : List Frame) → is_calm a ≡ true → is_calm (settled (record { over = over; doing = a; stack = stack })).doing ≡ true
calm_settled over activity.Ended stack calm = refl
calm_settled over activity.Idle stack calm = refl
calm_settled over activity.Scans [] calm = refl
calm_settled over activity.Scans (f ∷ stack) calm = refl
calm_settled over (activity.Transfer ticket) stack calm = absurd cc
calm_settled over (activity.Frees target) stack calm = absurd cc
calm_settled over (activity.Power kind target) stack calm = absurd cc

calm_stack : (w : World) (stack : List Frame) → Calm w → Calm (with_stack w 0 stack)
calm_stack w stack calm =
    calm_with w.callers (settled (record { over = (caller_at w 0).over; doing = (caller_at w 0).doing; stack = stack }))
    (calm_settled (caller_at w 0).over (caller_at w 0).doing stack calm)

calm_finaliser : (c : Placing) (w : World) (s : ℕ) → Calm w → Calm (place_finaliser c w 0 s)
calm_finaliser Nowhere w s calm = calm
calm_finaliser Queued w s calm = calm
calm_finaliser PutOff w s calm = calm
calm_finaliser Pushed w s calm = calm_stack w (Finaliser s ∷ (caller_at w 0).stack) calm

calm_scan : (c : Placing) (w : World) (parent s : ℕ) → Calm w → Calm (place_scan c w 0 parent s)
calm_scan Nowhere w parent s calm = calm
calm_scan Queued w parent s calm = calm
calm_scan PutOff w parent s calm = calm
calm_scan Pushed w parent s calm = calm_stack w (scan_of s ∷ (caller_at w 0).stack) calm

calm_attached : (w : World) (a : Arrival) (b : Bool) → Calm w → Calm (attached w 0 a b)
unfolding attached listed finaliser_placed scan_placed
calm_attached w a b calm =
    let p : Policy = policy_of w.setup a.row in
    let come : World = listed w a in
    let placed : World = place_finaliser (finaliser_placing p (has_ended come 0)) come 0 w.next in
    calm_scan (scan_placing p (offered_by w.setup a.row) placed.interrupts_on b) placed a.parent w.next
    (calm_finaliser (finaliser_placing p (has_ended come 0)) come w.next calm)

calm_arrived : (w : World) (got : Option Arrival) (b : Bool) → Calm w → Calm (arrived w 0 got b)
calm_arrived w None b calm = calm
calm_arrived w (Some a) b calm = calm_attached w a b calm

calm_shown : (w : World) (spot : Option ℕ) → Calm w → Calm (show_spot w spot)
calm_shown w None calm = calm
calm_shown w (Some x) calm = calm

calm_moved : (w : World) (place : Option ℕ) (anew answer : Bool) → Calm w → Calm (list_moved w place anew answer)
calm_moved w None anew answer calm = calm
calm_moved w (Some place) anew answer calm = calm

calm_done : (w : World) (place : Option ℕ) (answer : Bool) → Calm w → Calm (finaliser_done w 0 place answer)
calm_done w (Some place) answer calm = calm
calm_done w None true calm = calm
calm_done w None false calm = calm_stack w _ calm

calm_released : (w : World) (which : Key) (rest : List Frame) → Calm w → Calm (released w 0 which rest)
unfolding released
calm_released w which rest calm =
    calm_stack (record w { deferred = filter (λ e. not (same_key e.key which)) w.deferred })
    (map (λ e. scan_of e.child) (filter (λ e. same_key e.key which) w.deferred) ++ rest) calm

calm_after : (w : World) (d : Deed) → is_of_boot d ≡ true → Calm w → Calm (after w 0 d)
unfolding after
calm_after w (Search p spot to got) of_boot calm = calm_arrived (with_stack w 0 (moved_top to (caller_at w 0).stack)) got true (calm_stack w (moved_top to (caller_at w 0).stack) calm)
calm_after w (EndScan p) of_boot calm = calm_released w (key.Parent p) (under_top (caller_at w 0).stack) calm
calm_after w BeginInterrupts of_boot calm = calm_released (record w { interrupts_on = true }) key.Interrupts (caller_at w 0).stack calm
calm_after w (Finalise s spot got place anew) of_boot calm =
    calm_done (list_moved (arrived (show_spot w spot) 0 got false) place anew (is_some spot)) place (is_some spot)
    (calm_moved (arrived (show_spot w spot) 0 got false) place anew (is_some spot) (calm_arrived (show_spot w spot) got false (calm_shown w spot calm)))
calm_after w EndCaller of_boot calm = calm_with w.callers (record { over = (caller_at w 0).over; doing = activity.Ended; stack = (caller_at w 0).stack }) refl
calm_after w _ of_boot calm = absurd cc

-- ---- the live devices, one more for each event that attaches one

abbrev one_if : Bool → ℕ
one_if b = cond b 1 0

arrived_many : (w : World) (got : Option Arrival) (b : Bool) → length (arrived w 0 got b).live ≡ length w.live + one_if (is_some got)
arrived_many w None b = omega arith
arrived_many w (Some a) b = ap length (attached_live w 0 a b) ∙ length_push w.live _

shown_many : (w : World) (spot : Option ℕ) → length (show_spot w spot).live ≡ length w.live
shown_many w None = refl
shown_many w (Some x) = refl

moved_live : (w : World) (place : Option ℕ) (anew answer : Bool) → (list_moved w place anew answer).live ≡ w.live
moved_live w None anew answer = refl
moved_live w (Some place) anew answer = refl

done_live : (w : World) (place : Option ℕ) (answer : Bool) → (finaliser_done w 0 place answer).live ≡ w.live
done_live w (Some place) answer = refl
done_live w None true = refl
done_live w None false = refl

some_named : {A B C : Type 0} (f : A → B) (g : B → C) (o : Option A) → is_some (option_map g (option_map f o)) ≡ is_some o
some_named f g None = refl
some_named f g (Some a) = refl

final_many : (w : World) (spot : Option ℕ) (got : Option Arrival) (place : Option ℕ) (anew : Bool)
    → length (finaliser_done (list_moved (arrived (show_spot w spot) 0 got false) place anew (is_some spot)) 0 place (is_some spot)).live ≡ length w.live + one_if (is_some got)
final_many w spot got place anew =
    ap length (done_live (list_moved (arrived (show_spot w spot) 0 got false) place anew (is_some spot)) place (is_some spot)
    ∙ moved_live (arrived (show_spot w spot) 0 got false) place anew (is_some spot))
    ∙ arrived_many (show_spot w spot) got false
    ∙ ap (λ n. n + one_if (is_some got)) (shown_many w spot)

after_many : (w : World) (d : Deed) → is_of_boot d ≡ true → length (after w 0 d).live ≡ length w.live + one_if (attaches (event_of w 0 d))
unfolding after released event_of printed
after_many w (Search p spot to got) of_boot =
    arrived_many (with_stack w 0 (moved_top to (caller_at w 0).stack)) got true ∙ ap (λ b. length w.live + one_if b) (sym (some_named _ _ got))
after_many w (EndScan p) of_boot = omega arith
after_many w BeginInterrupts of_boot = omega arith
after_many w (Finalise s (Some x) got place anew) of_boot = final_many w (Some x) got place anew ∙ ap (λ b. length w.live + one_if b) (sym (some_named _ _ got))
after_many w (Finalise s None None place anew) of_boot = final_many w None None place anew
after_many w (Finalise s None (Some a) place anew) of_boot = absurd cc
after_many w EndCaller of_boot = omega arith
after_many w _ of_boot = absurd cc

-- ---- so it is over a whole run of the boot's caller

count_first : (p : Event → Bool) (e : Event) (h : List Event) → count_by p (e ∷ h) ≡ one_if (p e) + count_by p h
count_first p e h = omega (arith, sum_by-append (λ x. one_if (p x)) (e ∷ []) h)

one_does : (w : World) (d : Deed) → OfBoot (next w 0) → next w 0 ≡ Does d → is_of_boot d ≡ true
one_does w d of_boot is = subst (λ (c : Choice). does_of_boot c ≡ true) is of_boot.of_boot

devices_from : (w : World) (h : List Event) (v : World) → Calm w → AllByRecursion (λ e. e.caller ≡ 0) h → Run w h v → length v.live ≡ length w.live + count_by attaches h
devices_from w [] v calm alone run = ap (λ (x : World). length x.live) (sym run) ∙ omega arith
devices_from w (e ∷ h) v calm alone run =
    let d : Deed = run.1.deed in
    let chosen : next w 0 ≡ Does d = subst (λ k. next w k ≡ Does d) alone.0 run.1.chosen in
    let of_boot : is_of_boot d ≡ true = one_does w d (next_of_boot w calm) chosen in
    let world : run.0 ≡ after w 0 d = subst (λ k. run.0 ≡ after w k d) alone.0 run.1.world in
    let event : e ≡ event_of w 0 d = subst (λ k. e ≡ event_of w k d) alone.0 run.1.event in
    let here : length run.0.live ≡ length w.live + one_if (attaches e) = ap (λ (x : World). length x.live) world ∙ after_many w d of_boot ∙ ap (λ (x : Event). length w.live + one_if (attaches x)) (sym event) in
    let rest = devices_from run.0 h v (subst Calm (sym world) (calm_after w d of_boot calm)) alone.1 run.2 in
    omega (arith, here, rest, count_first attaches e h)

calm_opening : (s : Setup) → Calm (opening s)
unfolding opening
calm_opening s = refl

-- the live devices after a boot are as many as its events that attach one
pub boot_devices : (s : Setup) (h : List Event) (v : World) → Boot (opening s) h v → length v.live ≡ count_by attaches h
unfolding opening
boot_devices s h v boot = let from : length v.live ≡ 0 + count_by attaches h = devices_from (opening s) h v (calm_opening s) boot.alone boot.run in omega (arith, from)
