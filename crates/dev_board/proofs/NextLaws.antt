-- What a caller waits for, and when it has ended.
use Rattle.std.proofs.Common.{◌≡◌, ◌==◌, ◌&&◌, ℕ, Bool, true, false, not, cond, nat_lt, ◌+◌, option_map, List, [], ◌∷◌, find, reverse, length, Option, Some, None, refl, sym, ◌∙◌, ap, subst}
use Rattle.std.specs.Prelude.{⊤, slice_index_or}
use Rattle.std.specs.List.{AllByRecursion}
use Rattle.std.specs.Option.{option_map_or, option_or}
use Rattle.std.proofs.lemmas.Option.{same_Some}
use Rattle.std.proofs.lemmas.List.{reverse-append}
use Rattle.std.proofs.lemmas.List.Folds.{find-append}
use Rattle.cf_types.specs.declared.machine.Command.{Command}
use Rattle.cf_types.specs.declared.machine.Ticket.{Ticket}
use Rattle.run_rules.specs.declared.event.PowerKind.{PowerKind}
use Rattle.run_rules.specs.declared.event.PowerKind.TheVariants as kind
use Rattle.run_rules.specs.declared.deed.PowerEnd.TheVariants as ends
use Rattle.run_rules.specs.declared.world.Activity.{Activity}
use Rattle.run_rules.specs.declared.world.Activity.TheVariants as activity
use Rattle.run_rules.specs.declared.world.Dev.{Dev}
use Rattle.run_rules.specs.declared.world.Frame.{Frame}
use Rattle.run_rules.specs.declared.world.Frame.TheVariants.{Scan, Finaliser}
use Rattle.run_rules.specs.declared.world.Wait.{Wait}
use Rattle.run_rules.specs.declared.world.Wait.TheVariants as wait
use Rattle.run_rules.specs.declared.world.Ref.{Ref}
use Rattle.run_rules.specs.World.{World, caller_at, device_at, has_ended, holds_in, is_ended, is_held, is_number, is_pinned, is_referred, policy_of}
use Rattle.run_rules.specs.Sound.{IsFreed}
use Rattle.run_rules.specs.declared.deed.Choice.{Choice}
use Rattle.run_rules.specs.declared.deed.Deed.{Deed}
use Rattle.run_rules.specs.declared.deed.Deed.TheVariants.{BeginInterrupts, Done, Drop, EndCaller, EndPower, Free, Wake}
use Rattle.run_rules.specs.declared.deed.Choice.TheVariants.{Does, Ended, Waits}
use Rattle.run_rules.specs.Next.{by_activity, closing, command_deed, command_of, finalise, first_held, freeing, next, next_boot, next_command, next_free, next_sleep, next_wake, is_power, on_top, other_turn, powering, starting, suspending, waking}
use Rattle.run_rules.proofs.Devices.{found_in}
use Rattle.ref_ledger.specs.Slots.{Denial}
use Rattle.run_sound.specs.Kept.{Kept}
use Rattle.run_sound.proofs.Callers.{clash, doing_so, not_ended}
use Rattle.run_sound.proofs.Freeing.{is_numbered}
use Rattle.config_rules.proofs.Parts.{cond_both}
use Rattle.run_sound.proofs.Reasons.{option_both, has_command_reason}
use Rattle.dev_board.specs.Shown.{Shown}
use Rattle.dev_board.specs.Stepping.{DenialsAre, IsOfBoot, StepIs, WaitIs, kept_ticket, ticket_in}
use Rattle.dev_board.specs.declared.stepped.Stepped.{Stepped}
use Rattle.dev_board.specs.declared.stepped.Stepped.TheVariants as stepped
use Rattle.deed_effect.proofs.GoneLaws.{found_there, serial_found}
use Rattle.dev_board.proofs.Kept.{boot_idle}

-- ---- a caller that has not ended does something, or waits, but for no leases

abbrev GoesOn : Choice → Type 0
GoesOn Ended = ⊥
GoesOn (Waits (wait.Leases of mask)) = ⊥
GoesOn _ = ⊤

-- the choice does so
record Goes (c : Choice) : Type 0 where
  so : GoesOn c

does : (d : Deed) → Goes (Does d)
does d = record { so = tt }

if_goes : (b : Bool) (x y : Choice) → Goes x → Goes y → Goes (cond b x y)
if_goes b x y p q = cond_both Goes b x y (λ e. p) (λ e. q)

map_goes : {A : Type 0} (f : A → Choice) (o : Option A) (c : Choice) → ((a : A) → Goes (f a)) → Goes c → Goes (option_map_or f o c)
map_goes f o c p q = option_both Goes f o c (λ a e. p a) (λ e. q)

boot_goes : (w : World) → Goes (next_boot w)
unfolding next_boot
boot_goes w = if_goes (not w.interrupts_on) _ _ (does _) (if_goes _ _ _ (does _) (if_goes w.pass_repeats _ _ (does _) (does _)))

waits_turn : (j : ℕ) → Goes (Waits (wait.Power j))
waits_turn j = record { so = tt }

waits_scan : (s : ℕ) → Goes (Waits (wait.Scan s))
waits_scan s = record { so = tt }

waits_refs : (s : ℕ) → Goes (Waits (wait.Refs s))
waits_refs s = record { so = tt }

start_goes : (w : World) (k : ℕ) (said : Command) → Goes (starting w k said)
start_goes w k said =
    map_goes (λ j. Waits (wait.Power j)) (cond (is_power said) (other_turn w.power_owner k) None) (Does (command_deed w k ((caller_at w k).over + 1) said)) (λ j. waits_turn j) (does _)

close_goes : (w : World) (k : ℕ) → Goes (closing w k)
close_goes w k = map_goes (λ d. Does (Drop d.serial)) (first_held w k) (Does EndCaller) (λ d. does _) (does _)

command_goes : (w : World) (k : ℕ) → Goes (next_command w k)
unfolding next_command
command_goes w k = map_goes (starting w k) (command_of w k) (closing w k) (λ said. start_goes w k said) (close_goes w k)

top_goes : (w : World) (k : ℕ) (stack : List Frame) → Goes (on_top w k stack)
top_goes w k (Scan p only wanted from ∷ rest) = does _
top_goes w k (Finaliser s ∷ rest) = does _
top_goes w k [] = if_goes (k == 0) _ _ (boot_goes w) (command_goes w k)

suspend_goes : (w : World) (target : ℕ) → Goes (suspending w target)
unfolding suspending
suspend_goes w target =
    map_goes _ (next_sleep w.live target) (Does (EndPower ends.Done))
    (λ d. if_goes (is_pinned w d.serial) (Waits (wait.Scan d.serial)) _ (waits_scan d.serial)
    (if_goes (policy_of w.setup d.row).nopower _ _ (does _) (if_goes (policy_of w.setup d.row).failsuspend _ _ (does _) (does _)))) (does _)

wake_goes : (w : World) (target : ℕ) (whole : Bool) → Goes (waking w target whole)
unfolding waking
wake_goes w target whole = map_goes (λ d. Does (Wake d.serial)) (next_wake w.live target whole) (Does (EndPower ends.Done)) (λ d. does _) (does _)

power_goes : (w : World) (what : PowerKind) (target : ℕ) → Goes (powering w what target)
power_goes w kind.Suspend target = suspend_goes w target
power_goes w kind.Resume target = wake_goes w target false
power_goes w kind.ResumeTree target = wake_goes w target true

-- ---- while a caller frees there is one that it condemned

none_last : {A : Type 0} (p : A → Bool) (xs : List A) → find p (reverse xs) ≡ None → AllByRecursion (λ x. p x ≡ false) xs
none_last p [] e = tt
none_last {A} p (x ∷ xs) e =
    cases (none_last p xs) (find p (reverse xs)) refl (p x) refl (sym (ap (find p) (reverse-append (x ∷ []) xs) ∙ find-append p (reverse xs) (x ∷ [])) ∙ e)
  where
    cases : (find p (reverse xs) ≡ None → AllByRecursion (λ y. p y ≡ false) xs) → (o : Option A) → find p (reverse xs) ≡ o → (b : Bool) → p x ≡ b → option_or o (cond b (Some x) None) ≡ None
        → AllByRecursion (λ y. p y ≡ false) (x ∷ xs)
    cases more (Some y) f b g h = absurd cc
    cases more None f true g h = absurd cc
    cases more None f false g h = (g, more f)

some_freed : (w : World) (k s : ℕ) → IsFreed w k s → find (λ d. is_number d.condemned k) (reverse w.live) ≡ None → ⊥
some_freed w k s is none = cases (device_at w.live s) refl
  where
    cases : (o : Option Dev) → device_at w.live s ≡ o → ⊥
    cases None e = found_there w.live s is.1 e
    cases (Some d) e =
        let its : d.condemned ≡ Some k = found_in (λ (x : Dev). x.serial ≡ s → x.condemned ≡ Some k) (λ x. x.serial == s) w.live d is.0 e (serial_found w.live s d e) in
        clash (is_number d.condemned k) (is_numbered d.condemned k its)
        (found_in (λ (x : Dev). is_number x.condemned k ≡ false) (λ x. x.serial == s) w.live d (none_last (λ x. is_number x.condemned k) w.live none) e)

free_goes : (w : World) (k s : ℕ) → IsFreed w k s → Goes (freeing w k)
unfolding freeing next_free
free_goes w k s is = cases (find (λ d. is_number d.condemned k) (reverse w.live)) refl
  where
    cases : (o : Option Dev) → find (λ d. is_number d.condemned k) (reverse w.live) ≡ o
        → Goes (option_map_or (λ x. cond (is_referred w x) (Waits (wait.Refs x)) (Does (Free x))) (option_map (λ d. d.serial) o) Ended)
    cases None e = absurd (some_freed w k s is e)
    cases (Some d) e = if_goes (is_referred w d.serial) (Waits (wait.Refs d.serial)) (Does (Free d.serial)) (waits_refs d.serial) (does _)

-- ---- all of it

amid_goes : (w : World) (k : ℕ) (a : Activity) → ((s : ℕ) → a ≡ activity.Frees s → IsFreed w k s) → is_ended a ≡ false → Goes (by_activity w k a)
amid_goes w k activity.Ended freed goes = absurd cc
amid_goes w k (activity.Transfer ticket) freed goes = does _
amid_goes w k (activity.Frees s) freed goes = free_goes w k s (freed s refl)
amid_goes w k (activity.Power what target) freed goes = if_goes _ _ _ (power_goes w what target) (does _)
amid_goes w k activity.Scans freed goes = top_goes w k (caller_at w k).stack
amid_goes w k activity.Idle freed goes = top_goes w k (caller_at w k).stack

on_goes : (w : World) (k : ℕ) (waits : Bool) → Kept w → has_ended w k ≡ false → Goes (cond waits (Waits wait.Boot) (by_activity w k (caller_at w k).doing))
on_goes w k waits kept goes = if_goes waits _ _ (record { so = tt }) (amid_goes w k (caller_at w k).doing (kept.sound.callers k).target goes)

next_goes : (w : World) (k : ℕ) → Kept w → has_ended w k ≡ false → GoesOn (next w k)
unfolding next
next_goes w k kept goes = rw goes (on_goes w k (not (k == 0) && not (has_ended w 0)) kept goes).so

pub ended_so : (w : World) (k : ℕ) → Kept w → next w k ≡ Ended → has_ended w k ≡ true
ended_so w k kept e = cases (has_ended w k) refl
  where
    cases : (b : Bool) → has_ended w k ≡ b → has_ended w k ≡ true
    cases true h = h
    cases false h = absurd (subst GoesOn e (next_goes w k kept h))

pub ended_next : (w : World) (k : ℕ) → has_ended w k ≡ true → next w k ≡ Ended
unfolding next
ended_next w k over = rw over refl

apart : (why : Wait) → Ended ≡ Waits why → ⊥
apart why e = cc

waits_goes : (w : World) (k : ℕ) (why : Wait) → next w k ≡ Waits why → has_ended w k ≡ false
waits_goes w k why e = cases (has_ended w k) refl
  where
    cases : (b : Bool) → has_ended w k ≡ b → has_ended w k ≡ false
    cases true h = absurd (apart why (sym (ended_next w k h) ∙ e))
    cases false h = h

-- a choice that waits is no wait for leases
pub wait_is : (w : World) (k : ℕ) (why : Wait) → Kept w → next w k ≡ Waits why → WaitIs w k why
wait_is w k wait.Boot kept e = e
wait_is w k (wait.Power other) kept e = e
wait_is w k (wait.Refs s) kept e = e
wait_is w k (wait.Scan s) kept e = e
wait_is w k (wait.Leases of mask) kept e = absurd (subst GoesOn e (next_goes w k kept (waits_goes w k (wait.Leases of mask) e)))

-- so it counts no denial
pub quiet_wait : (w : World) (k : ℕ) (why : Wait) (live : List Dev) (denied : ℕ) (last : Option Denial) → Kept w → next w k ≡ Waits why → DenialsAre live denied last (stepped.Waits why) denied last
quiet_wait w k wait.Boot live denied last kept e = (refl, refl)
quiet_wait w k (wait.Power other) live denied last kept e = (refl, refl)
quiet_wait w k (wait.Refs s) live denied last kept e = (refl, refl)
quiet_wait w k (wait.Scan s) live denied last kept e = (refl, refl)
quiet_wait w k (wait.Leases of mask) live denied last kept e = absurd (subst GoesOn e (next_goes w k kept (waits_goes w k (wait.Leases of mask) e)))

-- ---- the boot waits for nothing

abbrev Acts : Choice → Type 0
Acts (Does d) = ⊤
Acts _ = ⊥

acts_if : (b : Bool) (x y : Deed) → Acts (cond b (Does x) (Does y))
acts_if true x y = tt
acts_if false x y = tt

acts_or : (b : Bool) (x : Deed) (c : Choice) → Acts c → Acts (cond b (Does x) c)
acts_or true x c p = tt
acts_or false x c p = p

top_acts : (w : World) (stack : List Frame) → Acts (on_top w 0 stack)
unfolding next_boot
top_acts w (Scan p only wanted from ∷ rest) = tt
top_acts w (Finaliser s ∷ rest) = tt
top_acts w [] =
    let pass_repeats : Deed = finalise w (slice_index_or w.finalisers 0 0) (Some 0) true in
    let one : Deed = finalise w (slice_index_or w.finalisers w.next_finaliser 0) (Some w.next_finaliser) false in
    acts_or (not w.interrupts_on) BeginInterrupts _ (acts_or (nat_lt w.next_finaliser (length w.finalisers)) one _ (acts_if w.pass_repeats pass_repeats EndCaller))

boot_acts : (w : World) → Kept w → has_ended w 0 ≡ false → Acts (next w 0)
unfolding next
boot_acts w kept goes = rw (goes, boot_idle w kept goes) (top_acts w (caller_at w 0).stack)

boot_waits : (w : World) (why : Wait) → Kept w → next w 0 ≡ Waits why → ⊥
boot_waits w why kept e = subst Acts e (boot_acts w kept (waits_goes w 0 why e))

no_transfer : (t : Ticket) (a : Activity) → a ≡ activity.Idle → a ≡ activity.Transfer t → ⊥
no_transfer t a idle e = cc

no_freeing : (s : ℕ) (a : Activity) → a ≡ activity.Idle → a ≡ activity.Frees s → ⊥
no_freeing s a idle e = cc

boot_transfers : (w : World) (t : Ticket) → Kept w → next w 0 ≡ Does (Done t) → ⊥
boot_transfers w t kept e =
    no_transfer t (caller_at w 0).doing (boot_idle w kept (doing_so w 0 (Done t) e).unended) (has_command_reason w 0 (Done t) e)

boot_frees : (w : World) (s : ℕ) → Kept w → next w 0 ≡ Does (Free s) → ⊥
boot_frees w s kept e =
    let why = has_command_reason w 0 (Free s) e in
    no_freeing why.target (caller_at w 0).doing (boot_idle w kept (doing_so w 0 (Free s) e).unended) why.amid

pub of_boot : (b n : Shown) (r : Stepped) → Kept b.world → StepIs b 0 r n → IsOfBoot r
of_boot b n (stepped.Did place told) kept is = tt
of_boot b n (stepped.Waits wait.Boot) kept is = boot_waits b.world wait.Boot kept is.1
of_boot b n (stepped.Waits (wait.Power other)) kept is = boot_waits b.world (wait.Power other) kept is.1
of_boot b n (stepped.Waits (wait.Refs s)) kept is = boot_waits b.world (wait.Refs s) kept is.1
of_boot b n (stepped.Waits (wait.Scan s)) kept is = boot_waits b.world (wait.Scan s) kept is.1
of_boot b n (stepped.Waits (wait.Leases of mask)) kept is = boot_frees b.world of kept is.1
of_boot b n (stepped.Transfer ticket told) kept is = boot_transfers b.world ticket kept is.2
of_boot b n (stepped.Stopped first told) kept is = tt
of_boot b n stepped.Closed kept is = tt
of_boot b n stepped.Memory kept is = tt

-- ---- the end of a transfer is what its caller does next

ticket_doing : (a : Activity) (t : Ticket) → ticket_in a ≡ Some t → a ≡ activity.Transfer t
ticket_doing (activity.Transfer s) t e = ap activity.Transfer (same_Some s t e)
ticket_doing activity.Idle t e = absurd cc
ticket_doing (activity.Frees s) t e = absurd cc
ticket_doing activity.Scans t e = absurd cc
ticket_doing (activity.Power what s) t e = absurd cc
ticket_doing activity.Ended t e = absurd cc

-- while the boot goes on nobody holds anything
over_held : (w : World) (k s : ℕ) → Kept w → is_held w k s ≡ true → has_ended w 0 ≡ true
over_held w k s kept held = cases (has_ended w 0) refl
  where
    none_held : (refs : List Ref) → refs ≡ [] → holds_in refs k s ≡ true → ⊥
    none_held refs none h = cc

    cases : (b : Bool) → has_ended w 0 ≡ b → has_ended w 0 ≡ true
    cases true h = h
    cases false h = absurd (none_held w.refs (kept.sound.boot (not_ended w 0 h)).no_refs held)

and_not_true : (b : Bool) → (b && not true) ≡ false
and_not_true true = refl
and_not_true false = refl

pub kept_next : (w : World) (k : ℕ) (t : Ticket) → Kept w → kept_ticket w k ≡ Some t → next w k ≡ Does (Done t)
unfolding next
kept_next w k t kept e =
    let doing : (caller_at w k).doing ≡ activity.Transfer t = ticket_doing (caller_at w k).doing t e in
    let over : has_ended w 0 ≡ true = over_held w k t.serial kept ((kept.sound.callers k).transfer t doing) in
    let goes : has_ended w k ≡ false = ap is_ended doing in
    rw (goes, over, and_not_true (not (k == 0)), doing) refl

-- and the other way
pub next_kept : (w : World) (k : ℕ) (t : Ticket) → next w k ≡ Does (Done t) → kept_ticket w k ≡ Some t
next_kept w k t e = ap ticket_in (has_command_reason w k (Done t) e)

-- ---- who does something else is in no transfer

same_deed : (d e : Deed) → Does d ≡ Does e → d ≡ e
same_deed d e h = cc

pub none_kept : (w : World) (k : ℕ) (d : Deed) → Kept w → next w k ≡ Does d → ((t : Ticket) → d ≡ Done t → ⊥) → kept_ticket w k ≡ None
none_kept w k d kept chosen other = cases (kept_ticket w k) refl
  where
    cases : (o : Option Ticket) → kept_ticket w k ≡ o → kept_ticket w k ≡ None
    cases None e = e
    cases (Some t) e = absurd (other t (same_deed d (Done t) (sym chosen ∙ kept_next w k t kept e)))
