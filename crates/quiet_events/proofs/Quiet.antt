-- After a quiet event who waits still waits.
use Rattle.std.proofs.Common.{◌≡◌, ◌≢◌, ℕ, ◌==◌, ◌&&◌, Bool, true, false, cond, List, [], ◌∷◌, ◌++◌, map, find, reverse, Option, Some, None, refl, sym, ap, ◌∙◌, subst, inl, inr, eqb-true}
use Rattle.std.proofs.lemmas.Bool.{or_left, or_right, or_cases}
use Rattle.std.specs.List.{list_any}
use Rattle.std.specs.Option.{option_map_or, option_or}
use Rattle.std.proofs.lemmas.List.{reverse-append}
use Rattle.std.proofs.lemmas.List.Folds.{find-append}
use Rattle.std.specs.Prelude.{length, ◌<◌}
use Rattle.cf_types.specs.declared.machine.Command.{Command}
use Rattle.run_rules.specs.declared.event.Act.{Act}
use Rattle.run_rules.specs.declared.event.Act.TheVariants as act
use Rattle.run_rules.specs.declared.event.PowerKind.{PowerKind}
use Rattle.run_rules.specs.declared.event.PowerKind.TheVariants as kind
use Rattle.run_rules.specs.declared.event.Reply.TheVariants as reply
use Rattle.run_rules.specs.declared.world.Dev.{Dev}
use Rattle.run_rules.specs.declared.world.Frame.{Frame}
use Rattle.run_rules.specs.declared.world.Frame.TheVariants.{Scan, Finaliser}
use Rattle.run_rules.specs.declared.world.Position.{Position}
use Rattle.run_rules.specs.declared.world.Ref.{Ref}
use Rattle.run_rules.specs.declared.world.Activity.{Activity}
use Rattle.run_rules.specs.declared.world.Activity.TheVariants as activity
use Rattle.run_rules.specs.declared.deed.Deed.{Deed}
use Rattle.run_rules.specs.declared.deed.Deed.TheVariants.{Search, EndScan, BeginInterrupts, Finalise, EndCaller, Drop, Refuse, Open, Close, Start, Done, Detach, Free, Rescan, BeginPower, Sleep, Wake, EndPower, Plug, Unplug, Tell}
use Rattle.run_rules.specs.declared.deed.Choice.TheVariants.{Does}
use Rattle.run_rules.specs.World.{World, Caller, caller_at, frame_serial, has_ended, holds_in, is_ended, is_held, is_number, is_pinned, is_referred, nobody, refers_to, serial_of}
use Rattle.run_rules.specs.After.{after, doing, marked, moved_top, over, pushed, rescan_frame, with_caller, with_sleep, with_stack}
use Rattle.run_rules.specs.Next.{command_of, next, next_free}
use Rattle.run_rules.specs.Run.{answered, printed, told}
use Rattle.run_rules.specs.Sound.{is_powering}
use Rattle.run_sound.specs.Scripts.{power_command}
use Rattle.run_sound.specs.Kept.{Kept}
use Rattle.run_sound.proofs.Callers.{any_set_more, caller_each, caller_here, caller_there, callers_kept, clash, doing_so, doing_there, ended_is, entries_pin, frames_pin, pins_same, stack_pins}
use Rattle.run_sound.proofs.Reasons.{has_command_reason}
use Rattle.run_sound.proofs.Stacks.{settles}
use Rattle.quiet_events.specs.Quiet.{EndsNoWait, KeepsWaits, is_quiet}
use Rattle.quiet_events.proofs.Keeping.{next_kept}

-- ---- a caller is set, and the others stay

-- the boot has ended, or has not, as before
boot_same : (w : World) (j : ℕ) (c : Caller) → has_ended w j ≡ false → j < length w.callers → is_ended c.doing ≡ false → has_ended (with_caller w j c) 0 ≡ has_ended w 0
boot_same w j c goes there is = caller_each (λ (x : Caller). is_ended x.doing ≡ has_ended w 0) w j 0 c there (λ same. is ∙ sym (ap (has_ended w) same ∙ goes)) (λ other. refl)

-- what is pinned stays so where the caller's frames are for as much
pins_more : (w : World) (j s : ℕ) (c : Caller) → (stack_pins s (caller_at w j) ≡ true → stack_pins s c ≡ true) → is_pinned w s ≡ true → is_pinned (with_caller w j c) s ≡ true
unfolding is_pinned
pins_more w j s c more h =
    elim (or_cases (frames_pin w.callers s) (entries_pin w.deferred s) h) [
      | inl framed ↦ or_left (frames_pin (with_caller w j c).callers s) (entries_pin w.deferred s) (any_set_more (stack_pins s) w.callers j c nobody more framed)
      | inr queued ↦ or_right (frames_pin (with_caller w j c).callers s) (entries_pin w.deferred s) queued
    ]

-- what a caller's next deed leaves for the others
record Leaves (w : World) (j : ℕ) (v : World) : Type 0 where
  setup : v.setup ≡ w.setup
  others : (k : ℕ) → k ≢ j → caller_at v k ≡ caller_at w k
  boot : has_ended v 0 ≡ has_ended w 0
  owner : v.power_owner ≡ w.power_owner
  frees : (k : ℕ) → next_free v.live k ≡ next_free w.live k
  holds : (k s : ℕ) → is_held w k s ≡ true → is_held v k s ≡ true
  referred : (s : ℕ) → is_referred w s ≡ true → is_referred v s ≡ true
  pinned : (s : ℕ) → is_pinned w s ≡ true → is_pinned v s ≡ true
  powers : (k : ℕ) (what : PowerKind) (target : ℕ) → k ≢ j → (caller_at w k).doing ≡ activity.Power what target → v.live ≡ w.live

keeps_waits : (w : World) (j : ℕ) (v : World) → Leaves w j v → KeepsWaits w j v
keeps_waits w j v at = record {
  waits = λ k why other e. next_kept w v k (record {
    setup = at.setup;
    caller = at.others k other;
    boot = at.boot;
    owner = at.owner;
    frees = at.frees k;
    referred = at.referred;
    pinned = at.pinned;
    powers = λ what target. at.powers k what target other;
  }) why e;
  holds = at.holds;
}

both : (w : World) (j : ℕ) (u v : World) → Leaves w j u → Leaves u j v → Leaves w j v
both w j u v one two = record {
  setup = two.setup ∙ one.setup;
  others = λ k other. two.others k other ∙ one.others k other;
  boot = two.boot ∙ one.boot;
  owner = two.owner ∙ one.owner;
  frees = λ k. two.frees k ∙ one.frees k;
  holds = λ k s h. two.holds k s (one.holds k s h);
  referred = λ s h. two.referred s (one.referred s h);
  pinned = λ s h. two.pinned s (one.pinned s h);
  powers = λ k what target other amid. two.powers k what target other (ap (λ (c : Caller). c.doing) (one.others k other) ∙ amid) ∙ one.powers k what target other amid;
}

-- more references, in a list
record More (old new : List Ref) : Type 0 where
  holds : (k s : ℕ) → holds_in old k s ≡ true → holds_in new k s ≡ true
  refers : (s : ℕ) → refers_to old s ≡ true → refers_to new s ≡ true

as_many : (refs : List Ref) → More refs refs
as_many refs = record { holds = λ k s h. h; refers = λ s h. h }

any_front : {A : Type 0} (p : A → Bool) (xs ys : List A) → list_any p xs ≡ true → list_any p (xs ++ ys) ≡ true
any_front p [] ys h = absurd cc
any_front p (x ∷ xs) ys h = elim (or_cases (p x) (list_any p xs) h) [ inl here ↦ or_left (p x) (list_any p (xs ++ ys)) here | inr more ↦ or_right (p x) (list_any p (xs ++ ys)) (any_front p xs ys more) ]

one_more : (refs : List Ref) (r : Ref) → More refs (refs ++ r ∷ [])
one_more refs r = record {
  holds = λ k s h. any_front (λ (x : Ref). x.serial == s && x.caller == k) refs (r ∷ []) h;
  refers = λ s h. any_front (λ (x : Ref). x.serial == s) refs (r ∷ []) h;
}

-- the doer is another caller, which pins no less; there are no fewer references, and the lists of those held solely and of absent spots are any
sets : (w : World) (j : ℕ) (c : Caller) (refs : List Ref) (sole absent : List ℕ) → has_ended w j ≡ false → j < length w.callers → is_ended c.doing ≡ false
    → ((s : ℕ) → stack_pins s (caller_at w j) ≡ true → stack_pins s c ≡ true) → More w.refs refs → Leaves w j (with_caller (record w { refs = refs; sole = sole; absent = absent }) j c)
sets w j c refs sole absent goes there is pins more = record {
  setup = refl;
  others = λ k other. caller_there w j k c other;
  boot = boot_same w j c goes there is;
  owner = refl;
  frees = λ k. refl;
  holds = more.holds;
  referred = more.refers;
  pinned = λ s h. pins_more (record w { refs = refs; sole = sole; absent = absent }) j s c (pins s) (pins_same (record w { refs = refs; sole = sole; absent = absent }) w s refl refl ∙ h);
  powers = λ k what target other amid. refl;
}

-- ---- deeds

record Doer (w : World) (j : ℕ) : Type 0 where
  goes : has_ended w j ≡ false
  there : j < length w.callers

doer : (w : World) (j : ℕ) (d : Deed) → next w j ≡ Does d → Doer w j
doer w j d e = record { goes = (doing_so w j d e).unended; there = doing_there w j d e }

-- the command is over
is_over : (w : World) (j : ℕ) (refs : List Ref) (sole absent : List ℕ) → Doer w j → More w.refs refs → Leaves w j (over (record w { refs = refs; sole = sole; absent = absent }) j)
is_over w j refs sole absent at more = sets w j _ refs sole absent at.goes at.there refl (λ s h. h) more

plainly_over : (w : World) (j : ℕ) → Doer w j → Leaves w j (over w j)
plainly_over w j at = is_over w j w.refs w.sole w.absent at (as_many w.refs)

goes_still : (a : Activity) → a ≢ activity.Ended → is_ended a ≡ false
goes_still activity.Idle h = refl
goes_still activity.Ended h = absurd (h refl)
goes_still activity.Scans h = refl
goes_still (activity.Transfer t) h = refl
goes_still (activity.Frees s) h = refl
goes_still (activity.Power what s) h = refl

amid_so : (w : World) (j : ℕ) → has_ended w j ≡ false → (caller_at w j).doing ≢ activity.Ended
amid_so w j goes e = clash (has_ended w j) (ended_is (caller_at w j).doing e) goes

-- its frames change, and pin no less
stacks : (w : World) (j : ℕ) (stack : List Frame) → Doer w j → ((s : ℕ) → stack_pins s (caller_at w j) ≡ true → list_any (λ f. frame_serial f == s) stack ≡ true) → Leaves w j (with_stack w j stack)
stacks w j stack at pins =
    let c = settles (caller_at w j).over (caller_at w j).doing stack in
    sets w j _ w.refs w.sole w.absent at.goes at.there (goes_still _ (c.goes (amid_so w j at.goes)))
    (λ s h. ap (λ (fs : List Frame). list_any (λ f. frame_serial f == s) fs) c.frames ∙ pins s h) (as_many w.refs)

-- a search moves the top on
moved_pins : (to : Position) (fs : List Frame) (s : ℕ) → list_any (λ f. frame_serial f == s) fs ≡ true → list_any (λ f. frame_serial f == s) (moved_top to fs) ≡ true
moved_pins to [] s h = h
moved_pins to (Scan p only wanted from ∷ fs) s h = h
moved_pins to (Finaliser p ∷ fs) s h = h

-- a rescan pushes a frame
rescans : (w : World) (j s : ℕ) (only : Option ℕ) → Doer w j → Leaves w j (pushed (doing w j activity.Scans) j (rescan_frame w j s only))
rescans w j s only at =
    let u : World = doing w j activity.Scans in
    let c : Caller = record { over = (caller_at w j).over; doing = activity.Scans; stack = (caller_at w j).stack } in
    let here : caller_at u j ≡ c = caller_here w j c at.there in
    let begun : Leaves w j u = sets w j c w.refs w.sole w.absent at.goes at.there refl (λ x h. h) (as_many w.refs) in
    both w j u _ begun (stacks u j _ (record { goes = ap (λ (x : Caller). is_ended x.doing) here; there = subst (λ (n : ℕ). j < n) (sym (callers_kept w j c)) at.there })
    (λ x h. or_right (frame_serial (rescan_frame w j s only) == x) (stack_pins x (caller_at u j)) h))

-- ---- sleep and wake

sleep_condemned : (s : ℕ) (asleep : Bool) (d : Dev) → (with_sleep s asleep d).condemned ≡ d.condemned
sleep_condemned s asleep d = elim (d.serial == s) as (λ b. (cond b (record d { asleep = asleep }) d).condemned ≡ d.condemned) [ true ↦ refl | false ↦ refl ]

sleep_serial : (s : ℕ) (asleep : Bool) (d : Dev) → (with_sleep s asleep d).serial ≡ d.serial
sleep_serial s asleep d = elim (d.serial == s) as (λ b. (cond b (record d { asleep = asleep }) d).serial ≡ d.serial) [ true ↦ refl | false ↦ refl ]

last_is : (p : Dev → Bool) (x : Dev) (xs : List Dev) → find p (reverse (x ∷ xs)) ≡ option_or (find p (reverse xs)) (find p (x ∷ []))
last_is p x xs = ap (λ (ys : List Dev). find p ys) (reverse-append (x ∷ []) xs) ∙ find-append p (reverse xs) (x ∷ [])

serial_or : (a b : Option Dev) → serial_of (option_or a b) ≡ option_or (serial_of a) (serial_of b)
serial_or None b = refl
serial_or (Some d) b = refl

same_last : (s : ℕ) (asleep : Bool) (k : ℕ) (live : List Dev) → next_free (map (with_sleep s asleep) live) k ≡ next_free live k
unfolding next_free
same_last s asleep k [] = refl
same_last s asleep k (d ∷ ds) =
    let p : Dev → Bool = λ x. is_number x.condemned k in
    let f : Dev → Dev = with_sleep s asleep in
    ap serial_of (last_is p (f d) (map f ds)) ∙ serial_or (find p (reverse (map f ds))) (find p (f d ∷ []))
    ∙ ap (λ (t : Option ℕ × Option ℕ). option_or t.0 t.1) (λ i. (same_last s asleep k ds i, one i))
    ∙ sym (serial_or (find p (reverse ds)) (find p (d ∷ []))) ∙ sym (ap serial_of (last_is p d ds))
  where
    picked : (b : Bool) (x : Dev) → serial_of (cond b (Some x) None) ≡ cond b (Some x.serial) None
    picked true x = refl
    picked false x = refl

    one : serial_of (find (λ (x : Dev). is_number x.condemned k) (with_sleep s asleep d ∷ [])) ≡ serial_of (find (λ (x : Dev). is_number x.condemned k) (d ∷ []))
    one =
        picked (is_number (with_sleep s asleep d).condemned k) (with_sleep s asleep d)
        ∙ ap (λ (t : Option ℕ × ℕ). cond (is_number t.0 k) (Some t.1) None) (λ i. (sleep_condemned s asleep d i, sleep_serial s asleep d i))
        ∙ sym (picked (is_number d.condemned k) d)

-- only who has the power turn puts to sleep or wakes
one_turn : (w : World) (k j : ℕ) → Kept w → is_powering (caller_at w k).doing ≡ true → is_powering (caller_at w j).doing ≡ true → k ≡ j
one_turn w k j at one two = same w.power_owner ((at.sound.callers k).turn.1 one) ((at.sound.callers j).turn.1 two)
  where
    same : (o : Option ℕ) → is_number o k ≡ true → is_number o j ≡ true → k ≡ j
    same None h i = absurd cc
    same (Some m) h i = sym (eqb-true m k h) ∙ eqb-true m j i

marks : (w : World) (j s : ℕ) (asleep : Bool) → Kept w → is_powering (caller_at w j).doing ≡ true → Leaves w j (marked w s asleep)
marks w j s asleep at amid = record {
  setup = refl;
  others = λ k other. refl;
  boot = refl;
  owner = refl;
  frees = λ k. same_last s asleep k w.live;
  holds = λ k x h. h;
  referred = λ x h. h;
  pinned = λ x h. pins_same (marked w s asleep) w x refl refl ∙ h;
  powers = λ k what target other doing. absurd (other (one_turn w k j at (ap is_powering doing) amid));
}

-- ---- each deed of which a quiet event tells

noisy : {A : Type 0} (a : Act) (b : Bool) → is_quiet a ≡ true → is_quiet a ≡ b → b ≡ false → A
noisy a b h e f = clash (is_quiet a) h (e ∙ f)

-- the line of a command that begins
line_of : (w : World) (j : ℕ) (said : Command) → command_of w j ≡ Some said → answered w j reply.Ok ≡ told w said reply.Ok
line_of w j said e = ap (λ (o : Option Command). option_map_or (λ c. told w c reply.Ok) o act.End) e

leaves : (w : World) (j : ℕ) (d : Deed) → Kept w → next w j ≡ Does d → is_quiet (printed w j d) ≡ true → Leaves w j (after w j d)
unfolding after printed
leaves w j (Search p spot to None) at e quiet = stacks w j (moved_top to (caller_at w j).stack) (doer w j _ e) (λ s h. moved_pins to (caller_at w j).stack s h)
leaves w j (Search p spot to (Some a)) at e quiet = absurd cc
leaves w j (EndScan p) at e quiet = absurd cc
leaves w j BeginInterrupts at e quiet = absurd cc
leaves w j (Finalise s shown got listed anew) at e quiet = absurd cc
leaves w j EndCaller at e quiet = absurd cc
leaves w j (Drop s) at e quiet = absurd cc
leaves w j (Refuse why) at e quiet = plainly_over w j (doer w j _ e)
leaves w j (Open s sole) at e quiet = is_over w j _ _ w.absent (doer w j _ e) (one_more w.refs (record { serial = s; caller = j }))
leaves w j (Close s) at e quiet =
    let r = has_command_reason w j (Close s) e in
    noisy (answered w j reply.Ok) _ quiet (ap is_quiet (line_of w j r.begins.said r.begins.command ∙ ap (λ (c : Command). told w c reply.Ok) r.words)) refl
leaves w j (Start t) at e quiet = sets w j _ w.refs w.sole w.absent (doer w j _ e).goes (doer w j _ e).there refl (λ s h. h) (as_many w.refs)
leaves w j (Done t) at e quiet = plainly_over w j (doer w j _ e)
leaves w j (Detach s) at e quiet =
    let r = has_command_reason w j (Detach s) e in
    noisy (answered w j reply.Ok) _ quiet (ap is_quiet (line_of w j r.begins.said r.begins.command ∙ ap (λ (c : Command). told w c reply.Ok) r.words)) refl
leaves w j (Free s) at e quiet = absurd cc
leaves w j (Rescan s only) at e quiet = rescans w j s only (doer w j _ e)
leaves w j (BeginPower what s) at e quiet =
    let r = has_command_reason w j (BeginPower what s) e in
    noisy (answered w j reply.Ok) _ quiet (ap is_quiet (line_of w j r.begins.said r.begins.command ∙ ap (λ (c : Command). told w c reply.Ok) r.words)) (of_power what r.name)
  where
    of_power : (what : PowerKind) (name : List ℕ) → is_quiet (told w (power_command what name) reply.Ok) ≡ false
    of_power kind.Suspend name = refl
    of_power kind.Resume name = refl
    of_power kind.ResumeTree name = refl
leaves w j (Sleep s) at e quiet = marks w j s true at (ap is_powering (has_command_reason w j (Sleep s) e).amid)
leaves w j (Wake s) at e quiet = marks w j s false at (ap is_powering (has_command_reason w j (Wake s) e).amid)
leaves w j (EndPower end) at e quiet = absurd cc
leaves w j (Plug x) at e quiet = is_over w j w.refs w.sole _ (doer w j _ e) (as_many w.refs)
leaves w j (Unplug x None) at e quiet =
    let r = has_command_reason w j (Unplug x None) e in
    noisy (answered w j reply.Ok) _ quiet (ap is_quiet (line_of w j r.begins.said r.begins.command ∙ ap (λ (c : Command). told w c reply.Ok) r.words)) refl
leaves w j (Unplug x (Some s)) at e quiet =
    let r = has_command_reason w j (Unplug x (Some s)) e in
    noisy (answered w j reply.Ok) _ quiet (ap is_quiet (line_of w j r.begins.said r.begins.command ∙ ap (λ (c : Command). told w c reply.Ok) r.words)) refl
leaves w j Tell at e quiet = plainly_over w j (doer w j _ e)

pub ends_no_wait : (a : Act) → is_quiet a ≡ true → EndsNoWait a
ends_no_wait a quiet w j d at e told = keeps_waits w j (after w j d) (leaves w j d at e (ap is_quiet told ∙ quiet))
