-- What a caller does next may be told: the devices that it names are live.
use Rattle.std.proofs.Common.{◌≡◌, ◌<◌, ◌||◌, ◌&&◌, ◌==◌, ℕ, zero, suc, ◌+◌, nat_lt, Bool, true, false, cond, List, [], ◌∷◌, length, find, Option, Some, None, refl, sym, ◌∙◌, subst, inl, inr, arith, eqb-true}
use Rattle.std.specs.Prelude.{⊤, IfSome, IsTrue}
use Rattle.std.specs.List.{AllByRecursion, slice_index_or}
use Rattle.std.specs.Option.{option_map_or}
use Rattle.std.proofs.lemmas.Bool.{and_parts}
use Rattle.std.proofs.lemmas.Bool.Decides.{nat_tests}
use Rattle.cf_types.specs.declared.machine.Command.{Command}
use Rattle.cf_types.specs.declared.machine.Command.TheVariants as command
use Rattle.cf_types.specs.declared.machine.Given.{Given}
use Rattle.cf_types.specs.declared.machine.Ticket.{Ticket}
use Rattle.cf_types.specs.Lookups.{attr_number, spot_number}
use Rattle.config_rules.proofs.Parts.{cond_both}
use Rattle.run_rules.specs.declared.event.PowerKind.{PowerKind}
use Rattle.run_rules.specs.declared.event.PowerKind.TheVariants as kind
use Rattle.run_rules.specs.declared.world.Activity.TheVariants as activity
use Rattle.run_rules.specs.declared.world.Arrival.{Arrival}
use Rattle.run_rules.specs.declared.world.Dev.{Dev}
use Rattle.run_rules.specs.declared.world.Frame.{Frame}
use Rattle.run_rules.specs.declared.world.Frame.TheVariants.{Finaliser}
use Rattle.run_rules.specs.declared.world.Position.{Position}
use Rattle.run_rules.specs.declared.world.Ref.{Ref}
use Rattle.run_rules.specs.World.{World, Caller, caller_at, device_named, device_on, has, has_ended, holds_in, is_condemned, is_held, is_live, is_pinned, is_referred, nobody, offered_by, policy_of}
use Rattle.run_rules.specs.declared.deed.Deed.{Deed}
use Rattle.run_rules.specs.declared.deed.Deed.TheVariants.{Search, Finalise, Drop, Refuse, Done, Free, Sleep, Wake, EndPower}
use Rattle.run_rules.specs.declared.deed.Choice.{Choice}
use Rattle.run_rules.specs.declared.deed.Choice.TheVariants.{Does}
use Rattle.run_rules.specs.declared.deed.PowerEnd.{PowerEnd}
use Rattle.run_rules.specs.Next.{command_deed, command_of, has_nothing, hindered, is_hindrance, is_power, next, next_sleep, next_wake, on_device, on_held, powering, rescan_of, rescanning, suspending, telling, unless_hindered, unplugging, waking, wanted_of}
use Rattle.run_rules.specs.References.{count_in}
use Rattle.run_rules.specs.Said.{EndsLive, MayBeTold, RefusesLive}
use Rattle.run_rules.specs.Sound.{Sound}
use Rattle.run_sound.specs.Calls.{CallsDevices, IsOfDevice}
use Rattle.run_sound.proofs.Coming.{IsCalled, IsTurn}
use Rattle.run_sound.proofs.Commands.{Begins, EndsPower, SendsToSleep, Wakes}
use Rattle.run_sound.specs.Kept.{Kept}
use Rattle.run_sound.specs.Scripts.{IsAmid, power_command}
use Rattle.run_sound.proofs.Arrivals.{due_inside, shown_inside, top_known}
use Rattle.run_sound.proofs.Callers.{all_or, doing_so, not_ended}
use Rattle.run_sound.proofs.Members.{contained_live, found_contained, found_from_end}
use Rattle.run_sound.proofs.Reasons.{option_both, has_command_reason, has_reason}
use Rattle.run_sound.proofs.References.{amid_later}
use Rattle.run_sound.proofs.ScriptLaws.{amid_said}

-- ---- commands

-- a refusal names a live device
abbrev NamesLive : World → Deed → Type 0
NamesLive w (Refuse why) = RefusesLive w.live why
NamesLive w _ = ⊤

by_if : (w : World) (b : Bool) (x y : Deed) → NamesLive w x → NamesLive w y → NamesLive w (cond b x y)
by_if w b x y p q = cond_both (NamesLive w) b x y (λ e. p) (λ e. q)

by_option : {A : Type 0} (w : World) (f : A → Deed) (o : Option A) (d : Deed) → ((a : A) → o ≡ Some a → NamesLive w (f a)) → NamesLive w d → NamesLive w (option_map_or f o d)
by_option w f o d p q = option_both (NamesLive w) f o d p (λ e. q)

found_live : (w : World) (test : Dev → Bool) (d : Dev) → find test w.live ≡ Some d → is_live w.live d.serial ≡ true
found_live w test d e = contained_live w.live d (found_contained test w.live d e)

on_live : (w : World) (name : List ℕ) (body : Dev → Deed) → ((d : Dev) → NamesLive w (body d)) → NamesLive w (on_device w name body)
on_live w name body each = by_option w _ (device_named w.setup w.live name) _ (λ d e. by_if w (is_condemned d) _ _ tt (each d)) tt

held_live : (w : World) (k : ℕ) (name : List ℕ) (body : Dev → Deed) → ((d : Dev) → NamesLive w (body d)) → NamesLive w (on_held w k name body)
held_live w k name body each = by_option w _ (device_named w.setup w.live name) _ (λ d e. by_if w (is_held w k d.serial) _ _ (each d) tt) tt

hindered_live : (w : World) (k s : ℕ) (forced : Bool) (deed : Deed) → NamesLive w deed → NamesLive w (unless_hindered w k s forced deed)
unfolding hindered
hindered_live w k s forced deed rest = by_option w _ (find (is_hindrance w s k forced) w.live) _ (λ x e. found_live w (is_hindrance w s k forced) x e) rest

telling_live : (w : World) (name : Option (List ℕ)) → NamesLive w (telling w name)
telling_live w None = tt
telling_live w (Some name) = by_option w _ (device_named w.setup w.live name) _ (λ d e. tt) tt

rescan_live : (w : World) (d : Dev) (attr : Option (List ℕ)) (given : List Given) → NamesLive w (rescan_of w d attr given)
unfolding rescan_of
rescan_live w d None given = tt
rescan_live w d (Some name) given =
    by_option w _ (attr_number w.setup.tables.attrs name) _ (λ a e. by_if w (has (offered_by w.setup d.row) a) _ _ (by_option w _ (wanted_of _ given) _ (λ wanted g. tt) tt) tt) tt

rescanning_live : (w : World) (d : Dev) (attr : Option (List ℕ)) (given : List Given) → is_live w.live d.serial ≡ true → NamesLive w (rescanning w d attr given)
rescanning_live w d attr given live =
    by_if w (is_pinned w d.serial) _ _ live (by_if w d.asleep _ _ tt (by_if w ((policy_of w.setup d.row).norescan || has_nothing (offered_by w.setup d.row)) _ _ tt (rescan_live w d attr given)))

unplugging_live : (w : World) (k x : ℕ) → NamesLive w (unplugging w k x)
unplugging_live w k x = by_option w _ (device_on w.live x) _ (λ d f. hindered_live w k d.serial true _ tt) tt

command_live : (w : World) (k n : ℕ) (said : Command) → NamesLive w (command_deed w k n said)
unfolding command_deed
command_live w k n (command.OpenDev name) =
    on_live w name _ (λ d. by_if w (has w.sole d.serial) _ _ tt (by_if w (nat_lt (count_in w.refs k d.serial) 15) _ _ tt tt))
command_live w k n (command.OpenSole name) = on_live w name _ (λ d. by_if w (is_referred w d.serial) _ _ tt tt)
command_live w k n (command.CloseDev name) = held_live w k name _ (λ d. tt)
command_live w k n (command.Io name value) = held_live w k name _ (λ d. by_if w d.asleep _ _ tt tt)
command_live w k n (command.Detach name) = on_live w name _ (λ d. hindered_live w k d.serial false _ tt)
command_live w k n (command.Rescan name attr given) =
    by_option w _ (device_named w.setup w.live name) _ (λ d e. by_if w (is_condemned d) _ _ tt (rescanning_live w d attr given (found_live w _ d e))) tt
command_live w k n (command.ListDev name) = telling_live w name
command_live w k n (command.TreeDev name) = telling_live w name
command_live w k n (command.Suspend name) = on_live w name _ (λ d. tt)
command_live w k n (command.Resume name) = on_live w name _ (λ d. tt)
command_live w k n (command.ResumeTree name) = on_live w name _ (λ d. tt)
command_live w k n (command.Plug name) = by_option w _ (spot_number w.setup.machine.spots name) _ (λ x e. tt) tt
command_live w k n (command.Unplug name) = by_option w _ (spot_number w.setup.machine.spots name) _ (λ x e. unplugging_live w k x) tt

-- ---- power

abbrev ChoiceLive : World → Choice → Type 0
ChoiceLive w (Does (EndPower end)) = EndsLive w.live end
ChoiceLive w _ = ⊤

choice_if : (w : World) (b : Bool) (x y : Choice) → ChoiceLive w x → ChoiceLive w y → ChoiceLive w (cond b x y)
choice_if w b x y p q = cond_both (ChoiceLive w) b x y (λ e. p) (λ e. q)

choice_option : {A : Type 0} (w : World) (f : A → Choice) (o : Option A) (c : Choice) → ((a : A) → o ≡ Some a → ChoiceLive w (f a)) → ChoiceLive w c → ChoiceLive w (option_map_or f o c)
choice_option w f o c p q = option_both (ChoiceLive w) f o c p (λ e. q)

sleeper_live : (w : World) (target : ℕ) (d : Dev) → next_sleep w.live target ≡ Some d → is_live w.live d.serial ≡ true
unfolding next_sleep
sleeper_live w target d e = contained_live w.live d (found_from_end _ w.live d e)

waker_live : (w : World) (target : ℕ) (whole : Bool) (d : Dev) → next_wake w.live target whole ≡ Some d → is_live w.live d.serial ≡ true
unfolding next_wake
waker_live w target whole d e = contained_live w.live d (found_contained _ w.live d e)

powering_live : (w : World) (what : PowerKind) (target : ℕ) → ChoiceLive w (powering w what target)
unfolding suspending waking
powering_live w kind.Suspend target =
    choice_option w _ (next_sleep w.live target) _
    (λ d e. choice_if w (is_pinned w d.serial) _ _ tt
    (choice_if w (policy_of w.setup d.row).nopower _ _ (sleeper_live w target d e)
    (choice_if w (policy_of w.setup d.row).failsuspend _ _ (sleeper_live w target d e) tt))) tt
powering_live w kind.Resume target = choice_option w _ (next_wake w.live target false) _ (λ d e. tt) tt
powering_live w kind.ResumeTree target = choice_option w _ (next_wake w.live target true) _ (λ d e. tt) tt

end_live : (w : World) (k : ℕ) (end : PowerEnd) → EndsPower w k end → EndsLive w.live end
end_live w k end why = elim why.why [ inl gone ↦ rw gone.1 tt | inr on ↦ subst (ChoiceLive w) on.1 (powering_live w why.kind why.target) ]

pub power_is : (what : PowerKind) (name : List ℕ) → is_power (power_command what name) ≡ true
power_is kind.Suspend name = refl
power_is kind.Resume name = refl
power_is kind.ResumeTree name = refl

-- the power command that ends is the one in force
pub record IsPowerEnd (w : World) (k : ℕ) : Type 0 where
  pub what : PowerKind
  pub name : List ℕ
  pub said : command_of w k ≡ Some (power_command what name)

pub power_end : (w : World) (k : ℕ) (end : PowerEnd) → Kept w → EndsPower w k end → IsPowerEnd w k
power_end w k end kept why =
    let amid = amid_of (command_of w k) why.amid (amid_said w k kept (amid_later w k kept.ranges (λ e. busy (sym why.amid ∙ e)) (λ e. runs (sym why.amid ∙ e)))) in
    record { what = why.kind; name = amid.0; said = amid.1 }
  where
    busy : activity.Power why.kind why.target ≡ activity.Idle → ⊥
    busy e = cc

    runs : activity.Power why.kind why.target ≡ activity.Ended → ⊥
    runs e = cc

    amid_of : (c : Option Command) → (caller_at w k).doing ≡ activity.Power why.kind why.target → IsAmid (caller_at w k).doing c → (name : List ℕ) × (c ≡ Some (power_command why.kind name))
    amid_of c e h = subst (λ a. IsAmid a c) e h

power_said : (w : World) (k : ℕ) (end : PowerEnd) → Kept w → EndsPower w k end → option_map_or is_power (command_of w k) false ≡ true
power_said w k end kept why = let it = power_end w k end kept why in rw it.said (power_is it.what it.name)

-- ---- references

held_in : (live : List Dev) (refs : List Ref) (k s : ℕ) → AllByRecursion (λ r. IsTrue (is_live live r.serial)) refs → holds_in refs k s ≡ true → is_live live s ≡ true
held_in live [] k s all h = absurd cc
held_in live (r ∷ rs) k s all h = cases (λ more. held_in live rs k s all.1 more) (r.serial == s && r.caller == k) refl h
  where
    cases : (holds_in rs k s ≡ true → is_live live s ≡ true) → (b : Bool) → (r.serial == s && r.caller == k) ≡ b → (b || holds_in rs k s) ≡ true → is_live live s ≡ true
    cases more true e h = subst (λ x. is_live live x ≡ true) (eqb-true r.serial s (and_parts (r.serial == s) (r.caller == k) e).0) all.0
    cases more false e h = more h

transfer_live : (w : World) (k : ℕ) (t : Ticket) → Kept w → next w k ≡ Does (Done t) → is_live w.live t.serial ≡ true
transfer_live w k t kept chosen = held_in w.live w.refs k t.serial kept.sound.refs.live_ones ((kept.sound.callers k).transfer t (has_command_reason w k (Done t) chosen))

-- ---- the finaliser that is called

at_live : (live : List Dev) (xs : List ℕ) (i : ℕ) → i < length xs → AllByRecursion (λ s. IsTrue (is_live live s)) xs → is_live live (slice_index_or xs i 0) ≡ true
at_live live [] i lt h = absurd (omega arith)
at_live live (x ∷ xs) zero lt h = h.0
at_live live (x ∷ xs) (suc i) lt h = at_live live xs i (omega arith) h.1

known_live : (b live : Bool) → b ≡ false → (b || live) ≡ true → live ≡ true
known_live true live e h = absurd cc
known_live false live e h = h

not_root : (s : ℕ) → 0 < s → (s == 0) ≡ false
not_root s low = grind (arith, nat_tests)

framed_live : (w : World) (k s : ℕ) (rest : List Frame) → Sound w → CallsDevices w → (caller_at w k).stack ≡ Finaliser s ∷ rest → is_live w.live s ≡ true
framed_live w k s rest sound calls e =
    let each = all_or (λ (c : Caller). AllByRecursion IsOfDevice c.stack) w.callers k nobody calls tt in
    let low : 0 < s = (subst (λ (fs : List Frame). AllByRecursion IsOfDevice fs) e each).0 in
    known_live (s == 0) (is_live w.live s) (not_root s low) (top_known w k (Finaliser s) rest sound e)

called_live : (w : World) (k s : ℕ) (listed : Option ℕ) (anew : Bool) → Kept w → CallsDevices w → has_ended w k ≡ false → IsCalled w k s listed anew → is_live w.live s ≡ true
called_live w k s None anew kept calls goes called = framed_live w k s called.0 kept.sound calls called.1
called_live w k s (Some place) false kept calls goes called =
    rw called.5 (at_live w.live w.finalisers place (omega (arith, called.3, called.4)) (kept.sound.boot (not_ended w 0 (subst (λ j. has_ended w j ≡ false) called.0 goes))).finalisers)
called_live w k s (Some place) true kept calls goes called =
    let boots : has_ended w 0 ≡ false = subst (λ j. has_ended w j ≡ false) called.0 goes in
    rw called.5 (at_live w.live w.finalisers 0 ((kept.ranges.list boots).some called.6) (kept.sound.boot (not_ended w 0 boots)).finalisers)

-- ---- spots

pub searched_inside : (w : World) (k p spot : ℕ) (to : Position) (got : Option Arrival) → next w k ≡ Does (Search p spot to got) → spot < length w.setup.machine.spots
searched_inside w k p spot to got chosen =
    let t : IsTurn w k p spot to got = has_reason w k (Search p spot to got) chosen in
    rw t.place (due_inside w.setup w.live w.absent w.hidden p t.only t.wanted t.from t.turn t.is_due)

pub shown_there : (w : World) (k s : ℕ) (shown : Option ℕ) (got : Option Arrival) (listed : Option ℕ) (anew : Bool) → next w k ≡ Does (Finalise s shown got listed anew) → IfSome shown (λ x. x < length w.setup.machine.spots)
shown_there w k s None got listed anew chosen = tt
shown_there w k s (Some x) got listed anew chosen = (shown_inside w k s x got listed anew (has_reason w k (Finalise s (Some x) got listed anew) chosen)).0

-- ---- all deeds

pub may_be_told : (w : World) (k : ℕ) (d : Deed) → Kept w → CallsDevices w → next w k ≡ Does d → MayBeTold w k d
may_be_told w k (Search p spot to got) kept calls chosen = searched_inside w k p spot to got chosen
may_be_told w k (Finalise s shown got listed anew) kept calls chosen = (
  called_live w k s listed anew kept calls (doing_so w k (Finalise s shown got listed anew) chosen).unended (has_reason w k (Finalise s shown got listed anew) chosen).called,
  shown_there w k s shown got listed anew chosen,
)
may_be_told w k (Drop s) kept calls chosen = (has_command_reason w k (Drop s) chosen).live
may_be_told w k (Refuse why) kept calls chosen =
    let b : Begins w k (Refuse why) = has_command_reason w k (Refuse why) chosen in
    subst (NamesLive w) b.deed (command_live w k ((caller_at w k).over + 1) b.said)
may_be_told w k (Done ticket) kept calls chosen = transfer_live w k ticket kept chosen
may_be_told w k (Free s) kept calls chosen = (has_command_reason w k (Free s) chosen).live
may_be_told w k (Sleep s) kept calls chosen =
    let why : SendsToSleep w k s = has_command_reason w k (Sleep s) chosen in
    subst (λ x. is_live w.live x ≡ true) why.serial (sleeper_live w why.target why.dev why.last)
may_be_told w k (Wake s) kept calls chosen =
    let why : Wakes w k s = has_command_reason w k (Wake s) chosen in
    subst (λ x. is_live w.live x ≡ true) why.serial (waker_live w why.target why.below why.dev why.first)
may_be_told w k (EndPower end) kept calls chosen =
    let why : EndsPower w k end = has_command_reason w k (EndPower end) chosen in
    (end_live w k end why, power_said w k end kept why)
may_be_told w k _ kept calls chosen = tt
