-- Why a caller does a deed: each row of what comes next gives a deed with its reason.
use Rattle.std.proofs.Common.{◌≡◌, ◌⊎◌, ◌<◌, ◌≤◌, ℕ, ◌+◌, Bool, true, false, not, ◌&&◌, ◌||◌, ◌==◌, nat_lt, length, cond, ap, option_and_then, List, [], ◌∷◌, find, Option, Some, None, refl, sym, ◌∙◌, subst, inl, inr, arith, eqb-true}
use Rattle.std.proofs.lemmas.Option.{same_Some}
use Rattle.std.specs.Option.{option_map_or}
use Rattle.std.specs.Prelude.{reverse, option_map}
use Rattle.std.proofs.lemmas.Bool.{eqb-false, not-false, not-true}
use Rattle.std.proofs.lemmas.Bool.Decides.{nat_tests}
use Rattle.cf_types.specs.declared.machine.Command.{Command}
use Rattle.cf_types.specs.declared.machine.Command.TheVariants as command
use Rattle.cf_types.specs.declared.machine.Given.{Given}
use Rattle.cf_types.specs.Lookups.{attr_number, spot_number}
use Rattle.config_rules.proofs.Parts.{cond_both}
use Rattle.run_rules.specs.declared.event.PowerKind.{PowerKind}
use Rattle.run_rules.specs.declared.event.PowerKind.TheVariants as kind
use Rattle.run_rules.specs.declared.world.Dev.{Dev}
use Rattle.run_rules.specs.declared.world.Frame.{Frame}
use Rattle.run_rules.specs.declared.world.Frame.TheVariants.{Scan, Finaliser}
use Rattle.run_rules.specs.declared.world.Activity.{Activity}
use Rattle.run_rules.specs.declared.world.Activity.TheVariants as activity
use Rattle.run_rules.specs.World.{World, has, has_ended, is_number, is_referred, is_live, policy_of, offered_by, device_at, device_on, is_held, is_pinned, is_condemned, device_named, caller_at}
use Rattle.run_rules.specs.declared.deed.Deed.{Deed}
use Rattle.run_rules.specs.declared.deed.Deed.TheVariants.{Search, EndScan, BeginInterrupts, Finalise, EndCaller, Rescan, BeginPower, Unplug}
use Rattle.run_rules.specs.declared.deed.Choice.{Choice}
use Rattle.run_rules.specs.declared.deed.Choice.TheVariants.{Ended, Does}
use Rattle.run_rules.specs.Next.{next, next_scan, next_boot, finalise, next_free, next_sleep, next_wake, freeing, suspending, waking, powering, hindered, other_turn, is_power, rescan_of, has_nothing, wanted_of, telling, on_device, on_held, late_spot, command_of, first_held, command_deed, next_command, on_top, by_activity}
use Rattle.run_rules.specs.References.{count_in}
use Rattle.run_rules.specs.Search.{due}
use Rattle.run_rules.proofs.Devices.{or_false}
use Rattle.run_rules.proofs.Free.{find_true}
use Rattle.run_sound.proofs.Coming.{HasReason, IsCall, IsCalled, IsEnd, IsPhase, IsScanEnd, IsTurn}
use Rattle.run_sound.specs.Scripts.{power_command}
use Rattle.run_sound.proofs.Commands.{Begins, HasCommandReason, IsBetween, IsNamed, IsOnly, wakes_below}
use Rattle.run_sound.proofs.Members.{found_contained, found_from_end, contained_live}

-- ---- the reasons of all deeds

-- idle, or in a rescan
abbrev Rests : World → ℕ → Type 0
Rests w k = ((caller_at w k).doing ≡ activity.Idle) ⊎ ((caller_at w k).doing ≡ activity.Scans)

-- who does a deed of a frame rests
abbrev Why : World → ℕ → Deed → Type 0
Why w k (Search p spot to got) = IsTurn w k p spot to got × Rests w k
Why w k (EndScan p) = IsScanEnd w k p × Rests w k
Why w k BeginInterrupts = IsPhase w k × Rests w k
Why w k (Finalise s shown got listed anew) = IsCall w k s shown got listed anew × Rests w k
Why w k EndCaller = IsEnd w k × Rests w k
Why w k d = HasCommandReason w k d

-- ---- choices of choices

-- what is made of an option has the property where both may
pub option_both : {A B : Type 0} (P : B → Type 0) (f : A → B) (o : Option A) (d : B) → ((a : A) → o ≡ Some a → P (f a)) → (o ≡ None → P d) → P (option_map_or f o d)
option_both P f None d p q = q refl
option_both P f (Some a) d p q = p a refl

-- each deed that the choice may come to has the property
record Each (P : Deed → Type 0) (c : Choice) : Type 0 where
  each : (d : Deed) → c ≡ Does d → P d

one_deed : (d e : Deed) → Does d ≡ Does e → d ≡ e
one_deed d e h = cc

because : {P : Deed → Type 0} (d : Deed) → P d → Each P (Does d)
because {P} d h = record { each = λ e same. subst P (one_deed d e same) h }

over_if : {P : Deed → Type 0} (b : Bool) (x y : Choice) → (b ≡ true → Each P x) → (b ≡ false → Each P y) → Each P (cond b x y)
over_if {P} = cond_both (Each P)

over_option : {P : Deed → Type 0} {A : Type 0} (f : A → Choice) (o : Option A) (c : Choice) → ((a : A) → o ≡ Some a → Each P (f a)) → (o ≡ None → Each P c) → Each P (option_map_or f o c)
over_option {P} = option_both (Each P)

by_if : {P : Deed → Type 0} (b : Bool) (x y : Deed) → (b ≡ true → Each P (Does x)) → (b ≡ false → Each P (Does y)) → Each P (Does (cond b x y))
by_if {P} = cond_both (λ d. Each P (Does d))

by_option : {P : Deed → Type 0} {A : Type 0} (f : A → Deed) (o : Option A) (d : Deed) → ((a : A) → o ≡ Some a → Each P (Does (f a))) → (o ≡ None → Each P (Does d)) → Each P (Does (option_map_or f o d))
by_option {P} = option_both (λ d. Each P (Does d))

nothing : {P : Deed → Type 0} (c : Choice) → ((d : Deed) → c ≡ Does d → ⊥) → Each P c
nothing c never = record { each = λ d same. absurd (never d same) }

ended : {P : Deed → Type 0} → Each P Ended
ended = nothing Ended (λ d same. cc)

-- ---- commands

-- a deed has its reason where the command comes to it
abbrev Told : World → ℕ → Command → Deed → Type 0
Told w k said d = command_deed w k ((caller_at w k).over + 1) said ≡ d → Why w k d

-- the caller begins the command
record Asks (w : World) (k : ℕ) (said : Command) : Type 0 where
  between : IsBetween w k
  command : command_of w k ≡ Some said
  turn : is_power said ≡ true → other_turn w.power_owner k ≡ None

abbrev begun : {w : World} {k : ℕ} {said : Command} (d : Deed) → Asks w k said → command_deed w k ((caller_at w k).over + 1) said ≡ d → Begins w k d
begun {said} d at h = record { between = at.between; said = said; command = at.command; turn = at.turn; deed = h }

-- whose serial is found is live
found_live : (w : World) (p : Dev → Bool) (d : Dev) → find p w.live ≡ Some d → is_live w.live d.serial ≡ true
found_live w p d e = contained_live w.live d (found_contained p w.live d e)

abbrev it_named : (w : World) (name : List ℕ) (d : Dev) → device_named w.setup w.live name ≡ Some d → IsNamed w name d.serial
it_named w name d e = record { dev = d; found = e; there = found_contained _ w.live d e; serial = refl; live = found_live w _ d e }

device_reason : (w : World) (k : ℕ) (said : Command) (name : List ℕ) (body : Dev → Deed) → Asks w k said
    → ((d : Dev) → device_named w.setup w.live name ≡ Some d → is_condemned d ≡ false → Each (Told w k said) (Does (body d)))
    → Each (Told w k said) (Does (on_device w name body))
device_reason w k said name body at some =
    by_option _ (device_named w.setup w.live name) _ (λ d e. by_if (is_condemned d) _ _ (λ c. because _ (begun _ at)) (λ c. some d e c)) (λ e. because _ (begun _ at))

held_reason : (w : World) (k : ℕ) (said : Command) (name : List ℕ) (body : Dev → Deed) → Asks w k said
    → ((d : Dev) → device_named w.setup w.live name ≡ Some d → is_held w k d.serial ≡ true → Each (Told w k said) (Does (body d)))
    → Each (Told w k said) (Does (on_held w k name body))
held_reason w k said name body at some =
    by_option _ (device_named w.setup w.live name) _ (λ d e. by_if (is_held w k d.serial) _ _ (λ h. some d e h) (λ h. because _ (begun _ at))) (λ e. because _ (begun _ at))

scan_reason : (w : World) (k : ℕ) (said : Command) (d : Dev) (attr : Option (List ℕ)) (given : List Given)
    → ((only : Option ℕ) → IsOnly w d attr given only → Told w k said (Rescan d.serial only)) → Asks w k said
    → Each (Told w k said) (Does (rescan_of w d attr given))
unfolding rescan_of
scan_reason w k said d None given may at = because _ (may _ refl)
scan_reason w k said d (Some name) given may at =
    by_option _ (attr_number w.setup.tables.attrs name) _
    (λ a e. by_if (has (offered_by w.setup d.row) a) _ _
    (λ h. by_option _ (wanted_of _ given) _ (λ wanted g. because _ (may _ (a, wanted, e, h, g, refl))) (λ g. because _ (begun _ at))) (λ h. because _ (begun _ at)))
    (λ e. because _ (begun _ at))

power_reason : (w : World) (k : ℕ) (name : List ℕ) (kind : PowerKind) → Asks w k (power_command kind name) → other_turn w.power_owner k ≡ None
    → Each (Told w k (power_command kind name)) (Does (on_device w name (λ d. BeginPower kind d.serial)))
power_reason w k name kind at turn =
    device_reason w k _ name _ at (λ d e c. because _ (λ h. record { begins = begun _ at h; name = name; words = refl; named = it_named w name d e; spared = c; nobody = turn }))

-- a list or a tree of the root, or of a device
told_reason : (w : World) (k : ℕ) (said : Command) (name : Option (List ℕ)) → Asks w k said → ((said ≡ command.ListDev name) ⊎ (said ≡ command.TreeDev name))
    → Each (Told w k said) (Does (telling w name))
told_reason w k said None at words = because _ (λ h. record { begins = begun _ at h; name = None; words = words; known = λ of e. absurd cc })
told_reason w k said (Some name) at words =
    by_option _ (device_named w.setup w.live name) _
    (λ d e. because _ (λ h. record { begins = begun _ at h; name = Some name; words = words; known = λ of same. (d, ap (device_named w.setup w.live) (sym (same_Some name of same)) ∙ e) }))
    (λ e. because _ (begun _ at))

command_reason : (w : World) (k : ℕ) (c : Command) → Asks w k c → Each (Told w k c) (Does (command_deed w k ((caller_at w k).over + 1) c))
unfolding command_deed
command_reason w k (command.OpenDev name) at =
    device_reason w k _ name _ at (λ d e c.
    by_if (has w.sole d.serial) _ _ (λ h. because _ (begun _ at)) (λ h.
    by_if (nat_lt (count_in w.refs k d.serial) 15) _ _
    (λ n. let few : count_in w.refs k d.serial < 15 = grind (arith, nat_tests, n) in
    because _ (λ t. record { begins = begun _ at t; name = name; words = refl; named = it_named w name d e; spared = c; room = (h, few) })) (λ n. because _ (begun _ at))))
command_reason w k (command.OpenSole name) at =
    device_reason w k _ name _ at (λ d e c.
    by_if (is_referred w d.serial) _ _ (λ h. because _ (begun _ at)) (λ h. because _ (λ t. record { begins = begun _ at t; name = name; words = refl; named = it_named w name d e; spared = c; room = h })))
command_reason w k (command.CloseDev name) at =
    held_reason w k _ name _ at (λ d e h. because _ (λ t. record { begins = begun _ at t; name = name; words = refl; named = it_named w name d e; held = h }))
command_reason w k (command.Io name value) at =
    held_reason w k _ name _ at (λ d e h. by_if d.asleep _ _ (λ s. because _ (begun _ at)) (λ s.
    because _ (λ t. record { begins = begun _ at t; name = name; value = value; words = refl; named = it_named w name d e; held = h; awake = s; ticket = refl })))
command_reason w k (command.Detach name) at =
    device_reason w k _ name _ at (λ d e c.
    by_option _ (hindered w d.serial k false) _ (λ x h. because _ (begun _ at)) (λ h.
    because _ (λ t. record { begins = begun _ at t; name = name; words = refl; named = it_named w name d e; spared = c; free = h })))
command_reason w k (command.Rescan name attr given) at =
    device_reason w k _ name _ at (λ d e c.
    by_if (is_pinned w d.serial) _ _ (λ p. because _ (begun _ at)) (λ p. by_if d.asleep _ _ (λ s. because _ (begun _ at)) (λ s.
    by_if ((policy_of w.setup d.row).norescan || has_nothing (offered_by w.setup d.row)) _ _ (λ n. because _ (begun _ at)) (λ n.
    let refuses = or_false (policy_of w.setup d.row).norescan (has_nothing (offered_by w.setup d.row)) n in
    scan_reason w k _ d attr given (λ only scope t. record {
      begins = begun _ at t;
      name = name;
      attr = attr;
      given = given;
      words = refl;
      named = it_named w name d e;
      spared = c;
      unpinned = p;
      awake = s;
      may = refuses.0;
      offers = refuses.1;
      scope = scope;
    }) at))))
command_reason w k (command.ListDev name) at = told_reason w k _ name at (inl refl)
command_reason w k (command.TreeDev name) at = told_reason w k _ name at (inr refl)
command_reason w k (command.Suspend name) at = power_reason w k name kind.Suspend at (at.turn refl)
command_reason w k (command.Resume name) at = power_reason w k name kind.Resume at (at.turn refl)
command_reason w k (command.ResumeTree name) at = power_reason w k name kind.ResumeTree at (at.turn refl)
command_reason w k (command.Plug name) at =
    by_option _ (spot_number w.setup.machine.spots name) _ (λ x e. because _ (λ t. record { begins = begun _ at t; name = name; words = refl; spot = e })) (λ e. because _ (begun _ at))
command_reason w k (command.Unplug name) at =
    by_option _ (spot_number w.setup.machine.spots name) _ (λ x e.
    by_option _ (device_on w.live x) _
    (λ d f. by_option _ (hindered w d.serial k true) _ (λ y h. because _ (begun _ at)) (λ h.
    because _ (λ t. record { begins = begun _ at t; name = name; words = refl; spot = e; dev = d; stands = f; serial = refl; live = found_live w _ d f; free = h })))
    (λ f. because _ (λ t. record { begins = begun _ at t; name = name; words = refl; spot = e; bare = f }))) (λ e. because _ (begun _ at))

-- ---- without a command

abbrev HasReasons : World → ℕ → Choice → Type 0
HasReasons w k c = Each (Why w k) c

starting_reason : (w : World) (k : ℕ) (said : Command) → IsBetween w k → command_of w k ≡ Some said → (is_power said ≡ true → other_turn w.power_owner k ≡ None)
    → HasReasons w k (Does (command_deed w k ((caller_at w k).over + 1) said))
starting_reason w k said at e turn = record {
  each = λ d same. (command_reason w k said (record { between = at; command = e; turn = turn })).each d same (one_deed _ d same);
}

script_reason : (w : World) (k : ℕ) → IsBetween w k → HasReasons w k (next_command w k)
unfolding next_command
script_reason w k at =
    over_option _ (command_of w k) _
    (λ c e. over_option _ (cond (is_power c) (other_turn w.power_owner k) None) _
    (λ j t. nothing _ (λ d same. cc)) (λ t. starting_reason w k c at e (λ p. sym (ap (λ (b : Bool). cond b (other_turn w.power_owner k) None) p) ∙ t)))
    (λ e. over_option _ (first_held w k) _
    (λ d h. because _ (record { between = at; over = e; dev = d; first = h; serial = refl; live = found_live w _ d h; held = find_true (λ x. is_held w k x.serial) w.live d h }))
    (λ h. because _ (record { stack = at.no_frames; over = inr (at.later, e, h) }, at.idle)))

-- ---- frames

finalise_reason : (w : World) (k s : ℕ) (listed : Option ℕ) (anew : Bool) → IsCalled w k s listed anew → Rests w k → HasReasons w k (Does (finalise w s listed anew))
unfolding finalise
finalise_reason w k s listed anew called rests =
    by_option _ (option_and_then (late_spot w) (device_at w.live s)) _ (λ x e. because _ (record { called = called; spot = e; came = refl }, rests))
    (λ e. because _ (record { called = called; spot = e; came = refl }, rests))

boot_reason : (w : World) (k : ℕ) → k ≡ 0 → (caller_at w k).stack ≡ [] → Rests w k → HasReasons w k (next_boot w)
unfolding next_boot
boot_reason w k boots stack rests =
    over_if (not w.interrupts_on) _ _ (λ p. because _ (record { boots = boots; stack = stack; before = not-true w.interrupts_on p }, rests)) (λ p.
    let on : w.interrupts_on ≡ true = not-false w.interrupts_on p in
    over_if (nat_lt w.next_finaliser (length w.finalisers)) _ _
    (λ l. let inside : w.next_finaliser < length w.finalisers = grind (arith, nat_tests, l) in finalise_reason w k _ _ _ (boots, stack, on, refl, inside, refl) rests) (λ l.
    let past : length w.finalisers ≤ w.next_finaliser = grind (arith, nat_tests, l) in
    over_if w.pass_repeats _ _ (λ a. finalise_reason w k _ _ _ (boots, stack, on, refl, past, refl, a) rests)
    (λ a. because _ (record { stack = stack; over = inl (boots, on, past, a) }, rests))))

top_reason : (w : World) (k : ℕ) (fs : List Frame) → (caller_at w k).stack ≡ fs → Rests w k → HasReasons w k (on_top w k fs)
unfolding next_scan
top_reason w k [] e rests =
    over_if (k == 0) _ _ (λ z. boot_reason w k (eqb-true k 0 z) e rests) (λ z. script_reason w k (record { later = eqb-false k 0 z; idle = rests; no_frames = e }))
top_reason w k (Scan s only wanted from ∷ rest) e rests =
    by_option _ (due w.setup w.live w.absent w.hidden s only wanted from) _
    (λ t h. because _ (record { only = only; wanted = wanted; from = from; rest = rest; turn = t; stack = e; is_due = h; place = refl; moved = refl; came = refl }, rests))
    (λ h. because _ (record { only = only; wanted = wanted; from = from; rest = rest; stack = e; none_due = h }, rests))
top_reason w k (Finaliser s ∷ rest) e rests = finalise_reason w k s None false (rest, e, refl) rests

-- ---- freeing

-- what is freed next is live
free_live : (live : List Dev) (k s : ℕ) → next_free live k ≡ Some s → is_live live s ≡ true
unfolding next_free
free_live live k s = cases (find (λ d. is_number d.condemned k) (reverse live)) refl
  where
    cases : (o : Option Dev) → find (λ d. is_number d.condemned k) (reverse live) ≡ o → option_map (λ d. d.serial) o ≡ Some s → is_live live s ≡ true
    cases None e h = absurd cc
    cases (Some d) e h = ap (is_live live) (sym (same_Some d.serial s h)) ∙ contained_live live d (found_from_end (λ x. is_number x.condemned k) live d e)

freeing_reason : (w : World) (k target : ℕ) → (caller_at w k).doing ≡ activity.Frees target → HasReasons w k (freeing w k)
unfolding freeing
freeing_reason w k target amid =
    over_option _ (next_free w.live k) _
    (λ s e. over_if (is_referred w s) _ _ (λ r. nothing _ (λ d same. cc)) (λ r. because _ (record { target = target; amid = amid; last = e; live = free_live w.live k s e; free = r })))
    (λ e. ended)

-- ---- power

-- a deed has its reason where the power command comes to it
abbrev Powered : World → ℕ → PowerKind → ℕ → Deed → Type 0
Powered w k what target d = powering w what target ≡ Does d → Why w k d

suspend_reason : (w : World) (k target : ℕ) → (caller_at w k).doing ≡ activity.Power kind.Suspend target → is_live w.live target ≡ true
    → Each (Powered w k kind.Suspend target) (suspending w target)
unfolding suspending
suspend_reason w k target amid live =
    over_option _ (next_sleep w.live target) _ (λ d e.
    over_if (is_pinned w d.serial) _ _ (λ p. nothing _ (λ x same. cc)) (λ p.
    over_if (policy_of w.setup d.row).nopower _ _ (λ n. because _ (λ h. record { kind = kind.Suspend; target = target; amid = amid; why = inr (live, h) })) (λ n.
    over_if (policy_of w.setup d.row).failsuspend _ _ (λ f. because _ (λ h. record { kind = kind.Suspend; target = target; amid = amid; why = inr (live, h) })) (λ f.
    because _ (λ h. record { target = target; dev = d; amid = amid; live = live; last = e; serial = refl; unpinned = p; may = n; works = f })))))
    (λ e. because _ (λ h. record { kind = kind.Suspend; target = target; amid = amid; why = inr (live, h) }))

wake_reason : (w : World) (k target : ℕ) (what : PowerKind) (below : Bool) → (caller_at w k).doing ≡ activity.Power what target → is_live w.live target ≡ true → wakes_below what ≡ Some below
    → Each (Powered w k what target) (waking w target below)
unfolding waking
wake_reason w k target what below amid live wakes =
    over_option _ (next_wake w.live target below) _
    (λ d e. because _ (λ h. record { target = target; kind = what; below = below; dev = d; amid = amid; live = live; wakes = wakes; first = e; serial = refl }))
    (λ e. because _ (λ h. record { kind = what; target = target; amid = amid; why = inr (live, h) }))

powering_reason : (w : World) (k target : ℕ) (what : PowerKind) → (caller_at w k).doing ≡ activity.Power what target → is_live w.live target ≡ true
    → Each (Powered w k what target) (powering w what target)
powering_reason w k target kind.Suspend amid live = suspend_reason w k target amid live
powering_reason w k target kind.Resume amid live = wake_reason w k target kind.Resume false amid live refl
powering_reason w k target kind.ResumeTree amid live = wake_reason w k target kind.ResumeTree true amid live refl

powered_reason : (w : World) (k target : ℕ) (what : PowerKind) → (caller_at w k).doing ≡ activity.Power what target → is_live w.live target ≡ true → HasReasons w k (powering w what target)
powered_reason w k target what amid live = record { each = λ d same. (powering_reason w k target what amid live).each d same same }

-- ---- all of it

activity_reason : (w : World) (k : ℕ) (a : Activity) → (caller_at w k).doing ≡ a → HasReasons w k (by_activity w k a)
activity_reason w k activity.Ended e = ended
activity_reason w k (activity.Transfer ticket) e = because _ e
activity_reason w k (activity.Frees target) e = freeing_reason w k target e
activity_reason w k (activity.Power what target) e =
    over_if (is_live w.live target) _ _ (λ l. powered_reason w k target what e l) (λ l. because _ (record { kind = what; target = target; amid = e; why = inl (l, refl) }))
activity_reason w k activity.Scans e = top_reason w k (caller_at w k).stack refl (inr e)
activity_reason w k activity.Idle e = top_reason w k (caller_at w k).stack refl (inl e)

next_reason : (w : World) (k : ℕ) → HasReasons w k (next w k)
unfolding next
next_reason w k =
    over_if (has_ended w k) _ _ (λ e. ended) (λ e.
    over_if (not (k == 0) && not (has_ended w 0)) _ _ (λ b. nothing _ (λ d same. cc)) (λ b.
    activity_reason w k (caller_at w k).doing refl))

why_next : (w : World) (k : ℕ) (d : Deed) → next w k ≡ Does d → Why w k d
why_next w k d e = (next_reason w k).each d e

-- the reason of the deed that comes next: a frame's or a command's
has_reasons : (w : World) (k : ℕ) (d : Deed) → Why w k d → HasReason w k d × HasCommandReason w k d
has_reasons w k (Search p spot to got) h = (h.0, tt)
has_reasons w k (EndScan p) h = (h.0, tt)
has_reasons w k BeginInterrupts h = (h.0, tt)
has_reasons w k (Finalise s shown got listed anew) h = (h.0, tt)
has_reasons w k EndCaller h = (h.0, tt)
has_reasons w k (Unplug x None) h = (tt, h)
has_reasons w k (Unplug x (Some s)) h = (tt, h)
has_reasons w k d h = (tt, h)

-- that of a frame's deed
pub has_reason : (w : World) (k : ℕ) (d : Deed) → next w k ≡ Does d → HasReason w k d
has_reason w k d e = (has_reasons w k d (why_next w k d e)).0

-- that of a command's deed
pub has_command_reason : (w : World) (k : ℕ) (d : Deed) → next w k ≡ Does d → HasCommandReason w k d
has_command_reason w k d e = (has_reasons w k d (why_next w k d e)).1

-- ---- who rests

-- idle, in a rescan, or ended: with no command in between
abbrev pub is_quiet : Activity → Bool
is_quiet activity.Idle = true
is_quiet activity.Scans = true
is_quiet activity.Ended = true
is_quiet _ = false

pub quiet_rests : (a : Activity) → (a ≡ activity.Idle) ⊎ (a ≡ activity.Scans) → is_quiet a ≡ true
quiet_rests a (inl idle) = rw idle refl
quiet_rests a (inr scans) = rw scans refl

pub quiet_end : (w : World) (k : ℕ) → next w k ≡ Does EndCaller → is_quiet (caller_at w k).doing ≡ true
quiet_end w k e = quiet_rests (caller_at w k).doing (why_next w k EndCaller e).1
