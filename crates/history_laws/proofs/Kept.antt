-- Each step of a run keeps that what is counted on the lines is what the world has.
use Rattle.std.proofs.Common.{◌≡◌, ◌≢◌, ◌<◌, ℕ, ◌==◌, Bool, true, false, not, ◌&&◌, ◌||◌, List, [], ◌∷◌, ◌++◌, map, Option, Some, None, refl, sym, ap, ◌∙◌, subst, inl, inr, eqb-true, arith}
use Rattle.std.specs.Prelude.{filter, if◌then◌else◌, option_and_then}
use Rattle.std.specs.Option.{option_map_or}
use Rattle.std.specs.List.{AllByRecursion, Contains}
use Rattle.std.proofs.lemmas.Bool.{ne_eqb, or_cases}
use Rattle.std.proofs.lemmas.Map.Views.{any-filter_same}
use Rattle.cf_types.specs.declared.machine.Command.TheVariants as command
use Rattle.run_rules.specs.declared.event.Event.{Event}
use Rattle.run_rules.specs.declared.event.Act.TheVariants as act
use Rattle.run_rules.specs.declared.event.Reply.TheVariants as reply
use Rattle.run_rules.specs.declared.world.Arrival.{Arrival}
use Rattle.run_rules.specs.declared.world.Dev.{Dev}
use Rattle.run_rules.specs.declared.world.Position.{Position}
use Rattle.run_rules.specs.declared.world.Ref.{Ref}
use Rattle.run_rules.specs.World.{World, device_at, device_named, holds_in, is_live, is_under, name_of, parent_name}
use Rattle.run_rules.specs.declared.deed.Deed.{Deed}
use Rattle.run_rules.specs.declared.deed.Deed.TheVariants.{Search, EndScan, BeginInterrupts, Finalise, EndCaller, Drop, Refuse, Open, Close, Start, Done, Detach, Free, Rescan, BeginPower, Sleep, Wake, EndPower, Plug, Unplug, Tell}
use Rattle.run_rules.specs.declared.deed.Choice.TheVariants.{Does}
use Rattle.run_rules.specs.After.{after, listed, new_device, with_condemner, with_sleep}
use Rattle.run_rules.specs.Laws.{opens, returns}
use Rattle.run_rules.specs.Next.{late_spot, name_at, next, next_sleep, next_wake}
use Rattle.run_rules.specs.References.{given_back, shared_again, sole_with}
use Rattle.run_rules.specs.Run.{answered, event_of, got_of, printed, shown_of, spot_name, told}
use Rattle.run_rules.specs.Sound.{EachLater, IsApart, IsPlaced}
use Rattle.run_rules.proofs.Devices.{all_imp, all_front, below_next}
use Rattle.run_rules.proofs.Setups.{after_setup}
use Rattle.run_sound.proofs.Coming.{IsCall, MayCome}
use Rattle.run_sound.proofs.Commands.{ClosesHeld, OpensFree, ReturnsFirst, SendsToSleep, Wakes, open_command}
use Rattle.run_sound.specs.Holding.{GoesUnheld, opened_by, returned_by}
use Rattle.run_sound.specs.Kept.{Kept, MayRun}
use Rattle.run_sound.proofs.Arrivals.{finalise_comes, none_shown, search_comes}
use Rattle.run_sound.proofs.Callers.{clash}
use Rattle.run_sound.proofs.Holding.{goes_unheld, refs_same}
use Rattle.run_sound.proofs.Marks.{condemner_keeps_tree}
use Rattle.run_sound.proofs.Members.{each_of, found_contained, found_from_end, live_contained, of_each}
use Rattle.run_sound.proofs.Reasons.{has_command_reason, has_reason}
use Rattle.run_sound.proofs.Steps.{kept_after}
use Rattle.history_laws.specs.Counted.{AreAllCounted, Counted, IsTold, gives_back, grants}
use Rattle.history_laws.proofs.Acts.{IsPlain, answered_is, is_plain, plain_line}
use Rattle.history_laws.proofs.All.{all_granted, all_quiet, all_returned}
use Rattle.history_laws.proofs.Going.{IsDeparture, IsGoing, told_freed, without}
use Rattle.history_laws.proofs.Grown.{asleep_left}
use Rattle.history_laws.proofs.Names.{HasNames, at_is, named_is, named_so, parent_named, world_names}
use Rattle.history_laws.proofs.Referring.{IsGrant, IsReturn, told_granted, told_returned, with_one}
use Rattle.history_laws.proofs.Sleeping.{IsSleepLine, told_slept}
use Rattle.history_laws.proofs.Told.{IsArrival, IsNewcomer, told_attached, told_marked, told_quiet}
use Rattle.run_sound.proofs.Beside.{leaves_devices, live_found, live_same, live_shown}
use Rattle.history_laws.proofs.Worlds.{sole_same}

-- a world by its parts
gather : (h : List Event) (w v : World) (live : List Dev) (refs : List Ref) (sole : List ℕ) → v.setup ≡ w.setup → v.live ≡ live → v.refs ≡ refs → v.sole ≡ sole
    → ((x : List ℕ) → IsTold h w.setup live refs sole x (device_named w.setup live x)) → AreAllCounted h refs → Counted h v
gather h w v live refs sole a b c d names all = record { names = λ x. rw (a, b, c, d) (names x); refs = rw c all }

-- the world after a deed has the names of a world
pub names_after : (w : World) (k : ℕ) (d : Deed) → MayRun w.setup → Kept w → next w k ≡ Does d → HasNames w.setup (after w k d).live (after w k d).next
names_after w k d may kept e = rw (after_setup w k d) at (world_names (after w k d) (rw (after_setup w k d) may) (kept_after w k d may kept e))

-- ---- nothing comes of it

counted_plain : (h : List Event) (w : World) (k : ℕ) (d : Deed) → next w k ≡ Does d → is_plain d ≡ true → leaves_devices d ≡ true → opened_by d ≡ None → returned_by d ≡ None
    → Counted h w → Counted (h ++ event_of w k d ∷ []) (after w k d)
unfolding event_of
counted_plain h w k d e plain leaves opens returns t =
    let line : IsPlain (printed w k d) = plain_line w k d e plain in
    gather (h ++ event_of w k d ∷ []) w (after w k d) w.live w.refs w.sole (after_setup w k d) (live_same w k d leaves) (refs_same w k d opens returns) (sole_same w k d opens returns)
    (λ x. told_quiet h (event_of w k d) w.setup w.live w.refs w.sole x (device_named w.setup w.live x) (line.tree x) (line.sleep x) (line.refs x) (t.names x))
    (all_quiet h (event_of w k d) w.refs line.grants line.gives_back t.refs)

-- ---- devices are condemned

condemner_sleep : (live : List Dev) (k s : ℕ) (d : Dev) → (with_condemner live k s d).asleep ≡ d.asleep
condemner_sleep live k s d = cases (is_under live s d.serial)
  where
    cases : (b : Bool) → (if b then record d { condemned = Some k } else d).asleep ≡ d.asleep
    cases true = refl
    cases false = refl

counted_condemned : (h : List Event) (w : World) (k s : ℕ) (d : Deed) → next w k ≡ Does d → is_plain d ≡ true → (after w k d).live ≡ map (with_condemner w.live k s) w.live → opened_by d ≡ None → returned_by d ≡ None
    → Counted h w → Counted (h ++ event_of w k d ∷ []) (after w k d)
unfolding event_of
counted_condemned h w k s d e plain marks opens returns t =
    let line : IsPlain (printed w k d) = plain_line w k d e plain in
    gather (h ++ event_of w k d ∷ []) w (after w k d) (map (with_condemner w.live k s) w.live) w.refs w.sole (after_setup w k d) marks (refs_same w k d opens returns) (sole_same w k d opens returns)
    (λ x. told_marked h (event_of w k d) w.setup w.live w.refs w.sole x (with_condemner w.live k s) (condemner_keeps_tree w.live k s) (line.tree x) (line.refs x)
    (λ c is. asleep_left h (event_of w k d) x (line.tree x) (line.sleep x) ∙ (t.names x).asleep c is ∙ sym (condemner_sleep w.live k s c)) (t.names x))
    (all_quiet h (event_of w k d) w.refs line.grants line.gives_back t.refs)

-- ---- a device's name on a line

pub name_is : (w : World) (s : ℕ) (d : Dev) → EachLater (IsApart w.setup) w.live → Contains w.live d → d.serial ≡ s → name_at w s ≡ name_of w.setup d
name_is w s d apart here is =
    let found : device_at w.live s ≡ Some d = subst (λ (n : ℕ). device_at w.live n ≡ Some d) is (at_is w.setup w.live d apart here) in
    ap (λ (o : Option Dev). option_map_or (name_of w.setup) o []) found

-- ---- a device sleeps or wakes

sleep_line : (name : List ℕ) → IsSleepLine (act.Sleep name) name true
sleep_line name = record { tree = λ x. record { attached = refl; freed = refl }; refs = λ x. record { opens = refl; sole = refl; returns = refl }; slept = λ x. refl; woken = λ x. refl }

wake_line : (name : List ℕ) → IsSleepLine (act.Wake name) name false
wake_line name = record { tree = λ x. record { attached = refl; freed = refl }; refs = λ x. record { opens = refl; sole = refl; returns = refl }; slept = λ x. refl; woken = λ x. refl }

counted_slept : (h : List Event) (w : World) (k s : ℕ) (d : Deed) (n : Dev) (down : Bool) → Kept w → MayRun w.setup → Contains w.live n → n.serial ≡ s → IsSleepLine (printed w k d) (name_at w s) down
    → (after w k d).live ≡ map (with_sleep s down) w.live → opened_by d ≡ None → returned_by d ≡ None → grants (printed w k d) ≡ false → gives_back (printed w k d) ≡ false
    → Counted h w → Counted (h ++ event_of w k d ∷ []) (after w k d)
unfolding event_of
counted_slept h w k s d n down kept may there is line marks opens returns grant back t =
    let names : HasNames w.setup w.live w.next = world_names w may kept in
    let own : IsSleepLine (printed w k d) (name_of w.setup n) down = subst (λ (y : List ℕ). IsSleepLine (printed w k d) y down) (name_is w s n names.apart there is) line in
    let live : (after w k d).live ≡ map (with_sleep n.serial down) w.live = rw is marks in
    gather (h ++ event_of w k d ∷ []) w (after w k d) (map (with_sleep n.serial down) w.live) w.refs w.sole (after_setup w k d) live (refs_same w k d opens returns) (sole_same w k d opens returns)
    (λ x. told_slept h (event_of w k d) w.setup w.live w.refs w.sole n down x own (record { own = names.own; apart = names.apart; there = there }) (t.names x))
    (all_quiet h (event_of w k d) w.refs grant back t.refs)

counted_sleep : (h : List Event) (w : World) (k s : ℕ) → MayRun w.setup → Kept w → next w k ≡ Does (Sleep s) → Counted h w → Counted (h ++ event_of w k (Sleep s) ∷ []) (after w k (Sleep s))
unfolding after printed next_sleep
counted_sleep h w k s may kept e t =
    let why : SendsToSleep w k s = has_command_reason w k (Sleep s) e in
    let there : Contains w.live why.dev = found_from_end (λ d. not d.asleep && is_under w.live why.target d.serial) w.live why.dev why.last in
    counted_slept h w k s (Sleep s) why.dev true kept may there why.serial (sleep_line (name_at w s)) refl refl refl refl refl t

counted_wake : (h : List Event) (w : World) (k s : ℕ) → MayRun w.setup → Kept w → next w k ≡ Does (Wake s) → Counted h w → Counted (h ++ event_of w k (Wake s) ∷ []) (after w k (Wake s))
unfolding after printed next_wake
counted_wake h w k s may kept e t =
    let why : Wakes w k s = has_command_reason w k (Wake s) e in
    let there : Contains w.live why.dev =
    found_contained (λ d. d.asleep && (is_under w.live d.serial why.target || (why.below && is_under w.live why.target d.serial))) w.live why.dev why.first in
    counted_slept h w k s (Wake s) why.dev false kept may there why.serial (wake_line (name_at w s)) refl refl refl refl refl t

-- ---- a device goes

gone_line : (name : List ℕ) → IsDeparture (act.Free name) name
gone_line name = record { freed = refl; attached = refl; sleep = λ x. record { slept = refl; woken = refl }; refs = λ x. record { opens = refl; sole = refl; returns = refl } }

-- of those that pass, in the list of all
of_passed : {A : Type 0} (P : A → Type 0) (q : A → Bool) (xs : List A) → AllByRecursion P (filter q xs) → AllByRecursion (λ x. q x ≡ true → P x) xs
of_passed P q [] h = tt
of_passed {A} P q (x ∷ xs) h = cases (q x) h (of_passed P q xs)
  where
    cases : (b : Bool) → AllByRecursion P (if b then x ∷ filter q xs else filter q xs) → (AllByRecursion P (filter q xs) → AllByRecursion (λ x. q x ≡ true → P x) xs) → (b ≡ true → P x) × AllByRecursion (λ x. q x ≡ true → P x) xs
    cases true k rest = (λ on. k.0, rest k.1)
    cases false k rest = (λ on. absurd cc, rest k)

-- nothing lives below what goes, since what is left is below what is left
childless : (live : List Dev) (low high n : ℕ) → 0 < n → AllByRecursion (IsPlaced live low) live → AllByRecursion (IsPlaced (without live n) high) (without live n) → AllByRecursion (λ d. d.parent ≢ n) live
childless live low high n some old new = each_of (λ d. d.parent ≢ n) live (λ d here is. cases d here is (d.serial == n) refl)
  where
    gone : is_live (without live n) n ≡ false
    gone = any-filter_same (λ (d : Dev). d.serial == n) (λ d. not (d.serial == n)) false (λ d on. rw on refl) live

    cases : (d : Dev) → Contains live d → d.parent ≡ n → (b : Bool) → (d.serial == n) ≡ b → ⊥
    cases d here is true same = absurd (omega (arith, eqb-true d.serial n same, is, (of_each (IsPlaced live low) live d old here).after_parent))
    cases d here is false other =
        let at : IsPlaced (without live n) high d =
        of_each (λ c. not (c.serial == n) ≡ true → IsPlaced (without live n) high c) live d (of_passed (IsPlaced (without live n) high) (λ c. not (c.serial == n)) live new) here (rw other refl) in
        elim (or_cases (d.parent == 0) (is_live (without live n) d.parent) at.parent_live) [
          | inl root ↦ absurd (omega (arith, some, is, eqb-true d.parent 0 root))
          | inr lives ↦ clash (is_live (without live n) n) (rw is at lives) gone
        ]

counted_free : (h : List Event) (w : World) (k s : ℕ) → MayRun w.setup → Kept w → next w k ≡ Does (Free s) → Counted h w → Counted (h ++ event_of w k (Free s) ∷ []) (after w k (Free s))
unfolding printed event_of
counted_free h w k s may kept e t =
    let goes : GoesUnheld w k (Free s) s = goes_unheld w k s e in
    let one = live_contained w.live s goes.live in
    let n : Dev = one.0 in
    let names : HasNames w.setup w.live w.next = world_names w may kept in
    let left : (after w k (Free s)).live ≡ without w.live n.serial = goes.gone ∙ ap (without w.live) (sym one.2) in
    let later : HasNames w.setup (without w.live n.serial) (after w k (Free s)).next = rw left at (names_after w k (Free s) may kept e) in
    let going : IsGoing w.setup w.live w.refs n = record {
      own = names.own;
      apart = names.apart;
      there = one.1;
      childless = childless w.live w.next (after w k (Free s)).next n.serial (omega (arith, (of_each (IsPlaced w.live w.next) w.live n names.placed one.1).after_parent)) names.placed later.placed;
      unreferred = λ j. rw one.2 (goes.free j);
    } in
    let line : IsDeparture (act.Free (name_at w s)) (name_of w.setup n) = subst (IsDeparture (act.Free (name_at w s))) (name_is w s n names.apart one.1 one.2) (gone_line (name_at w s)) in
    gather (h ++ event_of w k (Free s) ∷ []) w (after w k (Free s)) (without w.live n.serial) w.refs w.sole (after_setup w k (Free s)) left (refs_same w k (Free s) refl refl) (sole_same w k (Free s) refl refl)
    (λ x. told_freed h (event_of w k (Free s)) w.setup w.live w.refs w.sole n x line going (t.names x))
    (all_quiet h (event_of w k (Free s)) w.refs refl refl t.refs)

-- ---- references

counted_open : (h : List Event) (w : World) (k s : ℕ) (sole : Bool) → MayRun w.setup → Kept w → next w k ≡ Does (Open s sole) → Counted h w → Counted (h ++ event_of w k (Open s sole) ∷ []) (after w k (Open s sole))
unfolding after printed event_of
counted_open h w k s sole may kept e t =
    let why : OpensFree w k s sole = has_command_reason w k (Open s sole) e in
    let n : Dev = why.named.dev in
    let names : HasNames w.setup w.live w.next = world_names w may kept in
    let is : name_of w.setup n ≡ why.name = named_so w.setup w.live why.name n why.named.found in
    let line : answered w k reply.Ok ≡ told w (open_command sole why.name) reply.Ok = answered_is w k reply.Ok (open_command sole why.name) (why.begins.command ∙ ap Some why.words) in
    let grant : IsGrant (answered w k reply.Ok) (name_of w.setup n) sole = rw (line, is) (grant_line w why.name sole) in
    let all : (grants (answered w k reply.Ok) ≡ true) × (gives_back (answered w k reply.Ok) ≡ false) = rw line (granted_line w why.name sole) in
    gather (h ++ event_of w k (Open s sole) ∷ []) w (after w k (Open s sole)) w.live (with_one w.refs k n.serial) (sole_with w.sole n.serial sole) refl refl
    (ap (with_one w.refs k) (sym why.named.serial)) (ap (λ (i : ℕ). sole_with w.sole i sole) (sym why.named.serial))
    (λ x. told_granted h (event_of w k (Open s sole)) w.setup w.live w.refs w.sole n sole x grant (rw why.named.serial why.room) (record { apart = names.apart; there = why.named.there })
    (rw is why.named.found) (t.names x))
    (all_granted h (event_of w k (Open s sole)) w.refs n.serial all.0 all.1 t.refs)
  where
    grant_line : (w : World) (name : List ℕ) (sole : Bool) → IsGrant (told w (open_command sole name) reply.Ok) name sole
    grant_line w name true = record { tree = λ x. record { attached = refl; freed = refl }; sleep = λ x. record { slept = refl; woken = refl }; opens = λ x. refl; sole = λ x. refl; returns = λ x. refl }
    grant_line w name false = record { tree = λ x. record { attached = refl; freed = refl }; sleep = λ x. record { slept = refl; woken = refl }; opens = λ x. refl; sole = λ x. refl; returns = λ x. refl }

    granted_line : (w : World) (name : List ℕ) (sole : Bool) → (grants (told w (open_command sole name) reply.Ok) ≡ true) × (gives_back (told w (open_command sole name) reply.Ok) ≡ false)
    granted_line w name true = (refl, refl)
    granted_line w name false = (refl, refl)

close_line : (name : List ℕ) → IsReturn (act.CloseDev name reply.Ok) name
close_line name = record { tree = λ x. record { attached = refl; freed = refl }; sleep = λ x. record { slept = refl; woken = refl }; opens = λ x. refl; sole = λ x. refl; returns = λ x. refl }

drop_line : (name : List ℕ) → IsReturn (act.DropRef name) name
drop_line name = record { tree = λ x. record { attached = refl; freed = refl }; sleep = λ x. record { slept = refl; woken = refl }; opens = λ x. refl; sole = λ x. refl; returns = λ x. refl }

-- a device that its caller holds is given back once
counted_back : (h : List Event) (w : World) (k : ℕ) (d : Deed) (n : Dev) → MayRun w.setup → Kept w → Contains w.live n → holds_in w.refs k n.serial ≡ true → IsReturn (printed w k d) (name_of w.setup n)
    → grants (printed w k d) ≡ false → gives_back (printed w k d) ≡ true → (after w k d).live ≡ w.live → (after w k d).refs ≡ given_back w.refs k n.serial → (after w k d).sole ≡ shared_again w.sole n.serial
    → Counted h w → Counted (h ++ event_of w k d ∷ []) (after w k d)
unfolding event_of
counted_back h w k d n may kept there held line grant back live refs sole t =
    let names : HasNames w.setup w.live w.next = world_names w may kept in
    gather (h ++ event_of w k d ∷ []) w (after w k d) w.live (given_back w.refs k n.serial) (shared_again w.sole n.serial) (after_setup w k d) live refs sole
    (λ x. told_returned h (event_of w k d) w.setup w.live w.refs w.sole n x line kept.sound.refs.counted held (record { apart = names.apart; there = there })
    (named_is w.setup w.live (name_of w.setup n) n names.own there refl) (t.names x))
    (all_returned h (event_of w k d) w.refs n.serial grant back held t.refs)

counted_close : (h : List Event) (w : World) (k s : ℕ) → MayRun w.setup → Kept w → next w k ≡ Does (Close s) → Counted h w → Counted (h ++ event_of w k (Close s) ∷ []) (after w k (Close s))
unfolding after printed
counted_close h w k s may kept e t =
    let why : ClosesHeld w k s = has_command_reason w k (Close s) e in
    let n : Dev = why.named.dev in
    let line : answered w k reply.Ok ≡ act.CloseDev why.name reply.Ok = answered_is w k reply.Ok (command.CloseDev why.name) (why.begins.command ∙ ap Some why.words) in
    counted_back h w k (Close s) n may kept why.named.there (rw why.named.serial why.held)
    (rw (line, named_so w.setup w.live why.name n why.named.found) (close_line why.name)) (rw line refl) (rw line refl)
    refl (ap (given_back w.refs k) (sym why.named.serial)) (ap (shared_again w.sole) (sym why.named.serial)) t

counted_drop : (h : List Event) (w : World) (k s : ℕ) → MayRun w.setup → Kept w → next w k ≡ Does (Drop s) → Counted h w → Counted (h ++ event_of w k (Drop s) ∷ []) (after w k (Drop s))
unfolding after printed
counted_drop h w k s may kept e t =
    let why : ReturnsFirst w k s = has_command_reason w k (Drop s) e in
    let there : Contains w.live why.dev = found_contained (λ d. holds_in w.refs k d.serial) w.live why.dev why.first in
    let names : HasNames w.setup w.live w.next = world_names w may kept in
    counted_back h w k (Drop s) why.dev may kept there (rw why.serial why.held)
    (subst (IsReturn (act.DropRef (name_at w s))) (name_is w s why.dev names.apart there why.serial) (drop_line (name_at w s))) refl refl
    refl (ap (given_back w.refs k) (sym why.serial)) (ap (shared_again w.sole) (sym why.serial)) t

-- ---- a device comes

unreferred_new : (refs : List Ref) (live : List Dev) (n : ℕ) → AllByRecursion (λ r. is_live live r.serial ≡ true) refs → ((s : ℕ) → is_live live s ≡ true → s < n) → (k : ℕ) → holds_in refs k n ≡ false
unreferred_new [] live n old low k = refl
unreferred_new (r ∷ rs) live n old low k = rw (ne_eqb r.serial n (λ same. absurd (omega (arith, same, low r.serial old.0))), unreferred_new rs live n old.1 low k) refl

pub newcomer : (w : World) (a : Arrival) (high : ℕ) → Kept w → HasNames w.setup w.live w.next → HasNames w.setup (w.live ++ new_device w a ∷ []) high → IsNewcomer w.setup w.live w.refs (new_device w a)
newcomer w a high kept old new = record {
  own = new.own;
  serials = all_imp (IsPlaced w.live w.next) (λ d. d.serial < w.next) (λ d p. p.below_next) w.live old.placed;
  parents = all_imp (IsPlaced w.live w.next) (λ d. d.parent < w.next) (λ d p. omega (arith, p.below_next, p.after_parent)) w.live old.placed;
  parent = (all_front (IsPlaced (w.live ++ new_device w a ∷ []) high) w.live (new_device w a) new.placed).1.after_parent;
  unreferred = unreferred_new w.refs w.live w.next kept.sound.refs.live_ones (λ s lives. below_next w.live w.live w.next s old.placed lives);
  awake = refl;
}

-- the line of what comes to a spot below a parent, and of what a finaliser shows
found_line : (w : World) (parent spot : List ℕ) (a : Arrival) → IsArrival (act.Found parent spot (got_of w.setup (Some a))) (name_of w.setup (new_device w a)) parent
found_line w parent spot a = record { attached = refl; below = refl; freed = refl; sleep = λ x. record { slept = refl; woken = refl }; refs = λ x. record { opens = refl; sole = refl; returns = refl } }

shown_line : (w : World) (device : List ℕ) (x : ℕ) (a : Arrival) → IsArrival (act.Final device (shown_of w.setup (Some x) (Some a))) (name_of w.setup (new_device w a)) device
shown_line w device x a = record { attached = refl; below = refl; freed = refl; sleep = λ y. record { slept = refl; woken = refl }; refs = λ y. record { opens = refl; sole = refl; returns = refl } }

counted_come : (h : List Event) (w : World) (k : ℕ) (d : Deed) (a : Arrival) → MayRun w.setup → Kept w → next w k ≡ Does d → IsArrival (printed w k d) (name_of w.setup (new_device w a)) (parent_name w.setup w.live a.parent)
    → grants (printed w k d) ≡ false → gives_back (printed w k d) ≡ false → (after w k d).live ≡ w.live ++ new_device w a ∷ [] → opened_by d ≡ None → returned_by d ≡ None
    → Counted h w → Counted (h ++ event_of w k d ∷ []) (after w k d)
unfolding event_of
counted_come h w k d a may kept e line grant back live opens returns t =
    let new : HasNames w.setup (w.live ++ new_device w a ∷ []) (after w k d).next = rw live at (names_after w k d may kept e) in
    gather (h ++ event_of w k d ∷ []) w (after w k d) (w.live ++ new_device w a ∷ []) w.refs w.sole (after_setup w k d) live (refs_same w k d opens returns) (sole_same w k d opens returns)
    (λ x. told_attached h (event_of w k d) w.setup w.live w.refs w.sole (new_device w a) x line (newcomer w a (after w k d).next kept (world_names w may kept) new) (t.names x))
    (all_quiet h (event_of w k d) w.refs grant back t.refs)

counted_found : (h : List Event) (w : World) (k p spot : ℕ) (to : Position) (a : Arrival) → MayRun w.setup → Kept w → next w k ≡ Does (Search p spot to (Some a))
    → Counted h w → Counted (h ++ event_of w k (Search p spot to (Some a)) ∷ []) (after w k (Search p spot to (Some a)))
unfolding printed listed
counted_found h w k p spot to a may kept e t =
    let come : MayCome w.setup w.live w.hidden p a = search_comes w k p spot to a may kept e in
    counted_come h w k (Search p spot to (Some a)) a may kept e (rw come.parent (found_line w (parent_name w.setup w.live p) (spot_name w.setup spot) a)) refl refl (live_found w k p spot to a) refl refl t

-- what a finaliser shows is below its device
pub called_device : (w : World) (k s x : ℕ) (got : Option Arrival) (listed : Option ℕ) (anew : Bool) → IsCall w k s (Some x) got listed anew → (d : Dev) × (device_at w.live s ≡ Some d)
called_device w k s x got listed anew call = cases (device_at w.live s) refl call.spot
  where
    cases : (o : Option Dev) → device_at w.live s ≡ o → option_and_then (late_spot w) o ≡ Some x → (d : Dev) × (device_at w.live s ≡ Some d)
    cases None e h = absurd cc
    cases (Some d) e h = (d, e)

pub called_name : (w : World) (s : ℕ) (d : Dev) → device_at w.live s ≡ Some d → name_at w s ≡ parent_name w.setup w.live s
called_name w s d e = ap (λ (o : Option Dev). option_map_or (name_of w.setup) o []) e ∙ sym (parent_named w.setup w.live s d e)

counted_shown : (h : List Event) (w : World) (k s : ℕ) (shown : Option ℕ) (a : Arrival) (place : Option ℕ) (anew : Bool) → MayRun w.setup → Kept w → next w k ≡ Does (Finalise s shown (Some a) place anew)
    → Counted h w → Counted (h ++ event_of w k (Finalise s shown (Some a) place anew) ∷ []) (after w k (Finalise s shown (Some a) place anew))
unfolding printed listed
counted_shown h w k s None a place anew may kept e t = absurd (none_shown w k s a place anew e)
counted_shown h w k s (Some x) a place anew may kept e t =
    let come = finalise_comes w k s x a place anew may kept e in
    let call : IsCall w k s (Some x) (Some a) place anew = has_reason w k (Finalise s (Some x) (Some a) place anew) e in
    let of = called_device w k s x (Some a) place anew call in
    let name : name_at w s ≡ parent_name w.setup w.live a.parent = called_name w s of.0 of.1 ∙ ap (parent_name w.setup w.live) (sym come.parent) in
    counted_come h w k (Finalise s (Some x) (Some a) place anew) a may kept e
    (subst (λ (y : List ℕ). IsArrival (act.Final (name_at w s) (shown_of w.setup (Some x) (Some a))) (name_of w.setup (new_device w a)) y) name (shown_line w (name_at w s) x a)) refl refl
    (live_shown w k s (Some x) a place anew) refl refl t

-- ---- all deeds

pub counted_after : (h : List Event) (w : World) (k : ℕ) (d : Deed) → MayRun w.setup → Kept w → next w k ≡ Does d → Counted h w → Counted (h ++ event_of w k d ∷ []) (after w k d)
unfolding after
counted_after h w k (Search p spot to None) may kept e t = counted_plain h w k (Search p spot to None) e refl refl refl refl t
counted_after h w k (Search p spot to (Some a)) may kept e t = counted_found h w k p spot to a may kept e t
counted_after h w k (EndScan p) may kept e t = counted_plain h w k (EndScan p) e refl refl refl refl t
counted_after h w k BeginInterrupts may kept e t = counted_plain h w k BeginInterrupts e refl refl refl refl t
counted_after h w k (Finalise s shown None place anew) may kept e t = counted_plain h w k (Finalise s shown None place anew) e refl refl refl refl t
counted_after h w k (Finalise s shown (Some a) place anew) may kept e t = counted_shown h w k s shown a place anew may kept e t
counted_after h w k EndCaller may kept e t = counted_plain h w k EndCaller e refl refl refl refl t
counted_after h w k (Drop s) may kept e t = counted_drop h w k s may kept e t
counted_after h w k (Refuse why) may kept e t = counted_plain h w k (Refuse why) e refl refl refl refl t
counted_after h w k (Open s sole) may kept e t = counted_open h w k s sole may kept e t
counted_after h w k (Close s) may kept e t = counted_close h w k s may kept e t
counted_after h w k (Start ticket) may kept e t = counted_plain h w k (Start ticket) e refl refl refl refl t
counted_after h w k (Done ticket) may kept e t = counted_plain h w k (Done ticket) e refl refl refl refl t
counted_after h w k (Detach s) may kept e t = counted_condemned h w k s (Detach s) e refl refl refl refl t
counted_after h w k (Free s) may kept e t = counted_free h w k s may kept e t
counted_after h w k (Rescan s only) may kept e t = counted_plain h w k (Rescan s only) e refl refl refl refl t
counted_after h w k (BeginPower kind s) may kept e t = counted_plain h w k (BeginPower kind s) e refl refl refl refl t
counted_after h w k (Sleep s) may kept e t = counted_sleep h w k s may kept e t
counted_after h w k (Wake s) may kept e t = counted_wake h w k s may kept e t
counted_after h w k (EndPower end) may kept e t = counted_plain h w k (EndPower end) e refl refl refl refl t
counted_after h w k (Plug x) may kept e t = counted_plain h w k (Plug x) e refl refl refl refl t
counted_after h w k (Unplug x None) may kept e t = counted_plain h w k (Unplug x None) e refl refl refl refl t
counted_after h w k (Unplug x (Some s)) may kept e t = counted_condemned h w k s (Unplug x (Some s)) e refl refl refl refl t
counted_after h w k Tell may kept e t = counted_plain h w k Tell e refl refl refl refl t
