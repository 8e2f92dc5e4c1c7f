-- What becomes of the devices at each deed, and what its line tells of them.
use Rattle.std.proofs.Common.{◌≡◌, ◌≢◌, ◌⊎◌, ◌||◌, ℕ, ◌==◌, not, Bool, true, false, cond, List, [], ◌∷◌, ◌++◌, map, find, Option, Some, None, is_some, refl, sym, ap, ◌∙◌, subst, inl, inr, eqb-true}
use Rattle.std.specs.Prelude.{if◌then◌else◌}
use Rattle.std.specs.List.{Contains}
use Rattle.std.specs.Option.{option_map_or, option_or}
use Rattle.std.proofs.lemmas.Bool.{ne_eqb}
use Rattle.std.proofs.lemmas.List.Folds.{find-append}
use Rattle.cf_types.specs.declared.machine.Command.{Command}
use Rattle.cf_types.specs.declared.machine.Command.TheVariants as command
use Rattle.cf_types.specs.declared.tables.Place.{Place}
use Rattle.run_rules.specs.declared.event.Act.{Act}
use Rattle.run_rules.specs.declared.event.Act.TheVariants as act
use Rattle.run_rules.specs.declared.event.Reply.{Reply}
use Rattle.run_rules.specs.declared.event.Reply.TheVariants as reply
use Rattle.run_rules.specs.declared.world.Arrival.{Arrival}
use Rattle.run_rules.specs.declared.world.Dev.{Dev}
use Rattle.run_rules.specs.declared.deed.Deed.{Deed}
use Rattle.run_rules.specs.declared.deed.Deed.TheVariants.{Search, EndScan, BeginInterrupts, Finalise, EndCaller, Drop, Refuse, Open, Close, Start, Done, Detach, Free, Rescan, BeginPower, Sleep, Wake, EndPower, Plug, Unplug, Tell}
use Rattle.run_rules.specs.declared.deed.Choice.TheVariants.{Does}
use Rattle.run_rules.specs.World.{World, device_at, is_condemned, is_live, is_under, name_of, parent_name}
use Rattle.run_rules.specs.After.{after, listed, new_device, with_condemner, with_sleep}
use Rattle.run_rules.specs.Laws.{attached_below, freed_name}
use Rattle.run_rules.specs.Next.{arrival, command_of, name_at, next, place_of_spot}
use Rattle.run_rules.specs.Run.{answered, printed, reply_of, shown_of, spot_name, told}
use Rattle.run_sound.proofs.Coming.{IsCall, IsTurn, MayCome}
use Rattle.run_sound.specs.Holding.{GoesUnheld}
use Rattle.run_sound.specs.Kept.{Kept, MayRun}
use Rattle.run_sound.proofs.Arrivals.{brings, finalise_comes, none_shown, search_comes}
use Rattle.run_sound.proofs.Callers.{clash}
use Rattle.run_sound.proofs.Holding.{goes_unheld}
use Rattle.run_sound.proofs.Marks.{KeepsTree, condemner_keeps_tree, sleep_keeps_tree}
use Rattle.run_sound.proofs.Members.{each_of, live_contained}
use Rattle.run_sound.proofs.Reasons.{has_reason}
use Rattle.history_laws.proofs.Found.{found_left}
use Rattle.history_laws.proofs.Going.{without}
use Rattle.history_laws.proofs.Kept.{called_device, called_name, name_is}
use Rattle.history_laws.proofs.Names.{HasNames, parent_alike, world_names}
use Rattle.history_laws.proofs.Told.{parent_mapped}
use Rattle.run_sound.proofs.Beside.{leaves_devices, live_found, live_same, live_shown}
use Rattle.whole_laws.specs.Tree.{got_in, spot_of}

-- whether a deed condemns a device: it detaches or unplugs what the device is or hangs below
abbrev pub taken_by : World → Deed → Dev → Bool
taken_by w (Detach s) c = is_under w.live s c.serial
taken_by w (Unplug x (Some s)) c = is_under w.live s c.serial
taken_by w _ c = false

-- a line with which no device comes or goes
pub record IsStill (a : Act) : Type 0 where
  pub comes : got_in a ≡ None
  pub goes : freed_name a ≡ None

-- a device comes: it is the last, and its line gives its name and row and the name of its parent
pub record Comes (w : World) (k : ℕ) (d : Deed) : Type 0 where
  pub came : Arrival
  pub live : (after w k d).live ≡ w.live ++ new_device w came ∷ []
  pub got : got_in (printed w k d) ≡ Some (record { name = name_of w.setup (new_device w came); row = came.row })
  pub below : attached_below (printed w k d) ≡ parent_name w.setup w.live came.parent
  pub goes : freed_name (printed w k d) ≡ None
  pub spot : spot_of (printed w k d) ≡ Some (spot_name w.setup came.spot)
  pub spared : (c : Dev) → taken_by w d c ≡ false

-- one goes
pub record Goes (w : World) (k : ℕ) (d : Deed) : Type 0 where
  pub dev : Dev
  pub there : Contains w.live dev
  pub live : (after w k d).live ≡ without w.live dev.serial
  pub comes : got_in (printed w k d) ≡ None
  pub freed : freed_name (printed w k d) ≡ Some (name_of w.setup dev)
  pub spared : (c : Dev) → taken_by w d c ≡ false

-- marks change
pub record Marks (w : World) (k : ℕ) (d : Deed) : Type 0 where
  pub mark : Dev → Dev
  pub keeps : KeepsTree mark
  pub live : (after w k d).live ≡ map mark w.live
  pub still : IsStill (printed w k d)
  pub condemns : (c : Dev) → is_condemned (mark c) ≡ (is_condemned c || taken_by w d c)

-- the devices are as they were
pub record Leaves (w : World) (k : ℕ) (d : Deed) : Type 0 where
  pub live : (after w k d).live ≡ w.live
  pub still : IsStill (printed w k d)
  pub spared : (c : Dev) → taken_by w d c ≡ false

abbrev pub Change : World → ℕ → Deed → Type 0
Change w k d = Leaves w k d ⊎ (Marks w k d ⊎ (Comes w k d ⊎ Goes w k d))

told_still : (w : World) (said : Command) (r : Reply) → IsStill (told w said r)
told_still w (command.OpenDev name) r = record { comes = refl; goes = refl }
told_still w said r = record { comes = refl; goes = refl }

answered_still : (w : World) (k : ℕ) (r : Reply) → IsStill (answered w k r)
answered_still w k r = cases (command_of w k)
  where
    cases : (o : Option Command) → IsStill (option_map_or (λ said. told w said r) o act.End)
    cases None = record { comes = refl; goes = refl }
    cases (Some said) = told_still w said r

shown_still : (w : World) (s : ℕ) (shown : Option ℕ) → IsStill (act.Final (name_at w s) (shown_of w.setup shown None))
shown_still w s None = record { comes = refl; goes = refl }
shown_still w s (Some x) = record { comes = refl; goes = refl }

leaves : (w : World) (k : ℕ) (d : Deed) → leaves_devices d ≡ true → IsStill (printed w k d) → ((c : Dev) → taken_by w d c ≡ false) → Change w k d
leaves w k d h still spared = inl (record { live = live_same w k d h; still = still; spared = spared })

condemner_marks : (live : List Dev) (k s : ℕ) (c : Dev) → is_condemned (with_condemner live k s c) ≡ (is_condemned c || is_under live s c.serial)
condemner_marks live k s c = cases (is_condemned c) (is_under live s c.serial) refl
  where
    cases : (a b : Bool) → is_condemned c ≡ a → is_condemned (if b then record c { condemned = Some k } else c) ≡ (a || b)
    cases true true e = refl
    cases false true e = refl
    cases true false e = e
    cases false false e = e

sleep_spares : (s : ℕ) (asleep : Bool) (c : Dev) → is_condemned (with_sleep s asleep c) ≡ (is_condemned c || false)
sleep_spares s asleep c = cases (c.serial == s) (is_condemned c) refl
  where
    cases : (b a : Bool) → is_condemned c ≡ a → is_condemned (if b then record c { asleep = asleep } else c) ≡ (a || false)
    cases true true e = e
    cases true false e = e
    cases false true e = e
    cases false false e = e

-- what comes stands on the spot that was searched
spot_is : (w : World) (p x : ℕ) (place : Place) (a : Arrival) → Some a ≡ arrival w.setup w.live p place x → a.spot ≡ x
spot_is w p x place a e = (brings w.setup w.live p place x a e).at

pub change_of : (w : World) (k : ℕ) (d : Deed) → MayRun w.setup → Kept w → next w k ≡ Does d → Change w k d
unfolding printed after listed
change_of w k (Search p spot to None) may kept e = leaves w k (Search p spot to None) refl (record { comes = refl; goes = refl }) (λ c. refl)
change_of w k (Search p spot to (Some a)) may kept e =
    let come : MayCome w.setup w.live w.hidden p a = search_comes w k p spot to a may kept e in
    let turn : IsTurn w k p spot to (Some a) = has_reason w k (Search p spot to (Some a)) e in
    let at : spot ≡ a.spot = turn.place ∙ sym (spot_is w p turn.turn.at.spot turn.turn.place a turn.came) in
    inr (inr (inl (record {
      came = a;
      live = live_found w k p spot to a;
      got = refl;
      below = ap (parent_name w.setup w.live) (sym come.parent);
      goes = refl;
      spot = ap (λ (x : ℕ). Some (spot_name w.setup x)) at;
      spared = λ c. refl;
    })))
change_of w k (EndScan p) may kept e = leaves w k (EndScan p) refl (record { comes = refl; goes = refl }) (λ c. refl)
change_of w k BeginInterrupts may kept e = leaves w k BeginInterrupts refl (record { comes = refl; goes = refl }) (λ c. refl)
change_of w k (Finalise s shown None place anew) may kept e = leaves w k (Finalise s shown None place anew) refl (shown_still w s shown) (λ c. refl)
change_of w k (Finalise s None (Some a) place anew) may kept e = absurd (none_shown w k s a place anew e)
change_of w k (Finalise s (Some x) (Some a) place anew) may kept e =
    let come = finalise_comes w k s x a place anew may kept e in
    let call : IsCall w k s (Some x) (Some a) place anew = has_reason w k (Finalise s (Some x) (Some a) place anew) e in
    let of = called_device w k s x (Some a) place anew call in
    inr (inr (inl (record {
      came = a;
      live = live_shown w k s (Some x) a place anew;
      got = refl;
      below = called_name w s of.0 of.1 ∙ ap (parent_name w.setup w.live) (sym come.parent);
      goes = refl;
      spot = ap (λ (y : ℕ). Some (spot_name w.setup y)) (sym (spot_is w s x (place_of_spot w x) a call.came));
      spared = λ c. refl;
    })))
change_of w k EndCaller may kept e = leaves w k EndCaller refl (record { comes = refl; goes = refl }) (λ c. refl)
change_of w k (Drop s) may kept e = leaves w k (Drop s) refl (record { comes = refl; goes = refl }) (λ c. refl)
change_of w k (Refuse why) may kept e = leaves w k (Refuse why) refl (answered_still w k (reply_of w why)) (λ c. refl)
change_of w k (Open s sole) may kept e = leaves w k (Open s sole) refl (answered_still w k reply.Ok) (λ c. refl)
change_of w k (Close s) may kept e = leaves w k (Close s) refl (answered_still w k reply.Ok) (λ c. refl)
change_of w k (Start t) may kept e = leaves w k (Start t) refl (answered_still w k reply.Ok) (λ c. refl)
change_of w k (Done t) may kept e = leaves w k (Done t) refl (record { comes = refl; goes = refl }) (λ c. refl)
change_of w k (Detach s) may kept e = inr (inl (record { mark = with_condemner w.live k s; keeps = condemner_keeps_tree w.live k s; live = refl; still = answered_still w k reply.Ok; condemns = condemner_marks w.live k s }))
change_of w k (Free s) may kept e =
    let goes : GoesUnheld w k (Free s) s = goes_unheld w k s e in
    let one = live_contained w.live s goes.live in
    let names : HasNames w.setup w.live w.next = world_names w may kept in
    inr (inr (inr (record {
      dev = one.0;
      there = one.1;
      live = goes.gone ∙ ap (without w.live) (sym one.2);
      comes = refl;
      freed = ap Some (name_is w s one.0 names.apart one.1 one.2);
      spared = λ c. refl;
    })))
change_of w k (Rescan s only) may kept e = leaves w k (Rescan s only) refl (answered_still w k reply.Ok) (λ c. refl)
change_of w k (BeginPower kind s) may kept e = leaves w k (BeginPower kind s) refl (answered_still w k reply.Ok) (λ c. refl)
change_of w k (Sleep s) may kept e = inr (inl (record { mark = with_sleep s true; keeps = sleep_keeps_tree s true; live = refl; still = record { comes = refl; goes = refl }; condemns = sleep_spares s true }))
change_of w k (Wake s) may kept e = inr (inl (record { mark = with_sleep s false; keeps = sleep_keeps_tree s false; live = refl; still = record { comes = refl; goes = refl }; condemns = sleep_spares s false }))
change_of w k (EndPower end) may kept e = leaves w k (EndPower end) refl (record { comes = refl; goes = refl }) (λ c. refl)
change_of w k (Plug x) may kept e = leaves w k (Plug x) refl (answered_still w k reply.Ok) (λ c. refl)
change_of w k (Unplug x None) may kept e = leaves w k (Unplug x None) refl (answered_still w k reply.Ok) (λ c. refl)
change_of w k (Unplug x (Some s)) may kept e = inr (inl (record { mark = with_condemner w.live k s; keeps = condemner_keeps_tree w.live k s; live = refl; still = answered_still w k reply.Ok; condemns = condemner_marks w.live k s }))
change_of w k Tell may kept e = leaves w k Tell refl (answered_still w k reply.Ok) (λ c. refl)

-- ---- the name of a serial

-- no other is found where one comes, or where another one goes
pub at_longer : (live : List Dev) (n : Dev) (s : ℕ) → is_live live s ≡ true → device_at (live ++ n ∷ []) s ≡ device_at live s
at_longer live n s lives = find-append (λ d. d.serial == s) live (n ∷ []) ∙ cases (device_at live s) (there live lives)
  where
    there : (ds : List Dev) → is_live ds s ≡ true → is_some (device_at ds s) ≡ true
    there [] l = absurd cc
    there (d ∷ ds) l = at_one (d.serial == s) l (there ds)
      where
        at_one : (b : Bool) → (b || is_live ds s) ≡ true → (is_live ds s ≡ true → is_some (device_at ds s) ≡ true) → is_some (cond b (Some d) (device_at ds s)) ≡ true
        at_one true h rest = refl
        at_one false h rest = rest h

    cases : (o : Option Dev) → is_some o ≡ true → option_or o (find (λ d. d.serial == s) (n ∷ [])) ≡ o
    cases None h = absurd cc
    cases (Some d) h = refl

pub at_shorter : (live : List Dev) (n s : ℕ) → s ≢ n → device_at (without live n) s ≡ device_at live s
at_shorter live n s other =
    found_left (λ d. d.serial == s) (λ d. not (d.serial == n)) live
    (each_of (λ d. (d.serial == s) ≡ true → not (d.serial == n) ≡ true) live (λ d here on. rw (ne_eqb d.serial n (λ same. other (sym (eqb-true d.serial s on) ∙ same))) refl))

gone : (live : List Dev) (n : ℕ) → is_live (without live n) n ≡ false
gone [] n = refl
gone (d ∷ ds) n = cases (d.serial == n) refl (gone ds n)
  where
    cases : (b : Bool) → (d.serial == n) ≡ b → is_live (without ds n) n ≡ false → is_live (cond (not b) (d ∷ without ds n) (without ds n)) n ≡ false
    cases true is rest = rest
    cases false is rest = rw is rest

-- what lives before and after has the same name
pub name_stays : (w : World) (k : ℕ) (d : Deed) (s : ℕ) → Change w k d → is_live w.live s ≡ true → is_live (after w k d).live s ≡ true → parent_name w.setup (after w k d).live s ≡ parent_name w.setup w.live s
name_stays w k d s change before behind = elim change [
  | inl same ↦ rw same.live refl
  | inr others ↦ elim others [
    | inl marks ↦ rw marks.live (parent_mapped w.setup marks.mark w.live s marks.keeps)
    | inr more ↦ elim more [
      | inl come ↦ rw come.live (parent_alike w.setup w.live (w.live ++ new_device w come.came ∷ []) s (at_longer w.live (new_device w come.came) s before))
      | inr go ↦
          let other : s ≢ go.dev.serial = λ same. clash (is_live (without w.live s) s) (subst (λ (n : ℕ). is_live (without w.live n) s ≡ true) (sym same) (rw go.live at behind)) (gone w.live s) in
          rw go.live (parent_alike w.setup w.live (without w.live go.dev.serial) s (at_shorter w.live go.dev.serial s other))
    ]
  ]
]
