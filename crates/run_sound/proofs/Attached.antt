-- A device is attached: its finaliser and its scan are put where its policies say, and the world stays sound.
use Rattle.std.proofs.Common.{◌≡◌, ◌≢◌, ◌⊎◌, ℕ, Bool, true, false, not, ◌&&◌, ◌||◌, ◌==◌, inl, inr, List, [], ◌∷◌, ◌++◌, Some, None, refl, sym, ap, ◌∙◌, subst, eqb-true, eq-eqb}
use Rattle.std.proofs.lemmas.Bool.{false_from_ne_true, or_cases, or_right}
use Rattle.std.specs.Prelude.{IsTrue, if◌then◌else◌}
use Rattle.std.specs.List.{AllByRecursion, Contains, list_any}
use Rattle.std.proofs.lemmas.List.Folds.{list_any-append}
use Rattle.cf_types.specs.declared.machine.Policy.{Policy}
use Rattle.run_rules.specs.declared.world.Dev.{Dev}
use Rattle.run_rules.specs.declared.world.Frame.{Frame}
use Rattle.run_rules.specs.declared.world.Frame.TheVariants.{Finaliser}
use Rattle.run_rules.specs.declared.world.Deferred.{Deferred}
use Rattle.run_rules.specs.declared.world.Key.TheVariants as key
use Rattle.run_rules.specs.declared.world.Arrival.{Arrival}
use Rattle.run_rules.specs.declared.world.Placing.{Placing}
use Rattle.run_rules.specs.declared.world.Placing.TheVariants.{Nowhere, Queued, PutOff, Pushed}
use Rattle.run_rules.specs.declared.world.Activity.TheVariants as activity
use Rattle.run_rules.specs.World.{World, Caller, caller_at, frame_serial, has_ended, is_ended, is_live, is_pinned, nobody, offered_by, policy_of, scan_of}
use Rattle.run_rules.specs.Next.{has_nothing}
use Rattle.run_rules.specs.After.{attached, finaliser_placed, finaliser_placing, listed, new_device, place_finaliser, place_scan, pushed, scan_placed, scan_placing, with_caller}
use Rattle.run_rules.specs.Sound.{IsSoundlyAsleep, IsSoundlyCondemned, IsSoundlyDeferred, Sound, is_known, is_scan_of}
use Rattle.run_rules.proofs.Devices.{all_snoc}
use Rattle.run_sound.proofs.Arrivals.{live_is_known}
use Rattle.run_sound.proofs.Callers.{all_or, any_set_more, caller_here, caller_there, callers_kept, clash, entries_pin, pinned_by_entry, pinned_by_frame, not_ended}
use Rattle.run_sound.proofs.Listed.{MayList, new_live, new_spared, sound_listed}
use Rattle.run_sound.proofs.Members.{each_of, of_each}
use Rattle.run_sound.proofs.Plain.{is_scanned}
use Rattle.run_sound.proofs.Restacks.{IsSpared}
use Rattle.run_sound.proofs.Stacks.{IsDoer, MayStack, pins_of, settles, sound_beside, sound_stack, stacked}

-- ---- who is spared

-- a pinned device is
pub pinned_spared : (w : World) (s : ℕ) → Sound w → is_pinned w s ≡ true → IsSpared w.live s
pinned_spared w s sound pinned = each_of (λ (d : Dev). d.serial ≡ s → (d.condemned ≡ None) × (d.asleep ≡ false)) w.live (λ d here same. (no_one d here same d.condemned refl, false_from_ne_true d.asleep (λ e. wakes d here same e)))
  where
    no_one : (d : Dev) → Contains w.live d → d.serial ≡ s → (o : _) → d.condemned ≡ o → o ≡ None
    no_one d here same None e = refl
    no_one d here same (Some k) e =
        let old : IsSoundlyCondemned w d k = of_each (λ (d : Dev). (k : ℕ) → d.condemned ≡ Some k → IsSoundlyCondemned w d k) w.live d sound.condemned here k e in
        clash (is_pinned w s) pinned (rw same at old.unpinned)

    wakes : (d : Dev) → Contains w.live d → d.serial ≡ s → d.asleep ≡ true → ⊥
    wakes d here same e =
        let old : IsSoundlyAsleep w d = of_each (λ (d : Dev). IsTrue d.asleep → IsSoundlyAsleep w d) w.live d sound.asleep here e in
        clash (is_pinned w s) pinned (rw same at old.unpinned)

-- while the boot goes on each device is
pub boot_spared : (w : World) (s : ℕ) → Sound w → has_ended w 0 ≡ false → IsSpared w.live s
boot_spared w s sound goes =
    let boot = sound.boot (not_ended w 0 goes) in
    each_of (λ (d : Dev). d.serial ≡ s → (d.condemned ≡ None) × (d.asleep ≡ false)) w.live
    (λ d here same. (of_each (λ (d : Dev). d.condemned ≡ None) w.live d boot.spared here, not_so d.asleep (of_each (λ (d : Dev). IsTrue (not d.asleep)) w.live d boot.awake here)))
  where
    not_so : (b : Bool) → IsTrue (not b) → b ≡ false
    not_so true h = absurd cc
    not_so false h = refl

-- ---- who may have frames

-- a caller that does something, and scans if it does not boot
pub record IsScanner (w : World) (k : ℕ) : Type 0 where
  pub doer : IsDoer w k
  pub scans : k ≢ 0 → (caller_at w k).doing ≡ activity.Scans

pub first_goes : (w : World) (k : ℕ) (c : Caller) → IsDoer w k → has_ended (with_caller w k c) 0 ≡ false → k ≡ 0
first_goes w k c doer h = cases (k == 0) refl
  where
    cases : (b : Bool) → (k == 0) ≡ b → k ≡ 0
    cases true z = eqb-true k 0 z
    cases false z = doer.alone (ap (λ (d : Caller). is_ended d.doing) (sym (caller_there w k 0 c (λ same. clash (k == 0) (eq-eqb k 0 (sym same)) z))) ∙ h)

-- it still does with another activity of its own
pub scanner_set : (w : World) (k : ℕ) (c : Caller) → IsScanner w k → c.doing ≡ (caller_at w k).doing → IsScanner (with_caller w k c) k
scanner_set w k c who same =
    let here : (caller_at (with_caller w k c) k).doing ≡ (caller_at w k).doing = ap (λ (d : Caller). d.doing) (caller_here w k c who.doer.there) ∙ same in
    record {
      doer = record {
        there = rw (callers_kept w k c) who.doer.there;
        unended = ap is_ended here ∙ who.doer.unended;
        alone = first_goes w k c who.doer;
      };
      scans = λ later. here ∙ who.scans later;
    }

-- with one frame more
pub scanner_pushed : (w : World) (k : ℕ) (f : Frame) → IsScanner w k → IsScanner (pushed w k f) k
scanner_pushed w k f who =
    scanner_set w k (stacked w k (f ∷ (caller_at w k).stack)) who ((settles (caller_at w k).over (caller_at w k).doing (f ∷ (caller_at w k).stack)).scans (λ e. cc))

-- ---- a frame is pushed

pub old_known : (w : World) (k : ℕ) → Sound w → AllByRecursion (λ f. IsTrue (is_known w (frame_serial f))) (caller_at w k).stack
old_known w k sound = all_or (λ (c : Caller). AllByRecursion (λ f. IsTrue (is_known w (frame_serial f))) c.stack) w.callers k nobody sound.frames tt

pub sound_pushed : (w : World) (k : ℕ) (f : Frame) → Sound w → IsScanner w k → IsTrue (is_known w (frame_serial f)) → IsSpared w.live (frame_serial f) → Sound (pushed w k f)
sound_pushed w k f sound who known spared = sound_stack w k (f ∷ (caller_at w k).stack) w.deferred w.interrupts_on sound who.doer may sound.interrupts_on
  where
    pins : (s : ℕ) → (frame_serial f == s || pins_of (caller_at w k).stack s) ≡ true → (is_pinned w s ≡ true) ⊎ IsSpared w.live s
    pins s h = elim (or_cases (frame_serial f == s) (pins_of (caller_at w k).stack s) h) [
      | inl here ↦ inr (subst (IsSpared w.live) (eqb-true (frame_serial f) s here) spared)
      | inr old ↦ inl (pinned_by_frame w k s old)
    ]

    may : MayStack w k (f ∷ (caller_at w k).stack) w.deferred
    may = record {
      known = (known, old_known w k sound);
      scans = λ later some. who.scans later;
      frame_pins = pins;
      entry_pins = λ s h. inl (pinned_by_entry w s h);
      put_off = sound.deferred;
      keeps = each_of (λ e. (p : ℕ) → e.key ≡ key.Parent p → list_any (is_scan_of p) (caller_at w k).stack ≡ true → list_any (is_scan_of p) (f ∷ (caller_at w k).stack) ≡ true) w.deferred
          (λ e here p is h. or_right (is_scan_of p f) (list_any (is_scan_of p) (caller_at w k).stack) h);
    }

-- a scan of a device stays
scanned_pushed : (w : World) (k p : ℕ) (f : Frame) → is_scanned w p ≡ true → is_scanned (pushed w k f) p ≡ true
scanned_pushed w k p f h =
    any_set_more (λ (d : Caller). list_any (is_scan_of p) d.stack) w.callers k (stacked w k (f ∷ (caller_at w k).stack)) nobody
    (λ was. rw (settles (caller_at w k).over (caller_at w k).doing (f ∷ (caller_at w k).stack)).frames (or_right (is_scan_of p f) (list_any (is_scan_of p) (caller_at w k).stack) was)) h

-- ---- a scan is put off

put_off_pins : (w : World) (e : Deferred) → IsSpared w.live e.child → (s : ℕ) → entries_pin (w.deferred ++ e ∷ []) s ≡ true → (is_pinned w s ≡ true) ⊎ IsSpared w.live s
put_off_pins w e spared s h =
    elim (or_cases (entries_pin w.deferred s) (entries_pin (e ∷ []) s) (sym (list_any-append (λ (d : Deferred). d.child == s) w.deferred (e ∷ [])) ∙ h)) [
      | inl old ↦ inl (pinned_by_entry w s old)
      | inr here ↦ elim (or_cases (e.child == s) false here) [ inl now ↦ inr (subst (IsSpared w.live) (eqb-true e.child s now) spared) | inr bad ↦ absurd (never bad) ]
    ]
  where
    never : false ≡ true → ⊥
    never h = cc

sound_put_off : (w : World) (k : ℕ) (e : Deferred) → Sound w → IsDoer w k → IsSpared w.live e.child → IsSoundlyDeferred w e → (IsTrue w.interrupts_on → e.key ≢ key.Interrupts) → Sound (record w { deferred = w.deferred ++ e ∷ [] })
sound_put_off w k e sound doer spared put on =
    sound_beside w k (w.deferred ++ e ∷ []) w.finalisers w.hidden w.next_finaliser w.pass_repeats sound doer (put_off_pins w e spared) (all_snoc (IsSoundlyDeferred w) w.deferred e sound.deferred put)
    (λ interrupts_on. all_snoc (λ (d : Deferred). d.key ≢ key.Interrupts) w.deferred e (sound.interrupts_on interrupts_on) (on interrupts_on))
    (λ goes. (sound.boot (not_ended w 0 goes)).finalisers)

-- ---- what is known of the device whose work is placed

-- it lives, it is spared, and who attached it may have frames
record IsNew (w : World) (k s : ℕ) : Type 0 where
  sound : Sound w
  who : IsScanner w k
  live : IsTrue (is_live w.live s)
  spared : IsSpared w.live s

-- so it stays, with the scan of its parent, where its finaliser is placed
record IsPlacedNew (w v : World) (k s : ℕ) : Type 0 where
  new : IsNew v k s
  scans : (p : ℕ) → is_scanned w p ≡ true → is_scanned v p ≡ true

finaliser_new : (c : Placing) (w : World) (k s : ℕ) → IsNew w k s → IsPlacedNew w (place_finaliser c w k s) k s
finaliser_new Nowhere w k s new = record { new = new; scans = λ p h. h }
finaliser_new PutOff w k s new = record { new = new; scans = λ p h. h }
finaliser_new Queued w k s new = record {
  new = record {
    sound = sound_beside w k w.deferred (w.finalisers ++ s ∷ []) w.hidden w.next_finaliser w.pass_repeats new.sound new.who.doer (λ s h. inl (pinned_by_entry w s h)) new.sound.deferred new.sound.interrupts_on
        (λ goes. all_snoc (λ x. IsTrue (is_live w.live x)) w.finalisers s (new.sound.boot (not_ended w 0 goes)).finalisers new.live);
    who = record { doer = record { there = new.who.doer.there; unended = new.who.doer.unended; alone = new.who.doer.alone }; scans = new.who.scans };
    live = new.live;
    spared = new.spared;
  };
  scans = λ p h. h;
}
finaliser_new Pushed w k s new = record {
  new = record {
    sound = sound_pushed w k (Finaliser s) new.sound new.who (live_is_known w s new.live) new.spared;
    who = scanner_pushed w k (Finaliser s) new.who;
    live = new.live;
    spared = new.spared;
  };
  scans = λ p h. scanned_pushed w k p (Finaliser s) h;
}

queued_before : (p : Policy) (offered : List ℕ) (interrupts_on may_defer : Bool) → scan_placing p offered interrupts_on may_defer ≡ Queued → interrupts_on ≡ false
unfolding scan_placing
queued_before p offered interrupts_on may_defer e = nothing (has_nothing offered) e
  where
    rest : (b : Bool) → (if b then PutOff else Pushed) ≡ Queued → ⊥
    rest true h = cc
    rest false h = cc

    waits : (i f : Bool) → (if i && not f then Queued else (if p.defer && may_defer then PutOff else Pushed)) ≡ Queued → f ≡ false
    waits i false h = refl
    waits true true h = absurd (rest (p.defer && may_defer) h)
    waits false true h = absurd (rest (p.defer && may_defer) h)

    nothing : (b : Bool) → (if b then Nowhere else (if p.interrupts && not interrupts_on then Queued else (if p.defer && may_defer then PutOff else Pushed))) ≡ Queued → interrupts_on ≡ false
    nothing true h = absurd cc
    nothing false h = waits p.interrupts interrupts_on h

put_off_may : (p : Policy) (offered : List ℕ) (interrupts_on may_defer : Bool) → scan_placing p offered interrupts_on may_defer ≡ PutOff → may_defer ≡ true
unfolding scan_placing
put_off_may p offered interrupts_on may_defer e = nothing (has_nothing offered) e
  where
    rest : (d m : Bool) → (if d && m then PutOff else Pushed) ≡ PutOff → m ≡ true
    rest d true h = refl
    rest true false h = absurd cc
    rest false false h = absurd cc

    waits : (b : Bool) → (if b then Queued else (if p.defer && may_defer then PutOff else Pushed)) ≡ PutOff → may_defer ≡ true
    waits true h = absurd cc
    waits false h = rest p.defer may_defer h

    nothing : (b : Bool) → (if b then Nowhere else (if p.interrupts && not interrupts_on then Queued else (if p.defer && may_defer then PutOff else Pushed))) ≡ PutOff → may_defer ≡ true
    nothing true h = absurd cc
    nothing false h = waits (p.interrupts && not interrupts_on) h

-- what a step of a frame leaves
pub record StaysSound (v : World) (k : ℕ) : Type 0 where
  pub sound : Sound v
  pub who : IsScanner v k

same_scanner : (w : World) (k : ℕ) (e : Deferred) → IsScanner w k → IsScanner (record w { deferred = w.deferred ++ e ∷ [] }) k
same_scanner w k e who = record { doer = record { there = who.doer.there; unended = who.doer.unended; alone = who.doer.alone }; scans = who.scans }

scan_new : (c : Placing) (w : World) (k parent s : ℕ) → IsNew w k s → (c ≡ Queued → w.interrupts_on ≡ false) → (c ≡ PutOff → is_scanned w parent ≡ true) → StaysSound (place_scan c w k parent s) k
scan_new Nowhere w k parent s new before may = record { sound = new.sound; who = new.who }
scan_new Queued w k parent s new before may =
    let e : Deferred = record { key = key.Interrupts; child = s } in
    record { sound = sound_put_off w k e new.sound new.who.doer new.spared (new.live, tt) (λ on. clash w.interrupts_on on (before refl)); who = same_scanner w k e new.who }
scan_new PutOff w k parent s new before may =
    let e : Deferred = record { key = key.Parent parent; child = s } in
    record { sound = sound_put_off w k e new.sound new.who.doer new.spared (new.live, may refl) (λ on same. cc); who = same_scanner w k e new.who }
scan_new Pushed w k parent s new before may = record {
  sound = sound_pushed w k (scan_of s) new.sound new.who (live_is_known w s new.live) new.spared;
  who = scanner_pushed w k (scan_of s) new.who;
}

placed_stays : (p : Policy) (offered : List ℕ) (u v : World) (k parent s : ℕ) (may_defer : Bool) → IsPlacedNew u v k s → (may_defer ≡ true → is_scanned u parent ≡ true) → StaysSound (scan_placed p offered v k parent s may_defer) k
unfolding scan_placed
placed_stays p offered u v k parent s may_defer placed may =
    scan_new (scan_placing p offered v.interrupts_on may_defer) v k parent s placed.new (queued_before p offered v.interrupts_on may_defer) (λ e. placed.scans parent (may (put_off_may p offered v.interrupts_on may_defer e)))

finaliser_stays : (p : Policy) (u : World) (k s : ℕ) → IsNew u k s → IsPlacedNew u (finaliser_placed p u k s) k s
unfolding finaliser_placed
finaliser_stays p u k s new = finaliser_new (finaliser_placing p (has_ended u 0)) u k s new

listed_new : (w : World) (k : ℕ) (a : Arrival) → Sound w → IsScanner w k → MayList w a → IsNew (listed w a) k w.next
unfolding listed
listed_new w k a sound who may = record {
  sound = sound_listed w a sound may;
  who = record { doer = record { there = who.doer.there; unended = who.doer.unended; alone = who.doer.alone }; scans = who.scans };
  live = new_live w.live (new_device w a);
  spared = new_spared w a sound;
}

listed_scanned : (w : World) (a : Arrival) (p : ℕ) → is_scanned w p ≡ true → is_scanned (listed w a) p ≡ true
unfolding listed
listed_scanned w a p h = h

pub attached_stays : (w : World) (k : ℕ) (a : Arrival) (may_defer : Bool) → Sound w → IsScanner w k → MayList w a → (may_defer ≡ true → is_scanned w a.parent ≡ true) → StaysSound (attached w k a may_defer) k
unfolding attached
attached_stays w k a may_defer sound who may scans =
    let p : Policy = policy_of w.setup a.row in
    let u : World = listed w a in
    placed_stays p (offered_by w.setup a.row) u (finaliser_placed p u k w.next) k a.parent w.next may_defer
    (finaliser_stays p u k w.next (listed_new w k a sound who may)) (λ m. listed_scanned w a a.parent (scans m))
