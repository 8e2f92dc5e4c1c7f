-- What is held is live, and nobody holds what it condemned.
use Rattle.std.proofs.Common.{◌≡◌, ◌≢◌, ◌⊎◌, ℕ, ◌==◌, not, ◌&&◌, ◌||◌, Bool, true, false, List, [], ◌∷◌, ◌++◌, map, Some, None, refl, sym, ap, ◌∙◌, inl, inr, eqb-true}
use Rattle.std.proofs.lemmas.Option.{same_Some}
use Rattle.std.proofs.lemmas.Bool.{and_parts, or_cases}
use Rattle.std.specs.List.{AllByRecursion, Contains}
use Rattle.std.specs.Prelude.{IsTrue}
use Rattle.config_rules.proofs.Parts.{cond_both}
use Rattle.run_rules.specs.declared.world.Arrival.{Arrival}
use Rattle.run_rules.specs.declared.world.Dev.{Dev}
use Rattle.run_rules.specs.declared.world.Ref.{Ref}
use Rattle.run_rules.specs.declared.world.Setup.{Setup}
use Rattle.run_rules.specs.declared.deed.Deed.{Deed}
use Rattle.run_rules.specs.declared.deed.Deed.TheVariants.{Search, EndScan, BeginInterrupts, Finalise, EndCaller, Drop, Refuse, Open, Close, Start, Done, Detach, Free, Rescan, BeginPower, Sleep, Wake, EndPower, Plug, Unplug, Tell}
use Rattle.run_rules.specs.declared.deed.Choice.TheVariants.{Does}
use Rattle.run_rules.specs.World.{World, caller_at, holds_in, is_condemned, is_held, is_live, is_pinned, is_under, opening, policy_of}
use Rattle.run_rules.specs.Next.{hindered, is_hindrance, next}
use Rattle.run_rules.specs.After.{after, new_device, with_condemner, with_sleep}
use Rattle.run_rules.specs.Sound.{IsSoundlyCondemned, Sound}
use Rattle.run_rules.proofs.Devices.{all_both, all_imp, all_snoc, none_of}
use Rattle.run_sound.proofs.Commands.{IsBetween}
use Rattle.run_sound.specs.Holding.{opened_by, returned_by}
use Rattle.run_sound.specs.Kept.{Kept}
use Rattle.run_sound.specs.InFull.{HoldNoneCondemned, IsUnheld}
use Rattle.run_sound.proofs.Beside.{leaves_devices, live_found, live_same, live_shown}
use Rattle.run_sound.proofs.Callers.{all_filter}
use Rattle.run_sound.proofs.Holding.{goes_unheld, holds_others, holds_same}
use Rattle.run_sound.proofs.Members.{each_mapped, each_of, of_each}
use Rattle.run_sound.proofs.Plain.{between_frees}
use Rattle.run_sound.proofs.Reasons.{has_command_reason}
use Rattle.run_sound.proofs.Trees.{none_found}

-- ---- who holds a device

pub held_live : (refs : List Ref) (live : List Dev) (k s : ℕ) → AllByRecursion (λ r. IsTrue (is_live live r.serial)) refs → holds_in refs k s ≡ true → is_live live s ≡ true
held_live [] live k s all h = absurd cc
held_live (r ∷ rs) live k s all h = elim (or_cases (r.serial == s && r.caller == k) (holds_in rs k s) h) [
  | inl here ↦ ap (is_live live) (sym (eqb-true r.serial s (and_parts (r.serial == s) (r.caller == k) here).0)) ∙ all.0
  | inr more ↦ held_live rs live k s all.1 more
]

-- ---- who condemned a device holds it no more than before

-- the deed is of a caller between two commands, or leaves all references
refs_kind : (w : World) (k : ℕ) (d : Deed) → next w k ≡ Does d → IsBetween w k ⊎ ((opened_by d ≡ None) × (returned_by d ≡ None))
refs_kind w k (Open s sole) e = inl (has_command_reason w k (Open s sole) e).begins.between
refs_kind w k (Close s) e = inl (has_command_reason w k (Close s) e).begins.between
refs_kind w k (Drop s) e = inl (has_command_reason w k (Drop s) e).between
refs_kind w k _ e = inr (refl, refl)

-- a caller between two commands condemned nothing
condemned_none : (w : World) (k : ℕ) (x : Dev) → Sound w → IsBetween w k → Contains w.live x → x.condemned ≢ Some k
condemned_none w k x sound at here c =
    let old = of_each (λ d. (j : ℕ) → d.condemned ≡ Some j → IsSoundlyCondemned w d j) w.live x sound.condemned here k c in
    between_frees (caller_at w k).doing old.below_target.0 at.idle old.below_target.1

holds_stay : (w : World) (k : ℕ) (d : Deed) → Sound w → next w k ≡ Does d → (x : Dev) → Contains w.live x → (j : ℕ) → x.condemned ≡ Some j → is_held (after w k d) j x.serial ≡ is_held w j x.serial
holds_stay w k d sound e x here j c = elim (refs_kind w k d e) [
  | inl at ↦ holds_others w k j d (λ same. condemned_none w k x sound at here (c ∙ ap (λ (i : ℕ). Some i) same)) x.serial
  | inr none ↦ holds_same w k d none.0 none.1 j x.serial
]

-- the devices as they were, by the references behind the deed
still_unheld : (w : World) (k : ℕ) (d : Deed) → Sound w → next w k ≡ Does d → HoldNoneCondemned w → AllByRecursion (IsUnheld (after w k d)) w.live
still_unheld w k d sound e h =
    each_of (IsUnheld (after w k d)) w.live (λ x here j c. holds_stay w k d sound e x here j c ∙ of_each (IsUnheld w) w.live x h here j c)

-- ---- a subtree is condemned: its condemner holds nothing of it

no_hindrance : (under driver pinned gone held : Bool) → (under && (driver || pinned || gone || held)) ≡ false → under ≡ true → held ≡ false
no_hindrance true false false false false h e = refl
no_hindrance true false false false true h e = absurd cc
no_hindrance true true pinned gone held h e = absurd cc
no_hindrance true false true gone held h e = absurd cc
no_hindrance true false false true held h e = absurd cc
no_hindrance false driver pinned gone held h e = absurd cc

unhindered : (w : World) (s k : ℕ) (forced : Bool) → hindered w s k forced ≡ None → AllByRecursion (λ d. is_under w.live s d.serial ≡ true → is_held w k d.serial ≡ false) w.live
unfolding hindered
unhindered w s k forced e =
    all_imp (λ d. is_hindrance w s k forced d ≡ false) (λ d. is_under w.live s d.serial ≡ true → is_held w k d.serial ≡ false)
    (λ d h below. no_hindrance (is_under w.live s d.serial) (not forced && (policy_of w.setup d.row).nodetach) (is_pinned w d.serial) (is_condemned d) (is_held w k d.serial) h below)
    w.live (none_of (is_hindrance w s k forced) w.live (none_found (is_hindrance w s k forced) w.live e))

marked_unheld : (v : World) (live : List Dev) (k s : ℕ) → AllByRecursion (λ d. is_under live s d.serial ≡ true → is_held v k d.serial ≡ false) live → AllByRecursion (IsUnheld v) live
    → AllByRecursion (IsUnheld v) (map (with_condemner live k s) live)
marked_unheld v live k s free old =
    each_mapped (IsUnheld v) (with_condemner live k s) live
    (all_both (λ d. is_under live s d.serial ≡ true → is_held v k d.serial ≡ false) (IsUnheld v) (λ d. IsUnheld v (with_condemner live k s d)) one live free old)
  where
    one : (d : Dev) → (is_under live s d.serial ≡ true → is_held v k d.serial ≡ false) → IsUnheld v d → IsUnheld v (with_condemner live k s d)
    one d unheld was =
        cond_both (IsUnheld v) (is_under live s d.serial) (record d { condemned = Some k }) d
        (λ below j c. ap (λ (i : ℕ). is_held v i d.serial) (sym (same_Some k j c)) ∙ unheld below) (λ off. was)

-- ---- a device sleeps or wakes

slept_unheld : (v : World) (live : List Dev) (s : ℕ) (asleep : Bool) → AllByRecursion (IsUnheld v) live → AllByRecursion (IsUnheld v) (map (with_sleep s asleep) live)
slept_unheld v live s asleep old =
    each_mapped (IsUnheld v) (with_sleep s asleep) live
    (all_imp (IsUnheld v) (λ d. IsUnheld v (with_sleep s asleep d)) (λ d h. cond_both (IsUnheld v) (d.serial == s) (record d { asleep = asleep }) d (λ is. h) (λ off. h)) live old)

-- ---- each deed

module _ (w : World) (k : ℕ) (kept : Kept w) (old : HoldNoneCondemned w) where
  abbrev Unheld : Deed → Type 0
  Unheld d = HoldNoneCondemned (after w k d)

  stays : (d : Deed) → next w k ≡ Does d → leaves_devices d ≡ true → Unheld d
  stays d e leaves = rw (live_same w k d leaves) (still_unheld w k d kept.sound e old)

  comes : (d : Deed) (a : Arrival) → next w k ≡ Does d → (after w k d).live ≡ w.live ++ new_device w a ∷ [] → Unheld d
  comes d a e live = rw live (all_snoc (IsUnheld (after w k d)) w.live (new_device w a) (still_unheld w k d kept.sound e old) (λ j c. absurd cc))

  goes : (s : ℕ) → next w k ≡ Does (Free s) → Unheld (Free s)
  goes s e = rw ((goes_unheld w k s e).gone) (all_filter (IsUnheld (after w k (Free s))) (λ d. not (d.serial == s)) w.live (still_unheld w k (Free s) kept.sound e old))

  sleeps : (d : Deed) (s : ℕ) (asleep : Bool) → next w k ≡ Does d → (after w k d).live ≡ map (with_sleep s asleep) w.live → Unheld d
  sleeps d s asleep e live = rw live (slept_unheld (after w k d) w.live s asleep (still_unheld w k d kept.sound e old))

  dooms : (d : Deed) (s : ℕ) (forced : Bool) → next w k ≡ Does d → (after w k d).live ≡ map (with_condemner w.live k s) w.live → opened_by d ≡ None → returned_by d ≡ None
      → hindered w s k forced ≡ None → Unheld d
  dooms d s forced e live opens returns free =
      rw live (marked_unheld (after w k d) w.live k s
      (all_imp (λ x. is_under w.live s x.serial ≡ true → is_held w k x.serial ≡ false) (λ x. is_under w.live s x.serial ≡ true → is_held (after w k d) k x.serial ≡ false)
      (λ x h below. holds_same w k d opens returns k x.serial ∙ h below) w.live (unhindered w s k forced free))
      (still_unheld w k d kept.sound e old))

  slept_is : (s : ℕ) → (after w k (Sleep s)).live ≡ map (with_sleep s true) w.live
  unfolding after
  slept_is s = refl

  woken_is : (s : ℕ) → (after w k (Wake s)).live ≡ map (with_sleep s false) w.live
  unfolding after
  woken_is s = refl

  detached_is : (s : ℕ) → (after w k (Detach s)).live ≡ map (with_condemner w.live k s) w.live
  unfolding after
  detached_is s = refl

  pulled_is : (x s : ℕ) → (after w k (Unplug x (Some s))).live ≡ map (with_condemner w.live k s) w.live
  unfolding after
  pulled_is x s = refl

  pub unheld_after : (d : Deed) → next w k ≡ Does d → Unheld d
  unheld_after (Search p spot to (Some a)) e = comes (Search p spot to (Some a)) a e (live_found w k p spot to a)
  unheld_after (Finalise s shown (Some a) place anew) e = comes (Finalise s shown (Some a) place anew) a e (live_shown w k s shown a place anew)
  unheld_after (Detach s) e = dooms (Detach s) s false e (detached_is s) refl refl (has_command_reason w k (Detach s) e).free
  unheld_after (Unplug x (Some s)) e = dooms (Unplug x (Some s)) s true e (pulled_is x s) refl refl (has_command_reason w k (Unplug x (Some s)) e).free
  unheld_after (Free s) e = goes s e
  unheld_after (Sleep s) e = sleeps (Sleep s) s true e (slept_is s)
  unheld_after (Wake s) e = sleeps (Wake s) s false e (woken_is s)
  unheld_after (Search p spot to None) e = stays (Search p spot to None) e refl
  unheld_after (Finalise s shown None place anew) e = stays (Finalise s shown None place anew) e refl
  unheld_after (EndScan p) e = stays (EndScan p) e refl
  unheld_after BeginInterrupts e = stays BeginInterrupts e refl
  unheld_after EndCaller e = stays EndCaller e refl
  unheld_after (Drop s) e = stays (Drop s) e refl
  unheld_after (Refuse why) e = stays (Refuse why) e refl
  unheld_after (Open s sole) e = stays (Open s sole) e refl
  unheld_after (Close s) e = stays (Close s) e refl
  unheld_after (Start t) e = stays (Start t) e refl
  unheld_after (Done t) e = stays (Done t) e refl
  unheld_after (Rescan s only) e = stays (Rescan s only) e refl
  unheld_after (BeginPower kind s) e = stays (BeginPower kind s) e refl
  unheld_after (EndPower end) e = stays (EndPower end) e refl
  unheld_after (Plug x) e = stays (Plug x) e refl
  unheld_after (Unplug x None) e = stays (Unplug x None) e refl
  unheld_after Tell e = stays Tell e refl

pub unheld_open : (s : Setup) → HoldNoneCondemned (opening s)
unfolding opening
unheld_open s = tt
