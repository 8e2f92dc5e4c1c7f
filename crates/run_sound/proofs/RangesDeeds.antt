-- After each deed the live devices are in their ranges, where what comes fits in; and the next serial grows by one at most.
use Rattle.std.proofs.Common.{◌≡◌, ◌≤◌, ℕ, ◌+◌, ◌==◌, not, Bool, true, false, List, Option, Some, None, refl, arith, map}
use Rattle.std.specs.Prelude.{⊤, is_some, if◌then◌else◌}
use Rattle.run_rules.specs.declared.world.Dev.{Dev}
use Rattle.run_rules.specs.declared.world.Arrival.{Arrival}
use Rattle.run_rules.specs.World.{World, caller_at, is_under}
use Rattle.run_rules.specs.declared.deed.Deed.{Deed}
use Rattle.run_rules.specs.declared.deed.Deed.TheVariants.{Search, Finalise, Detach, Free, Sleep, Wake, Unplug}
use Rattle.run_rules.specs.After.{after, arrived, attached, finaliser_done, freed, freeing_target, list_moved, moved_top, new_device, over, released, show_spot, with_condemner, with_sleep, with_stack}
use Rattle.run_sound.proofs.Comings.{Comes, attached_comes}
use Rattle.run_sound.specs.Kept.{AreRanged}
use Rattle.run_sound.proofs.RangesOf.{FitsIn, KeepsPlace, ranged_come, ranged_less, ranged_map, ranged_seen}

-- the device that comes by a deed, if one does, fits in
abbrev pub ComesFit : World → Deed → Type 0
ComesFit w (Search p spot to (Some a)) = FitsIn w.setup w.live w.hidden (new_device w a)
ComesFit w (Finalise s shown (Some a) listed anew) = FitsIn w.setup w.live (show_spot w shown).hidden (new_device w a)
ComesFit w _ = ⊤

-- a world in its ranges
abbrev IsRanged : World → Type 0
IsRanged w = AreRanged w.setup w.live w.hidden

come_ranged : (w v : World) (a : Arrival) → Comes w v a → FitsIn w.setup w.live w.hidden (new_device w a) → IsRanged w → IsRanged v
come_ranged w v a is fits r = rw (is.setup, is.live, is.hidden) (ranged_come w.setup w.live w.hidden (new_device w a) fits r)

-- ---- finalisers

shown_ranged : (w : World) (shown : Option ℕ) → IsRanged w → IsRanged (show_spot w shown)
shown_ranged w None r = r
shown_ranged w (Some x) r = ranged_seen w.setup w.live (λ y. not (y == x)) w.hidden r

pub shown_fits : (w : World) (shown : Option ℕ) (a : Arrival) → FitsIn w.setup w.live (show_spot w shown).hidden (new_device w a)
    → FitsIn (show_spot w shown).setup (show_spot w shown).live (show_spot w shown).hidden (new_device (show_spot w shown) a)
shown_fits w None a fits = fits
shown_fits w (Some x) a fits = fits

moved_ranged : (w : World) (listed : Option ℕ) (anew answer : Bool) → IsRanged w → IsRanged (list_moved w listed anew answer)
moved_ranged w None anew answer r = r
moved_ranged w (Some place) anew answer r = r

done_ranged : (w : World) (k : ℕ) (listed : Option ℕ) (answer : Bool) → IsRanged w → IsRanged (finaliser_done w k listed answer)
done_ranged w k (Some place) answer r = r
done_ranged w k None true r = r
done_ranged w k None false r = r

finalised : (w v : World) (k : ℕ) (listed : Option ℕ) (anew answer : Bool) → IsRanged v → IsRanged (finaliser_done (list_moved v listed anew answer) k listed answer)
finalised w v k listed anew answer r = done_ranged (list_moved v listed anew answer) k listed answer (moved_ranged v listed anew answer r)

-- ---- devices change or go

pub sleep_keeps : (s : ℕ) (asleep : Bool) → KeepsPlace (with_sleep s asleep)
sleep_keeps s asleep = record { row = λ d. at (d.serial == s) d; unit = λ d. unit_at (d.serial == s) d; spot = λ d. spot_at (d.serial == s) d }
  where
    at : (b : Bool) (d : Dev) → (if b then record d { asleep = asleep } else d).row ≡ d.row
    at true d = refl
    at false d = refl

    unit_at : (b : Bool) (d : Dev) → (if b then record d { asleep = asleep } else d).unit ≡ d.unit
    unit_at true d = refl
    unit_at false d = refl

    spot_at : (b : Bool) (d : Dev) → (if b then record d { asleep = asleep } else d).spot ≡ d.spot
    spot_at true d = refl
    spot_at false d = refl

pub condemner_keeps : (live : List Dev) (k s : ℕ) → KeepsPlace (with_condemner live k s)
condemner_keeps live k s = record { row = λ d. at (is_under live s d.serial) d; unit = λ d. unit_at (is_under live s d.serial) d; spot = λ d. spot_at (is_under live s d.serial) d }
  where
    at : (b : Bool) (d : Dev) → (if b then record d { condemned = Some k } else d).row ≡ d.row
    at true d = refl
    at false d = refl

    unit_at : (b : Bool) (d : Dev) → (if b then record d { condemned = Some k } else d).unit ≡ d.unit
    unit_at true d = refl
    unit_at false d = refl

    spot_at : (b : Bool) (d : Dev) → (if b then record d { condemned = Some k } else d).spot ≡ d.spot
    spot_at true d = refl
    spot_at false d = refl

sleep_ranged : (w : World) (s : ℕ) (asleep : Bool) → IsRanged w → AreRanged w.setup (map (with_sleep s asleep) w.live) w.hidden
sleep_ranged w s asleep r = ranged_map w.setup (with_sleep s asleep) w.live w.hidden (sleep_keeps s asleep) r

condemned_ranged : (w : World) (k s : ℕ) → IsRanged w → AreRanged w.setup (map (with_condemner w.live k s) w.live) w.hidden
condemned_ranged w k s r = ranged_map w.setup (with_condemner w.live k s) w.live w.hidden (condemner_keeps w.live k s) r

freed_ranged : (w : World) (k s : ℕ) (last : Bool) → IsRanged w → IsRanged (if last then over (freed w s) k else freed w s)
freed_ranged w k s true r = ranged_less w.setup (λ d. not (d.serial == s)) w.live w.hidden r
freed_ranged w k s false r = ranged_less w.setup (λ d. not (d.serial == s)) w.live w.hidden r

-- ---- each deed

pub ranged_after : (w : World) (k : ℕ) (d : Deed) → ComesFit w d → IsRanged w → IsRanged (after w k d)
unfolding after released
ranged_after w k (Search p spot to None) fits r = r
ranged_after w k (Search p spot to (Some a)) fits r =
    let u : World = with_stack w k (moved_top to (caller_at w k).stack) in
    come_ranged u (attached u k a true) a (attached_comes u k a true) fits r
ranged_after w k (Finalise s shown None listed anew) fits r = finalised w (show_spot w shown) k listed anew (is_some shown) (shown_ranged w shown r)
ranged_after w k (Finalise s shown (Some a) listed anew) fits r =
    let u : World = show_spot w shown in
    finalised w (attached u k a false) k listed anew (is_some shown)
    (come_ranged u (attached u k a false) a (attached_comes u k a false) (shown_fits w shown a fits) (shown_ranged w shown r))
ranged_after w k (Detach s) fits r = condemned_ranged w k s r
ranged_after w k (Free s) fits r = freed_ranged w k s (freeing_target (caller_at w k).doing s) r
ranged_after w k (Sleep s) fits r = sleep_ranged w s true r
ranged_after w k (Wake s) fits r = sleep_ranged w s false r
ranged_after w k (Unplug x None) fits r = r
ranged_after w k (Unplug x (Some s)) fits r = condemned_ranged w k s r
ranged_after w k d fits r = r

-- ---- the next serial

-- it grows by one at most
abbrev pub GrowsByOne : ℕ → ℕ → Type 0
GrowsByOne before now = (before ≤ now) × (now ≤ before + 1)

same_serial : (n : ℕ) → GrowsByOne n n
same_serial n = (omega arith, omega arith)

between : (n m o v : ℕ) → m ≡ n → v ≡ o → GrowsByOne m o → GrowsByOne n v
between n m o v e f h = (omega (arith, h.0), omega (arith, h.1))

one_serial : (n m : ℕ) → m ≡ n + 1 → GrowsByOne n m
one_serial n m e = (omega arith, omega arith)

arrived_serial : (w : World) (k : ℕ) (got : Option Arrival) (may_defer : Bool) → GrowsByOne w.next (arrived w k got may_defer).next
arrived_serial w k None may_defer = same_serial w.next
arrived_serial w k (Some a) may_defer = one_serial w.next (attached w k a may_defer).next (attached_comes w k a may_defer).next

shown_serial : (w : World) (shown : Option ℕ) → (show_spot w shown).next ≡ w.next
shown_serial w None = refl
shown_serial w (Some x) = refl

finalised_serial : (v : World) (k : ℕ) (listed : Option ℕ) (anew answer : Bool) → (finaliser_done (list_moved v listed anew answer) k listed answer).next ≡ v.next
finalised_serial v k (Some place) anew answer = refl
finalised_serial v k None anew true = refl
finalised_serial v k None anew false = refl

freed_serial : (w : World) (k s : ℕ) (last : Bool) → (if last then over (freed w s) k else freed w s).next ≡ w.next
freed_serial w k s true = refl
freed_serial w k s false = refl

pub after_serials : (w : World) (k : ℕ) (d : Deed) → GrowsByOne w.next (after w k d).next
unfolding after released
after_serials w k (Search p spot to got) = arrived_serial (with_stack w k (moved_top to (caller_at w k).stack)) k got true
after_serials w k (Finalise s shown got listed anew) =
    let u : World = arrived (show_spot w shown) k got false in
    between w.next (show_spot w shown).next u.next _ (shown_serial w shown) (finalised_serial u k listed anew (is_some shown)) (arrived_serial (show_spot w shown) k got false)
after_serials w k (Free s) = rw (freed_serial w k s (freeing_target (caller_at w k).doing s)) (same_serial w.next)
after_serials w k (Unplug x None) = same_serial w.next
after_serials w k (Unplug x (Some s)) = same_serial w.next
after_serials w k d = same_serial w.next
