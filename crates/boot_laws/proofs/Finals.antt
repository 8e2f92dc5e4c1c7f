-- A finaliser's call: the spot that it shows is searched at once.
use Rattle.std.proofs.Common.{◌≡◌, ◌⊎◌, ◌<◌, ℕ, Bool, true, false, not, ◌&&◌, ◌||◌, ◌==◌, cond, List, [], ◌∷◌, length, Option, Some, None, option_map, option_and_then, slice_get, refl, sym, ap, ◌∙◌, subst, inl, inr, eqb-true, eq-eqb}
use Rattle.std.specs.Prelude.{filter}
use Rattle.std.proofs.lemmas.Bool.{false_from_ne_true, ne_eqb}
use Rattle.std.specs.Option.{option_map_or}
use Rattle.cf_types.specs.Numbers.{below}
use Rattle.cf_types.specs.declared.machine.Machine.{Machine}
use Rattle.cf_types.specs.declared.machine.Spot.{Spot}
use Rattle.cf_types.specs.declared.tables.Place.{Place}
use Rattle.cf_types.specs.declared.tables.Place.TheVariants.{Root, At}
use Rattle.run_rules.specs.declared.world.Arrival.{Arrival}
use Rattle.run_rules.specs.declared.world.Dev.{Dev}
use Rattle.run_rules.specs.declared.world.Setup.{Setup}
use Rattle.run_rules.specs.declared.world.Turn.{Turn}
use Rattle.run_rules.specs.World.{World, caller_at, device_at, has, is_number, offered_by, same_place}
use Rattle.run_rules.specs.Search.{attach_at, driver_at, is_child, is_open, same_spot, spot_of, turns}
use Rattle.run_rules.specs.Next.{hangs_below, late_spot, next, offers_place, place_of_spot}
use Rattle.run_rules.specs.After.{after, arrived, attached, finaliser_done, list_moved, show_spot, under_top, with_stack}
use Rattle.run_rules.specs.Sound.{EachLater, IsApart}
use Rattle.run_rules.specs.declared.deed.Deed.TheVariants.{Finalise}
use Rattle.run_rules.specs.declared.deed.Choice.TheVariants.{Does}
use Rattle.run_rules.proofs.Below.{and_both}
use Rattle.run_rules.proofs.Free.{find_true}
use Rattle.run_sound.proofs.Coming.{IsCall, IsCalled}
use Rattle.run_sound.specs.Kept.{Kept}
use Rattle.run_sound.proofs.Arrivals.{quiet_call, shown_spot}
use Rattle.run_sound.proofs.Callers.{clash, doing_there}
use Rattle.run_sound.proofs.Comings.{attached_comes}
use Rattle.run_sound.proofs.Members.{found_contained}
use Rattle.run_sound.proofs.Reasons.{has_reason}
use Rattle.boot_laws.proofs.Scans.{Among, among, of_among, turns_hang}
use Rattle.run_sound.proofs.Falls.{stack_is}
use Rattle.boot_laws.proofs.Watched.{AnyIn, Covers, IsServed, IsToCome, IsTurnOf, IsWatched, attached_adds, come_watched}
use Rattle.boot_laws.proofs.Deeds.{fresh, none_brought, none_past}

-- ---- whose spot it is

-- two devices on one spot are one
one_spot : (s : Setup) (live : List Dev) (d e : Dev) → EachLater (IsApart s) live → Among d live → Among e live → d.spot ≡ e.spot → d ≡ e
one_spot s [] d e apart a b same = absurd a
one_spot s (x ∷ live) d e apart (inl a) (inl b) same = sym a ∙ b
one_spot s (x ∷ live) d e apart (inl a) (inr b) same = absurd ((of_among (IsApart s x) live e apart.0 b).spots (ap (λ (y : Dev). y.spot) a ∙ same))
one_spot s (x ∷ live) d e apart (inr a) (inl b) same = absurd ((of_among (IsApart s x) live d apart.0 a).spots (ap (λ (y : Dev). y.spot) b ∙ sym same))
one_spot s (x ∷ live) d e apart (inr a) (inr b) same = one_spot s live d e apart.1 a b same

found_serial : (live : List Dev) (q : ℕ) (d : Dev) → device_at live q ≡ Some d → d.serial ≡ q
found_serial live q d e = eqb-true d.serial q (find_true (λ (x : Dev). x.serial == q) live d e)

found_among : (live : List Dev) (q : ℕ) (d : Dev) → device_at live q ≡ Some d → Among d live
found_among live q d e = among live d (found_contained (λ (x : Dev). x.serial == q) live d e)

same_place_is : (a b : Place) → same_place a b ≡ true → a ≡ b
same_place_is Root Root h = refl
same_place_is (At a) (At b) h = ap At (eqb-true a b h)
same_place_is Root (At b) h = absurd cc
same_place_is (At a) Root h = absurd cc

-- who hangs there and below the device hangs below the device's spot
one_home : (s : Setup) (d : Dev) (parent : Option ℕ) (place : Place) (o : Option Spot)
    → option_map_or (λ (spot : Spot). same_spot spot.parent parent && same_place spot.place place) o false ≡ true → option_map_or (hangs_below s d) o false ≡ true
    → (parent ≡ Some d.spot) × (place ≡ option_map_or (λ (spot : Spot). spot.place) o Root)
one_home s d parent place None h k = absurd cc
one_home s d parent place (Some spot) h k =
    let both = and_both (same_spot spot.parent parent) (same_place spot.place place) h in
    let number = and_both (is_number spot.parent d.spot) (offers_place (offered_by s d.row) spot.place) k in
    (ends spot.parent parent number.0 both.0, sym (same_place_is spot.place place both.1))
  where
    ends : (a b : Option ℕ) → is_number a d.spot ≡ true → same_spot a b ≡ true → b ≡ Some d.spot
    ends None b n m = absurd cc
    ends (Some x) None n m = absurd cc
    ends (Some x) (Some y) n m = ap Some (sym (eqb-true x y m) ∙ eqb-true x d.spot n)

late_hangs : (w : World) (d : Dev) (x : ℕ) → late_spot w d ≡ Some x → option_map_or (hangs_below w.setup d) (slice_get w.setup.machine.spots x) false ≡ true
unfolding late_spot
late_hangs w d x e =
    let test : ℕ → Bool = λ y. has w.hidden y && not (has w.absent y) && option_map_or (hangs_below w.setup d) (slice_get w.setup.machine.spots y) false in
    (and_both (has w.hidden x && not (has w.absent x)) _ (find_true test (below (length w.setup.machine.spots)) x e)).1

-- the turn of the spot that the finaliser of s shows is one of s, at the spot's place
record IsOwnTurn (w : World) (s x q : ℕ) (t : Turn) : Type 0 where
  parent : q ≡ s
  place : t.place ≡ place_of_spot w x

own_turn : (w : World) (s x q : ℕ) (t : Turn) → Kept w → option_and_then (late_spot w) (device_at w.live s) ≡ Some x → Among t (turns w.setup w.live q None) → t.at.spot ≡ x → IsOwnTurn w s x q t
own_turn w s x q t kept late among is = caller (device_at w.live s) refl late
  where
    child : is_child w.setup.machine (spot_of w.live q) t.place x ≡ true
    child =
        subst (λ (y : ℕ). is_child w.setup.machine (spot_of w.live q) t.place y ≡ true) is
        (of_among (λ (u : Turn). is_child w.setup.machine (spot_of w.live q) u.place u.at.spot ≡ true) (turns w.setup w.live q None) t
        (turns_hang w.setup.tables w.setup.machine (driver_at w.setup w.live q) (attach_at w.setup w.live q) (spot_of w.live q) None) among)

    parent : (d : Dev) → device_at w.live s ≡ Some d → (o : Option Dev) → device_at w.live q ≡ o → option_map (λ (e : Dev). e.spot) o ≡ Some d.spot → q ≡ s
    parent d found None at k = absurd cc
    parent d found (Some e) at k =
        let spots : e.spot ≡ d.spot = cc in
        let one : e ≡ d = one_spot w.setup w.live e d kept.sound.devices.apart (found_among w.live q e at) (found_among w.live s d found) spots in
        sym (found_serial w.live q e at) ∙ ap (λ (y : Dev). y.serial) one ∙ found_serial w.live s d found

    caller : (o : Option Dev) → device_at w.live s ≡ o → option_and_then (late_spot w) o ≡ Some x → IsOwnTurn w s x q t
    caller None found k = absurd cc
    caller (Some d) found k =
        let home = one_home w.setup d (spot_of w.live q) t.place (slice_get w.setup.machine.spots x) child (late_hangs w d x k) in
        record { parent = parent d found (device_at w.live q) refl home.0; place = home.1 }

-- ---- a spot is shown

still_hidden : (hidden : List ℕ) (x y : ℕ) → (y == x) ≡ false → has (filter (λ z. not (z == x)) hidden) y ≡ has hidden y
still_hidden [] x y other = refl
still_hidden (z ∷ hidden) x y other = cases (z == x) refl (still_hidden hidden x y other)
  where
    cases : (b : Bool) → (z == x) ≡ b → has (filter (λ z. not (z == x)) hidden) y ≡ has hidden y
        → has (cond (not b) (z ∷ filter (λ z. not (z == x)) hidden) (filter (λ z. not (z == x)) hidden)) y ≡ ((z == y) || has hidden y)
    cases false is more = ap (λ (c : Bool). (z == y) || c) more
    cases true is more =
        let same : z ≡ x = eqb-true z x is in
        let differs : (z == y) ≡ false = rw same (other_way x y other) in
        rw differs more
      where
        other_way : (a b : ℕ) → (b == a) ≡ false → (a == b) ≡ false
        other_way a b e = false_from_ne_true (a == b) (λ h. clash (b == a) (eq-eqb b a (sym (eqb-true a b h))) e)

pub bare_before : (m : Machine) (live : List Dev) (absent hidden : List ℕ) (x y : ℕ) → (y == x) ≡ false → is_open m live absent (filter (λ z. not (z == x)) hidden) [] y ≡ true → is_open m live absent hidden [] y ≡ true
unfolding is_open
bare_before m live absent hidden x y other h = rw (still_hidden hidden x y other) at h

-- a turn of another spot is as before
pub before_shown : (w : World) (x q : ℕ) (t : Turn) → (t.at.spot == x) ≡ false → IsTurnOf (show_spot w (Some x)) q t → IsTurnOf w q t
before_shown w x q t other at =
    record { known = at.known; among = at.among; bare = bare_before w.setup.machine w.live w.absent w.hidden x t.at.spot other at.bare }

shown_served : (w : World) (x q : ℕ) (t : Turn) → IsWatched w → (t.at.spot == x) ≡ false → IsTurnOf (show_spot w (Some x)) q t → IsServed (show_spot w (Some x)) q t
shown_served w x q t watched other at = elim (watched q t (before_shown w x q t other at)) [ inl none ↦ inl none | inr waits ↦ inr waits ]

-- a spot was shown, and what comes there came
shown_watched : (w : World) (s x : ℕ) (got : Option Arrival) (listed : Option ℕ) (anew : Bool) → Kept w → 0 < length w.callers → IsCall w 0 s (Some x) got listed anew → IsWatched w
    → IsWatched (arrived (show_spot w (Some x)) 0 got false)
shown_watched w s x None listed anew kept lt call watched q t at = cases (t.at.spot == x) refl
  where
    cases : (b : Bool) → (t.at.spot == x) ≡ b → IsServed (show_spot w (Some x)) q t
    cases false other = shown_served w x q t watched other at
    cases true is =
        let same : t.at.spot ≡ x = eqb-true t.at.spot x is in
        let own : IsOwnTurn w s x q t = own_turn w s x q t kept call.spot at.among same in
        inl (none_past w.setup w.live q t (rw (own.parent, own.place, same) (none_brought w.setup w.live s (place_of_spot w x) x call.came)))
shown_watched w s x (Some a) listed anew kept lt call watched q t at =
    let u : World = show_spot w (Some x) in
    come_watched u (attached u 0 a false) a (attached_comes u 0 a false) (attached_adds u a false lt) (fresh w kept)
    (λ p y here other. shown_served w x p y watched (ne_eqb y.at.spot x (λ same. other (same ∙ sym (shown_spot w 0 s x a listed anew call)))) here) q t at

-- ---- the call is over

-- the list moves on, and no frame goes
answered_watched : (v : World) (listed : Option ℕ) (anew : Bool) → IsWatched v → IsWatched (finaliser_done (list_moved v listed anew true) 0 listed true)
answered_watched v None anew watched q t at = watched q t at
answered_watched v (Some place) anew watched q t at =
    let before : IsTurnOf v q t = record { known = at.known; among = at.among; bare = at.bare } in
    elim (watched q t before) [ inl none ↦ inl none | inr waits ↦ inr waits ]

-- a frame that goes is of the finaliser
pub quiet_to_come : (w : World) (s : ℕ) (listed : Option ℕ) (anew : Bool) (q : ℕ) (t : Turn) → 0 < length w.callers → IsCalled w 0 s listed anew → IsToCome w q t
    → IsToCome (finaliser_done (list_moved w listed anew false) 0 listed false) q t
quiet_to_come w s (Some place) anew q t lt called waits = waits
quiet_to_come w s None anew q t lt called (inr entry) = inr entry
quiet_to_come w s None anew q t lt called (inl frame) = inl (rw left (rest (rw called.1 at frame)))
  where
    left : (caller_at (with_stack w 0 (under_top (caller_at w 0).stack)) 0).stack ≡ called.0
    left = stack_is w 0 (under_top (caller_at w 0).stack) lt ∙ ap under_top called.1

    rest : ⊥ ⊎ AnyIn (Covers q t) called.0 → AnyIn (Covers q t) called.0
    rest (inl never) = absurd never
    rest (inr more) = more

quiet_watched : (w : World) (s : ℕ) (listed : Option ℕ) (anew : Bool) → 0 < length w.callers → IsCalled w 0 s listed anew → IsWatched w → IsWatched (finaliser_done (list_moved w listed anew false) 0 listed false)
quiet_watched w s (Some place) anew lt called watched q t at =
    let before : IsTurnOf w q t = record { known = at.known; among = at.among; bare = at.bare } in
    elim (watched q t before) [ inl none ↦ inl none | inr waits ↦ inr waits ]
quiet_watched w s None anew lt called watched q t at =
    let before : IsTurnOf w q t = record { known = at.known; among = at.among; bare = at.bare } in
    elim (watched q t before) [ inl none ↦ inl none | inr waits ↦ inr (quiet_to_come w s None anew q t lt called waits) ]

pub final_watched : (w : World) (s : ℕ) (shown : Option ℕ) (got : Option Arrival) (listed : Option ℕ) (anew : Bool) → Kept w → next w 0 ≡ Does (Finalise s shown got listed anew) → IsWatched w
    → IsWatched (after w 0 (Finalise s shown got listed anew))
unfolding after
final_watched w s None None listed anew kept e watched =
    let call : IsCall w 0 s None None listed anew = has_reason w 0 (Finalise s None None listed anew) e in
    quiet_watched w s listed anew (doing_there w 0 (Finalise s None None listed anew) e) call.called watched
final_watched w s None (Some a) listed anew kept e watched = absurd (quiet_call w 0 s a listed anew (has_reason w 0 (Finalise s None (Some a) listed anew) e))
final_watched w s (Some x) got listed anew kept e watched =
    let call : IsCall w 0 s (Some x) got listed anew = has_reason w 0 (Finalise s (Some x) got listed anew) e in
    answered_watched (arrived (show_spot w (Some x)) 0 got false) listed anew (shown_watched w s x got listed anew kept (doing_there w 0 (Finalise s (Some x) got listed anew) e) call watched)
