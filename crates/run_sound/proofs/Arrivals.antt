-- What comes may come.
use Rattle.std.proofs.Common.{◌≡◌, ◌<◌, ◌≤◌, ◌+◌, ◌^◌, ℕ, zero, suc, Bool, true, false, not, ◌&&◌, ◌||◌, ◌==◌, cond, List, [], ◌∷◌, map, filter, length, find, Option, Some, None, option_map, option_and_then, unwrap_or, slice_get, slice_index_or, refl, sym, subst, arith, eqb-true}
use Rattle.std.proofs.lemmas.Bool.{or_right}
use Rattle.std.specs.Prelude.{IsTrue, if◌then◌else◌}
use Rattle.std.specs.List.{AllByRecursion, enumerate_from}
use Rattle.std.specs.Option.{option_map_or}
use Rattle.std.proofs.lemmas.Option.{none-some, same_Some}
use Rattle.cf_types.specs.Numbers.{below}
use Rattle.cf_types.specs.declared.machine.Machine.{Machine}
use Rattle.cf_types.specs.declared.tables.Place.{Place}
use Rattle.cf_types.specs.declared.tables.Row.{Row}
use Rattle.run_rules.specs.declared.world.Setup.{Setup}
use Rattle.run_rules.specs.declared.world.Dev.{Dev}
use Rattle.run_rules.specs.declared.world.Arrival.{Arrival}
use Rattle.run_rules.specs.declared.world.Frame.{Frame}
use Rattle.run_rules.specs.declared.world.Frame.TheVariants.{Scan, Finaliser}
use Rattle.run_rules.specs.declared.world.Position.{Position}
use Rattle.run_rules.specs.declared.world.Turn.{Turn}
use Rattle.run_rules.specs.declared.world.Wanted.{Wanted}
use Rattle.run_rules.specs.World.{World, Caller, caller_at, device_at, frame_serial, has, has_ended, is_live, nobody}
use Rattle.run_rules.specs.Search.{bus_turns, turns_of, child_spots, due, free_after, is_before, is_child, is_due, is_indirect, is_occupied, is_taken, parent_ref, scan_places, spot_of, turns, turns_at, unit_of, winner_at}
use Rattle.run_rules.specs.declared.deed.Deed.TheVariants.{Search, Finalise}
use Rattle.run_rules.specs.declared.deed.Choice.TheVariants.{Does}
use Rattle.run_rules.specs.Next.{arrival, hangs_below, late_spot, next, place_of_spot}
use Rattle.run_rules.specs.After.{show_spot}
use Rattle.run_rules.specs.Sound.{Sound, is_known}
use Rattle.run_rules.proofs.Below.{and_both, find_below}
use Rattle.run_rules.proofs.Devices.{all_imp, all_snoc}
use Rattle.run_rules.proofs.Free.{due_free, due_seen, find_true, winner_below}
use Rattle.run_rules.proofs.OwnNames.{there}
use Rattle.run_rules.proofs.Units.{winner_free}
use Rattle.run_sound.proofs.Coming.{IsCall, IsCalled, IsTurn, MayCome}
use Rattle.run_sound.specs.Kept.{Kept, MayRun}
use Rattle.run_sound.proofs.Callers.{all_or, doing_so, all_filter, not_ended}
use Rattle.run_sound.proofs.Members.{all_flat, all_map, found_of}
use Rattle.run_sound.proofs.Inputs.{low_units}
use Rattle.run_sound.proofs.Reasons.{has_reason}

-- ---- what a row brings

pub record Brings (s : Setup) (live : List Dev) (p : ℕ) (place : Place) (x : ℕ) (a : Arrival) : Type 0 where
  pub parent : a.parent ≡ p
  pub at : a.spot ≡ x
  pub won : winner_at s live p place x ≡ Some a.row
  pub unit : a.unit ≡ unit_of s live a.row

pub brings : (s : Setup) (live : List Dev) (p : ℕ) (place : Place) (x : ℕ) (a : Arrival) → Some a ≡ arrival s live p place x → Brings s live p place x a
unfolding arrival
brings s live p place x a e = cases (winner_at s live p place x) refl e
  where
    cases : (o : Option ℕ) → winner_at s live p place x ≡ o → Some a ≡ option_map {U = Arrival} (λ r. record { row = r; unit = unit_of s live r; parent = p; spot = x }) o → Brings s live p place x a
    cases None won h = absurd cc
    cases (Some r) won h =
        subst (Brings s live p place x) (sym (same_Some a (record { row = r; unit = unit_of s live r; parent = p; spot = x }) h))
        (record { parent = refl; at = refl; won = won; unit = refl })

-- ---- its unit

free_near : (s : Setup) (live : List Dev) (device first : ℕ) → free_after s live device first ≤ length live
unfolding free_after
free_near s live device first = cases (find (λ k. not (is_taken s live device (first + k))) (below (suc (length live)))) refl
  where
    cases : (o : Option ℕ) → find (λ k. not (is_taken s live device (first + k))) (below (suc (length live))) ≡ o → unwrap_or o 0 ≤ length live
    cases None e = omega arith
    cases (Some k) e = omega (arith, find_below (λ k. not (is_taken s live device (first + k))) (suc (length live)) k e)

small_unit : (s : Setup) (live : List Dev) (r : ℕ) → MayRun s → length live ≤ length s.machine.spots → r < length s.tables.rows → unit_of s live r < 2 ^ 32
unfolding unit_of
small_unit s live r may few lt =
    let row = there s.tables.rows r lt in
    rw row.1 (cases row.0 row.0.star (low_units s.tables r row.0 may.tables row.1))
  where
    cases : (row : Row) (star : Bool) → row.unit ≤ 65536 → (if star then row.unit + free_after s live row.device row.unit else row.unit) < 2 ^ 32
    cases row true low = omega (arith, low, free_near s live row.device row.unit, few, may.machine.few_spots)
    cases row false low = omega (arith, low)

few_live : (w : World) → Kept w → length w.live ≤ length w.setup.machine.spots
few_live w kept = omega (arith, kept.ranges.devices.few)

-- a winner comes to a spot that is bare and seen
comes : (w : World) (hidden : List ℕ) (p : ℕ) (place : Place) (x : ℕ) (a : Arrival) → MayRun w.setup → Kept w → Some a ≡ arrival w.setup w.live p place x
    → IsTrue (is_known w p) → is_occupied w.live x ≡ false → has hidden x ≡ false → x < length w.setup.machine.spots → MayCome w.setup w.live hidden p a
comes w hidden p place x a may kept e known bare seen inside =
    let h : Brings w.setup w.live p place x a = brings w.setup w.live p place x a e in
    let row : a.row < length w.setup.tables.rows = winner_below w.setup w.live (parent_ref w.setup w.live p) place x a.row h.won in
    record {
      parent = h.parent;
      known = known;
      unit = rw h.unit (winner_free w.setup w.live (parent_ref w.setup w.live p) place x a.row h.won);
      bare = rw h.at bare;
      seen = rw h.at seen;
      spot = rw h.at inside;
      row = row;
      small = rw h.unit (small_unit w.setup w.live a.row may (few_live w kept) row);
    }

-- ---- the spot of a due turn

pub all_low : (n : ℕ) → AllByRecursion (λ x. x < n) (below n)
all_low zero = tt
all_low (suc n) = all_snoc (λ x. x < suc n) (below n) n (all_imp (λ x. x < n) (λ x. x < suc n) (λ x lt. omega (arith, lt)) (below n) (all_low n)) (omega arith)

children_inside : (m : Machine) (parent : Option ℕ) (place : Place) → AllByRecursion (λ x. x < length m.spots) (child_spots m parent place)
unfolding child_spots
children_inside m parent place = all_filter (λ x. x < length m.spots) (is_child m parent place) (below (length m.spots)) (all_low (length m.spots))

abbrev IsInside : Setup → Turn → Type 0
IsInside s t = t.at.spot < length s.machine.spots

bus_inside : (s : Setup) (rows : ℕ) (indirect : Bool) (spot : Option ℕ) (e : ℕ × Place) → AllByRecursion (IsInside s) (bus_turns s.machine rows indirect spot e)
unfolding bus_turns
bus_inside s rows false spot e =
    all_map (IsInside s) (λ x. x < length s.machine.spots) (λ x. record { at = record { attr = e.0; row = 0; spot = x }; place = e.1; indirect = false }) (child_spots s.machine spot e.1) (λ x lt. lt)
    (children_inside s.machine spot e.1)
bus_inside s rows true spot e =
    all_flat (IsInside s) (λ r. map (λ x. record { at = record { attr = e.0; row = r; spot = x }; place = e.1; indirect = true }) (child_spots s.machine spot e.1)) (below rows)
    (λ r. all_map (IsInside s) (λ x. x < length s.machine.spots) (λ x. record { at = record { attr = e.0; row = r; spot = x }; place = e.1; indirect = true }) (child_spots s.machine spot e.1) (λ x lt. lt)
    (children_inside s.machine spot e.1))

turns_inside : (s : Setup) (live : List Dev) (p : ℕ) (only : Option ℕ) → AllByRecursion (IsInside s) (turns s live p only)
unfolding turns_of
turns_inside s live p only =
    all_flat (IsInside s) (turns_at s live p) (enumerate_from 0 (scan_places s live p only)) (λ e. bus_inside s (length s.tables.rows) (is_indirect s live p e.1) (spot_of live p) e)

pub due_inside : (s : Setup) (live : List Dev) (absent hidden : List ℕ) (p : ℕ) (only : Option ℕ) (wanted : List Wanted) (from : Position) (t : Turn)
    → due s live absent hidden p only wanted from ≡ Some t → t.at.spot < length s.machine.spots
unfolding due
due_inside s live absent hidden p only wanted from t e =
    found_of (IsInside s) (λ t. not (is_before t.at from) && is_due s live absent hidden p wanted t) (turns s live p only) t (turns_inside s live p only) e

-- ---- who brings it is known

-- the frame on top is of a known device
pub top_known : (w : World) (k : ℕ) (f : Frame) (rest : List Frame) → Sound w → (caller_at w k).stack ≡ f ∷ rest → IsTrue (is_known w (frame_serial f))
top_known w k f rest sound e =
    let all = all_or (λ (c : Caller). AllByRecursion (λ f. IsTrue (is_known w (frame_serial f))) c.stack) w.callers k nobody sound.frames tt in
    (subst (λ (stack : List Frame). AllByRecursion (λ f. IsTrue (is_known w (frame_serial f))) stack) e all).0

pub live_is_known : (w : World) (s : ℕ) → IsTrue (is_live w.live s) → IsTrue (is_known w s)
live_is_known w s h = or_right (s == 0) (is_live w.live s) h

-- so is a finaliser of the boot's list
pub listed_known : (w : World) (place : ℕ) → Sound w → has_ended w 0 ≡ false → IsTrue (is_known w (slice_index_or w.finalisers place 0))
listed_known w place sound goes =
    all_or (λ s. IsTrue (is_known w s)) w.finalisers place 0
    (all_imp (λ s. IsTrue (is_live w.live s)) (λ s. IsTrue (is_known w s)) (live_is_known w) w.finalisers (sound.boot (not_ended w 0 goes)).finalisers) refl

pub called_known : (w : World) (k s : ℕ) (listed : Option ℕ) (anew : Bool) → Sound w → has_ended w k ≡ false → IsCalled w k s listed anew → IsTrue (is_known w s)
called_known w k s None anew sound goes called = top_known w k (Finaliser s) called.0 sound called.1
called_known w k s (Some place) false sound goes called = rw called.5 (listed_known w place sound (rw called.0 at goes))
called_known w k s (Some place) true sound goes called = rw called.5 (listed_known w 0 sound (rw called.0 at goes))

-- ---- the spot that a finaliser shows

bare_at : (live : List Dev) (hidden : List ℕ) (x : ℕ) → AllByRecursion (λ y. is_occupied live y ≡ false) hidden → has hidden x ≡ true → is_occupied live x ≡ false
bare_at live [] x all h = absurd cc
bare_at live (y ∷ ys) x all h = cases (λ k. bare_at live ys x all.1 k) (y == x) refl h
  where
    cases : (has ys x ≡ true → is_occupied live x ≡ false) → (b : Bool) → (y == x) ≡ b → (b || has ys x) ≡ true → is_occupied live x ≡ false
    cases more true e k = rw (← eqb-true y x e) all.0
    cases more false e k = more k

-- a spot that is shown is hidden no longer
unhidden_gone : (hidden : List ℕ) (x : ℕ) → has (filter (λ y. not (y == x)) hidden) x ≡ false
unhidden_gone [] x = refl
unhidden_gone (y ∷ ys) x = cases (unhidden_gone ys x) (y == x) refl
  where
    cases : has (filter (λ y. not (y == x)) ys) x ≡ false → (b : Bool) → (y == x) ≡ b → has (cond (not b) (y ∷ filter (λ y. not (y == x)) ys) (filter (λ y. not (y == x)) ys)) x ≡ false
    cases before true e = before
    cases before false e = rw (e, before) refl

late_found : (w : World) (o : Option Dev) (x : ℕ) → option_and_then (late_spot w) o ≡ Some x → (x < length w.setup.machine.spots) × (has w.hidden x ≡ true)
unfolding late_spot
late_found w None x e = absurd cc
late_found w (Some d) x e =
    let test : ℕ → Bool = λ y. has w.hidden y && not (has w.absent y) && option_map_or (hangs_below w.setup d) (slice_get w.setup.machine.spots y) false in
    let passes = find_true test (below (length w.setup.machine.spots)) x e in (
      find_below test (length w.setup.machine.spots) x e,
      (and_both (has w.hidden x) (not (has w.absent x)) (and_both (has w.hidden x && not (has w.absent x)) _ passes).0).0,
    )

-- what is shown was hidden, and is a spot
pub shown_inside : (w : World) (k s x : ℕ) (got : Option Arrival) (listed : Option ℕ) (anew : Bool) → IsCall w k s (Some x) got listed anew
    → (x < length w.setup.machine.spots) × (has w.hidden x ≡ true)
shown_inside w k s x got listed anew call = late_found w (device_at w.live s) x call.spot

-- ---- what comes may come

pub search_comes : (w : World) (k p spot : ℕ) (to : Position) (a : Arrival) → MayRun w.setup → Kept w → next w k ≡ Does (Search p spot to (Some a)) → MayCome w.setup w.live w.hidden p a
search_comes w k p spot to a may kept e =
    let t : IsTurn w k p spot to (Some a) = has_reason w k (Search p spot to (Some a)) e in
    comes w w.hidden p t.turn.place t.turn.at.spot a may kept t.came (top_known w k (Scan p t.only t.wanted t.from) t.rest kept.sound t.stack)
    (due_free w.setup w.live w.absent w.hidden p t.only t.wanted t.from t.turn t.is_due) (due_seen w.setup w.live w.absent w.hidden p t.only t.wanted t.from t.turn t.is_due)
    (due_inside w.setup w.live w.absent w.hidden p t.only t.wanted t.from t.turn t.is_due)

pub finalise_comes : (w : World) (k s x : ℕ) (a : Arrival) (listed : Option ℕ) (anew : Bool) → MayRun w.setup → Kept w → next w k ≡ Does (Finalise s (Some x) (Some a) listed anew)
    → MayCome w.setup w.live (show_spot w (Some x)).hidden s a
finalise_comes w k s x a listed anew may kept e =
    let call : IsCall w k s (Some x) (Some a) listed anew = has_reason w k (Finalise s (Some x) (Some a) listed anew) e in
    let shown = shown_inside w k s x (Some a) listed anew call in
    comes w (show_spot w (Some x)).hidden s (place_of_spot w x) x a may kept call.came
    (called_known w k s listed anew kept.sound (doing_so w k (Finalise s (Some x) (Some a) listed anew) e).unended call.called)
    (bare_at w.live w.hidden x kept.ranges.devices.bare shown.1) (unhidden_gone w.hidden x) shown.0

-- where no spot is shown nothing comes
pub quiet_call : (w : World) (k s : ℕ) (a : Arrival) (listed : Option ℕ) (anew : Bool) → IsCall w k s None (Some a) listed anew → ⊥
quiet_call w k s a listed anew call = none-some a (sym call.came)

pub none_shown : (w : World) (k s : ℕ) (a : Arrival) (listed : Option ℕ) (anew : Bool) → next w k ≡ Does (Finalise s None (Some a) listed anew) → ⊥
none_shown w k s a listed anew e = quiet_call w k s a listed anew (has_reason w k (Finalise s None (Some a) listed anew) e)

-- what is brought to a spot stands there
pub turn_spot : (w : World) (k p spot : ℕ) (to : Position) (a : Arrival) (t : IsTurn w k p spot to (Some a)) → a.spot ≡ t.turn.at.spot
turn_spot w k p spot to a t = (brings w.setup w.live p t.turn.place t.turn.at.spot a t.came).at

pub shown_spot : (w : World) (k s x : ℕ) (a : Arrival) (listed : Option ℕ) (anew : Bool) → IsCall w k s (Some x) (Some a) listed anew → a.spot ≡ x
shown_spot w k s x a listed anew call = (brings w.setup w.live s (place_of_spot w x) x a call.came).at
