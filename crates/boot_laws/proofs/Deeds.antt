-- Each deed of a boot leaves each spot that some row would take to come, or taken.
use Rattle.std.proofs.Common.{◌≡◌, ◌⊎◌, ◌<◌, ℕ, Bool, true, false, not, ◌&&◌, ◌||◌, List, [], ◌∷◌, length, Option, Some, None, option_map, refl, sym, ap, ◌∙◌, subst, inl, inr, arith, eq-eqb}
use Rattle.std.proofs.lemmas.Bool.{false_from_ne_true}
use Rattle.cf_types.specs.declared.tables.Place.{Place}
use Rattle.run_rules.specs.declared.world.Arrival.{Arrival}
use Rattle.run_rules.specs.declared.world.Deferred.{Deferred}
use Rattle.run_rules.specs.declared.world.Dev.{Dev}
use Rattle.run_rules.specs.declared.world.Frame.TheVariants.{Scan}
use Rattle.run_rules.specs.declared.world.Key.TheVariants as key
use Rattle.run_rules.specs.declared.world.Position.{Position}
use Rattle.run_rules.specs.declared.world.Setup.{Setup}
use Rattle.run_rules.specs.declared.world.Turn.{Turn}
use Rattle.run_rules.specs.World.{World, caller_at, device_at, is_live, is_number}
use Rattle.run_rules.specs.Search.{after_turn, attach_at, driver_at, due, is_before, is_due, spot_of, turns, unit_of, winner_at}
use Rattle.run_rules.specs.Next.{arrival, next}
use Rattle.run_rules.specs.After.{after, moved_top, released, under_top, with_stack}
use Rattle.run_rules.specs.Sound.{EachLater}
use Rattle.run_rules.specs.declared.deed.Deed.TheVariants.{Search, EndScan, BeginInterrupts}
use Rattle.run_rules.specs.declared.deed.Choice.TheVariants.{Does}
use Rattle.run_rules.proofs.Devices.{below_next}
use Rattle.run_rules.proofs.Order.{device_missed}
use Rattle.run_sound.proofs.Coming.{IsScanEnd, IsTurn}
use Rattle.run_sound.specs.Kept.{Kept}
use Rattle.run_sound.proofs.Arrivals.{brings}
use Rattle.run_sound.proofs.Callers.{callers_kept, clash, doing_there}
use Rattle.run_sound.proofs.Comings.{attached_comes}
use Rattle.run_sound.proofs.Reasons.{has_reason}
use Rattle.boot_laws.proofs.Scans.{Later, first_or_behind, none_passes, turns_in_order}
use Rattle.run_sound.proofs.Falls.{stack_is}
use Rattle.boot_laws.proofs.Watched.{AnyIn, Covers, IsPast, IsServed, IsToCome, IsTurnOf, IsWatched, attached_adds, come_watched, released_to_come}

-- ---- what comes

pub none_brought : (s : Setup) (live : List Dev) (p : ℕ) (place : Place) (x : ℕ) → None ≡ arrival s live p place x → winner_at s live p place x ≡ None
unfolding arrival
none_brought s live p place x = cases (winner_at s live p place x)
  where
    cases : (o : Option ℕ) → None ≡ option_map {U = Arrival} (λ r. record { row = r; unit = unit_of s live r; parent = p; spot = x }) o → o ≡ None
    cases None e = refl
    cases (Some r) e = absurd cc

-- the next serial is nobody's
pub fresh : (w : World) → Kept w → device_at w.live w.next ≡ None
fresh w kept =
    device_missed w.live w.next
    (false_from_ne_true (is_live w.live w.next) (λ h. let low : w.next < w.next = below_next w.live w.live w.next w.next kept.sound.devices.placed h in absurd (omega (arith, low))))

-- ---- a scan

-- a turn of a direct bus, or one whose row wins, is due where a scan is not past it
abbrev MayBeDue : World → ℕ → Turn → Bool
MayBeDue w p t = not t.indirect || is_number (winner_at w.setup w.live p t.place t.at.spot) t.at.row

passes : (w : World) (p : ℕ) (t : Turn) (from : Position) → IsTurnOf w p t → MayBeDue w p t ≡ true → is_before t.at from ≡ false → (not (is_before t.at from) && is_due w.setup w.live w.absent w.hidden p [] t) ≡ true
unfolding is_due
passes w p t from at may ahead = rw (ahead, at.bare, may) refl

in_order : (w : World) (p : ℕ) → EachLater Later (turns w.setup w.live p None)
in_order w p = turns_in_order w.setup.tables w.setup.machine (driver_at w.setup w.live p) (attach_at w.setup w.live p) (spot_of w.live p) None

-- it is the due one, or stays ahead
due_or_ahead : (w : World) (p : ℕ) (t u : Turn) (from : Position) → IsTurnOf w p t → MayBeDue w p t ≡ true → is_before t.at from ≡ false → due w.setup w.live w.absent w.hidden p None [] from ≡ Some u
    → (u ≡ t) ⊎ (is_before t.at (after_turn u) ≡ false)
unfolding due
due_or_ahead w p t u from at may ahead e =
    first_or_behind Later (λ x. not (is_before x.at from) && is_due w.setup w.live w.absent w.hidden p [] x) (turns w.setup w.live p None) u t (in_order w p) e at.among (passes w p t from at may ahead)

none_ahead : (w : World) (p : ℕ) (t : Turn) (from : Position) → IsTurnOf w p t → MayBeDue w p t ≡ true → is_before t.at from ≡ false → due w.setup w.live w.absent w.hidden p None [] from ≡ None → ⊥
unfolding due
none_ahead w p t from at may ahead e =
    none_passes (λ x. not (is_before x.at from) && is_due w.setup w.live w.absent w.hidden p [] x) (turns w.setup w.live p None) t e at.among (passes w p t from at may ahead)

-- one whose row does not win is past
not_due : (w : World) (p : ℕ) (t : Turn) → MayBeDue w p t ≡ false → IsPast w.setup w.live p t
not_due w p t out = record {
  no_row = λ direct. absurd (clash (MayBeDue w p t) (ap (λ (b : Bool). not b || is_number (winner_at w.setup w.live p t.place t.at.spot) t.at.row) direct) out);
  not_it = λ indirect won first.
      absurd (clash (MayBeDue w p t) (rw (indirect, won) (eq-eqb t.at.row t.at.row refl)) out);
}

-- where no row takes the spot each of its turns is past
pub none_past : (s : Setup) (live : List Dev) (p : ℕ) (t : Turn) → winner_at s live p t.place t.at.spot ≡ None → IsPast s live p t
none_past s live p t none = record { no_row = λ direct. none; not_it = λ indirect won first. never (sym none ∙ won) }
  where
    never : None ≡ Some t.at.row → ⊥
    never e = cc

-- ---- a turn

-- what was to come is the turn, or still is to come
pub turned : (w : World) (p spot : ℕ) (to : Position) (got : Option Arrival) (i : IsTurn w 0 p spot to got) (q : ℕ) (t : Turn) → 0 < length w.callers → IsTurnOf w q t → MayBeDue w q t ≡ true → IsToCome w q t
    → ((p ≡ q) × (i.turn ≡ t)) ⊎ IsToCome (with_stack w 0 (moved_top to (caller_at w 0).stack)) q t
turned w p spot to got i q t lt at may (inr entry) = inr (inr entry)
turned w p spot to got i q t lt at may (inl frame) = cases (rw i.stack at frame)
  where
    moved : (caller_at (with_stack w 0 (moved_top to (caller_at w 0).stack)) 0).stack ≡ Scan p i.only i.wanted to ∷ i.rest
    moved = stack_is w 0 (moved_top to (caller_at w 0).stack) lt ∙ ap (moved_top to) i.stack

    cases : Covers q t (Scan p i.only i.wanted i.from) ⊎ AnyIn (Covers q t) i.rest → ((p ≡ q) × (i.turn ≡ t)) ⊎ IsToCome (with_stack w 0 (moved_top to (caller_at w 0).stack)) q t
    cases (inr more) = inr (inl (rw moved (inr more)))
    cases (inl (same, whole, all, ahead)) =
        elim (due_or_ahead w q t i.turn i.from at may ahead (rw (same, whole, all) at i.is_due)) [
          | inl is ↦ inl (same, is)
          | inr behind ↦ inr (inl (rw moved (inl (same, whole, all, rw i.moved behind))))
        ]

-- each turn is served where the frame on top has moved, but for the one that is searched
turned_served : (w : World) (p spot : ℕ) (to : Position) (got : Option Arrival) (i : IsTurn w 0 p spot to got) (q : ℕ) (t : Turn) → 0 < length w.callers → IsWatched w → IsTurnOf w q t
    → ((p ≡ q) × (i.turn ≡ t)) ⊎ IsServed (with_stack w 0 (moved_top to (caller_at w 0).stack)) q t
turned_served w p spot to got i q t lt watched at = cases (MayBeDue w q t) refl (watched q t at)
  where
    cases : (b : Bool) → MayBeDue w q t ≡ b → IsServed w q t → ((p ≡ q) × (i.turn ≡ t)) ⊎ IsServed (with_stack w 0 (moved_top to (caller_at w 0).stack)) q t
    cases false out served = inr (inl (not_due w q t out))
    cases true may (inl past) = inr (inl past)
    cases true may (inr waits) = elim (turned w p spot to got i q t lt at may waits) [ inl is ↦ inl is | inr still ↦ inr (inr still) ]

pub search_watched : (w : World) (p spot : ℕ) (to : Position) (got : Option Arrival) → Kept w → next w 0 ≡ Does (Search p spot to got) → IsWatched w → IsWatched (after w 0 (Search p spot to got))
unfolding after
search_watched w p spot to None kept e watched q t at =
    let i : IsTurn w 0 p spot to None = has_reason w 0 (Search p spot to None) e in
    let before : IsTurnOf w q t = record { known = at.known; among = at.among; bare = at.bare } in
    elim (turned_served w p spot to None i q t (doing_there w 0 (Search p spot to None) e) watched before) [
      | inl is ↦ inl (none_past w.setup w.live q t (subst (λ (u : Turn). winner_at w.setup w.live q u.place u.at.spot ≡ None) is.1
          (subst (λ (n : ℕ). winner_at w.setup w.live n i.turn.place i.turn.at.spot ≡ None) is.0 (none_brought w.setup w.live p i.turn.place i.turn.at.spot i.came))))
      | inr served ↦ served
    ]
search_watched w p spot to (Some a) kept e watched r x here =
    let i : IsTurn w 0 p spot to (Some a) = has_reason w 0 (Search p spot to (Some a)) e in
    let lt : 0 < length w.callers = doing_there w 0 (Search p spot to (Some a)) e in
    let u : World = with_stack w 0 (moved_top to (caller_at w 0).stack) in
    let there : 0 < length u.callers = rw (callers_kept w 0 _) lt in
    come_watched u _ a (attached_comes u 0 a true) (attached_adds u a true there) (fresh w kept)
    (λ q t at other.
    let before : IsTurnOf w q t = record { known = at.known; among = at.among; bare = at.bare } in
    elim (turned_served w p spot to (Some a) i q t lt watched before) [
      | inl is ↦ absurd (other (ap (λ (u : Turn). u.at.spot) (sym is.1) ∙ sym (brings w.setup w.live p i.turn.place i.turn.at.spot a i.came).at))
      | inr served ↦ served
    ]) r x here

-- ---- the end of a scan, and interrupts

-- the scan that is over is past each of its turns
pub left : (w : World) (p : ℕ) (i : IsScanEnd w 0 p) (q : ℕ) (t : Turn) → IsTurnOf w q t → MayBeDue w q t ≡ true → IsToCome w q t → AnyIn (Covers q t) (under_top (caller_at w 0).stack) ⊎ AnyIn (λ (e : Deferred). e.child ≡ q) w.deferred
left w p i q t at may (inr entry) = inr entry
left w p i q t at may (inl frame) = inl (rw i.stack (rest (rw i.stack at frame)))
  where
    rest : Covers q t (Scan p i.only i.wanted i.from) ⊎ AnyIn (Covers q t) i.rest → AnyIn (Covers q t) i.rest
    rest (inr more) = more
    rest (inl (same, whole, all, ahead)) = absurd (none_ahead w q t i.from at may ahead (rw (same, whole, all) at i.none_due))

pub end_watched : (w : World) (p : ℕ) → next w 0 ≡ Does (EndScan p) → IsWatched w → IsWatched (after w 0 (EndScan p))
unfolding after released
end_watched w p e watched q t at =
    let i : IsScanEnd w 0 p = has_reason w 0 (EndScan p) e in
    let lt : 0 < length w.callers = doing_there w 0 (EndScan p) e in
    let before : IsTurnOf w q t = record { known = at.known; among = at.among; bare = at.bare } in
    over i lt before (MayBeDue w q t) refl (watched q t before)
  where
    over : IsScanEnd w 0 p → 0 < length w.callers → IsTurnOf w q t → (b : Bool) → MayBeDue w q t ≡ b → IsServed w q t → IsServed (released w 0 (key.Parent p) (under_top (caller_at w 0).stack)) q t
    over i lt before false out served = inl (not_due w q t out)
    over i lt before true may (inl past) = inl past
    over i lt before true may (inr waits) = inr (released_to_come w (key.Parent p) (under_top (caller_at w 0).stack) q t lt (left w p i q t before may waits))

pub phase_watched : (w : World) → next w 0 ≡ Does BeginInterrupts → IsWatched w → IsWatched (after w 0 BeginInterrupts)
unfolding after released
phase_watched w e watched q t at =
    let lt : 0 < length w.callers = doing_there w 0 BeginInterrupts e in
    let before : IsTurnOf w q t = record { known = at.known; among = at.among; bare = at.bare } in
    elim (watched q t before) [
      | inl none ↦ inl none
      | inr waits ↦ inr (released_to_come (record w { interrupts_on = true }) key.Interrupts (caller_at w 0).stack q t lt waits)
    ]
