-- What the deeds of commands change of what is left: who begins one adds so much at most, and all others lower it.
use Rattle.std.proofs.Common.{◌≡◌, ◌<◌, ◌≤◌, ℕ, ◌+◌, ◌*◌, ◌-◌, ◌==◌, ◌||◌, not, Bool, true, false, List, [], ◌∷◌, map, length, sum_by, Option, Some, None, refl, ap, ◌∙◌, arith, length-append}
use Rattle.std.specs.Prelude.{filter, if◌then◌else◌}
use Rattle.std.specs.List.{list_any}
use Rattle.std.proofs.lemmas.List.{length-map}
use Rattle.std.proofs.lemmas.List.Sums.{count_by-le-length}
use Rattle.run_rules.specs.declared.event.PowerKind.{PowerKind}
use Rattle.run_rules.specs.declared.event.PowerKind.TheVariants as kind
use Rattle.run_rules.specs.declared.world.Dev.{Dev}
use Rattle.run_rules.specs.declared.world.Frame.{Frame}
use Rattle.run_rules.specs.declared.world.Ref.{Ref}
use Rattle.run_rules.specs.declared.world.Activity.{Activity}
use Rattle.run_rules.specs.declared.world.Activity.TheVariants as activity
use Rattle.run_rules.specs.World.{World, Caller, caller_at, is_condemned, is_under}
use Rattle.run_rules.specs.Sound.{Sound, is_powering}
use Rattle.run_rules.specs.References.{is_of, without_first}
use Rattle.run_rules.specs.After.{after, pushed, referred, rescan_frame, settled, unreferred, with_caller, with_condemner}
use Rattle.run_rules.specs.Next.{next}
use Rattle.run_rules.specs.declared.deed.Deed.TheVariants.{Drop, Refuse, Open, Close, Start, Done, Detach, Rescan, BeginPower, EndPower, Plug, Unplug, Tell, EndCaller}
use Rattle.run_rules.specs.declared.deed.CommandRefusal.{CommandRefusal}
use Rattle.cf_types.specs.declared.machine.Ticket.{Ticket}
use Rattle.run_rules.specs.declared.deed.Choice.TheVariants.{Does}
use Rattle.run_sound.proofs.Commands.{IsBetween}
use Rattle.run_sound.specs.Kept.{Kept}
use Rattle.run_sound.specs.Left.{free_spots, scan_left, spot_worth, whole_scan}
use Rattle.run_sound.specs.Scripts.{script_of}
use Rattle.run_sound.proofs.Callers.{caller_here, caller_there, callers_kept, doing_there}
use Rattle.run_sound.proofs.Reasons.{has_command_reason, is_quiet, quiet_end}
use Rattle.run_rules.specs.declared.deed.PowerEnd.{PowerEnd}
use Rattle.run_sound.proofs.RangesCallers.{others_stay}
use Rattle.run_sound.proofs.RangesDeeds.{condemner_keeps}
use Rattle.run_sound.proofs.Scripts.{is_amid}
use Rattle.run_sound.proofs.ScriptLaws.{amid_within, between_idle}
use Rattle.run_sound.proofs.Spots.{free_map}
use Rattle.progress_laws.specs.Ahead.{asleep_in, awake_in, condemned_in, frames_of, free_worth, power_left, turn_left, unfinished}
use Rattle.run_sound.proofs.Falls.{frames_cons, product_le}
use Rattle.progress_laws.proofs.Own.{own}
use Rattle.progress_laws.proofs.Turns.{Stirs, count_map, turn_stirs}

-- ---- one caller is set

-- the devices, references and absent spots of a world are these
abbrev with_board : World → List Dev → List Ref → List ℕ → List ℕ → World
with_board w live refs sole absent = record w { live = live; refs = refs; sole = sole; absent = absent }

-- its caller has this of its own, and the power turn no more left
record Sets (n : ℕ) (w v : World) (k : ℕ) (c : Caller) : Type 0 where
  frames : frames_of n v k ≡ sum_by (scan_left n) c.stack
  turn : turn_left v ≤ turn_left w
  unfinished : unfinished v k ≡ length (script_of w.setup k) - c.over

sets : (n : ℕ) (w : World) (k : ℕ) (live : List Dev) (refs : List Ref) (sole absent : List ℕ) (c : Caller) → Sound w → k < length w.callers → is_powering (caller_at w k).doing ≡ false
    → Stirs 0 w (with_board w live refs sole absent) → Sets n w (with_caller (with_board w live refs sole absent) k c) k c
sets n w k live refs sole absent c sound lt calm stirs =
    let u : World = with_board w live refs sole absent in
    let v : World = with_caller u k c in
    let s : Stirs 0 w v = record { asleep = stirs.asleep; awake = stirs.awake } in
    let turn : turn_left v ≤ turn_left w + 0 = turn_stirs 0 w v k sound calm refl (λ j other. caller_there u k j c other) s in
    record {
      frames = ap (λ (x : Caller). sum_by (scan_left n) x.stack) (caller_here u k c lt);
      turn = omega (arith, turn);
      unfinished = ap (λ (x : Caller). length (script_of w.setup k) - x.over) (caller_here u k c lt);
    }

-- the same devices: what is left grows as the references do
set_rises : (n : ℕ) (w : World) (k z : ℕ) (refs : List Ref) (sole absent : List ℕ) (c : Caller) → Sound w → k < length w.callers → is_powering (caller_at w k).doing ≡ false
    → c.stack ≡ (caller_at w k).stack → (caller_at w k).over ≤ c.over → length refs ≤ length w.refs + z → own n (with_caller (with_board w w.live refs sole absent) k c) k ≤ own n w k + z
set_rises n w k z refs sole absent c sound lt calm stack past few =
    let s = sets n w k w.live refs sole absent c sound lt calm (record { asleep = omega arith; awake = omega arith }) in
    let frames : sum_by (scan_left n) c.stack ≡ frames_of n w k = ap (sum_by (scan_left n)) stack in
    omega (arith, s.frames, frames, s.turn, s.unfinished, past, few)

-- and where a command is over, it is less
set_lowers : (n : ℕ) (w : World) (k : ℕ) (refs : List Ref) (sole absent : List ℕ) (c : Caller) → Sound w → k < length w.callers → is_powering (caller_at w k).doing ≡ false
    → c.stack ≡ (caller_at w k).stack → (caller_at w k).over < c.over → (caller_at w k).over < length (script_of w.setup k) → length refs ≤ length w.refs → own n (with_caller (with_board w w.live refs sole absent) k c) k < own n w k
set_lowers n w k refs sole absent c sound lt calm stack past within few =
    let s = sets n w k w.live refs sole absent c sound lt calm (record { asleep = omega arith; awake = omega arith }) in
    let frames : sum_by (scan_left n) c.stack ≡ frames_of n w k = ap (sum_by (scan_left n)) stack in
    omega (arith, s.frames, frames, s.turn, s.unfinished, past, few, within)

-- ---- references

fewer_refs : (p : Ref → Bool) (refs : List Ref) → length (without_first p refs) ≤ length refs
fewer_refs p [] = omega arith
fewer_refs p (r ∷ rs) = cases (p r) (fewer_refs p rs)
  where
    cases : (b : Bool) → length (without_first p rs) ≤ length rs → length (if b then rs else r ∷ without_first p rs) ≤ length (r ∷ rs)
    cases true le = omega arith
    cases false le = omega (arith, le)

refs_fall : (p : Ref → Bool) (refs : List Ref) → list_any p refs ≡ true → length (without_first p refs) < length refs
refs_fall p [] h = absurd cc
refs_fall p (r ∷ rs) h = cases (p r) (λ k. refs_fall p rs k) h
  where
    cases : (b : Bool) → (list_any p rs ≡ true → length (without_first p rs) < length rs) → (b || list_any p rs) ≡ true → length (if b then rs else r ∷ without_first p rs) < length (r ∷ rs)
    cases true rest k = omega arith
    cases false rest k = omega (arith, rest k)

-- ---- a command begins

begins_calm : (w : World) (k : ℕ) → Kept w → IsBetween w k → is_powering (caller_at w k).doing ≡ false
begins_calm w k kept between = ap is_powering (between_idle w k kept between)

pub refuse_rises : (n : ℕ) (w : World) (k : ℕ) (why : CommandRefusal) → Kept w → next w k ≡ Does (Refuse why) → own n (after w k (Refuse why)) k ≤ own n w k + 0
unfolding after
refuse_rises n w k why kept e =
    set_rises n w k 0 w.refs w.sole w.absent _ kept.sound (doing_there w k (Refuse why) e) (begins_calm w k kept (has_command_reason w k (Refuse why) e).between) refl (omega arith) (omega arith)

pub tell_rises : (n : ℕ) (w : World) (k : ℕ) → Kept w → next w k ≡ Does Tell → own n (after w k Tell) k ≤ own n w k + 0
unfolding after
tell_rises n w k kept e =
    set_rises n w k 0 w.refs w.sole w.absent _ kept.sound (doing_there w k Tell e) (begins_calm w k kept (has_command_reason w k Tell e).begins.between) refl (omega arith) (omega arith)

pub plug_rises : (n : ℕ) (w : World) (k x : ℕ) → Kept w → next w k ≡ Does (Plug x) → own n (after w k (Plug x)) k ≤ own n w k + 0
unfolding after
plug_rises n w k x kept e =
    set_rises n w k 0 w.refs w.sole (filter (λ y. not (y == x)) w.absent) _ kept.sound (doing_there w k (Plug x) e) (begins_calm w k kept (has_command_reason w k (Plug x) e).begins.between) refl (omega arith) (omega arith)

pub pull_rises : (n : ℕ) (w : World) (k x : ℕ) → Kept w → next w k ≡ Does (Unplug x None) → own n (after w k (Unplug x None)) k ≤ own n w k + 0
unfolding after
pull_rises n w k x kept e =
    set_rises n w k 0 w.refs w.sole (x ∷ filter (λ y. not (y == x)) w.absent) _ kept.sound (doing_there w k (Unplug x None) e) (begins_calm w k kept (has_command_reason w k (Unplug x None) e).begins.between) refl
    (omega arith) (omega arith)

pub open_rises : (n : ℕ) (w : World) (k s : ℕ) (sole : Bool) → Kept w → next w k ≡ Does (Open s sole) → own n (after w k (Open s sole)) k ≤ own n w k + 1
unfolding after
open_rises n w k s sole kept e =
    set_rises n w k 1 (referred w k s sole).refs (referred w k s sole).sole w.absent _ kept.sound (doing_there w k (Open s sole) e) (begins_calm w k kept (has_command_reason w k (Open s sole) e).begins.between) refl
    (omega arith) (omega (arith, length-append w.refs (record { serial = s; caller = k } ∷ [])))

pub close_rises : (n : ℕ) (w : World) (k s : ℕ) → Kept w → next w k ≡ Does (Close s) → own n (after w k (Close s)) k ≤ own n w k + 0
unfolding after
close_rises n w k s kept e =
    set_rises n w k 0 (unreferred w k s).refs (unreferred w k s).sole w.absent _ kept.sound (doing_there w k (Close s) e) (begins_calm w k kept (has_command_reason w k (Close s) e).begins.between) refl
    (omega arith) (omega (arith, fewer_refs (is_of k s) w.refs))

pub start_rises : (n : ℕ) (w : World) (k : ℕ) (t : Ticket) → Kept w → next w k ≡ Does (Start t) → own n (after w k (Start t)) k ≤ own n w k + 0
unfolding after
start_rises n w k t kept e =
    set_rises n w k 0 w.refs w.sole w.absent _ kept.sound (doing_there w k (Start t) e) (begins_calm w k kept (has_command_reason w k (Start t) e).begins.between) refl (omega arith) (omega arith)

quiet_calm : (a : Activity) → is_quiet a ≡ true → is_powering a ≡ false
quiet_calm activity.Idle h = refl
quiet_calm activity.Ended h = refl
quiet_calm activity.Scans h = refl
quiet_calm (activity.Transfer t) h = refl
quiet_calm (activity.Frees s) h = refl
quiet_calm (activity.Power kind s) h = absurd cc

pub ended_rises : (n : ℕ) (w : World) (k : ℕ) → Kept w → next w k ≡ Does EndCaller → own n (after w k EndCaller) k ≤ own n w k + 0
unfolding after
ended_rises n w k kept e =
    set_rises n w k 0 w.refs w.sole w.absent _ kept.sound (doing_there w k EndCaller e) (quiet_calm (caller_at w k).doing (quiet_end w k e)) refl (omega arith) (omega arith)

-- ---- a transfer is over, and a reference is returned

pub done_lowers : (n : ℕ) (w : World) (k : ℕ) (t : Ticket) → Kept w → next w k ≡ Does (Done t) → own n (after w k (Done t)) k < own n w k
unfolding after
done_lowers n w k t kept e =
    let amid = has_command_reason w k (Done t) e in
    set_lowers n w k w.refs w.sole w.absent _ kept.sound (doing_there w k (Done t) e) (ap is_powering amid) refl (omega arith) (amid_within w k kept (ap is_amid amid)) (omega arith)

pub drop_lowers : (n : ℕ) (w : World) (k s : ℕ) → Kept w → next w k ≡ Does (Drop s) → own n (after w k (Drop s)) k < own n w k
unfolding after
drop_lowers n w k s kept e =
    let why = has_command_reason w k (Drop s) e in
    omega (arith, refs_fall (is_of k s) w.refs why.held)

-- ---- devices are condemned

pub few_live : (w : World) → Kept w → length w.live ≤ length w.setup.machine.spots
few_live w kept = omega (arith, kept.ranges.devices.few)

abbrev marked_live : World → ℕ → ℕ → List Dev
marked_live w k s = map (with_condemner w.live k s) w.live

condemned_asleep : (live : List Dev) (k s : ℕ) (d : Dev) → (with_condemner live k s d).asleep ≡ d.asleep
condemned_asleep live k s d = at (is_under live s d.serial)
  where
    at : (b : Bool) → (if b then record d { condemned = Some k } else d).asleep ≡ d.asleep
    at true = refl
    at false = refl

condemned_rises : (w : World) (k s : ℕ) (absent : List ℕ) (c : Caller) → Kept w → k < length w.callers → is_powering (caller_at w k).doing ≡ false
    → c.stack ≡ (caller_at w k).stack → (caller_at w k).over ≤ c.over
    → own (length w.setup.machine.spots) (with_caller (with_board w (marked_live w k s) w.refs w.sole absent) k c) k ≤ own (length w.setup.machine.spots) w k + free_worth (length w.setup.machine.spots) * length w.setup.machine.spots
condemned_rises w k s absent c kept lt calm stack past =
    let n : ℕ = length w.setup.machine.spots in
    let sleepers : asleep_in (marked_live w k s) ≡ asleep_in w.live = count_map (λ d. d.asleep) (with_condemner w.live k s) w.live (condemned_asleep w.live k s) in
    let wakers : awake_in (marked_live w k s) ≡ awake_in w.live = count_map (λ d. not d.asleep) (with_condemner w.live k s) w.live (λ d. ap not (condemned_asleep w.live k s d)) in
    let set = sets n w k (marked_live w k s) w.refs w.sole absent c kept.sound lt calm (record { asleep = omega (arith, sleepers); awake = omega (arith, wakers) }) in
    let frames : sum_by (scan_left n) c.stack ≡ frames_of n w k = ap (sum_by (scan_left n)) stack in
    let free : spot_worth n * free_spots (marked_live w k s) n ≡ spot_worth n * free_spots w.live n = ap (λ (m : ℕ). spot_worth n * m) (free_map (with_condemner w.live k s) w.live n (condemner_keeps w.live k s).spot) in
    let many : condemned_in (marked_live w k s) ≤ n = omega (arith, count_by-le-length is_condemned (marked_live w k s), length-map w.live (with_condemner w.live k s), few_live w kept) in
    omega (arith, set.frames, frames, set.turn, set.unfinished, past, free, product_le (free_worth n) (condemned_in (marked_live w k s)) n many)

pub detach_rises : (w : World) (k s : ℕ) → Kept w → next w k ≡ Does (Detach s)
    → own (length w.setup.machine.spots) (after w k (Detach s)) k ≤ own (length w.setup.machine.spots) w k + free_worth (length w.setup.machine.spots) * length w.setup.machine.spots
unfolding after
detach_rises w k s kept e =
    condemned_rises w k s w.absent _ kept (doing_there w k (Detach s) e) (begins_calm w k kept (has_command_reason w k (Detach s) e).begins.between) refl (omega arith)

pub unplug_rises : (w : World) (k x s : ℕ) → Kept w → next w k ≡ Does (Unplug x (Some s))
    → own (length w.setup.machine.spots) (after w k (Unplug x (Some s))) k ≤ own (length w.setup.machine.spots) w k + free_worth (length w.setup.machine.spots) * length w.setup.machine.spots
unfolding after
unplug_rises w k x s kept e =
    condemned_rises w k s (x ∷ filter (λ y. not (y == x)) w.absent) _ kept (doing_there w k (Unplug x (Some s)) e) (begins_calm w k kept (has_command_reason w k (Unplug x (Some s)) e).begins.between) refl (omega arith)

-- ---- a device is searched again

pub rescan_rises : (n : ℕ) (w : World) (k s : ℕ) (only : Option ℕ) → Kept w → next w k ≡ Does (Rescan s only) → own n (after w k (Rescan s only)) k ≤ own n w k + 2 * whole_scan n
unfolding after
rescan_rises n w k s only kept e =
    let lt = doing_there w k (Rescan s only) e in
    let f : Frame = rescan_frame w k s only in
    let c : Caller = record { over = (caller_at w k).over; doing = activity.Scans; stack = (caller_at w k).stack } in
    let u : World = with_caller w k c in
    let v : World = pushed u k f in
    let there : k < length u.callers = omega (arith, lt, callers_kept w k c) in
    let is : caller_at v k ≡ record { over = (caller_at w k).over; doing = activity.Scans; stack = f ∷ (caller_at w k).stack } =
    caller_here u k (settled (record { over = (caller_at u k).over; doing = (caller_at u k).doing; stack = f ∷ (caller_at u k).stack })) there
    ∙ ap (λ (x : Caller). settled (record { over = x.over; doing = x.doing; stack = f ∷ x.stack })) (caller_here w k c lt) in
    let frames : frames_of n v k ≡ sum_by (scan_left n) (f ∷ (caller_at w k).stack) = ap (λ (x : Caller). sum_by (scan_left n) x.stack) is in
    let unfinished_still : unfinished v k ≡ unfinished w k = ap (λ (x : Caller). length (script_of w.setup k) - x.over) is in
    let turn : turn_left v ≤ turn_left w + 0 = turn_stirs 0 w v k kept.sound (begins_calm w k kept (has_command_reason w k (Rescan s only) e).begins.between) refl (λ j other. others_stay w k j (Rescan s only) other)
    (record { asleep = omega arith; awake = omega arith }) in
    omega (arith, frames, frames_cons n f (caller_at w k).stack, unfinished_still, turn)

-- ---- power

power_most : (live : List Dev) (kind : PowerKind) (s : ℕ) → power_left live (activity.Power kind s) ≤ length live
power_most live kind.Suspend s = count_by-le-length (λ (d : Dev). not d.asleep) live
power_most live kind.Resume s = count_by-le-length (λ (d : Dev). d.asleep) live
power_most live kind.ResumeTree s = count_by-le-length (λ (d : Dev). d.asleep) live

pub power_rises : (w : World) (k : ℕ) (kind : PowerKind) (s : ℕ) → Kept w → next w k ≡ Does (BeginPower kind s)
    → own (length w.setup.machine.spots) (after w k (BeginPower kind s)) k ≤ own (length w.setup.machine.spots) w k + length w.setup.machine.spots
unfolding after
power_rises w k kind s kept e =
    let n : ℕ = length w.setup.machine.spots in
    let c : Caller = record { over = (caller_at w k).over; doing = activity.Power kind s; stack = (caller_at w k).stack } in
    let u : World = record w { power_owner = Some k } in
    let v : World = with_caller u k c in
    let is : caller_at v k ≡ c = caller_here u k c (doing_there w k (BeginPower kind s) e) in
    let turn : turn_left v ≡ power_left w.live (activity.Power kind s) = ap (λ (x : Caller). power_left w.live x.doing) is in
    let frames : frames_of n v k ≡ frames_of n w k = ap (λ (x : Caller). sum_by (scan_left n) x.stack) is in
    let unfinished_still : unfinished v k ≡ unfinished w k = ap (λ (x : Caller). length (script_of w.setup k) - x.over) is in
    omega (arith, turn, frames, unfinished_still, power_most w.live kind s, few_live w kept)

pub power_end_lowers : (n : ℕ) (w : World) (k : ℕ) (end : PowerEnd) → Kept w → next w k ≡ Does (EndPower end) → own n (after w k (EndPower end)) k < own n w k
unfolding after
power_end_lowers n w k end kept e =
    let amid = (has_command_reason w k (EndPower end) e).amid in
    let c : Caller = record { over = (caller_at w k).over + 1; doing = activity.Idle; stack = (caller_at w k).stack } in
    let u : World = record w { power_owner = None } in
    let v : World = with_caller u k c in
    let is : caller_at v k ≡ c = caller_here u k c (doing_there w k (EndPower end) e) in
    let frames : frames_of n v k ≡ frames_of n w k = ap (λ (x : Caller). sum_by (scan_left n) x.stack) is in
    let less : unfinished v k ≡ length (script_of w.setup k) - ((caller_at w k).over + 1) = ap (λ (x : Caller). length (script_of w.setup k) - x.over) is in
    omega (arith, frames, less, amid_within w k kept (ap is_amid amid))
