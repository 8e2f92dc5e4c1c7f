-- References and transfers: the world stays sound.
use Rattle.std.proofs.Common.{◌≡◌, ◌≢◌, ◌⊎◌, ℕ, ◌+◌, ◌==◌, true, false, ◌&&◌, List, [], ◌∷◌, ◌++◌, refl, sym, ◌∙◌, inl, inr, eqb-true, Bool}
use Rattle.std.proofs.lemmas.Bool.{ne_eqb, and_parts, not_from_false, or_left}
use Rattle.std.proofs.lemmas.List.Folds.{list_any-append}
use Rattle.std.specs.Prelude.{IsTrue}
use Rattle.cf_types.specs.declared.machine.Ticket.{Ticket}
use Rattle.run_rules.specs.declared.world.Frame.{Frame}
use Rattle.run_rules.specs.declared.world.Activity.{Activity}
use Rattle.run_rules.specs.declared.world.Activity.TheVariants as activity
use Rattle.run_rules.specs.declared.world.Ref.{Ref}
use Rattle.run_rules.specs.World.{World, is_live, is_number, caller_at}
use Rattle.run_rules.specs.declared.deed.Deed.TheVariants.{Drop, Open, Close, Start, Done}
use Rattle.run_rules.specs.declared.deed.Choice.TheVariants.{Does}
use Rattle.run_rules.specs.Next.{next}
use Rattle.run_rules.specs.After.{after, referred, unreferred}
use Rattle.run_rules.specs.References.{MayHold, given_back, is_of, shared_again, sole_with}
use Rattle.run_rules.proofs.References.{all_left, any_left, counted_granted, counted_returned}
use Rattle.run_rules.specs.Sound.{Sound}
use Rattle.run_sound.specs.Kept.{InRange, Kept}
use Rattle.run_rules.proofs.Devices.{all_snoc}
use Rattle.run_sound.proofs.Callers.{clash}
use Rattle.run_sound.proofs.Commands.{IsBetween}
use Rattle.run_sound.proofs.Reasons.{has_command_reason}
use Rattle.run_sound.proofs.Plain.{AreHeld, IsLater, sound_held, later_held, sound_caller, sound_over, between_later, between_frees, between_power, later_one, no_turn, agrees_idle}

-- ---- one is given back

-- another caller's reference is none of this one's
pub not_mine : (r : Ref) (s x k j : ℕ) → j ≢ k → is_of k s r ≡ true → is_of j x r ≡ false
not_mine r s x k j other h = let same : r.caller ≡ k = eqb-true r.caller k (and_parts (r.serial == s) (r.caller == k) h).1 in and_right_false (r.serial == x) (r.caller == j) (ne_eqb r.caller j (λ e. other (sym e ∙ same)))
  where
    and_right_false : (a b : Bool) → b ≡ false → (a && b) ≡ false
    and_right_false true b e = e
    and_right_false false b e = refl

returned : (w : World) (k s : ℕ) → Sound w → ((t : Ticket) → (caller_at w k).doing ≢ activity.Transfer t) → AreHeld w (given_back w.refs k s) (shared_again w.sole s)
returned w k s sound idle = record {
  sound = record { live_ones = all_left (λ r. IsTrue (is_live w.live r.serial)) (is_of k s) w.refs sound.refs.live_ones; counted = counted_returned w.refs w.sole k s sound.refs.counted };
  transfers = λ j t e. any_left (is_of k s) (is_of j t.serial) w.refs (λ r. not_mine r s t.serial k j (λ same. idle t (rw same at e))) ∙ (sound.callers j).transfer t e;
  ended = λ j e. all_left (λ r. r.caller ≢ j) (is_of k s) w.refs ((sound.callers j).ended e).1;
}

no_transfer : (a : Activity) (t : Ticket) → (a ≡ activity.Idle) ⊎ (a ≡ activity.Scans) → a ≢ activity.Transfer t
no_transfer a t (inl e) h = cc
no_transfer a t (inr e) h = cc

sound_unreferred : (w : World) (k s : ℕ) → Sound w → IsLater w k → IsBetween w k → Sound (unreferred w k s)
sound_unreferred w k s sound here at = sound_held w _ _ w.absent sound here.booted (returned w k s sound (λ t. no_transfer (caller_at w k).doing t at.idle))

pub sound_drop : (w : World) (k s : ℕ) → Sound w → next w k ≡ Does (Drop s) → Sound (after w k (Drop s))
unfolding after
sound_drop w k s sound chosen = let at = (has_command_reason w k (Drop s) chosen).between in sound_unreferred w k s sound (between_later w k (Drop s) chosen at) at

pub sound_close : (w : World) (k s : ℕ) → Sound w → next w k ≡ Does (Close s) → Sound (after w k (Close s))
unfolding after
sound_close w k s sound chosen =
    let at = (has_command_reason w k (Close s) chosen).begins.between in
    let here = between_later w k (Close s) chosen at in
    sound_over (unreferred w k s) k (sound_unreferred w k s sound here at) (later_held w k _ _ w.absent here) at.idle

-- ---- one is given

granted : (w : World) (k s : ℕ) (alone : Bool) → Sound w → is_live w.live s ≡ true → MayHold w.refs w.sole k s alone → (caller_at w k).doing ≢ activity.Ended
    → AreHeld w (w.refs ++ record { serial = s; caller = k } ∷ []) (sole_with w.sole s alone)
granted w k s alone sound live room runs =
    let one : Ref = record { serial = s; caller = k } in
    record {
      sound = record {
        live_ones = all_snoc (λ (r : Ref). IsTrue (is_live w.live r.serial)) w.refs one sound.refs.live_ones live;
        counted = counted_granted w.refs w.sole k s alone sound.refs.counted room;
      };
      transfers = λ j t e. list_any-append (λ r. r.serial == t.serial && r.caller == j) w.refs (one ∷ []) ∙ or_left _ _ ((sound.callers j).transfer t e);
      ended = λ j e. all_snoc (λ (r : Ref). r.caller ≢ j) w.refs one ((sound.callers j).ended e).1 (λ same. runs (rw same e));
    }

unended_between : (a : Activity) → (a ≡ activity.Idle) ⊎ (a ≡ activity.Scans) → a ≢ activity.Ended
unended_between a (inl e) h = cc
unended_between a (inr e) h = cc

pub sound_open : (w : World) (k s : ℕ) (sole : Bool) → Sound w → next w k ≡ Does (Open s sole) → Sound (after w k (Open s sole))
unfolding after
sound_open w k s sole sound chosen =
    let why = has_command_reason w k (Open s sole) chosen in
    let at = why.begins.between in
    let here = between_later w k (Open s sole) chosen at in
    sound_over (referred w k s sole) k
    (sound_held w _ _ w.absent sound here.booted (granted w k s sole sound why.named.live why.room (unended_between (caller_at w k).doing at.idle)))
    (later_held w k _ _ w.absent here) at.idle

-- ---- transfers

pub sound_start : (w : World) (k : ℕ) (t : Ticket) → Sound w → next w k ≡ Does (Start t) → Sound (after w k (Start t))
unfolding after
sound_start w k t sound chosen =
    let why = has_command_reason w k (Start t) chosen in
    let at = why.begins.between in
    sound_caller w k w.power_owner (record { over = (caller_at w k).over; doing = activity.Transfer t; stack = (caller_at w k).stack }) sound (between_later w k (Start t) chosen at)
    (record {
      no_frames = at.no_frames;
      own = (λ h. clash (is_number w.power_owner k) h (no_turn w k sound (between_power (caller_at w k).doing at.idle)), λ h. absurd cc);
      theirs = λ j other. refl;
      frees = λ s e. absurd (between_frees (caller_at w k).doing s at.idle e);
      transfer = λ u e. let same : t ≡ u = cc in rw (← same) why.held;
      unended = λ e. cc;
      target = λ s e. absurd cc;
    })

-- in the middle of anything but a scan there are no frames
pub amid_no_frames : (w : World) (k : ℕ) → Sound w → k ≢ 0 → (caller_at w k).doing ≢ activity.Scans → (caller_at w k).stack ≡ []
amid_no_frames w k sound later amid = empty (caller_at w k).stack (λ some. amid ((sound.callers k).frames (not_from_false (k == 0) (ne_eqb k 0 later)) some))
  where
    empty : (fs : List Frame) → ((fs ≢ []) → ⊥) → fs ≡ []
    empty [] h = refl
    empty (f ∷ fs) h = absurd (h (λ e. cc))

-- caller 0 is in the middle of nothing
pub amid_later : (w : World) (k : ℕ) → InRange w → (caller_at w k).doing ≢ activity.Idle → (caller_at w k).doing ≢ activity.Ended → k ≢ 0
amid_later w k ranges busy runs same = elim ranges.callers.booting [ inl e ↦ busy (rw same e) | inr e ↦ runs (rw same e) ]

pub sound_done : (w : World) (k : ℕ) (t : Ticket) → Kept w → next w k ≡ Does (Done t) → Sound (after w k (Done t))
unfolding after
sound_done w k t kept chosen =
    let sound = kept.sound in
    let amid : (caller_at w k).doing ≡ activity.Transfer t = has_command_reason w k (Done t) chosen in
    let later : k ≢ 0 = amid_later w k kept.ranges (λ e. cc) (λ e. cc) in
    let none : (caller_at w k).stack ≡ [] = amid_no_frames w k sound later (λ e. cc) in
    sound_caller w k w.power_owner (record { over = (caller_at w k).over + 1; doing = activity.Idle; stack = (caller_at w k).stack }) sound (later_one w k (Done t) chosen later none)
    (agrees_idle w k ((caller_at w k).over + 1) w.power_owner (caller_at w k).stack none (no_turn w k sound (rw amid refl)) (λ j other. refl) (λ s e. cc))
