-- What each deed of a script's caller tells, and how far the caller is behind it.
use Rattle.std.proofs.Common.{◌≡◌, ◌<◌, ◌⊎◌, ℕ, ◌+◌, ◌==◌, not, Bool, true, false, List, [], ◌∷◌, length, Some, None, refl, sym, ap, ◌∙◌, inl, inr, arith, slice_index_or}
use Rattle.std.specs.Prelude.{if◌then◌else◌, filter}
use Rattle.cf_types.specs.declared.machine.Command.{Command}
use Rattle.run_rules.specs.declared.event.Reply.{Reply}
use Rattle.run_rules.specs.declared.event.Reply.TheVariants as reply
use Rattle.run_rules.specs.declared.world.Activity.{Activity}
use Rattle.run_rules.specs.declared.world.Activity.TheVariants as activity
use Rattle.run_rules.specs.declared.world.Frame.{Frame}
use Rattle.run_rules.specs.declared.deed.Deed.{Deed}
use Rattle.run_rules.specs.declared.deed.Deed.TheVariants.{Search, EndScan, BeginInterrupts, Finalise, EndCaller, Drop, Refuse, Open, Close, Start, Done, Detach, Free, Rescan, BeginPower, Sleep, Wake, EndPower, Plug, Unplug, Tell}
use Rattle.run_rules.specs.declared.deed.Choice.TheVariants.{Does}
use Rattle.run_rules.specs.Counts.{is_end}
use Rattle.run_rules.specs.World.{World, Caller, caller_at, has_ended, is_ended, nobody}
use Rattle.run_rules.specs.Next.{command_of, next}
use Rattle.run_rules.specs.After.{after, condemned, doing, freed, freeing_target, over, pushed, referred, rescan_frame, settled, unreferred, with_caller}
use Rattle.run_rules.specs.Run.{answered, printed, reply_of, told}
use Rattle.run_sound.proofs.Commands.{Begins, EndsPower}
use Rattle.run_sound.specs.Kept.{Kept}
use Rattle.run_sound.proofs.Callers.{caller_here, callers_kept, doing_so, doing_there}
use Rattle.run_sound.proofs.OwnCaller.{own_finalised, own_interrupts, own_scan_over, own_searched}
use Rattle.run_sound.proofs.Reasons.{has_command_reason}
use Rattle.run_sound.proofs.ScriptLaws.{between_idle}
use Rattle.run_sound.proofs.Scripts.{is_amid}
use Rattle.history_laws.proofs.Acts.{answered_is}
use Rattle.script_laws.specs.Begun.{begun_by, begun_of}
use Rattle.script_laws.specs.Whole.{is_answer}

-- behind a deed the caller goes on, and has begun so many commands more
pub record GoesOn (w v : World) (k n : ℕ) : Type 0 where
  pub begun : begun_of (caller_at v k) ≡ begun_of (caller_at w k) + n
  pub goes : has_ended v k ≡ false

-- a deed answers the caller's next command
pub record AnswersNext (w : World) (k : ℕ) (d : Deed) : Type 0 where
  pub idle : (caller_at w k).doing ≡ activity.Idle
  pub said : Command
  pub command : command_of w k ≡ Some said
  pub reply : Reply
  pub line : printed w k d ≡ told w said reply
  pub on : GoesOn w (after w k d) k 1

-- it answers none, and is no end
pub record AnswersNone (w : World) (k : ℕ) (d : Deed) : Type 0 where
  pub line : is_answer (printed w k d) ≡ false
  pub goes : is_end (printed w k d) ≡ false
  pub on : GoesOn w (after w k d) k 0

-- ---- how far the caller is

-- a command begins
begins_one : (w u : World) (k : ℕ) (c : Caller) → k < length u.callers → (caller_at w k).doing ≡ activity.Idle → begun_of c ≡ (caller_at w k).over + 1 → is_ended c.doing ≡ false
    → GoesOn w (with_caller u k c) k 1
begins_one w u k c lt idle one goes = record {
  begun = ap begun_of (caller_here u k c lt) ∙ one ∙ sym (ap (λ (a : Activity). begun_by (caller_at w k).over a + 1) idle);
  goes = ap (λ (x : Caller). is_ended x.doing) (caller_here u k c lt) ∙ goes;
}

-- the scan of a rescan is before its caller
rescan_one : (w : World) (k : ℕ) (f : Frame) → k < length w.callers → (caller_at w k).doing ≡ activity.Idle → GoesOn w (pushed (doing w k activity.Scans) k f) k 1
rescan_one w k f lt idle =
    let c : Caller = record { over = (caller_at w k).over; doing = activity.Scans; stack = (caller_at w k).stack } in
    let u : World = with_caller w k c in
    let there : k < length u.callers = rw (callers_kept w k c) lt in
    let is : caller_at (pushed u k f) k ≡ record { over = (caller_at w k).over; doing = activity.Scans; stack = f ∷ (caller_at w k).stack } =
    caller_here u k (settled (record { over = (caller_at u k).over; doing = (caller_at u k).doing; stack = f ∷ (caller_at u k).stack })) there
    ∙ ap (λ (x : Caller). settled (record { over = x.over; doing = x.doing; stack = f ∷ x.stack })) (caller_here w k c lt) in
    record {
      begun = ap begun_of is ∙ sym (ap (λ (a : Activity). begun_by (caller_at w k).over a + 1) idle);
      goes = ap (λ (x : Caller). is_ended x.doing) is;
    }

no_more : (n : ℕ) → n ≡ n + 0
no_more n = omega arith

pub amid_begun : (over : ℕ) (a : Activity) → is_amid a ≡ true → begun_by over a ≡ over + 1
amid_begun over activity.Idle h = absurd cc
amid_begun over activity.Ended h = absurd cc
amid_begun over (activity.Transfer t) h = refl
amid_begun over (activity.Frees s) h = refl
amid_begun over activity.Scans h = refl
amid_begun over (activity.Power kind s) h = refl

-- the command that the caller is in the middle of is over
ends_one : (w u : World) (k : ℕ) (c : Caller) → k < length u.callers → is_amid (caller_at w k).doing ≡ true → begun_of c ≡ (caller_at w k).over + 1 → is_ended c.doing ≡ false
    → GoesOn w (with_caller u k c) k 0
ends_one w u k c lt amid one goes = record {
  begun = ap begun_of (caller_here u k c lt) ∙ one ∙ sym (amid_begun (caller_at w k).over (caller_at w k).doing amid) ∙ no_more (begun_of (caller_at w k));
  goes = ap (λ (x : Caller). is_ended x.doing) (caller_here u k c lt) ∙ goes;
}

-- nothing changes for the caller
rests : (w v : World) (k : ℕ) → v.callers ≡ w.callers → has_ended w k ≡ false → GoesOn w v k 0
rests w v k same goes =
    let here : caller_at v k ≡ caller_at w k = ap (λ (cs : List Caller). slice_index_or cs k nobody) same in
    record { begun = ap begun_of here ∙ no_more (begun_of (caller_at w k)); goes = ap (λ (c : Caller). is_ended c.doing) here ∙ goes }

-- a frame changes
abbrev IsAt : ℕ → Caller → Type 0
IsAt n c = (begun_of c ≡ n) × (is_ended c.doing ≡ false)

settles : (n over : ℕ) (a : Activity) (stack : List Frame) → begun_by over a ≡ n → is_ended a ≡ false → IsAt n (settled (record { over = over; doing = a; stack = stack }))
settles n over activity.Idle stack b e = (b, e)
settles n over activity.Ended stack b e = (b, e)
settles n over (activity.Transfer t) stack b e = (b, e)
settles n over (activity.Frees s) stack b e = (b, e)
settles n over activity.Scans [] b e = (b, refl)
settles n over activity.Scans (f ∷ fs) b e = (b, e)
settles n over (activity.Power kind s) stack b e = (b, e)

stays_at : (n : ℕ) (c : Caller) (stack : List Frame) → IsAt n c → IsAt n (settled (record { over = c.over; doing = c.doing; stack = stack }))
stays_at n c stack h = settles n c.over c.doing stack h.0 h.1

now : (w : World) (k : ℕ) → has_ended w k ≡ false → IsAt (begun_of (caller_at w k) + 0) (caller_at w k)
now w k goes = (no_more (begun_of (caller_at w k)), goes)

stood : (w v : World) (k : ℕ) → IsAt (begun_of (caller_at w k) + 0) (caller_at v k) → GoesOn w v k 0
stood w v k h = record { begun = h.0; goes = h.1 }

-- ---- what is told

next_answered : (w : World) (k : ℕ) (d : Deed) (b : Begins w k d) (r : Reply) → Kept w → printed w k d ≡ answered w k r → GoesOn w (after w k d) k 1 → AnswersNext w k d
next_answered w k d b r kept line on = record {
  idle = between_idle w k kept b.between;
  said = b.said;
  command = b.command;
  reply = r;
  line = line ∙ answered_is w k r b.said b.command;
  on = on;
}

module _ (w : World) (k : ℕ) (kept : Kept w) where
  abbrev Kind : Deed → Type 0
  Kind d = AnswersNext w k d ⊎ (AnswersNone w k d ⊎ (d ≡ EndCaller))

  -- a command that is over at once
  at_once : (d : Deed) (u : World) → next w k ≡ Does d → (b : Begins w k d) → (r : Reply) → printed w k d ≡ answered w k r → u.callers ≡ w.callers → after w k d ≡ over u k → Kind d
  at_once d u e b r line same is =
      let here : caller_at u k ≡ caller_at w k = rw same refl in
      let there : k < length u.callers = rw same (doing_there w k d e) in
      let on : GoesOn w (over u k) k 1 = begins_one w u k _ there (between_idle w k kept b.between) (ap (λ (x : Caller). x.over + 1) here) refl in
      inl (next_answered w k d b r kept line (rw is on))

  -- one that takes longer
  takes_longer : (d : Deed) (u : World) (a : Activity) → next w k ≡ Does d → (b : Begins w k d) → printed w k d ≡ answered w k reply.Ok → u.callers ≡ w.callers → after w k d ≡ doing u k a
      → begun_by (caller_at w k).over a ≡ (caller_at w k).over + 1 → is_ended a ≡ false → Kind d
  takes_longer d u a e b line same is one goes =
      let here : caller_at u k ≡ caller_at w k = rw same refl in
      let there : k < length u.callers = rw same (doing_there w k d e) in
      let on : GoesOn w (doing u k a) k 1 = begins_one w u k _ there (between_idle w k kept b.between) (ap (λ (x : Caller). begun_by x.over a) here ∙ one) goes in
      inl (next_answered w k d b reply.Ok kept line (rw is on))

  -- one that is over now
  over_now : (d : Deed) (u : World) → next w k ≡ Does d → is_amid (caller_at w k).doing ≡ true → u.callers ≡ w.callers → GoesOn w (over u k) k 0
  over_now d u e amid same =
      let here : caller_at u k ≡ caller_at w k = rw same refl in
      let there : k < length u.callers = rw same (doing_there w k d e) in
      ends_one w u k _ there amid (ap (λ (x : Caller). x.over + 1) here) refl

  freed_one : (s : ℕ) (last : Bool) → next w k ≡ Does (Free s) → is_amid (caller_at w k).doing ≡ true → GoesOn w (if last then over (freed w s) k else freed w s) k 0
  freed_one s true e amid = over_now (Free s) (freed w s) e amid refl
  freed_one s false e amid = rests w (freed w s) k refl (doing_so w k (Free s) e).unended

  none : (d : Deed) → is_answer (printed w k d) ≡ false → is_end (printed w k d) ≡ false → GoesOn w (after w k d) k 0 → Kind d
  none d line goes on = inr (inl (record { line = line; goes = goes; on = on }))

  abbrev pulled : ℕ → World
  pulled x = record w { absent = x ∷ filter (λ y. not (y == x)) w.absent }

  pub kind_of : (d : Deed) → next w k ≡ Does d → Kind d
  unfolding printed after
  kind_of (Search p spot to got) e =
      none (Search p spot to got) refl refl (stood w _ k (own_searched (IsAt _) (stays_at _) w k p spot to got (now w k (doing_so w k (Search p spot to got) e).unended)))
  kind_of (EndScan p) e = none (EndScan p) refl refl (stood w _ k (own_scan_over (IsAt _) (stays_at _) w k p (now w k (doing_so w k (EndScan p) e).unended)))
  kind_of BeginInterrupts e = none BeginInterrupts refl refl (stood w _ k (own_interrupts (IsAt _) (stays_at _) w k (now w k (doing_so w k BeginInterrupts e).unended)))
  kind_of (Finalise s spot got place anew) e =
      none (Finalise s spot got place anew) refl refl
      (stood w _ k (own_finalised (IsAt _) (stays_at _) w k s spot got place anew (now w k (doing_so w k (Finalise s spot got place anew) e).unended)))
  kind_of EndCaller e = inr (inr refl)
  kind_of (Drop s) e = none (Drop s) refl refl (rests w _ k refl (doing_so w k (Drop s) e).unended)
  kind_of (Refuse why) e = at_once (Refuse why) w e (has_command_reason w k (Refuse why) e) (reply_of w why) refl refl refl
  kind_of (Open s sole) e = at_once (Open s sole) (referred w k s sole) e (has_command_reason w k (Open s sole) e).begins reply.Ok refl refl refl
  kind_of (Close s) e = at_once (Close s) (unreferred w k s) e (has_command_reason w k (Close s) e).begins reply.Ok refl refl refl
  kind_of (Start t) e = takes_longer (Start t) w (activity.Transfer t) e (has_command_reason w k (Start t) e).begins refl refl refl refl refl
  kind_of (Done t) e = none (Done t) refl refl (over_now (Done t) w e (ap is_amid (has_command_reason w k (Done t) e)) refl)
  kind_of (Detach s) e = takes_longer (Detach s) (condemned w k s) (activity.Frees s) e (has_command_reason w k (Detach s) e).begins refl refl refl refl refl
  kind_of (Free s) e = none (Free s) refl refl (freed_one s (freeing_target (caller_at w k).doing s) e (ap is_amid (has_command_reason w k (Free s) e).amid))
  kind_of (Rescan s only) e =
      let b = (has_command_reason w k (Rescan s only) e).begins in
      inl (next_answered w k (Rescan s only) b reply.Ok kept refl (rescan_one w k (rescan_frame w k s only) (doing_there w k (Rescan s only) e) (between_idle w k kept b.between)))
  kind_of (BeginPower kind s) e =
      takes_longer (BeginPower kind s) (record w { power_owner = Some k }) (activity.Power kind s) e (has_command_reason w k (BeginPower kind s) e).begins refl refl refl refl refl
  kind_of (Sleep s) e = none (Sleep s) refl refl (rests w _ k refl (doing_so w k (Sleep s) e).unended)
  kind_of (Wake s) e = none (Wake s) refl refl (rests w _ k refl (doing_so w k (Wake s) e).unended)
  kind_of (EndPower end) e =
      let why : EndsPower w k end = has_command_reason w k (EndPower end) e in
      none (EndPower end) refl refl (over_now (EndPower end) (record w { power_owner = None }) e (ap is_amid why.amid) refl)
  kind_of (Plug x) e = at_once (Plug x) (record w { absent = filter (λ y. not (y == x)) w.absent }) e (has_command_reason w k (Plug x) e).begins reply.Ok refl refl refl
  kind_of (Unplug x None) e = at_once (Unplug x None) (pulled x) e (has_command_reason w k (Unplug x None) e).begins reply.Ok refl refl refl
  kind_of (Unplug x (Some s)) e = takes_longer (Unplug x (Some s)) (condemned (pulled x) k s) (activity.Frees s) e (has_command_reason w k (Unplug x (Some s)) e).begins refl refl refl refl refl
  kind_of Tell e = at_once Tell w e (has_command_reason w k Tell e).begins reply.Ok refl refl refl
