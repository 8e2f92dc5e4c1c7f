-- What is ahead of a caller: a command that begins lowers it, and so does its end.
use Rattle.std.proofs.Common.{◌≡◌, ◌≢◌, ◌<◌, ◌≤◌, ◌⊎◌, inl, inr, ℕ, ◌+◌, ◌-◌, Bool, true, false, cond, length, refl, ap, ◌∙◌, arith}
use Rattle.run_rules.specs.declared.event.Reply.{Reply}
use Rattle.run_rules.specs.declared.world.Setup.{Setup}
use Rattle.run_rules.specs.declared.world.Activity.{Activity}
use Rattle.run_rules.specs.declared.world.Activity.TheVariants as activity
use Rattle.run_rules.specs.World.{World, Caller, caller_at, has_ended, is_ended}
use Rattle.run_rules.specs.After.{after}
use Rattle.run_rules.specs.Next.{next}
use Rattle.run_rules.specs.Run.{answered, printed}
use Rattle.run_rules.specs.declared.deed.Deed.{Deed}
use Rattle.run_rules.specs.declared.deed.Deed.TheVariants.{EndCaller}
use Rattle.run_rules.specs.declared.deed.Choice.TheVariants.{Does}
use Rattle.run_rules.proofs.Setups.{after_setup}
use Rattle.run_sound.proofs.Commands.{Begins}
use Rattle.run_sound.proofs.Coming.{IsEnd}
use Rattle.run_sound.specs.Kept.{Kept}
use Rattle.run_sound.specs.Scripts.{script_of}
use Rattle.run_sound.proofs.Callers.{caller_here, clash, doing_so, doing_there}
use Rattle.run_sound.proofs.Reasons.{has_reason, is_quiet, quiet_end}
use Rattle.run_sound.proofs.ScriptLaws.{begins_within, between_idle}
use Rattle.history_laws.proofs.Acts.{answered_is}
use Rattle.script_laws.specs.Begun.{begun_by, begun_of}
use Rattle.script_laws.specs.Whole.{is_answer}
use Rattle.script_laws.proofs.Answered.{told_answers}
use Rattle.script_laws.proofs.Deeds.{AnswersNext, AnswersNone, GoesOn, kind_of}
use Rattle.progress_laws.specs.Ahead.{ahead}

abbrev lines : World → ℕ → ℕ
lines w k = length (script_of w.setup k)

-- of a caller that has not ended
ahead_is : (w : World) (k : ℕ) → has_ended w k ≡ false → ahead w k ≡ (lines w k - begun_of (caller_at w k)) + 1
ahead_is w k goes =
    let flag : cond {A = ℕ} (has_ended w k) 0 1 ≡ 1 = ap (λ (b : Bool). cond {A = ℕ} b 0 1) goes in
    omega (arith, flag)

lines_stay : (w : World) (k : ℕ) (d : Deed) → lines (after w k d) k ≡ lines w k
lines_stay w k d = ap (λ (s : Setup). length (script_of s k)) (after_setup w k d)

goes_on : (w : World) (k m : ℕ) (d : Deed) → has_ended w k ≡ false → GoesOn w (after w k d) k m → ahead (after w k d) k ≡ (lines w k - (begun_of (caller_at w k) + m)) + 1
goes_on w k m d un on = omega (arith, ahead_is (after w k d) k on.goes, on.begun, lines_stay w k d)

-- ---- its end

idle_of : (a : Activity) → is_quiet a ≡ true → is_ended a ≡ false → a ≢ activity.Scans → a ≡ activity.Idle
idle_of activity.Idle q e s = refl
idle_of activity.Scans q e s = absurd (s refl)
idle_of activity.Ended q e s = absurd cc
idle_of (activity.Transfer t) q e s = absurd cc
idle_of (activity.Frees t) q e s = absurd cc
idle_of (activity.Power kind t) q e s = absurd cc

pub end_idle : (w : World) (k : ℕ) → Kept w → next w k ≡ Does EndCaller → (caller_at w k).doing ≡ activity.Idle
end_idle w k kept e =
    let why : IsEnd w k = has_reason w k EndCaller e in
    idle_of (caller_at w k).doing (quiet_end w k e) (doing_so w k EndCaller e).unended (λ scans. (kept.ranges.callers.placed k).scans scans why.stack)

pub end_ahead : (w : World) (k : ℕ) → Kept w → next w k ≡ Does EndCaller → ahead (after w k EndCaller) k < ahead w k
unfolding after
end_ahead w k kept e =
    let c : Caller = record { over = (caller_at w k).over; doing = activity.Ended; stack = (caller_at w k).stack } in
    let behind : ahead (after w k EndCaller) k ≡ (lines w k - (caller_at w k).over) + 0 =
    ap (λ (x : Caller). (lines w k - begun_by x.over x.doing) + cond (is_ended x.doing) 0 1) (caller_here w k c (doing_there w k EndCaller e)) in
    let before : begun_of (caller_at w k) ≡ (caller_at w k).over = ap (begun_by (caller_at w k).over) (end_idle w k kept e) in
    omega (arith, behind, before, ahead_is w k (doing_so w k EndCaller e).unended)

-- ---- all deeds

-- no deed adds to it
pub ahead_most : (w : World) (k : ℕ) (d : Deed) → Kept w → next w k ≡ Does d → ahead (after w k d) k ≤ ahead w k
ahead_most w k d kept e = cases (kind_of w k kept d e)
  where
    un : has_ended w k ≡ false
    un = (doing_so w k d e).unended

    ends : (x : Deed) → next w k ≡ Does x → x ≡ EndCaller → ahead (after w k x) k ≤ ahead w k
    ends x does is = rw is (omega (arith, end_ahead w k kept (rw is at does)))

    cases : AnswersNext w k d ⊎ (AnswersNone w k d ⊎ (d ≡ EndCaller)) → ahead (after w k d) k ≤ ahead w k
    cases (inl one) = omega (arith, goes_on w k 1 d un one.on, ahead_is w k un)
    cases (inr (inl none)) = omega (arith, goes_on w k 0 d un none.on, ahead_is w k un)
    cases (inr (inr is)) = ends d e is

-- one that begins a command lowers it
pub begins_ahead : (w : World) (k : ℕ) (d : Deed) (r : Reply) → Kept w → next w k ≡ Does d → Begins w k d → printed w k d ≡ answered w k r → ahead (after w k d) k < ahead w k
unfolding printed
begins_ahead w k d r kept e b line = cases (kind_of w k kept d e)
  where
    un : has_ended w k ≡ false
    un = (doing_so w k d e).unended

    answers : is_answer (printed w k d) ≡ true
    answers = ap is_answer (line ∙ answered_is w k r b.said b.command) ∙ told_answers w b.said r

    within : begun_of (caller_at w k) < lines w k
    within =
        let idle : begun_of (caller_at w k) ≡ (caller_at w k).over = ap (begun_by (caller_at w k).over) (between_idle w k kept b.between) in
        omega (arith, idle, begins_within w k d b)

    no_end : is_answer (printed w k EndCaller) ≡ false
    no_end = refl

    cases : AnswersNext w k d ⊎ (AnswersNone w k d ⊎ (d ≡ EndCaller)) → ahead (after w k d) k < ahead w k
    cases (inl one) = omega (arith, goes_on w k 1 d un one.on, ahead_is w k un, within)
    cases (inr (inl none)) = clash (is_answer (printed w k d)) answers none.line
    cases (inr (inr is)) = clash (is_answer (printed w k d)) answers (ap (λ (x : Deed). is_answer (printed w k x)) is ∙ no_end)
