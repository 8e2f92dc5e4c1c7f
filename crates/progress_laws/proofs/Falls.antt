-- Each event of a run lowers what is left of it, whoever does it.
use Rattle.std.proofs.Common.{◌≡◌, ◌<◌, ◌≤◌, ◌⊎◌, inl, inr, ℕ, ◌+◌, ◌*◌, length, Some, None, refl, ap, arith}
use Rattle.std.proofs.Math.Nat.{mul-le-mul_left}
use Rattle.run_rules.specs.declared.event.Reply.TheVariants as reply
use Rattle.run_rules.specs.declared.world.Setup.{Setup}
use Rattle.run_rules.specs.World.{World}
use Rattle.run_rules.specs.After.{after}
use Rattle.run_rules.specs.Next.{next}
use Rattle.run_rules.specs.Run.{reply_of, printed}
use Rattle.run_rules.specs.declared.deed.Deed.{Deed}
use Rattle.run_rules.specs.declared.deed.Deed.TheVariants.{Search, EndScan, BeginInterrupts, Finalise, EndCaller, Drop, Refuse, Open, Close, Start, Done, Detach, Free, Rescan, BeginPower, Sleep, Wake, EndPower, Plug, Unplug, Tell}
use Rattle.run_rules.specs.declared.deed.Choice.TheVariants.{Does}
use Rattle.run_rules.proofs.Setups.{after_setup}
use Rattle.run_sound.specs.Kept.{Kept, MayRun}
use Rattle.run_sound.specs.Left.{whole_scan}
use Rattle.run_sound.proofs.Callers.{doing_there}
use Rattle.run_sound.proofs.RangesCallers.{others_stay}
use Rattle.run_sound.proofs.Reasons.{has_command_reason}
use Rattle.run_sound.proofs.Falls.{product_le}
use Rattle.progress_laws.specs.Ahead.{ahead, begun_left, command_worth, over_callers, run_left}
use Rattle.progress_laws.proofs.Own.{OneMoves, ahead_moves, begun_moves, own}
use Rattle.progress_laws.proofs.Scanning.{finalise_lowers, phase_lowers, scan_end_lowers, search_lowers}
use Rattle.progress_laws.proofs.Commands.{close_rises, detach_rises, done_lowers, drop_lowers, ended_rises, open_rises, plug_rises, power_end_lowers, power_rises, pull_rises, refuse_rises, rescan_rises, start_rises, tell_rises, unplug_rises}
use Rattle.progress_laws.proofs.Devices.{free_lowers, sleep_lowers, wake_lowers}
use Rattle.progress_laws.proofs.Begun.{ahead_most, begins_ahead, end_ahead}

abbrev spots_of : World → ℕ
spots_of w = length w.setup.machine.spots

-- a deed lowers what is left of the commands that have begun; or it adds less than a command is worth, and lowers what is ahead
abbrev Counts : World → ℕ → Deed → Type 0
Counts w k d =
    (own (spots_of w) (after w k d) k < own (spots_of w) w k) ⊎ ((own (spots_of w) (after w k d) k < own (spots_of w) w k + command_worth (spots_of w)) × (ahead (after w k d) k < ahead w k))

adds : (w : World) (k x : ℕ) (d : Deed) → own (spots_of w) (after w k d) k ≤ own (spots_of w) w k + x → x < command_worth (spots_of w) → ahead (after w k d) k < ahead w k → Counts w k d
adds w k x d le lt less = inr (omega (arith, le, lt), less)

counts : (w : World) (k : ℕ) (d : Deed) → MayRun w.setup → Kept w → next w k ≡ Does d → Counts w k d
unfolding printed
counts w k (Search p spot to got) may kept e = inl (search_lowers w k p spot to got may kept e)
counts w k (EndScan p) may kept e = inl (scan_end_lowers w k p may kept e)
counts w k BeginInterrupts may kept e = inl (phase_lowers w k may kept e)
counts w k (Finalise s shown got place anew) may kept e = inl (finalise_lowers w k s shown got place anew may kept e)
counts w k EndCaller may kept e = adds w k 0 EndCaller (ended_rises (spots_of w) w k kept e) (omega arith) (end_ahead w k kept e)
counts w k (Drop s) may kept e = inl (drop_lowers (spots_of w) w k s kept e)
counts w k (Refuse why) may kept e =
    adds w k 0 (Refuse why) (refuse_rises (spots_of w) w k why kept e) (omega arith) (begins_ahead w k (Refuse why) (reply_of w why) kept e (has_command_reason w k (Refuse why) e) refl)
counts w k (Open s sole) may kept e = adds w k 1 (Open s sole) (open_rises (spots_of w) w k s sole kept e) (omega arith) (begins_ahead w k (Open s sole) reply.Ok kept e (has_command_reason w k (Open s sole) e).begins refl)
counts w k (Close s) may kept e = adds w k 0 (Close s) (close_rises (spots_of w) w k s kept e) (omega arith) (begins_ahead w k (Close s) reply.Ok kept e (has_command_reason w k (Close s) e).begins refl)
counts w k (Start t) may kept e = adds w k 0 (Start t) (start_rises (spots_of w) w k t kept e) (omega arith) (begins_ahead w k (Start t) reply.Ok kept e (has_command_reason w k (Start t) e).begins refl)
counts w k (Done t) may kept e = inl (done_lowers (spots_of w) w k t kept e)
counts w k (Detach s) may kept e = adds w k _ (Detach s) (detach_rises w k s kept e) (omega arith) (begins_ahead w k (Detach s) reply.Ok kept e (has_command_reason w k (Detach s) e).begins refl)
counts w k (Free s) may kept e = inl (free_lowers (spots_of w) w k s kept e)
counts w k (Rescan s only) may kept e =
    adds w k (2 * whole_scan (spots_of w)) (Rescan s only) (rescan_rises (spots_of w) w k s only kept e) (omega arith) (begins_ahead w k (Rescan s only) reply.Ok kept e (has_command_reason w k (Rescan s only) e).begins refl)
counts w k (BeginPower kind s) may kept e =
    adds w k (spots_of w) (BeginPower kind s) (power_rises w k kind s kept e) (omega arith) (begins_ahead w k (BeginPower kind s) reply.Ok kept e (has_command_reason w k (BeginPower kind s) e).begins refl)
counts w k (Sleep s) may kept e = inl (sleep_lowers (spots_of w) w k s kept e)
counts w k (Wake s) may kept e = inl (wake_lowers (spots_of w) w k s kept e)
counts w k (EndPower end) may kept e = inl (power_end_lowers (spots_of w) w k end kept e)
counts w k (Plug x) may kept e = adds w k 0 (Plug x) (plug_rises (spots_of w) w k x kept e) (omega arith) (begins_ahead w k (Plug x) reply.Ok kept e (has_command_reason w k (Plug x) e).begins refl)
counts w k (Unplug x None) may kept e = adds w k 0 (Unplug x None) (pull_rises (spots_of w) w k x kept e) (omega arith) (begins_ahead w k (Unplug x None) reply.Ok kept e (has_command_reason w k (Unplug x None) e).begins refl)
counts w k (Unplug x (Some s)) may kept e =
    adds w k _ (Unplug x (Some s)) (unplug_rises w k x s kept e) (omega arith) (begins_ahead w k (Unplug x (Some s)) reply.Ok kept e (has_command_reason w k (Unplug x (Some s)) e).begins refl)
counts w k Tell may kept e = adds w k 0 Tell (tell_rises (spots_of w) w k kept e) (omega arith) (begins_ahead w k Tell reply.Ok kept e (has_command_reason w k Tell e).begins refl)

-- ---- the whole

product : (w a b : ℕ) → a < b → w * a + w ≤ w * b
product w a b lt = grind (arith, mul-le-mul_left)

left_is : (w : World) (n : ℕ) → length w.setup.machine.spots ≡ n → run_left w ≡ command_worth n * over_callers ahead w + begun_left n w
unfolding run_left
left_is w n e = rw e refl

pub left_falls : (w : World) (k : ℕ) (d : Deed) → MayRun w.setup → Kept w → next w k ≡ Does d → run_left (after w k d) < run_left w
left_falls w k d may kept e = rw (left_is v n (ap (λ (s : Setup). length s.machine.spots) (after_setup w k d)), left_is w n refl) (cases (counts w k d may kept e))
  where
    n : ℕ
    n = length w.setup.machine.spots

    v : World
    v = after w k d

    moves : OneMoves w v k
    moves = record { setup = after_setup w k d; others = λ j other. others_stay w k j d other; there = omega (arith, doing_there w k d e, kept.ranges.callers.as_many) }

    before : over_callers ahead v + ahead w k ≡ over_callers ahead w + ahead v k
    before = ahead_moves w v k moves

    inner : begun_left n v + own n w k ≡ begun_left n w + own n v k
    inner = begun_moves n w v k moves

    cases : Counts w k d → command_worth n * over_callers ahead v + begun_left n v < command_worth n * over_callers ahead w + begun_left n w
    cases (inl less) = omega (arith, less, inner, product_le (command_worth n) (over_callers ahead v) (over_callers ahead w) (omega (arith, before, ahead_most w k d kept e)))
    cases (inr both) = omega (arith, both.0, inner, product (command_worth n) (over_callers ahead v) (over_callers ahead w) (omega (arith, before, both.1)))
