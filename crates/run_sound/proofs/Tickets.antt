-- A transfer's ticket names its caller, whatever is done.
use Rattle.std.proofs.Common.{◌≡◌, ◌≢◌, ℕ, zero, suc, ◌==◌, Bool, true, false, List, [], ◌∷◌, map, Some, None, refl, sym, ap, ◌∙◌, slice_index_or, eqb-true, eq-eqb}
use Rattle.std.specs.Prelude.{if◌then◌else◌}
use Rattle.cf_types.specs.declared.machine.Command.{Command}
use Rattle.cf_types.specs.declared.machine.Ticket.{Ticket}
use Rattle.run_rules.specs.declared.world.Setup.{Setup}
use Rattle.run_rules.specs.declared.world.Frame.{Frame}
use Rattle.run_rules.specs.declared.world.Activity.{Activity}
use Rattle.run_rules.specs.declared.world.Activity.TheVariants as activity
use Rattle.run_rules.specs.World.{World, Caller, beginning, caller_at, nobody, opening, scan_of}
use Rattle.run_rules.specs.declared.deed.Deed.{Deed}
use Rattle.run_rules.specs.declared.deed.Deed.TheVariants.{Search, EndScan, BeginInterrupts, Finalise, EndCaller, Drop, Start, Detach, Free, Rescan, BeginPower, Sleep, Wake, Unplug}
use Rattle.run_rules.specs.declared.deed.Choice.TheVariants.{Does}
use Rattle.run_rules.specs.Next.{next}
use Rattle.run_rules.specs.After.{after, doing, freed, freeing_target, over, pushed, settled, rescan_frame}
use Rattle.run_sound.specs.Scripts.{NamesCaller}
use Rattle.run_sound.proofs.Callers.{clash}
use Rattle.run_sound.proofs.OwnCaller.{Stays, own_after, own_set, own_stack}
use Rattle.run_sound.proofs.RangesCallers.{others_stay}
use Rattle.run_sound.proofs.Reasons.{has_command_reason}

-- each transfer in whose middle one may be is of the caller
abbrev OwnTickets : ℕ → Activity → Type 0
OwnTickets k a = (t : Ticket) → a ≡ activity.Transfer t → t.caller ≡ k

-- ---- a deed of a frame, or the end

settled_names : (k over : ℕ) (doing : Activity) (stack : List Frame) → OwnTickets k doing → NamesCaller k (settled (record { over = over; doing = doing; stack = stack }))
settled_names k over activity.Idle stack h = h
settled_names k over activity.Ended stack h = h
settled_names k over (activity.Transfer ticket) stack h = h
settled_names k over (activity.Frees s) stack h = h
settled_names k over (activity.Power kind s) stack h = h
settled_names k over activity.Scans (f ∷ fs) h = h
settled_names k over activity.Scans [] h = λ t e. absurd cc

stays_named : (k : ℕ) → Stays (NamesCaller k)
stays_named k = record { stacked = λ c stack h. settled_names k c.over c.doing stack h; ended = λ c h t e. absurd cc }

-- ---- a command begins, or is over

-- a transfer that starts is of its caller
starts_own : (k : ℕ) (t : Ticket) → t.caller ≡ k → OwnTickets k (activity.Transfer t)
starts_own k t own u e = sym (ap (λ (x : Ticket). x.caller) (one_ticket e)) ∙ own
  where
    one_ticket : activity.Transfer t ≡ activity.Transfer u → t ≡ u
    one_ticket same = cc

module _ (w : World) (k : ℕ) (old : NamesCaller k (caller_at w k)) where
  abbrev now : Caller
  now = caller_at w k

  -- its command is over
  over_names : NamesCaller k (caller_at (over w k) k)
  over_names = own_set (NamesCaller k) w.callers k _ (λ t e. absurd cc) old

  -- a command begins that takes longer
  turns_named : (a : Activity) → OwnTickets k a → NamesCaller k (caller_at (doing w k a) k)
  turns_named a own = own_set (NamesCaller k) w.callers k _ own old

  freed_names : (s : ℕ) (last : Bool) → NamesCaller k (caller_at (if last then over (freed w s) k else freed w s) k)
  freed_names s true = over_names
  freed_names s false = old

  rescan_names : (f : Frame) → NamesCaller k (caller_at (pushed (doing w k activity.Scans) k f) k)
  rescan_names f = own_stack (NamesCaller k) (stays_named k) (doing w k activity.Scans) k _ (turns_named activity.Scans (λ t e. absurd cc))

  own_names : (d : Deed) → next w k ≡ Does d → NamesCaller k (caller_at (after w k d) k)
  unfolding after
  own_names (Search p spot to got) e = own_after (NamesCaller k) (stays_named k) w k (Search p spot to got) tt old
  own_names (EndScan p) e = own_after (NamesCaller k) (stays_named k) w k (EndScan p) tt old
  own_names BeginInterrupts e = own_after (NamesCaller k) (stays_named k) w k BeginInterrupts tt old
  own_names (Finalise s shown got listed anew) e = own_after (NamesCaller k) (stays_named k) w k (Finalise s shown got listed anew) tt old
  own_names EndCaller e = own_after (NamesCaller k) (stays_named k) w k EndCaller tt old
  own_names (Drop s) e = old
  own_names (Start t) e = turns_named (activity.Transfer t) (starts_own k t (ap (λ (x : Ticket). x.caller) (has_command_reason w k (Start t) e).ticket))
  own_names (Detach s) e = turns_named (activity.Frees s) (λ t same. absurd cc)
  own_names (Free s) e = freed_names s (freeing_target now.doing s)
  own_names (Rescan s only) e = rescan_names (rescan_frame w k s only)
  own_names (BeginPower kind s) e = turns_named (activity.Power kind s) (λ t same. absurd cc)
  own_names (Sleep s) e = old
  own_names (Wake s) e = old
  own_names (Unplug x None) e = over_names
  own_names (Unplug x (Some s)) e = turns_named (activity.Frees s) (λ t same. absurd cc)
  own_names d e = over_names

-- ---- all callers

abbrev AreNamed : World → Type 0
AreNamed w = (j : ℕ) → NamesCaller j (caller_at w j)

pub tickets_after : (w : World) (k : ℕ) (d : Deed) → next w k ≡ Does d → AreNamed w → AreNamed (after w k d)
tickets_after w k d e h j = cases (j == k) refl
  where
    cases : (b : Bool) → (j == k) ≡ b → NamesCaller j (caller_at (after w k d) j)
    cases true is = let same : j ≡ k = eqb-true j k is in rw same (own_names w k (h k) d e)
    cases false is =
        let other : j ≢ k = λ same. clash (j == k) (eq-eqb j k same) is in
        rw (others_stay w k j d other) (h j)

-- ---- before any event

rests_named : (j : ℕ) (stack : List Frame) → NamesCaller j (beginning stack)
rests_named j stack t e = absurd cc

script_opens : (j : ℕ) (scripts : List (List Command)) (k : ℕ) → NamesCaller j (slice_index_or (map (λ script. beginning []) scripts) k nobody)
script_opens j [] k = λ t e. absurd cc
script_opens j (x ∷ xs) zero = rests_named j []
script_opens j (x ∷ xs) (suc k) = script_opens j xs k

pub tickets_open : (s : Setup) → AreNamed (opening s)
unfolding opening
tickets_open s zero = rests_named 0 (scan_of 0 ∷ [])
tickets_open s (suc k) = script_opens (suc k) s.scripts k
