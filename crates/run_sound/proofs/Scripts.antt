-- Each caller stays in its script, whatever is done.
use Rattle.std.proofs.Common.{◌≡◌, ◌≢◌, ◌<◌, ◌≤◌, ℕ, zero, suc, ◌+◌, ◌-◌, ◌==◌, Bool, true, false, List, [], ◌∷◌, map, length, Some, refl, sym, ap, ◌∙◌, inl, inr, arith, slice_get, slice_index_or, slice_set, None, eqb-true, eq-eqb}
use Rattle.std.specs.Prelude.{if◌then◌else◌}
use Rattle.std.proofs.lemmas.Option.{slice_get_within}
use Rattle.cf_types.specs.declared.machine.Command.{Command}
use Rattle.cf_types.specs.declared.machine.Command.TheVariants as command
use Rattle.run_rules.specs.declared.world.Setup.{Setup}
use Rattle.run_rules.specs.declared.world.Frame.{Frame}
use Rattle.run_rules.specs.declared.world.Activity.{Activity}
use Rattle.run_rules.specs.declared.world.Activity.TheVariants as activity
use Rattle.run_rules.specs.World.{World, Caller, beginning, caller_at, nobody, opening, scan_of}
use Rattle.run_rules.specs.declared.deed.Deed.{Deed}
use Rattle.run_rules.specs.declared.deed.Deed.TheVariants.{Search, EndScan, BeginInterrupts, Finalise, EndCaller, Drop, Refuse, Open, Close, Start, Done, Detach, Free, Rescan, BeginPower, Sleep, Wake, EndPower, Plug, Unplug, Tell}
use Rattle.run_rules.specs.declared.deed.Choice.TheVariants.{Does}
use Rattle.run_rules.specs.Next.{command_of, next}
use Rattle.run_rules.specs.After.{after, doing, freed, freeing_target, over, pushed, settled, with_caller, rescan_frame}
use Rattle.run_rules.proofs.Setups.{after_setup}
use Rattle.run_sound.proofs.Commands.{Begins, EndsPower}
use Rattle.run_sound.specs.Scripts.{IsAmid, IsInScript, power_command, script_of}
use Rattle.run_sound.proofs.Callers.{caller_here, callers_kept, clash, doing_there}
use Rattle.run_sound.proofs.OwnCaller.{Stays, own_after, own_set}
use Rattle.run_sound.proofs.RangesCallers.{others_stay}
use Rattle.run_sound.proofs.Reasons.{has_command_reason}

-- ---- in the middle of a command there is one

-- whether a caller is in the middle of something
abbrev pub is_amid : Activity → Bool
is_amid activity.Idle = false
is_amid activity.Ended = false
is_amid _ = true

-- the script has a next command
pub amid_command : (script : List Command) (c : Caller) → IsInScript script c → is_amid c.doing ≡ true → (said : Command) × (slice_get script c.over ≡ Some said)
amid_command script c h busy = cases c.doing busy h.amid
  where
    cases : (a : Activity) → is_amid a ≡ true → IsAmid a (slice_get script c.over) → (said : Command) × (slice_get script c.over ≡ Some said)
    cases activity.Idle b amid = absurd cc
    cases activity.Ended b amid = absurd cc
    cases (activity.Transfer ticket) b amid = (_, amid.2)
    cases (activity.Frees s) b amid = elim amid.1 [ inl e ↦ (_, e) | inr e ↦ (_, e) ]
    cases activity.Scans b amid = (_, amid.3)
    cases (activity.Power kind s) b amid = (_, amid.1)

pub amid_before : (script : List Command) (c : Caller) → IsInScript script c → is_amid c.doing ≡ true → c.over < length script
amid_before script c h busy = let one = amid_command script c h busy in slice_get_within script c.over one.0 one.1

-- ---- a deed of a frame, or the end

settled_in : (script : List Command) (over : ℕ) (doing : Activity) (stack : List Frame) → over ≤ length script → IsAmid doing (slice_get script over)
    → IsInScript script (settled (record { over = over; doing = doing; stack = stack }))
settled_in script over activity.Idle stack le amid = record { within = le; amid = tt; scans = λ e. absurd cc }
settled_in script over activity.Ended stack le amid = record { within = le; amid = tt; scans = λ e. absurd cc }
settled_in script over (activity.Transfer ticket) stack le amid = record { within = le; amid = amid; scans = λ e. absurd cc }
settled_in script over (activity.Frees s) stack le amid = record { within = le; amid = amid; scans = λ e. absurd cc }
settled_in script over (activity.Power kind s) stack le amid = record { within = le; amid = amid; scans = λ e. absurd cc }
settled_in script over activity.Scans (f ∷ fs) le amid = record { within = le; amid = amid; scans = λ e none. absurd cc }
settled_in script over activity.Scans [] le amid = record { within = omega (arith, slice_get_within script over _ amid.3); amid = tt; scans = λ e. absurd cc }

stays_in : (script : List Command) → Stays (IsInScript script)
stays_in script = record {
  stacked = λ c stack h. settled_in script c.over c.doing stack h.within h.amid;
  ended = λ c h. record { within = h.within; amid = tt; scans = λ e. absurd cc };
}

-- ---- a command begins, or is over

-- the command is over
next_in : (script : List Command) (over : ℕ) (stack : List Frame) → over < length script → IsInScript script (record { over = over + 1; doing = activity.Idle; stack = stack })
next_in script over stack lt = record { within = omega (arith, lt); amid = tt; scans = λ e. absurd cc }

pub script_there : (s : Setup) (k : ℕ) → k ≢ 0 → slice_index_or s.scripts (k - 1) [] ≡ script_of s k
script_there s zero later = absurd (later refl)
script_there s (suc k) later = let e : suc k - 1 ≡ k = omega arith in rw e refl

-- a caller's next command is that of its script
pub command_is : (w : World) (k : ℕ) → k ≢ 0 → command_of w k ≡ slice_get (script_of w.setup k) (caller_at w k).over
command_is w k later = ap (λ (script : List Command). slice_get script (caller_at w k).over) (script_there w.setup k later)

-- what begins is a command of the script
pub begun : (w : World) (k : ℕ) (c : Command) (d : Deed) → (b : Begins w k d) → b.said ≡ c → slice_get (script_of w.setup k) (caller_at w k).over ≡ Some c
begun w k c d b words = sym (command_is w k b.between.later) ∙ b.command ∙ ap (λ (x : Command). Some x) words

module _ (w : World) (k : ℕ) (old : IsInScript (script_of w.setup k) (caller_at w k)) where
  abbrev script : List Command
  script = script_of w.setup k

  abbrev now : Caller
  now = caller_at w k

  -- the caller that is set is in the script
  set_in : (c : Caller) → IsInScript script c → IsInScript script (slice_index_or (slice_set w.callers k c) k nobody)
  set_in c h = own_set (IsInScript script) w.callers k c h old

  -- its command is over
  over_in : now.over < length script → IsInScript script (caller_at (over w k) k)
  over_in lt = set_in _ (next_in script now.over now.stack lt)

  -- a command is over at once
  at_once : (d : Deed) → Begins w k d → IsInScript script (caller_at (over w k) k)
  at_once d b = over_in (slice_get_within script now.over b.said (begun w k b.said d b refl))

  -- a caller in the middle of something is done
  done_in : is_amid now.doing ≡ true → IsInScript script (caller_at (over w k) k)
  done_in busy = over_in (amid_before script now old busy)

  -- a command begins that takes longer
  turns_in : (a : Activity) → IsAmid a (slice_get script now.over) → a ≢ activity.Scans → IsInScript script (caller_at (doing w k a) k)
  turns_in a amid other = set_in _ (record { within = old.within; amid = amid; scans = λ e. absurd (other e) })

  freed_in : (s : ℕ) (last : Bool) → is_amid now.doing ≡ true → IsInScript script (caller_at (if last then over (freed w s) k else freed w s) k)
  freed_in s true busy = done_in busy
  freed_in s false busy = old

  rescan_in : (f : Frame) → k < length w.callers → IsAmid activity.Scans (slice_get script now.over) → IsInScript script (caller_at (pushed (doing w k activity.Scans) k f) k)
  rescan_in f lt amid =
      let c : Caller = record { over = now.over; doing = activity.Scans; stack = now.stack } in
      let u : World = with_caller w k c in
      let same : caller_at u k ≡ c = caller_here w k c lt in
      let there : k < length u.callers = rw (callers_kept w k c) lt in
      rw (caller_here u k (settled (record { over = (caller_at u k).over; doing = (caller_at u k).doing; stack = f ∷ (caller_at u k).stack })) there, same)
      (settled_in script now.over activity.Scans (f ∷ now.stack) old.within amid)

  own_in : (d : Deed) → next w k ≡ Does d → IsInScript script (caller_at (after w k d) k)
  unfolding after
  own_in (Search p spot to got) e = own_after (IsInScript script) (stays_in script) w k (Search p spot to got) tt old
  own_in (EndScan p) e = own_after (IsInScript script) (stays_in script) w k (EndScan p) tt old
  own_in BeginInterrupts e = own_after (IsInScript script) (stays_in script) w k BeginInterrupts tt old
  own_in (Finalise s shown got listed anew) e = own_after (IsInScript script) (stays_in script) w k (Finalise s shown got listed anew) tt old
  own_in EndCaller e = own_after (IsInScript script) (stays_in script) w k EndCaller tt old
  own_in (Drop s) e = old
  own_in (Refuse why) e = at_once (Refuse why) (has_command_reason w k (Refuse why) e)
  own_in (Open s sole) e = at_once (Open s sole) (has_command_reason w k (Open s sole) e).begins
  own_in (Close s) e = at_once (Close s) (has_command_reason w k (Close s) e).begins
  own_in (Start t) e =
      let why = has_command_reason w k (Start t) e in
      turns_in (activity.Transfer t) (why.name, why.value, begun w k (command.Io why.name why.value) (Start t) why.begins why.words) (λ h. cc)
  own_in (Done t) e = done_in (ap is_amid (has_command_reason w k (Done t) e))
  own_in (Detach s) e =
      let why = has_command_reason w k (Detach s) e in
      turns_in (activity.Frees s) (why.name, inl (begun w k (command.Detach why.name) (Detach s) why.begins why.words)) (λ h. cc)
  own_in (Free s) e = freed_in s (freeing_target now.doing s) (ap is_amid (has_command_reason w k (Free s) e).amid)
  own_in (Rescan s only) e =
      let why = has_command_reason w k (Rescan s only) e in
      rescan_in (rescan_frame w k s only) (doing_there w k (Rescan s only) e)
      (why.name, why.attr, why.given, begun w k (command.Rescan why.name why.attr why.given) (Rescan s only) why.begins why.words)
  own_in (BeginPower kind s) e =
      let why = has_command_reason w k (BeginPower kind s) e in
      turns_in (activity.Power kind s) (why.name, begun w k (power_command kind why.name) (BeginPower kind s) why.begins why.words) (λ h. cc)
  own_in (Sleep s) e = old
  own_in (Wake s) e = old
  own_in (EndPower end) e = let why : EndsPower w k end = has_command_reason w k (EndPower end) e in done_in (ap is_amid why.amid)
  own_in (Plug x) e = at_once (Plug x) (has_command_reason w k (Plug x) e).begins
  own_in (Unplug x None) e = at_once (Unplug x None) (has_command_reason w k (Unplug x None) e).begins
  own_in (Unplug x (Some s)) e =
      let why = has_command_reason w k (Unplug x (Some s)) e in
      turns_in (activity.Frees s) (why.name, inr (begun w k (command.Unplug why.name) (Unplug x (Some s)) why.begins why.words)) (λ h. cc)
  own_in Tell e = at_once Tell (has_command_reason w k Tell e).begins

-- ---- all callers

abbrev pub AreInScripts : World → Type 0
AreInScripts w = (j : ℕ) → IsInScript (script_of w.setup j) (caller_at w j)

pub scripts_after : (w : World) (k : ℕ) (d : Deed) → next w k ≡ Does d → AreInScripts w → AreInScripts (after w k d)
scripts_after w k d e h j = rw (after_setup w k d) (cases (j == k) refl)
  where
    cases : (b : Bool) → (j == k) ≡ b → IsInScript (script_of w.setup j) (caller_at (after w k d) j)
    cases true is = let same : j ≡ k = eqb-true j k is in rw same (own_in w k (h k) d e)
    cases false is =
        let other : j ≢ k = λ same. clash (j == k) (eq-eqb j k same) is in
        rw (others_stay w k j d other) (h j)

-- ---- before any event

rests_in : (script : List Command) (stack : List Frame) → IsInScript script (beginning stack)
rests_in script stack = record { within = omega arith; amid = tt; scans = λ e. absurd cc }

script_opens : (script : List Command) (scripts : List (List Command)) (k : ℕ) → IsInScript script (slice_index_or (map (λ script. beginning []) scripts) k nobody)
script_opens script [] k = record { within = omega arith; amid = tt; scans = λ e. absurd cc }
script_opens script (x ∷ xs) zero = rests_in script []
script_opens script (x ∷ xs) (suc k) = script_opens script xs k

pub scripts_open : (s : Setup) → AreInScripts (opening s)
unfolding opening
scripts_open s zero = rests_in [] (scan_of 0 ∷ [])
scripts_open s (suc k) = script_opens (script_of s (suc k)) s.scripts k
