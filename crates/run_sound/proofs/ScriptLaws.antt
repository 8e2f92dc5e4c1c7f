-- What a kept world says of callers and their scripts: who they are, and where they stand.
use Rattle.std.proofs.Common.{◌≡◌, ◌≢◌, ◌<◌, ◌≤◌, ℕ, zero, suc, ◌+◌, ◌-◌, ◌==◌, Bool, true, false, List, [], length, Some, refl, ◌∙◌, inl, inr, arith, slice_index_or}
use Rattle.std.specs.Prelude.{if◌then◌else◌}
use Rattle.std.specs.List.{AllByRecursion}
use Rattle.std.proofs.lemmas.Option.{slice_get_within}
use Rattle.cf_types.specs.declared.machine.Command.{Command}
use Rattle.run_rules.specs.declared.world.Setup.{Setup}
use Rattle.run_rules.specs.declared.world.Dev.{Dev}
use Rattle.run_rules.specs.declared.world.Ref.{Ref}
use Rattle.run_rules.specs.declared.world.Activity.TheVariants as activity
use Rattle.run_rules.specs.World.{World, caller_at}
use Rattle.run_rules.specs.declared.deed.Deed.{Deed}
use Rattle.run_rules.specs.declared.deed.Choice.TheVariants.{Does}
use Rattle.run_rules.specs.Next.{command_of, next}
use Rattle.run_rules.specs.Run.{number_of}
use Rattle.run_rules.specs.Sound.{IsSoundlyCondemned}
use Rattle.run_rules.proofs.Devices.{all_imp}
use Rattle.run_sound.proofs.Commands.{Begins, IsBetween}
use Rattle.run_sound.specs.Kept.{Kept, MayRun}
use Rattle.run_sound.specs.Scripts.{IsAmid, IsOfScript, script_of}
use Rattle.run_sound.proofs.Callers.{all_or, doing_there, unended_so, unended_there}
use Rattle.run_sound.proofs.Holders.{of_script}
use Rattle.run_sound.proofs.References.{amid_later}
use Rattle.run_sound.proofs.Scripts.{amid_before, amid_command, begun, command_is, is_amid, script_there}

-- ---- who a caller is

-- who does something is caller 0, or one of at most 16 scripts
pub doer_low : (w : World) (k : ℕ) (d : Deed) → MayRun w.setup → Kept w → next w k ≡ Does d → k ≤ 16
doer_low w k d may kept e = omega (arith, doing_there w k d e, kept.ranges.callers.as_many, may.few_scripts)

-- who begins a command, or has none left, is of a script
pub between_script : (w : World) (k : ℕ) (d : Deed) → Kept w → next w k ≡ Does d → IsBetween w k → IsOfScript w.setup k
between_script w k d kept e at = of_script w k kept.ranges at.later (doing_there w k d e)

-- who is in the middle of something is of a script
pub amid_script : (w : World) (k : ℕ) → Kept w → (caller_at w k).doing ≢ activity.Idle → (caller_at w k).doing ≢ activity.Ended → IsOfScript w.setup k
amid_script w k kept busy runs = of_script w k kept.ranges (amid_later w k kept.ranges busy runs) (unended_there w k (unended_so w k runs))

-- who holds a reference is one of at most 16
pub refs_few : (w : World) → MayRun w.setup → Kept w → AllByRecursion (λ r. (1 ≤ r.caller) × (r.caller ≤ 16)) w.refs
refs_few w may kept =
    all_imp (λ (r : Ref). IsOfScript w.setup r.caller) (λ (r : Ref). (1 ≤ r.caller) × (r.caller ≤ 16)) (λ r h. (h.0, omega (arith, h.1, may.few_scripts))) w.refs kept.ranges.callers.holders

-- who condemned a device is of a script
condemner : (w : World) (d : Dev) (k : ℕ) → Kept w → IsSoundlyCondemned w d k → IsOfScript w.setup k
condemner w d k kept is =
    let frees : (caller_at w k).doing ≡ activity.Frees is.below_target.0 = is.below_target.1 in
    amid_script w k kept (λ e. cc) (λ e. cc)

pub condemned_by : (w : World) → Kept w → AllByRecursion (λ d. (k : ℕ) → d.condemned ≡ Some k → IsOfScript w.setup k) w.live
condemned_by w kept =
    all_imp (λ (d : Dev). (k : ℕ) → d.condemned ≡ Some k → IsSoundlyCondemned w d k) (λ (d : Dev). (k : ℕ) → d.condemned ≡ Some k → IsOfScript w.setup k)
    (λ d h k c. condemner w d k kept (h k c)) w.live kept.sound.condemned

-- ---- where it stands in its script

-- nowhere, if it boots
pub boot_over : (w : World) → Kept w → (caller_at w 0).over ≡ 0
boot_over w kept = omega (arith, (kept.ranges.callers.placed 0).within)

script_short : (s : Setup) (k : ℕ) → MayRun s → length (script_of s k) ≤ 500
script_short s zero may = omega arith
script_short s (suc k) may = all_or (λ (script : List Command). length script ≤ 500) s.scripts k [] may.short_scripts (omega arith)

pub over_low : (w : World) → MayRun w.setup → Kept w → (k : ℕ) → (caller_at w k).over ≤ 500
over_low w may kept k = omega (arith, (kept.ranges.callers.placed k).within, script_short w.setup k may)

-- so the number of its next event is low
pub number_low : (w : World) → MayRun w.setup → Kept w → (k : ℕ) → number_of w k ≤ 501
number_low w may kept k = cases (k == 0) (over_low w may kept k)
  where
    cases : (b : Bool) → (caller_at w k).over ≤ 500 → (if b then 0 else (caller_at w k).over + 1) ≤ 501
    cases true low = omega arith
    cases false low = omega (arith, low)

-- no more of its commands are over than it has
pub over_within : (w : World) (k : ℕ) → Kept w → k ≢ 0 → (caller_at w k).over ≤ length (slice_index_or w.setup.scripts (k - 1) [])
over_within w k kept later = rw (script_there w.setup k later) (kept.ranges.callers.placed k).within

-- and fewer while one goes on, or begins
pub amid_within : (w : World) (k : ℕ) → Kept w → is_amid (caller_at w k).doing ≡ true → (caller_at w k).over < length (script_of w.setup k)
amid_within w k kept busy = amid_before (script_of w.setup k) (caller_at w k) (kept.ranges.callers.placed k) busy

pub begins_within : (w : World) (k : ℕ) (d : Deed) → Begins w k d → (caller_at w k).over < length (script_of w.setup k)
begins_within w k d b = slice_get_within (script_of w.setup k) (caller_at w k).over b.said (begun w k b.said d b refl)

-- the command that goes on does what the caller is in the middle of
pub amid_said : (w : World) (k : ℕ) → Kept w → k ≢ 0 → IsAmid (caller_at w k).doing (command_of w k)
amid_said w k kept later = rw (command_is w k later) (kept.ranges.callers.placed k).amid

pub amid_has : (w : World) (k : ℕ) → Kept w → k ≢ 0 → is_amid (caller_at w k).doing ≡ true → (said : Command) × (command_of w k ≡ Some said)
amid_has w k kept later busy =
    let one = amid_command (script_of w.setup k) (caller_at w k) (kept.ranges.callers.placed k) busy in
    (one.0, command_is w k later ∙ one.1)

-- between two commands it is idle: a rescan without frames is over
pub between_idle : (w : World) (k : ℕ) → Kept w → IsBetween w k → (caller_at w k).doing ≡ activity.Idle
between_idle w k kept at = elim at.idle [ inl idle ↦ idle | inr scans ↦ absurd ((kept.ranges.callers.placed k).scans scans at.no_frames) ]
