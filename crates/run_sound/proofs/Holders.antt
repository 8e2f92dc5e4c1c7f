-- Only callers of scripts hold references, whatever is done.
use Rattle.std.proofs.Common.{◌≡◌, ◌≢◌, ◌<◌, ◌≤◌, ℕ, zero, suc, List, length, refl, arith}
use Rattle.std.specs.List.{AllByRecursion}
use Rattle.run_rules.specs.declared.world.Setup.{Setup}
use Rattle.run_rules.specs.declared.world.Ref.{Ref}
use Rattle.run_rules.specs.World.{World}
use Rattle.run_rules.specs.declared.deed.Deed.{Deed}
use Rattle.run_rules.specs.declared.deed.Deed.TheVariants.{Search, EndScan, BeginInterrupts, Finalise, EndCaller, Drop, Refuse, Open, Close, Start, Done, Detach, Free, Rescan, BeginPower, Sleep, Wake, EndPower, Plug, Unplug, Tell}
use Rattle.run_rules.specs.declared.deed.Choice.TheVariants.{Does}
use Rattle.run_rules.specs.Next.{next}
use Rattle.run_rules.specs.After.{after}
use Rattle.run_rules.specs.References.{given_back, is_of}
use Rattle.run_rules.proofs.References.{all_left}
use Rattle.run_rules.proofs.Devices.{all_snoc}
use Rattle.run_rules.proofs.Setups.{after_setup}
use Rattle.run_sound.proofs.Commands.{IsBetween}
use Rattle.run_sound.specs.Kept.{InRange}
use Rattle.run_sound.specs.Scripts.{IsOfScript}
use Rattle.run_sound.proofs.Callers.{doing_there}
use Rattle.run_sound.proofs.Holding.{refs_same}
use Rattle.run_sound.proofs.Reasons.{has_command_reason}

positive : (k : ℕ) → k ≢ 0 → 1 ≤ k
positive zero later = absurd (later refl)
positive (suc k) later = omega arith

-- each caller but the one that boots is of a script
pub of_script : (w : World) (k : ℕ) → InRange w → k ≢ 0 → k < length w.callers → IsOfScript w.setup k
of_script w k ranges later there = (positive k later, omega (arith, there, ranges.callers.as_many))

abbrev AreHolders : Setup → List Ref → Type 0
AreHolders s refs = AllByRecursion (λ r. IsOfScript s r.caller) refs

holders_same : (w : World) (k : ℕ) (d : Deed) → (after w k d).refs ≡ w.refs → InRange w → AreHolders w.setup (after w k d).refs
holders_same w k d e ranges = rw e ranges.callers.holders

holders_less : (of : Setup) (k s : ℕ) (refs : List Ref) → AreHolders of refs → AreHolders of (given_back refs k s)
holders_less of k s refs h = all_left (λ (r : Ref). IsOfScript of r.caller) (is_of k s) refs h

stay_holders : (w : World) (k : ℕ) (d : Deed) → InRange w → next w k ≡ Does d → AreHolders w.setup (after w k d).refs
unfolding after
stay_holders w k (Open s sole) ranges e =
    let at : IsBetween w k = (has_command_reason w k (Open s sole) e).begins.between in
    all_snoc (λ (r : Ref). IsOfScript w.setup r.caller) w.refs (record { serial = s; caller = k }) ranges.callers.holders
    (of_script w k ranges at.later (doing_there w k (Open s sole) e))
stay_holders w k (Close s) ranges e = holders_less w.setup k s w.refs ranges.callers.holders
stay_holders w k (Drop s) ranges e = holders_less w.setup k s w.refs ranges.callers.holders
stay_holders w k (Search p spot to got) ranges e = holders_same w k (Search p spot to got) (refs_same w k (Search p spot to got) refl refl) ranges
stay_holders w k (EndScan p) ranges e = holders_same w k (EndScan p) (refs_same w k (EndScan p) refl refl) ranges
stay_holders w k BeginInterrupts ranges e = holders_same w k BeginInterrupts (refs_same w k BeginInterrupts refl refl) ranges
stay_holders w k (Finalise s shown got place anew) ranges e = holders_same w k (Finalise s shown got place anew) (refs_same w k (Finalise s shown got place anew) refl refl) ranges
stay_holders w k EndCaller ranges e = holders_same w k EndCaller (refs_same w k EndCaller refl refl) ranges
stay_holders w k (Refuse why) ranges e = holders_same w k (Refuse why) (refs_same w k (Refuse why) refl refl) ranges
stay_holders w k (Start ticket) ranges e = holders_same w k (Start ticket) (refs_same w k (Start ticket) refl refl) ranges
stay_holders w k (Done ticket) ranges e = holders_same w k (Done ticket) (refs_same w k (Done ticket) refl refl) ranges
stay_holders w k (Detach s) ranges e = holders_same w k (Detach s) (refs_same w k (Detach s) refl refl) ranges
stay_holders w k (Free s) ranges e = holders_same w k (Free s) (refs_same w k (Free s) refl refl) ranges
stay_holders w k (Rescan s only) ranges e = holders_same w k (Rescan s only) (refs_same w k (Rescan s only) refl refl) ranges
stay_holders w k (BeginPower kind s) ranges e = holders_same w k (BeginPower kind s) (refs_same w k (BeginPower kind s) refl refl) ranges
stay_holders w k (Sleep s) ranges e = holders_same w k (Sleep s) (refs_same w k (Sleep s) refl refl) ranges
stay_holders w k (Wake s) ranges e = holders_same w k (Wake s) (refs_same w k (Wake s) refl refl) ranges
stay_holders w k (EndPower end) ranges e = holders_same w k (EndPower end) (refs_same w k (EndPower end) refl refl) ranges
stay_holders w k (Plug x) ranges e = holders_same w k (Plug x) (refs_same w k (Plug x) refl refl) ranges
stay_holders w k (Unplug x of) ranges e = holders_same w k (Unplug x of) (refs_same w k (Unplug x of) refl refl) ranges
stay_holders w k Tell ranges e = holders_same w k Tell (refs_same w k Tell refl refl) ranges

pub holders_after : (w : World) (k : ℕ) (d : Deed) → InRange w → next w k ≡ Does d → AreHolders (after w k d).setup (after w k d).refs
holders_after w k d ranges e = rw (after_setup w k d) (stay_holders w k d ranges e)
