-- What a history that is read again tells.
use Rattle.std.proofs.Common.{◌≡◌, ◌≤◌, Fits, w32, ℕ, List, length, subst, sym, ap, arith}
use Rattle.std.specs.Prelude.{Result, Ok, Err}
use Rattle.cf_io.specs.declared.files.TheConstants.{MAX_FILE}
use Rattle.boot_laws.proofs.Thorough.{thorough}
use Rattle.history_replay.specs.Stops.{IsReplay, IsStop}
use Rattle.history_replay.specs.declared.history.Replayed.{Replayed}
use Rattle.history_replay.specs.declared.history.ReplayStop.{ReplayStop}
use Rattle.history_replay.specs.declared.history.ReplayStop.TheVariants as stops
use Rattle.replay_laws.proofs.Taken.{runs_taken}
use Rattle.run_rules.specs.declared.event.Event.{Event}
use Rattle.run_rules.specs.declared.world.Setup.{Setup}
use Rattle.run_rules.specs.Reread.{reread}
use Rattle.run_rules.specs.World.{World, opening}
use Rattle.run_sound.specs.Kept.{MayRun}
use Rattle.app_tasks.specs.Retold.{Retells}
use Rattle.app_tasks.proofs.BadLines.{bad_within}

-- what is taken is reliable and thorough
pub retells : (s : Setup) (history : List ℕ) (told : Replayed) → MayRun s → IsReplay (reread (opening s) history) (Ok told) → Retells s history (Ok told)
retells s history told may h =
    let taken = runs_taken s history told.events h.0 may h.1 in
    (h.0, h.1, taken.1, thorough s told.events h.0 may taken.0, h.2)

is_bad : (r : Result (List Event × World) ℕ) (line : ℕ) → IsStop (stops.Bad line) r → r ≡ Err line
is_bad (Ok run) line is = absurd is
is_bad (Err bad) line is = ap (λ (n : ℕ). Err n) (sym is)

-- the number of the bad line of a file is told whole
pub line_fits : (s : Setup) (history : List ℕ) (line : ℕ) (stop : ReplayStop) → length history ≤ MAX_FILE → stop ≡ stops.Bad line → IsStop stop (reread (opening s) history) → Fits w32 line
line_fits s history line stop short is bad =
    let bad_is = is_bad (reread (opening s) history) line (subst (λ (x : ReplayStop). IsStop x (reread (opening s) history)) is bad) in
    let within = bad_within (opening s) history line bad_is in
    omega (arith, within, short)
