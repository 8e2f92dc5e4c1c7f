-- A group is off whose devices are gone.
use Rattle.std.proofs.Common.{◌≡◌, ◌==◌, ℕ, true, false, not}
use Rattle.std.specs.Prelude.{filter}
use Rattle.std.specs.List.{AllByRecursion}
use Rattle.run_rules.specs.declared.world.Dev.{Dev}
use Rattle.run_rules.specs.World.{driver_of}
use Rattle.run_rules.proofs.Devices.{all_both}
use Rattle.live_rules.specs.Laws.{IsSound}
use Rattle.live_rules.specs.Live.{LiveWorld, LiveSite, group_of, is_in, is_on}
use Rattle.live_rules.proofs.Kept.{on_without}

pub off_sound : (t : LiveSite) (w : LiveWorld) (g : ℕ) → IsSound t w → AllByRecursion (λ d. is_in t g d.row ≡ false) w.live → IsSound t (record w { on = filter (λ h. not (h == g)) w.on })
off_sound t w g h none = record {
  low = h.low;
  devices = h.devices;
  spots = h.spots;
  rows = h.rows;
  on = all_both (λ (d : Dev). is_on t w.on d.row ≡ true) (λ (d : Dev). is_in t g d.row ≡ false) (λ (d : Dev). is_on t (filter (λ k. not (k == g)) w.on) d.row ≡ true)
      (λ d on out. on_without w.on g (group_of t.groups (driver_of t.setup d.row)) on out) w.live h.on none;
}
