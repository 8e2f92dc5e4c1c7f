-- How many devices live.
use Rattle.std.proofs.Common.{◌≢◌, ◌≤◌, List, [], ◌∷◌, length}
use Rattle.run_rules.specs.declared.world.Dev.{Dev}
use Rattle.run_rules.specs.Sound.{EachLater, IsApart}
use Rattle.run_rules.proofs.Devices.{all_imp}
use Rattle.live_rules.specs.Laws.{IsSound}
use Rattle.live_rules.specs.Live.{LiveWorld, LiveSite}
use Rattle.live_rules.proofs.Lists.{few_keys}

apart_spots : (t : LiveSite) (live : List Dev) → EachLater (IsApart t.setup) live → EachLater (λ (d e : Dev). d.spot ≢ e.spot) live
apart_spots t [] h = tt
apart_spots t (d ∷ ds) h = (all_imp (IsApart t.setup d) (λ (e : Dev). d.spot ≢ e.spot) (λ e a. a.spots) ds h.0, apart_spots t ds h.1)

-- no more than there are spots
pub few_live : (t : LiveSite) (w : LiveWorld) → IsSound t w → length w.live ≤ length t.setup.machine.spots
few_live t w h = few_keys (λ (d : Dev). d.spot) (length t.setup.machine.spots) w.live (apart_spots t w.live h.devices.apart) h.spots
