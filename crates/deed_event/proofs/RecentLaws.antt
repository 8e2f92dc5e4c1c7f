-- What is kept of the acts that were told is what is told again.
use Rattle.std.proofs.Common.{◌≡◌, ℕ, Bool, true, false, List, Option, Some, None, option_map, refl}
use Rattle.std.specs.Option.{option_map_or}
use Rattle.run_rules.specs.declared.world.Dev.{Dev}
use Rattle.run_rules.specs.declared.world.Setup.{Setup}
use Rattle.run_rules.specs.World.{device_at, name_of, parent_name, root_name}
use Rattle.run_world.specs.declared.recent.Called.{Called}
use Rattle.run_world.specs.Recent.{act_telling, called, called_at, name_called, parent_called}
use Rattle.deed_event.specs.Resting.{rest_of, resting}

named_so : (s : Setup) (o : Option Dev) (other : List ℕ) → option_map_or (name_called s) (option_map called o) other ≡ option_map_or (name_of s) o other
named_so s None other = refl
named_so s (Some d) other = refl

pub parent_told : (s : Setup) (live : List Dev) (p : ℕ) → parent_called s (called_at live p) ≡ parent_name s live p
unfolding parent_name
parent_told s live p = named_so s (device_at live p) root_name

pub rest_told : (s : Setup) (asleep : Bool) (of : Called) → act_telling s (resting asleep of) ≡ rest_of asleep (name_called s of)
rest_told s true of = refl
rest_told s false of = refl
