-- What a tree of live devices keeps beside them.
use Rattle.std.specs.Prelude.{ℕ, Bool, List, Option}
use Rattle.dev_tree.specs.declared.resting.Resting.{Resting}
use Rattle.dev_tree.specs.Bare.{AreBare}
use Rattle.dev_tree.specs.Rest.{AreResting}
use Rattle.dev_tree.specs.Tree.{AreOnSpots, AreSound, Devices}

-- the devices are sound, and of them are told who stands on each spot, who sleeps, and who has no children
abbrev pub Keeps : Devices → List (Option ℕ) → Resting → List Bool → Type 0
Keeps t spots rest bare = AreSound t × (AreOnSpots t.live spots × (AreResting t.live rest × AreBare t.live bare))
