-- What is looked up in the tree.
use Rattle.std.proofs.Common.{◌≡◌, ℕ, true, false, ◌||◌, ◌==◌, cond, List, [], ◌∷◌, is_some, Some, refl}
use Rattle.run_rules.specs.declared.world.Dev.{Dev}
use Rattle.run_rules.specs.World.{device_on, serial_of}
use Rattle.run_rules.specs.Search.{is_occupied}

-- a device stands on a spot exactly where one is found there
pub occupied_is : (live : List Dev) (x : ℕ) → is_some (serial_of (device_on live x)) ≡ is_occupied live x
occupied_is [] x = refl
occupied_is (d ∷ ds) x = elim (d.spot == x) as (λ b. is_some (serial_of (cond b (Some d) (device_on ds x))) ≡ (b || is_occupied ds x)) [ true ↦ refl | false ↦ occupied_is ds x ]
