-- Devices that are placed have serials above 0.
use Rattle.std.proofs.Common.{ℕ, ◌<◌, List, arith}
use Rattle.std.specs.List.{AllByRecursion}
use Rattle.run_rules.specs.declared.world.Dev.{Dev}
use Rattle.run_rules.specs.Sound.{IsPlaced}
use Rattle.run_rules.proofs.Devices.{all_imp}

pub all_positive : (live : List Dev) (next : ℕ) → AllByRecursion (IsPlaced live next) live → AllByRecursion (λ d. 0 < d.serial) live
all_positive live next placed = all_imp (IsPlaced live next) (λ d. 0 < d.serial) (λ d p. let a = p.after_parent in omega arith) live placed
