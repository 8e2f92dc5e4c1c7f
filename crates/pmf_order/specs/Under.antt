-- What is known of a device by the end of the walk up its chain of parents.
use Rattle.std.specs.Prelude.{◌≡◌, ℕ, true, false, List}
use Rattle.run_rules.specs.declared.world.Dev.{Dev}
use Rattle.run_rules.specs.Chains.{NeverMeets}
use Rattle.run_rules.specs.World.{is_under}
use Rattle.pmf_order.specs.declared.under.Way.{Way}
use Rattle.pmf_order.specs.declared.under.Way.TheVariants.{Under, Apart, Open}

abbrev pub Leads : List Dev → ℕ → ℕ → Way → Type 0
Leads live target s Under = is_under live target s ≡ true
Leads live target s Apart = NeverMeets live target s
Leads live target s Open = is_under live target s ≡ false
