-- What following a chain of parents shows.
use Rattle.std.specs.Prelude.{◌≡◌, ℕ, true, false, List}
use Rattle.run_rules.specs.declared.world.Dev.{Dev}
use Rattle.run_rules.specs.Chains.{NeverMeets}
use Rattle.run_rules.specs.World.{is_under}
use Rattle.plain_choice.specs.declared.under.Shown.{Shown}
use Rattle.plain_choice.specs.declared.under.Shown.TheVariants.{Meets, Misses, Unmet}

-- what is shown of a chain that was followed
abbrev pub Shows : List Dev → ℕ → ℕ → Shown → Type 0
Shows live target s Meets = is_under live target s ≡ true
Shows live target s Misses = NeverMeets live target s
Shows live target s Unmet = is_under live target s ≡ false
