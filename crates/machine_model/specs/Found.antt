-- The values that a spot gives, as the definition has them.
use Rattle.std.specs.Prelude.{ℕ, List, map}
use Rattle.config_rules.specs.MachineText.{GivenValue}
use Rattle.machine_model.specs.declared.locator.FoundValue.{FoundValue}

abbrev pub given_of : FoundValue → GivenValue
given_of v = record { name = v.name.now; value = v.value }

abbrev pub names_of : List FoundValue → List (List ℕ)
names_of found = map (λ v. v.name.now) found
