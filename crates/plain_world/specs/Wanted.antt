-- The locator values that a rescan wants, the first of them before the others.
use Rattle.std.specs.Prelude.{ℕ, ◌==◌, if◌then◌else◌, List, ◌∷◌, Option, Some, None, map, option_and_then}
use Rattle.std.specs.List.{list_any}
use Rattle.cf_types.specs.declared.machine.Given.{Given}
use Rattle.cf_types.specs.declared.tables.Locator.{Locator}
use Rattle.cf_types.specs.Lookups.{place_of_name}
use Rattle.run_rules.specs.declared.world.Wanted.{Wanted}

abbrev pub names_of : List Locator → List (List ℕ)
names_of locators = map (λ l. l.name) locators

-- the value for a locator before those for the others; none where it is no locator, or is wanted already
abbrev pub wants : List (List ℕ) → Given → List Wanted → Option (List Wanted)
wants names g rest =
    option_and_then (λ i. if list_any (λ v. v.place == i) rest then None else Some (record { place = i; value = g.value } ∷ rest)) (place_of_name names g.name)
