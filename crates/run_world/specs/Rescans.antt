-- The locator values that a rescan may give.
use Rattle.std.specs.Prelude.{◌≡◌, ℕ, true, List, is_some, map}
use Rattle.cf_types.specs.Locators.{locators_at}
use Rattle.cf_types.specs.declared.machine.Given.{Given}
use Rattle.cf_types.specs.declared.tables.Place.TheVariants.{At}
use Rattle.run_rules.specs.Next.{wanted_of}
use Rattle.run_rules.specs.declared.world.Setup.{Setup}

-- the values that a command gives are of locators of the attribute, each of another
abbrev pub IsKnown : Setup → List Given → ℕ → Type 0
IsKnown s given a = is_some (wanted_of (map (λ l. l.name) (locators_at s.tables.attrs (At a))) given) ≡ true
