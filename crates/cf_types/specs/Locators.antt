-- The locators of a place, and which values of a row fit those that are found.
use Rattle.std.specs.Prelude.{ℤ, Bool, true, false, ◌&&◌, ◌||◌, List, [], ◌∷◌, slice_get, Option, Some, None}
use Rattle.std.specs.Option.{option_map_or}
use Rattle.std.specs.Ordering.{int_eq}
use Rattle.cf_types.specs.declared.tables.Attr.{Attr}
use Rattle.cf_types.specs.declared.tables.Locator.{Locator}
use Rattle.cf_types.specs.declared.tables.Place.{Place}
use Rattle.cf_types.specs.declared.tables.Place.TheVariants.{Root, At}

-- the locators of a place: the root has none
abbrev pub locators_at : List Attr → Place → List Locator
locators_at attrs Root = []
locators_at attrs (At a) = option_map_or (λ x. x.locs) (slice_get attrs a) []

-- the value is the default, where there is one, or the value found
abbrev pub fits_locator : Option ℤ → ℤ → ℤ → Bool
fits_locator None value found = int_eq value found
fits_locator (Some default) value found = int_eq value default || int_eq value found

-- each value of a row fits the one found, after the submatch of autoconf(9)
unfoldable pub submatch : List Locator → List ℤ → List ℤ → Bool
submatch [] values found = true
submatch (l ∷ locs) (v ∷ values) (f ∷ found) = fits_locator l.default v f && submatch locs values found
submatch (l ∷ locs) [] found = false
submatch (l ∷ locs) (v ∷ values) [] = false
