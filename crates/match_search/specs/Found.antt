-- The locators of an attribute that was looked up.
use Rattle.std.specs.Prelude.{List, [], Option}
use denote.Ref.{Bor}
use Rattle.std.specs.Option.{option_map_or}
use Rattle.cf_types.specs.declared.tables.Attr.{Attr}
use Rattle.cf_types.specs.declared.tables.Locator.{Locator}

abbrev pub locators_in : Option (Bor Attr) → List Locator
locators_in attr = option_map_or (λ a. a.now.locs) attr []
