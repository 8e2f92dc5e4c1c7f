-- The lists of what is declared: their lengths, the lists of locators in them, the places of an attachment.
use Rattle.std.specs.Prelude.{◌≡◌, ℕ, ◌≤◌, false, Option, option_map, option_and_then, find, slice_get, length, map, All}
use Rattle.cf_types.specs.declared.instance.AttachPlace.{AttachPlace}
use Rattle.cf_types.specs.declared.instance.Target.{Target}
use Rattle.cf_types.specs.declared.tables.Attach.{Attach}
use Rattle.config_rules.specs.Joined.{suits}
use Rattle.cf_types.specs.declared.declared.Declared.{Declared}
use Rattle.config_rules.specs.Fault.{repeats}

-- each attribute has at most 16 locators, of different names
pub record LocatorsFit (d : Declared) : Type 0 where
  pub few : All (λ a. length a.locs ≤ 16) d.attrs
  pub differ : All (λ a. repeats (map (λ l. l.name) a.locs) ≡ false) d.attrs

-- an attachment with its first place that suits
abbrev pub placed_of : Declared → Target → ℕ → Attach → Option AttachPlace
placed_of d target n a = option_map (λ place. record { attach = n; place = place }) (find (suits d target) a.places)

-- the same of the attachment of a number
abbrev pub placed_at : Declared → Target → ℕ → Option AttachPlace
placed_at d target n = option_and_then (placed_of d target n) (slice_get d.attaches n)

-- the lists are within their limits
pub record FitsDeclared (d : Declared) : Type 0 where
  pub attrs : length d.attrs ≤ 65536
  pub devices : length d.devices ≤ 65536
  pub attaches : length d.attaches ≤ 65536
