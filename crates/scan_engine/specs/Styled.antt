-- The styles of buses, by attachment and attribute.
use Rattle.std.specs.Prelude.{◌≡◌, ℕ, Bool, false, ◌&&◌, ◌==◌, List, find, reverse, slice_get, unwrap_or}
use Rattle.std.specs.BTreeMap.{BTreeMap, get}
use Rattle.std.specs.Option.{option_map_or}
use Rattle.std.specs.Ordering.{nat_cmp}
use Rattle.cf_types.specs.declared.machine.Machine.{Machine}
use Rattle.cf_types.specs.declared.machine.StyleLine.{StyleLine}
use Rattle.scan_engine.specs.declared.styles.Styles.{Styles}

-- whether an attribute is kept as indirect
abbrev pub styled : BTreeMap ℕ Bool → ℕ → Bool
styled list attr = unwrap_or (get nat_cmp list attr) false

-- the same for an attribute of an attachment
abbrev pub style_in : List (BTreeMap ℕ Bool) → ℕ → ℕ → Bool
style_in lists attach attr = option_map_or (λ list. styled list attr) (slice_get lists attach) false

-- what the last line for both says
abbrev pub style_by : List StyleLine → ℕ → ℕ → Bool
style_by lines attach attr = option_map_or (λ line. line.indirect) (find (λ line. line.attach == attach && line.attr == attr) (reverse lines)) false

-- the lists have the styles that the lines give
abbrev pub AreStylesBy : List StyleLine → List (BTreeMap ℕ Bool) → Type 0
AreStylesBy lines lists = (attach attr : ℕ) → style_in lists attach attr ≡ style_by lines attach attr

-- these are the styles of a machine
abbrev pub AreStylesOf : Machine → Styles → Type 0
AreStylesOf m styles = AreStylesBy m.styles styles.lists.items
