-- The rows of a configuration that a word names.
use Rattle.std.specs.Prelude.{ℕ, Bool, false, ◌&&◌, ◌||◌, ◌==◌, ◌+◌, nat_le, if◌then◌else◌, List, [], ◌∷◌, ◌++◌, filter, length, map, slice_get, bytes_eq, codes, decimal}
use Rattle.std.specs.List.{list_any}
use Rattle.std.specs.Option.{option_map_or}
use Rattle.cf_text.specs.declared.unit.Split.{Split}
use Rattle.cf_text.specs.declared.unit.Split.TheVariants.{Unit, Star}
use Rattle.cf_text.specs.Split.{split_of}
use Rattle.cf_types.specs.declared.tables.Row.{Row}
use Rattle.cf_types.specs.declared.tables.Tables.{Tables}
use Rattle.cf_types.specs.Numbers.{below}
use Rattle.config_rules.specs.Listing.{device_name, row_line}
use Rattle.gone_rows.specs.Gone.{begins}

-- ---- which rows a word names

-- the row gives its devices the unit
abbrev pub carries : Row → ℕ → Bool
carries row unit = if row.star then nat_le row.unit unit else row.unit == unit

-- the word is the driver with a unit that the row gives, or with a star, which the row has
abbrev pub is_meant : Tables → List ℕ → Row → Split → Bool
is_meant t word row (Unit cut unit) = begins word cut (device_name t row.device) && carries row unit
is_meant t word row (Star cut) = begins word cut (device_name t row.device) && row.star
is_meant t word row _ = false

-- or the driver itself
abbrev pub names_row : Tables → List ℕ → Row → Bool
names_row t word row = bytes_eq (device_name t row.device) word || is_meant t word row (split_of word)

abbrev pub has_row : Tables → List ℕ → ℕ → Bool
has_row t word r = option_map_or (names_row t word) (slice_get t.rows r) false

abbrev pub rows_named : Tables → List ℕ → List ℕ
rows_named t word = filter (has_row t word) (below (length t.rows))

-- ---- what is said of them

-- the number of the line of the listing that has the first row, behind its head and the definitions
abbrev pub first_row : Tables → ℕ
first_row t = length t.attrs + (length t.devices + length t.attaches) + 1

-- the row of a number as in the listing
abbrev pub row_text : Tables → ℕ → List ℕ
row_text t r = option_map_or (λ row. row_line t (r, row)) (slice_get t.rows r) []

abbrev pub count_text : List ℕ → ℕ → List ℕ
count_text word count = codes "rows of " ++ word ++ codes ": " ++ decimal count

abbrev pub rows_lines : Tables → List ℕ → List ℕ → List (List ℕ)
rows_lines t word rows = count_text word (length rows) ∷ map (row_text t) rows

abbrev pub is_driver : Tables → List ℕ → Bool
is_driver t word = list_any (λ d. bytes_eq d.name word) t.devices
