-- Reasons in words, a line for each row.
use Rattle.std.specs.Prelude.{ℕ, ◌-◌, nat_lt, max, if◌then◌else◌, List, [], ◌∷◌, ◌++◌, length, map, replicate, slice_get, Option, Some, None, pos, codes, decimal}
use Rattle.std.specs.List.{slice_index_or}
use Rattle.std.specs.Option.{option_map_or}
use Rattle.std.specs.Fmt.{signed_decimal}
use Rattle.cf_types.specs.declared.machine.Machine.{Machine}
use Rattle.cf_types.specs.declared.machine.MatchLine.{MatchLine}
use Rattle.cf_types.specs.declared.tables.Place.{Place}
use Rattle.cf_types.specs.declared.tables.Row.{Row}
use Rattle.cf_types.specs.declared.tables.Tables.{Tables}
use Rattle.cf_types.specs.Locators.{locators_at}
use Rattle.config_rules.specs.Listing.{at_text, attach_name, place_name, row_head, value_text}
use Rattle.run_rules.specs.declared.world.Dev.{Dev}
use Rattle.run_rules.specs.declared.world.Setup.{Setup}
use Rattle.run_rules.specs.Search.{found_at, value_of}
use Rattle.run_rules.specs.World.{device_at, name_of, parent_name, row_at}
use Rattle.match_reasons.specs.declared.reason.Reason.{Reason}
use Rattle.match_reasons.specs.declared.reason.Reason.TheVariants.{Parent, Locator as Missed, NoMatch, Taken, Beaten}
use Rattle.match_reasons.specs.declared.reason.RowReason.{RowReason}
use Rattle.match_reasons.specs.declared.told.Told.{Told}
use Rattle.match_reasons.specs.Reasons.{counting_line, spot_place, told_of}

-- ---- each reason

abbrev pub spot_text : Machine → ℕ → List ℕ
spot_text m x = option_map_or (λ spot. spot.name) (slice_get m.spots x) []

abbrev pub parent_text : Setup → List Dev → ℕ → Row → List ℕ
parent_text s live p row = codes "wants " ++ at_text s.tables row.place row.parent ++ codes ", found " ++ parent_name s live p

abbrev pub locator_text : Setup → Place → ℕ → Row → ℕ → List ℕ
locator_text s place x row i =
    codes "wants " ++ value_text (locators_at s.tables.attrs place) (i, slice_index_or row.locs i (pos 0))
    ++ codes ", found " ++ signed_decimal (slice_index_or (found_at s.machine x) i (pos 0))

-- a match line as in the machine file
abbrev pub match_text : Tables → Machine → Option MatchLine → List ℕ
match_text t m None = codes "no match line"
match_text t m (Some line) =
    codes "match " ++ attach_name t line.attach ++ codes " " ++ option_map_or (spot_text m) line.spot (codes "*") ++ codes " " ++ decimal line.value

abbrev pub unmatched_text : Setup → ℕ → Row → List ℕ
unmatched_text s x row = attach_name s.tables row.attach ++ codes " does not match: " ++ match_text s.tables s.machine (counting_line s.machine row.attach x)

abbrev pub taken_text : Setup → List Dev → ℕ → List ℕ
taken_text s live serial = option_map_or (λ d. name_of s d ++ codes " lives on " ++ spot_text s.machine d.spot) (device_at live serial) []

abbrev pub below_text : ℕ → ℕ → ℕ → List ℕ
below_text own greater q = decimal own ++ codes " below " ++ decimal greater ++ codes " of row " ++ decimal q

abbrev pub equal_text : ℕ → List ℕ
equal_text q = codes "as good as the earlier row " ++ decimal q

abbrev pub beaten_text : Setup → ℕ → ℕ → ℕ → List ℕ
beaten_text s x r q = if nat_lt (value_of s r x) (value_of s q x) then below_text (value_of s r x) (value_of s q x) q else equal_text q

-- why a row does not take a spot below a parent
abbrev pub reason_text : Setup → List Dev → ℕ → ℕ → ℕ → Row → Reason → List ℕ
reason_text s live p x r row Parent = parent_text s live p row
reason_text s live p x r row (Missed i) = locator_text s (spot_place s.machine x) x row i
reason_text s live p x r row NoMatch = unmatched_text s x row
reason_text s live p x r row (Taken serial) = taken_text s live serial
reason_text s live p x r row (Beaten q) = beaten_text s x r q

-- ---- the lines of rows

-- a row in short, as the listing begins its line
abbrev pub head_text : Tables → ℕ → List ℕ
head_text t r = option_map_or (λ row. row_head t (r, row)) (slice_get t.rows r) []

-- the length of the longest
abbrev pub widest : List (List ℕ) → ℕ
widest [] = 0
widest (text ∷ texts) = max (length text) (widest texts)

-- blanks up to a column
abbrev pub padded : ℕ → List ℕ → List ℕ
padded width text = text ++ replicate (width - length text) 32

-- the reason of the row of a number
abbrev pub row_reason_text : Setup → List Dev → ℕ → ℕ → ℕ → Reason → List ℕ
row_reason_text s live p x r why = option_map_or (λ row. reason_text s live p x r row why) (row_at s r) []

-- the reason of a row, or that it takes the spot, in these words
abbrev pub why_text : List ℕ → Setup → List Dev → ℕ → ℕ → RowReason → List ℕ
why_text takes s live p x told = option_map_or (row_reason_text s live p x told.row) told.reason takes

-- the length of the longest head of these rows
abbrev pub column : Tables → List ℕ → ℕ
column t rows = widest (map (head_text t) rows)

-- the head of a row, up to what is said of it
abbrev pub row_front : ℕ → Tables → ℕ → List ℕ
row_front width t r = padded width (head_text t r) ++ codes "  "

abbrev pub row_text : List ℕ → ℕ → Setup → List Dev → ℕ → ℕ → RowReason → List ℕ
row_text takes width s live p x told = row_front width s.tables told.row ++ why_text takes s live p x told

-- how many rows are not told
abbrev pub others_text : Tables → Place → ℕ → List ℕ
others_text t place n = codes "rows of drivers that do not attach at " ++ place_name t place ++ codes ": " ++ decimal n

-- the lines of what is told of a spot below a parent, where the row without a reason is told in these words
unfoldable pub told_lines : List ℕ → Setup → List Dev → ℕ → ℕ → Told → List (List ℕ)
told_lines takes s live p x told =
    map (row_text takes (column s.tables (map (λ it. it.row) told.rows)) s live p x) told.rows ++ others_text s.tables (spot_place s.machine x) told.others ∷ []

abbrev pub reason_lines : List ℕ → Setup → List Dev → ℕ → ℕ → List (List ℕ)
reason_lines takes s live p x = told_lines takes s live p x (told_of s live p x)
