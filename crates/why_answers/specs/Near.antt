-- The rows that a word names, each at the spot of a boot to which it came nearest.
use Rattle.std.specs.Prelude.{ℕ, Bool, ◌&&◌, if◌then◌else◌, List, [], ◌∷◌, ◌++◌, length, map, Option, Some, None, is_some, codes}
use Rattle.std.specs.Option.{option_map_or}
use Rattle.cf_types.specs.declared.tables.Place.{Place}
use Rattle.cf_types.specs.declared.tables.Place.TheVariants.{Root}
use Rattle.config_rules.specs.Listing.{place_name}
use Rattle.run_rules.specs.declared.world.Setup.{Setup}
use Rattle.run_rules.specs.Search.{first_best, parent_ref}
use Rattle.run_rules.specs.World.{row_at, same_place}
use Rattle.match_reasons.specs.declared.reason.Reason.{Reason}
use Rattle.match_reasons.specs.declared.reason.Reason.TheVariants.{Parent, Locator as Missed, NoMatch, Taken, Beaten}
use Rattle.match_reasons.specs.declared.reason.RowReason.{RowReason}
use Rattle.match_reasons.specs.Reasons.{row_reason, spot_place}
use Rattle.why_text.specs.WhyText.{column, row_front, spot_text, why_text}
use Rattle.boot_looks.specs.declared.visit.Look.{Look}
use Rattle.boot_looks.specs.Looks.{look_at}
use Rattle.gone_rows.specs.Gone.{Stated}
use Rattle.gone_rows.specs.GoneText.{gone_lines}
use Rattle.why_answers.specs.Known.{said}
use Rattle.why_answers.specs.Rows.{count_text, rows_named}
use Rattle.why_answers.specs.Takes.{takes_text}

-- ---- how near

-- how many conditions a row at the place of the spot meets, in the order of the search: the place, the parent, the locators, the
-- match, a unit, that no row is better, and that its turn is not over
abbrev pub met : Bool → Option Reason → ℕ
met passed (Some Parent) = 1
met passed (Some (Missed i)) = 2
met passed (Some NoMatch) = 3
met passed (Some (Taken serial)) = 4
met passed (Some (Beaten q)) = 5
met passed None = if passed then 6 else 7

-- the row with the reason why it does not take the spot at a look
abbrev pub reason_in : Setup → ℕ → ℕ → Look → RowReason
reason_in s r x look = row_reason s look.live.devices (parent_ref s look.live.devices look.visit.parent) (spot_place s.machine x) x r

abbrev pub rank_in : Setup → ℕ → ℕ → Look → ℕ
rank_in s r x look = met look.visit.passed (reason_in s r x look).reason

-- at the last look at a spot
abbrev pub rank : Setup → List (Option Look) → ℕ → ℕ → ℕ
rank s looks r x = option_map_or (rank_in s r x) (look_at looks x) 0

-- the place at which a row attaches
abbrev pub place_of : Setup → ℕ → Place
place_of s r = option_map_or (λ row. row.place) (row_at s r) Root

-- a search came to the spot, which has the place of the row
abbrev pub is_near : Setup → List (Option Look) → ℕ → ℕ → Bool
is_near s looks r x = same_place (place_of s r) (spot_place s.machine x) && is_some (look_at looks x)

-- the spot at which the row meets the most conditions, and of equals the first
abbrev pub nearest : Setup → List (Option Look) → ℕ → Option ℕ
nearest s looks r = first_best (is_near s looks r) (rank s looks r) (length s.machine.spots)

-- ---- what is said of it

-- why the row does not take the spot
abbrev pub look_text : Setup → ℕ → ℕ → Look → List ℕ
look_text s r x look = why_text (takes_text look.visit.passed) s look.live.devices look.visit.parent x (reason_in s r x look)

abbrev pub at_text : Setup → List (Option Look) → ℕ → ℕ → List ℕ
at_text s looks r x = codes "spot " ++ spot_text s.machine x ++ codes ": " ++ option_map_or (look_text s r x) (look_at looks x) []

-- no search came to a spot at the place of the row
abbrev pub nowhere_text : Setup → ℕ → List ℕ
nowhere_text s r = codes "no search came to a spot at " ++ place_name s.tables (place_of s r)

abbrev pub near_text : ℕ → Setup → List (Option Look) → ℕ → List ℕ
near_text width s looks r = row_front width s.tables r ++ option_map_or (at_text s looks r) (nearest s looks r) (nowhere_text s r)

abbrev pub near_lines : Setup → List (Option Look) → List ℕ → List ℕ → List (List ℕ)
near_lines s looks word rows = count_text word (length rows) ∷ map (near_text (column s.tables rows) s looks) rows

-- the rows of the word, and behind them its instances that are not in the tables; none if it names nothing
abbrev pub near_answer : Setup → List (Option Look) → Stated → List ℕ → Option (List (List ℕ))
near_answer s looks stated word = said s.tables word (near_lines s looks word (rows_named s.tables word) ++ gone_lines stated word)
