-- Which rows suit a spot before any device is live, and which of two is the better there.
use Rattle.std.specs.Prelude.{◌≡◌, ℕ, Bool, false, ◌&&◌, ◌||◌, ◌==◌, nat_lt, List, slice_get}
use Rattle.std.specs.Option.{option_map_or}
use Rattle.cf_types.specs.declared.machine.Machine.{Machine}
use Rattle.cf_types.specs.declared.tables.Place.{Place}
use Rattle.cf_types.specs.declared.tables.Tables.{Tables}
use Rattle.cf_types.specs.Gather.{is_in}
use Rattle.cf_types.specs.Locators.{locators_at, submatch}
use Rattle.run_rules.specs.Search.{found_at, match_value}
use Rattle.run_rules.specs.Sound.{EachLater}
use Rattle.run_rules.specs.World.{same_place}

-- the match value of a row's attachment at a spot
abbrev pub worth : Tables → Machine → ℕ → ℕ → ℕ
worth t m r x = match_value m (option_map_or (λ row. row.attach) (slice_get t.rows r) 0) x

-- the row hangs at the place, passes submatch at the spot and has a match value above 0 there
abbrev pub suits : Tables → Machine → Place → ℕ → ℕ → Bool
suits t m place x r =
    option_map_or (λ row.
    same_place row.place place && nat_lt 0 (match_value m row.attach x) && submatch (locators_at t.attrs place) row.locs (found_at m x))
    (slice_get t.rows r) false

-- the row has the greater match value, or the same and comes earlier
abbrev pub is_better : Tables → Machine → ℕ → ℕ → ℕ → Bool
is_better t m x r q = nat_lt (worth t m q x) (worth t m r x) || (worth t m r x == worth t m q x && nat_lt r q)

-- just the rows that suit the spot at the place, and none is better than one before it
pub record AreBestFirst (t : Tables) (m : Machine) (place : Place) (x : ℕ) (rows : List ℕ) : Type 0 where
  pub each : (r : ℕ) → is_in r rows ≡ suits t m place x r
  pub order : EachLater (λ q r. is_better t m x r q ≡ false) rows

-- whether the spot hangs at the place
abbrev pub hangs_at : Machine → ℕ → Place → Bool
hangs_at m x place = option_map_or (λ spot. same_place spot.place place) (slice_get m.spots x) false
