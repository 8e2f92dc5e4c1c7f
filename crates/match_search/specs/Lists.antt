-- Lists of rows by their places.
use Rattle.std.specs.Prelude.{◌≡◌, ℕ, true, List, slice_get}
use Rattle.std.specs.List.{slice_index_or}
use Rattle.std.specs.Option.{ForSome}
use Rattle.cf_types.specs.declared.tables.Place.{Place}
use Rattle.cf_types.specs.declared.tables.Place.TheVariants.{Root, At}
use Rattle.cf_types.specs.declared.tables.Row.{Row}
use Rattle.cf_types.specs.Gather.{is_in}
use Rattle.match_search.specs.declared.lists.PlaceLists.{PlaceLists}
use Rattle.match_search.specs.Fixed.{lists_of}

-- the list of a place: an attribute without a list shares that of the root
abbrev pub rows_in : PlaceLists → Place → List ℕ
rows_in lists Root = lists.root.items
rows_in lists (At a) = slice_index_or (lists_of lists.attrs.items) a lists.root.items

-- the row is in the list of its place
abbrev pub IsListed : List Row → PlaceLists → ℕ → Type 0
IsListed rows lists r = ForSome (slice_get rows r) (λ row. is_in r (rows_in lists row.place) ≡ true)

-- each row is in the list of its place
abbrev pub AreListed : List Row → PlaceLists → Type 0
AreListed rows lists = (r : ℕ) → IsListed rows lists r

-- what was in a list is there still, and the row is in the list of its place
pub record HasRow (old new : PlaceLists) (place : Place) (row : ℕ) : Type 0 where
  pub kept : (p : Place) (r : ℕ) → is_in r (rows_in old p) ≡ true → is_in r (rows_in new p) ≡ true
  pub there : is_in row (rows_in new place) ≡ true
