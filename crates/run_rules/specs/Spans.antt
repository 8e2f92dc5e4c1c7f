-- Between which numbers the spots stand that hang below a spot.
use Rattle.std.specs.Prelude.{◌≡◌, ℕ, suc, ◌≤◌, ◌<◌, true, List, Option, Some, None, slice_get}
use Rattle.std.specs.List.{slice_index_or}
use Rattle.cf_types.specs.declared.machine.Machine.{Machine}
use Rattle.cf_types.specs.declared.machine.Spot.{Spot}
use Rattle.cf_types.specs.declared.tables.Place.{Place}
use Rattle.run_rules.specs.declared.world.Span.{Span}
use Rattle.run_rules.specs.Search.{is_child}

-- a number of the span
abbrev pub Covers : Span → ℕ → Type 0
Covers span x = (span.first ≤ x) × (x < span.end)

-- where the span of a parent stands: that of the root first, and then those of the spots
abbrev pub seat_of : Option ℕ → ℕ
seat_of None = 0
seat_of (Some x) = suc x

-- the span of a parent; where none stands, that of all spots
abbrev pub span_at : List Span → Option ℕ → Span
span_at spans parent = slice_index_or spans (seat_of parent) (record { first = 0; end = 1024 })

-- each spot stands in the span of its parent
abbrev pub AreSpansOf : Machine → List Span → Type 0
AreSpansOf m spans = (x : ℕ) (spot : Spot) → slice_get m.spots x ≡ Some spot → Covers (span_at spans spot.parent) x

-- all spots below a parent stand in the span, at whichever place they hang
abbrev pub HoldsChildren : Machine → Option ℕ → Span → Type 0
HoldsChildren m parent span = (place : Place) (x : ℕ) → is_child m parent place x ≡ true → Covers span x
