-- Marks of attributes.
use Rattle.std.specs.Prelude.{◌≡◌, ℕ, Bool, false, true, ◌||◌, List, length, flat_map, slice_get}
use Rattle.std.specs.List.{slice_index_or}
use Rattle.std.specs.Option.{option_to_list}
use Rattle.cf_types.specs.Gather.{is_in}
use Rattle.cf_types.specs.Offers.{named_by}
use Rattle.cf_types.specs.declared.tables.Tables.{Tables}
use Rattle.file_select.specs.declared.marks.Seen.{Seen}

-- these numbers were marked too
pub record AddsMarks (old new : List Bool) (xs : List ℕ) : Type 0 where
  pub size : length new ≡ length old
  pub marked : (a : ℕ) → slice_index_or new a false ≡ (slice_index_or old a false || is_in a xs)

-- of each element that was seen all numbers are marked
pub record AreSeen {X : Type 0} (f : X → List ℕ) (xs : List X) (seen marks : List Bool) : Type 0 where
  pub size : length seen ≡ length xs
  pub marked : (i a : ℕ) → slice_index_or seen i false ≡ true → is_in a (flat_map f (option_to_list (slice_get xs i))) ≡ true → slice_index_or marks a false ≡ true

-- the attributes of the devices and attachments that were seen are marked
pub record HasSeen (t : Tables) (marks : List Bool) (s : Seen) : Type 0 where
  pub devices : AreSeen named_by t.devices s.devices.items marks
  pub attaches : AreSeen (λ x. x.needs) t.attaches s.attaches.items marks
