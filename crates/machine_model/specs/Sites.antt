-- Where a new spot hangs, and its codes in two parts.
use Rattle.std.specs.Prelude.{◌≡◌, ◌&&◌, ℕ, List, None, Option, Some, bytes_eq, codes, is_none, is_some, length, map, nat_le, nat_lt, not}
use Rattle.cf_types.specs.declared.code.machine.TheConstants.{SPOT_TWICE, UNKNOWN_SPOT, NO_INTERFACE, TOO_MANY_SPOTS, TOO_DEEP}
use Rattle.cf_types.specs.declared.machine.Spot.{Spot}
use Rattle.cf_types.specs.declared.tables.Locator.{Locator}
use Rattle.cf_types.specs.declared.tables.Tables.{Tables}
use Rattle.cf_types.specs.Lookups.{spot_number}
use Rattle.config_rules.specs.Form.{given, ◌or◌}
use Rattle.config_rules.specs.MachineText.{GivenValue, depth_of, found_fault, found_value, is_one, spot_above, spot_locators, spot_place}
use Rattle.machine_model.specs.declared.draft.Draft.{Draft}
use Rattle.machine_model.specs.declared.spot.SpotSite.{SpotSite}
use Rattle.machine_model.specs.Names.{number_of, slot_of}

-- the first code of a name, a parent and an attribute
abbrev pub site_fault : Tables → List Spot → List ℕ → List ℕ → List ℕ → Option ℕ
site_fault t spots name parent attr =
    given (is_some (spot_number spots name)) SPOT_TWICE
    or (given (not (bytes_eq parent (codes "root")) && is_none (spot_above spots parent)) UNKNOWN_SPOT
    or given (is_none (spot_place t parent attr)) NO_INTERFACE)

-- the first code of the values that are found, of the number of spots and of the depth
abbrev pub found_fault_at : List Spot → Option ℕ → List Locator → List GivenValue → Option ℕ
found_fault_at spots above locs found =
    found_fault locs found
    or (given (nat_le 1024 (length spots)) TOO_MANY_SPOTS
    or given (nat_lt 64 (depth_of (length spots) spots above)) TOO_DEEP)

-- where a spot of these words hangs, and the slot of its name, which is new
pub record IsSite (t : Tables) (draft : Draft) (name parent attr : List ℕ) (site : SpotSite) : Type 0 where
  pub above : site.above ≡ spot_above draft.machine.spots parent
  pub place : spot_place t parent attr ≡ Some site.place
  pub locators : site.locators.now ≡ spot_locators t parent attr
  pub new : number_of draft.names name ≡ None
  pub slot : site.slot ≡ slot_of (length draft.names.slots.items) name

-- the spot at a site
abbrev pub spot_at : SpotSite → List ℕ → List GivenValue → List (List ℕ) → Spot
spot_at site name found marks = record {
  name = name;
  parent = site.above;
  place = site.place;
  found = map (found_value found) site.locators.now;
  late = is_one marks (codes "late");
  absent = is_one marks (codes "absent");
  bad = is_one marks (codes "bad");
}
