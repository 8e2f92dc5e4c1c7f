-- The numbers of the attachments of a device.
use Rattle.std.specs.Prelude.{◌≡◌, ◌==◌, ℕ, if◌then◌else◌, List, [], Some, None, filter_map}
use Rattle.std.specs.List.{enumerate_from, slice_index_or}
use Rattle.cf_types.specs.declared.tables.Attach.{Attach}

-- the numbers of the attachments of a device, in order
abbrev pub attaches_of : List Attach → ℕ → List ℕ
attaches_of attaches device = filter_map (λ a. if a.1.device == device then Some a.0 else None) (enumerate_from 0 attaches)

-- the numbers that are listed for a device
abbrev pub numbers_at : List (List ℕ) → ℕ → List ℕ
numbers_at lists device = slice_index_or lists device []

-- for each device the numbers of its attachments are listed
abbrev pub AreOfDevices : List (List ℕ) → List Attach → Type 0
AreOfDevices lists attaches = (device : ℕ) → numbers_at lists device ≡ attaches_of attaches device
