-- Which units of devices are taken: for each device a list of units, of which no clause tells the order.
use Rattle.std.specs.Prelude.{◌≡◌, ℕ, ◌<◌, ◌≤◌, ◌*◌, ◌/◌, ◌%◌, ◌^◌, max, Bool, true, false, not, ◌&&◌, ◌||◌, ◌==◌, List, [], filter, length}
use Rattle.std.specs.Int.{bit_at}
use Rattle.std.specs.List.{count_by, slice_index_or}
use Rattle.cf_types.specs.Gather.{is_in}
use Rattle.cf_types.specs.Numbers.{below}

-- whether a unit of a device is taken
abbrev pub is_taken : List (List ℕ) → ℕ → ℕ → Bool
is_taken taken device unit = is_in unit (slice_index_or taken device [])

-- at most 1,024 numbers pass the test
abbrev pub PassesFew : (ℕ → Bool) → Type 0
PassesFew test = (n : ℕ) → count_by test (below n) ≤ 1024

-- whether a unit is set in a bitmap: bit k of word w stands for unit 64 * w + k
abbrev pub is_set : List ℕ → ℕ → Bool
is_set words n = bit_at (slice_index_or words (n / 64) 0) (n % 64) == 1

-- the units that are set in a bitmap, in their order
unfoldable pub units_of : List ℕ → List ℕ
units_of words = filter (is_set words) (below (64 * length words))

-- a bitmap has room for each unit below 2 ^ 32 and no more, and all units of the words before this one are set
pub record AreFull (full : ℕ) (words : List ℕ) : Type 0 where
  pub short : length words ≤ 2 ^ 26
  pub before : (n : ℕ) → n < 64 * full → is_set words n ≡ true

-- at least so many words, and the same units are set
pub record IsGrown (old : List ℕ) (count : ℕ) (new : List ℕ) : Type 0 where
  pub words : length new ≡ max (length old) count
  pub set : (n : ℕ) → is_set new n ≡ is_set old n

-- this unit is in the second list, too, and else nothing is another
abbrev pub IsWith : ℕ → List ℕ → List ℕ → Type 0
IsWith unit old new = (n : ℕ) → is_in n new ≡ (is_in n old || unit == n)

-- this unit is in the second list no longer, and else nothing is another
abbrev pub IsWithout : ℕ → List ℕ → List ℕ → Type 0
IsWithout unit old new = (n : ℕ) → is_in n new ≡ (not (unit == n) && is_in n old)

-- the least number from the first one on that fails the test
pub record IsLeastFree (test : ℕ → Bool) (first number : ℕ) : Type 0 where
  pub from_first : first ≤ number
  pub free : test number ≡ false
  pub least : (n : ℕ) → first ≤ n → n < number → test n ≡ true

-- so many devices, and no unit of any is taken
pub record NoneTaken (count : ℕ) (taken : List (List ℕ)) : Type 0 where
  pub devices : length taken ≡ count
  pub none : (device unit : ℕ) → is_taken taken device unit ≡ false

-- this unit of this device is taken too, and else nothing is another
pub record TakenToo (old new : List (List ℕ)) (device unit : ℕ) : Type 0 where
  pub devices : length new ≡ length old
  pub taken : (d n : ℕ) → is_taken new d n ≡ (is_taken old d n || (device == d && unit == n))

-- this unit of this device is taken no longer, and else nothing is another
pub record GivenBack (old new : List (List ℕ)) (device unit : ℕ) : Type 0 where
  pub devices : length new ≡ length old
  pub taken : (d n : ℕ) → is_taken new d n ≡ (not (device == d && unit == n) && is_taken old d n)
