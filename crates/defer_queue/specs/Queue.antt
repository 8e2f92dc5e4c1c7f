-- The scans that were put off, in that order: after config_defer(9) and config_interrupts(9).
use Rattle.std.specs.Prelude.{◌≡◌, ℕ, not, List, [], ◌∷◌, ◌++◌, filter, ◌<◌, ◌+◌, true, false, length}
use Rattle.std.specs.List.{HoldsAt, AllWithin}
use Rattle.run_rules.specs.declared.world.Deferred.{Deferred}
use Rattle.run_rules.specs.declared.world.Key.{Key}
use Rattle.run_rules.specs.After.{same_key}

-- a scan that was put off: to what, and of which device
abbrev pub entry_of : Key → ℕ → Deferred
entry_of key child = record { key = key; child = child }

-- those that were put off to a key, and all others
abbrev pub entries_of : List Deferred → Key → List Deferred
entries_of queue key = filter (λ e. same_key e.key key) queue

abbrev pub others_of : List Deferred → Key → List Deferred
others_of queue key = filter (λ e. not (same_key e.key key)) queue

-- one scan was taken off, and behind it none was put off to its key
pub record TakesLast (old : List Deferred) (key : Key) (child : ℕ) (new : List Deferred) : Type 0 where
  pub before : List Deferred
  pub behind : List Deferred
  pub was : old ≡ before ++ entry_of key child ∷ behind
  pub is : new ≡ before ++ behind
  pub last : entries_of behind key ≡ []

-- the last place of a scan that was put off to a key
pub record IsLastPlace (queue : List Deferred) (key : Key) (place : ℕ) : Type 0 where
  pub within : place < length queue
  pub here : HoldsAt (λ e. same_key e.key key ≡ true) queue place
  pub behind : AllWithin (λ e. same_key e.key key ≡ false) queue (place + 1) (length queue)
