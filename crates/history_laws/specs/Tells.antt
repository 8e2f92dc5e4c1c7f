-- What the lines of a tree tell, as far as it can be counted on the lines of its history.
use Rattle.std.specs.Prelude.{◌≡◌, ◌⊎◌, ◌<◌, ℕ, ◌-◌, true, nat_lt, if◌then◌else◌, List, map, filter, count_by, Some, bytes_eq, pos}
use Rattle.std.specs.List.{AllByRecursion}
use Rattle.cf_types.specs.declared.tree.DevLine.{DevLine}
use Rattle.cf_types.specs.declared.tree.Hold.{Hold}
use Rattle.run_rules.specs.declared.event.Event.{Event}
use Rattle.run_rules.specs.Laws.{holds, is_asleep_in, lives, parent_in, sole_in}
use Rattle.run_rules.specs.References.{possible_holders}
use Rattle.history_laws.specs.Counted.{granted, returned}

-- what a caller has of X: how often, and whether it has it solely
abbrev pub hold_in : List Event → List ℕ → ℕ → Hold
hold_in h x k = record { caller = k; count = granted h k x - returned h k x; sole = sole_in h k x }

-- who holds X, by caller: those to which it was granted more often than they gave it back
unfoldable pub holders_in : List Event → List ℕ → List Hold
holders_in h x = map (hold_in h x) (filter (λ k. nat_lt (returned h k x) (granted h k x)) possible_holders)

-- a line of the tree is of a device that lives, with its parent, its sleep and those that hold it
pub record TellsDevice (h : List Event) (l : DevLine) : Type 0 where
  pub lives : lives h l.name ≡ true
  pub parent : parent_in h l.name ≡ Some l.parent
  pub asleep : is_asleep_in h l.name ≡ l.asleep
  pub holders : l.holders ≡ holders_in h l.name

-- each line does, each device that lives has one line and no other has any, and only the callers 1 to 16 hold something
pub record TellsTree (h : List Event) (ls : List DevLine) : Type 0 where
  pub each : AllByRecursion (TellsDevice h) ls
  pub once : (x : List ℕ) → count_by (λ l. bytes_eq l.name x) ls ≡ (if lives h x then 1 else 0)
  pub nobody_else : (k : ℕ) (x : List ℕ) → (k ≡ 0) ⊎ (16 < k) → holds h k x ≡ pos 0
