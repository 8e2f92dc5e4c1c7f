-- How a driver comes into a group.
use Rattle.std.specs.Prelude.{ℕ, ◌==◌, List, Option, Some, None, if◌then◌else◌}
use Rattle.run_rules.specs.World.{has}

-- the group that a driver is in, or else this one
abbrev pub first_number : Option ℕ → ℕ → Option ℕ
first_number (Some h) g = Some h
first_number None g = Some g

-- the same of this driver, and all others stay where they are
abbrev pub joined : ℕ → ℕ → ℕ → Option ℕ → Option ℕ
joined driver g d was = if driver == d then first_number was g else was

-- the same of a driver that is among these
abbrev pub joined_by : List ℕ → ℕ → ℕ → Option ℕ → Option ℕ
joined_by drivers g d was = if has drivers d then first_number was g else was
