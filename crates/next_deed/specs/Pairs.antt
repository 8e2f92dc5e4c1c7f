-- The turns of one bus.
use Rattle.std.specs.Prelude.{◌≡◌, ℕ, ◌<◌, true, false, List, Option, Some, length, option_map}
use Rattle.cf_types.specs.declared.tables.Place.{Place}
use Rattle.run_rules.specs.declared.world.Position.{Position}
use Rattle.run_rules.specs.declared.world.Turn.{Turn}
use Rattle.run_rules.specs.declared.world.Wanted.{Wanted}
use Rattle.run_rules.specs.Search.{is_before, is_child}
use Rattle.run_rules.specs.World.{World}
use Rattle.next_deed.specs.Turns.{is_due_at, is_open_at}

-- the turn of the same bus at a row and a spot
abbrev pub at_pair : Turn → ℕ → ℕ → Turn
at_pair t r x = record { at = record { attr = t.at.attr; row = r; spot = x }; place = t.place; indirect = t.indirect }

-- between a turn and a later position no turn of its bus is due
abbrev pub IsIdle : World → ℕ → List Wanted → Option ℕ → Turn → Position → Type 0
IsIdle w p filter parent t next =
    (r x : ℕ) → x < length w.setup.machine.spots → is_child w.setup.machine parent t.place x ≡ true
    → is_before t.at (at_pair t r x).at ≡ true → is_before (at_pair t r x).at next ≡ true
    → is_due_at w p filter (at_pair t r x) ≡ false

-- where a spot is due on the bus of a turn: the row that takes it
abbrev pub IsWhereDue : World → ℕ → List Wanted → Option ℕ → Turn → ℕ → Option Position → Type 0
IsWhereDue w p filter parent t x found =
    (r : ℕ) → t.indirect ≡ true → is_child w.setup.machine parent t.place x ≡ true → is_due_at w p filter (at_pair t r x) ≡ true
    → option_map (λ q. q.row) found ≡ Some r

-- a search of a place may pass a spot: if it hangs there, it is not open
abbrev pub IsPassed : World → List Wanted → Option ℕ → Place → ℕ → Type 0
IsPassed w filter parent place x =
    x < length w.setup.machine.spots → is_child w.setup.machine parent place x ≡ true → is_open_at w filter x ≡ false
