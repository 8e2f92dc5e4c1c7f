-- What goes with a group of rows.
use Rattle.std.specs.Prelude.{◌≡◌, ℕ, Bool, not, ◌==◌, List, ◌++◌, map, filter}
use Rattle.run_rules.specs.declared.world.Dev.{Dev}
use Rattle.live_rules.specs.declared.plan.LiveLine.{LiveLine}
use Rattle.live_rules.specs.Live.{is_doomed}
use Rattle.live_tables.specs.Running.{Running}

-- of each live device whether it is doomed
abbrev pub dooms : Running → ℕ → List Bool
dooms r g = map (λ d. is_doomed r.site r.world.live g d.serial) r.world.live

-- these devices live
abbrev pub with_live : Running → List Dev → Running
with_live r live = record r { world = record r.world { live = live } }

-- the device of a serial is gone
abbrev pub without_device : Running → ℕ → Running
without_device r s = with_live r (filter (λ d. not (d.serial == s)) r.world.live)

-- these groups are on
abbrev pub with_groups : Running → List ℕ → Running
with_groups r on = record r { world = record r.world { on = on } }

-- lines stand behind those that were there
pub record Grows (old new : List LiveLine) : Type 0 where
  pub more : List LiveLine
  pub lines : new ≡ old ++ more
