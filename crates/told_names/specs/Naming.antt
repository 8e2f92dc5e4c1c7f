-- What is told of those that come.
use Rattle.std.specs.Prelude.{◌<◌, length, IfSome, Option}
use Rattle.run_rules.specs.declared.world.Arrival.{Arrival}
use Rattle.run_rules.specs.declared.world.Setup.{Setup}

-- what comes has a row
abbrev pub HasRow : Setup → Option Arrival → Type 0
HasRow s got = IfSome got (λ a. a.row < length s.tables.rows)
