-- Acts that are told again and again.
use Rattle.std.specs.Prelude.{◌≡◌, ℕ, List, Option, None}
use Rattle.run_rules.specs.declared.event.Act.{Act}
use Rattle.run_rules.specs.declared.event.Act.TheVariants as act
use Rattle.run_rules.specs.declared.world.Setup.{Setup}
use Rattle.run_rules.specs.Run.{spot_name}
use Rattle.run_rules.specs.World.{unit_name}
use Rattle.plain_world.specs.Noted.{AllNoted}
use Rattle.plain_event.specs.declared.act.Again.{Again}
use Rattle.plain_event.specs.declared.act.Again.TheVariants as again
use Rattle.plain_event.specs.declared.act.ActKey.{ActKey}
use Rattle.plain_event.specs.declared.act.KnownAct.{KnownAct}

-- what is told of a device of a row and a unit, and of a spot
abbrev pub act_told : Setup → Again → ℕ → ℕ → ℕ → Act
act_told s again.Nothing row unit x = act.Found (unit_name s row unit) (spot_name s x) None
act_told s again.Asleep row unit x = act.Sleep (unit_name s row unit)
act_told s again.Awake row unit x = act.Wake (unit_name s row unit)

abbrev pub act_by : Setup → ActKey → Act
act_by s key = act_told s key.again key.row key.unit key.spot

-- each act that is kept is that of its key
abbrev pub IsKept : Setup → KnownAct → Type 0
IsKept s k = k.act ≡ act_by s k.key

abbrev pub AreKept : Setup → List (Option KnownAct) → Type 0
AreKept s kept = AllNoted (IsKept s) kept
