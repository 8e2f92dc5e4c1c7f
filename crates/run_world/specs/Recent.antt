-- What is kept of the events that were told, so that later ones share it.
use Rattle.std.specs.Prelude.{◌≡◌, ℕ, List, Option, None, IfSome, option_map}
use Rattle.std.specs.List.{AllByRecursion}
use Rattle.std.specs.Option.{option_map_or}
use Rattle.run_rules.specs.declared.event.Act.{Act}
use Rattle.run_rules.specs.declared.event.Act.TheVariants as act
use Rattle.run_rules.specs.declared.world.Dev.{Dev}
use Rattle.run_rules.specs.declared.world.Setup.{Setup}
use Rattle.run_rules.specs.Run.{spot_name}
use Rattle.run_rules.specs.World.{device_at, root_name, unit_name}
use Rattle.run_world.specs.declared.recent.Called.{Called}
use Rattle.run_world.specs.declared.recent.KeptAct.{KeptAct}
use Rattle.run_world.specs.declared.recent.KeptName.{KeptName}
use Rattle.run_world.specs.declared.recent.Recent.{Recent}
use Rattle.run_world.specs.declared.recent.Telling.{Telling}
use Rattle.run_world.specs.declared.recent.Telling.TheVariants.{NothingFound, Sleeps, Wakes}

-- how a device is called
abbrev pub called : Dev → Called
called d = record { row = d.row; unit = d.unit }

-- how the live device of a serial is called; the root has no row
abbrev pub called_at : List Dev → ℕ → Option Called
called_at live s = option_map called (device_at live s)

-- the name of what is called so
abbrev pub name_called : Setup → Called → List ℕ
name_called s c = unit_name s c.row c.unit

-- the name of a parent that is called so, or of the root
abbrev pub parent_called : Setup → Option Called → List ℕ
parent_called s of = option_map_or (name_called s) of root_name

-- the act that tells this
abbrev pub act_telling : Setup → Telling → Act
act_telling s (NothingFound parent spot) = act.Found (parent_called s parent) (spot_name s spot) None
act_telling s (Sleeps device) = act.Sleep (name_called s device)
act_telling s (Wakes device) = act.Wake (name_called s device)

-- an act that is kept tells what it is kept for
abbrev pub TellsSo : Setup → Option KeptAct → Type 0
TellsSo s kept = IfSome kept (λ k. k.act ≡ act_telling s k.telling)

-- a name that is kept is that of what is called so
abbrev pub NamesSo : Setup → Option KeptName → Type 0
NamesSo s kept = IfSome kept (λ k. k.name ≡ name_called s k.of)

pub record AreRecent (s : Setup) (r : Recent) : Type 0 where
  pub acts : AllByRecursion (TellsSo s) r.acts.items
  pub names : AllByRecursion (NamesSo s) r.names.items
