-- What the boot of a generated machine prints.
use Rattle.std.specs.Prelude.{◌≡◌, ℕ, Bool, true, false, None, is_some, List, [], ◌++◌, length, count_by, codes, decimal}
use Rattle.cf_types.specs.Lines.{ended}
use Rattle.cf_types.specs.declared.machine.Machine.{Machine}
use Rattle.cf_types.specs.declared.tables.Tables.{Tables}
use Rattle.run_rules.specs.declared.event.Event.{Event}
use Rattle.run_rules.specs.declared.event.Act.{Act}
use Rattle.run_rules.specs.declared.event.Act.TheVariants as act
use Rattle.run_rules.specs.Laws.{attached_name}
use Rattle.run_rules.specs.Run as run
use Rattle.run_rules.specs.World.{World, opening, setup_of}

-- whether an event attaches a device
abbrev pub attaches : Event → Bool
attaches e = is_some (attached_name e.act)

abbrev pub finds_none : Act → Bool
finds_none (act.Found parent spot None) = true
finds_none _ = false

-- whether an event says that no driver takes what was found
abbrev pub is_unconfigured : Event → Bool
is_unconfigured e = finds_none e.act

-- the line with these numbers
abbrev pub summary_line : ℕ → ℕ → ℕ → ℕ → List ℕ
summary_line n devices unconfigured events =
    codes "load " ++ decimal n ++ codes ": devices " ++ decimal devices ++ codes ", not configured " ++ decimal unconfigured ++ codes ", events " ++ decimal events

-- the summary of the boot of a machine with so many spots: the live devices, how often no driver took what was found, and all events
abbrev pub summary : ℕ → List Event → World → List ℕ
summary n h w = summary_line n (length w.live) (count_by is_unconfigured h) (length h)

-- the summary of the boot of a machine by the tables
abbrev pub IsSummary : ℕ → Tables → Machine → List ℕ → Type 0
IsSummary n tables machine text =
    (h : List Event) × (w : World) × run.Boot (opening (setup_of tables machine [])) h w × (text ≡ ended (summary n h w))
