-- What is printed of reads: the events `device-attach` and `device-detach` of drvctl(4).
use Rattle.std.specs.Prelude.{ℕ, ◌==◌, if◌then◌else◌, List, [], ◌++◌, map, codes, decimal}
use Rattle.std.specs.Option.{option_map_or}
use Rattle.cf_types.specs.Lines.{text_of}
use Rattle.cf_types.specs.declared.tables.Tables.{Tables}
use Rattle.dev_monitor.specs.declared.note.Note.{Note}
use Rattle.dev_monitor.specs.declared.reading.Reading.{Reading}
use Rattle.run_rules.specs.declared.event.Event.{Event}
use Rattle.run_rules.specs.World.{World}
use Rattle.app_output.specs.RunText.{run_text}

-- how many notes were lost, where any were
abbrev pub lost_text : ℕ → List ℕ
lost_text lost = if lost == 0 then [] else codes " lost " ++ decimal lost

-- the event with its device and its parent
abbrev pub note_text : Note → List ℕ
note_text x =
    (if x.attach then codes " device-attach " else codes " device-detach ") ++ (x.device ++ (codes " " ++ (x.parent ++ lost_text x.lost)))

-- the subscriber, and what it was told
abbrev pub reading_text : Reading → List ℕ
reading_text r = decimal r.who ++ option_map_or note_text r.note (codes " none")

-- the line `notes`, and a line for each read
abbrev pub notes_text : List Reading → List ℕ
notes_text readings = codes "notes\n" ++ text_of (map reading_text readings)

-- what a run prints, and what was read of it
unfoldable pub watch_text : Tables → List Event → World → List Reading → List ℕ
watch_text tables h w readings = run_text tables h w ++ notes_text readings
