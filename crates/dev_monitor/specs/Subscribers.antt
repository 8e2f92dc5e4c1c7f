-- What subscribers read of a history: one list of notes, and for each subscriber one place in it.
use Rattle.std.specs.Prelude.{◌≡◌, ℕ, ◌+◌, ◌-◌, ◌==◌, max, if◌then◌else◌, List, [], ◌++◌, length, slice_get, Option, None, option_map, option_and_then}
use Rattle.std.specs.Option.{option_or}
use Rattle.config_rules.specs.Form.{given}
use Rattle.run_rules.specs.declared.event.Event.{Event}
use Rattle.dev_monitor.specs.declared.news.News.{News}
use Rattle.dev_monitor.specs.declared.note.Note.{Note}
use Rattle.dev_monitor.specs.Notes.{notes}

-- how many notes are kept for a subscriber, and the place of the first one that it has not read
pub record Reader : Type 0 where
  pub capacity : ℕ
  pub next : ℕ

-- of so many notes, the place of the first one that is kept for it
abbrev pub first_kept : Reader → ℕ → ℕ
first_kept r many = max r.next (many - r.capacity)

-- a note, with how many before it were lost
abbrev pub note_with : ℕ → News → Note
note_with lost x = record { lost = lost; attach = x.attach; device = x.device; parent = x.parent }

-- what it reads of these notes: nothing where it has read all, else the first one that is kept
abbrev pub read_of : List News → Reader → Option Note
read_of ns r =
    if r.next == length ns then None
    else option_map (note_with (first_kept r (length ns) - r.next)) (slice_get ns (first_kept r (length ns)))

-- and where it reads on
abbrev pub read_on : List News → Reader → Reader
read_on ns r = if r.next == length ns then r else record r { next = first_kept r (length ns) + 1 }

-- the events that were taken in, and who subscribed
pub record Watched : Type 0 where
  pub events : List Event
  pub reader : ℕ → Option Reader

-- nothing was taken in, and nobody subscribed
abbrev pub unwatched : Watched
unwatched = record { events = []; reader = λ k. None }

-- more events were taken in
abbrev pub with_events : Watched → List Event → Watched
with_events w h = record w { events = w.events ++ h }

-- these events are the first ones of those
abbrev pub IsFront : List Event → List Event → Type 0
IsFront g h = (rest : List Event) × (h ≡ g ++ rest)

-- all of these were taken in
abbrev pub with_all : Watched → List Event → Watched
with_all w h = record w { events = h }

-- a subscriber begins behind the notes that there are; who subscribed already goes on as before
abbrev pub with_reader : Watched → ℕ → ℕ → Watched
with_reader w who capacity =
    record w { reader = λ k. option_or (w.reader k) (given (who == k) (record { capacity = capacity; next = length (notes w.events) })) }

-- what a subscriber reads; who did not subscribe reads nothing
abbrev pub read_by : Watched → ℕ → Option Note
read_by w who = option_and_then (read_of (notes w.events)) (w.reader who)

-- and what is left then
abbrev pub after_read : Watched → ℕ → Watched
after_read w who = record w { reader = λ k. if who == k then option_map (read_on (notes w.events)) (w.reader k) else w.reader k }
