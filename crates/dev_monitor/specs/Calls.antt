-- Lists of calls of a monitor, and what one subscriber reads by them.
use Rattle.std.specs.Prelude.{◌≡◌, ◌≤◌, ℕ, ◌+◌, ◌==◌, ⊤, if◌then◌else◌, List, [], ◌∷◌, ◌++◌, length, slice_get, Option, Some, None, option_to_list}
use Rattle.run_rules.specs.declared.event.Event.{Event}
use Rattle.dev_monitor.specs.declared.news.News.{News}
use Rattle.dev_monitor.specs.declared.note.Note.{Note}
use Rattle.dev_monitor.specs.Notes.{notes}
use Rattle.dev_monitor.specs.Subscribers.{Reader, Watched, after_read, read_by, with_events, with_reader}

-- more events are taken in, a subscriber comes with so much room, or one reads
pub data Call : Type 0 where
  takes : List Event → Call
  subscribes : ℕ → ℕ → Call
  reads : ℕ → Call

-- what a monitor stands for after a call
abbrev pub after_call : Watched → Call → Watched
after_call w (takes h) = with_events w h
after_call w (subscribes who capacity) = with_reader w who capacity
after_call w (reads who) = after_read w who

-- what subscriber k reads by a call
abbrev pub note_for : ℕ → Watched → Call → Option Note
note_for k w (takes h) = None
note_for k w (subscribes who capacity) = None
note_for k w (reads who) = if who == k then read_by w k else None

-- and by a list of them
abbrev pub notes_for : ℕ → Watched → List Call → List Note
notes_for k w [] = []
notes_for k w (c ∷ cs) = option_to_list (note_for k w c) ++ notes_for k (after_call w c) cs

-- the events that were taken in after these calls
abbrev pub events_after : Watched → List Call → List Event
events_after w [] = w.events
events_after w (c ∷ cs) = events_after (after_call w c) cs

-- what a note tells
abbrev pub told_in : Note → News
told_in x = record { attach = x.attach; device = x.device; parent = x.parent }

-- from a place on, these notes are of this list: each stands behind as many others as it counts as lost, and the next one behind it
abbrev pub Follows : List News → ℕ → List Note → Type 0
Follows all next [] = ⊤
Follows all next (x ∷ xs) = (slice_get all (next + x.lost) ≡ Some (told_in x)) × Follows all (next + x.lost + 1) xs

-- a subscriber with some room has read up to a place of what was taken in
pub record HasReader (w : Watched) (k : ℕ) (r : Reader) : Type 0 where
  pub reader : w.reader k ≡ Some r
  pub room : 1 ≤ r.capacity
  pub reached : r.next ≤ length (notes w.events)

-- whatever the calls, it reads on from there, in the order of the notes of all events that were taken in
abbrev pub ReadsInOrder : Type 0
ReadsInOrder = (k : ℕ) (w : Watched) (r : Reader) (calls : List Call) → HasReader w k r → Follows (notes (events_after w calls)) r.next (notes_for k w calls)
