-- What is kept for subscribers, and what it has to do with the notes of the events that were taken in.
use Rattle.std.specs.Prelude.{◌≡◌, ◌≤◌, ◌^◌, ℕ, ◌+◌, ◌-◌, ◌==◌, ⊤, min, nat_lt, if◌then◌else◌, List, [], ◌∷◌, ◌++◌, drop, find, length, map, Option, None, Some}
use Rattle.circular_buffer.specs.Buffer.{buffer, keep_last}
use Rattle.run_rules.specs.declared.event.Event.{Event}
use Rattle.dev_monitor.specs.declared.monitor.Monitor.{Monitor}
use Rattle.dev_monitor.specs.declared.news.News.{News}
use Rattle.dev_monitor.specs.declared.queue.Queue.{Queue}
use Rattle.dev_monitor.specs.Notes.{notes}
use Rattle.dev_monitor.specs.Parents.{AreParents, KeepsParents, NotesParent}
use Rattle.dev_monitor.specs.Subscribers.{IsFront, Reader, Watched, first_kept, with_all}

-- ---- one queue

abbrev pub new_queue : ℕ → ℕ → Queue
new_queue who capacity = record { who = who; lost = 0; kept = buffer [] capacity }

-- one more is kept; where there was no room the oldest is dropped, and counted
abbrev pub put_in : News → Queue → Queue
put_in x q = record q {
  lost = if nat_lt (length q.kept.items) q.kept.capacity then q.lost else min (q.lost + 1) (2 ^ 64 - 1);
  kept = buffer (keep_last q.kept.capacity (q.kept.items ++ x ∷ [])) q.kept.capacity;
}

-- the oldest was handed out
abbrev pub taken_from : Queue → Queue
taken_from q = if length q.kept.items == 0 then q else record q { lost = 0; kept = buffer (drop 1 q.kept.items) q.kept.capacity }

-- ---- the queues of all subscribers

-- the queue of a subscriber
abbrev pub queue_of : ℕ → List Queue → Option Queue
queue_of k queues = find (λ q. q.who == k) queues

-- a queue has of these notes what the reader has not read and there was room for, and counts the others
pub record Serves (ns : List News) (r : Reader) (q : Queue) : Type 0 where
  pub capacity : q.kept.capacity ≡ r.capacity
  pub room : 1 ≤ r.capacity
  pub reached : r.next ≤ length ns
  pub kept : q.kept.items ≡ drop (first_kept r (length ns)) ns
  pub lost : q.lost + r.next ≡ first_kept r (length ns)

-- a reader has such a queue; without a reader there is none
abbrev pub ServesIf : List News → Option Reader → Option Queue → Type 0
ServesIf ns None None = ⊤
ServesIf ns (Some r) (Some q) = Serves ns r q
ServesIf ns _ _ = ⊥

-- ---- a monitor

-- a monitor stands for what was taken in and subscribed
pub record IsOf (w : Watched) (m : Monitor) : Type 0 where
  pub taken : m.taken ≡ length w.events
  pub parents : AreParents w.events m.parents
  pub serves : (k : ℕ) → ServesIf (notes w.events) (w.reader k) (queue_of k m.queues.items)

-- all of these events were taken in, if those that had been are the first of them
abbrev pub TakesAll : Monitor → List Event → Monitor → Type 0
TakesAll old h new = (w : Watched) → IsOf w old → IsFront w.events h → IsOf (with_all w h) new

-- some of them were, at least those that had been
pub record TakenSome (w : Watched) (h : List Event) (m : Monitor) : Type 0 where
  pub events : List Event
  pub before : IsFront w.events events
  pub front : IsFront events h
  pub stands : IsOf (with_all w events) m

abbrev pub TakesSome : Monitor → List Event → Monitor → Type 0
TakesSome old h new = (w : Watched) → IsOf w old → IsFront w.events h → TakenSome w h new

-- what a monitor stands for becomes this
abbrev pub Becomes : Monitor → (Watched → Watched) → Monitor → Type 0
Becomes old f new = (w : Watched) → IsOf w old → IsOf (f w) new

-- ---- what calls do to a monitor

-- the parents and the queues are as before
pub record Keeps (old new : Monitor) : Type 0 where
  pub parents : KeepsParents old.parents new.parents
  pub queues : new.queues.items ≡ old.queues.items

-- something was told: the parent was noted, and it was kept for all subscribers
pub record Tells (x : News) (old new : Monitor) : Type 0 where
  pub parents : NotesParent x old.parents new.parents
  pub queues : new.queues.items ≡ map (put_in x) old.queues.items

-- what an event tells was told
abbrev pub TellsIf : Option News → Monitor → Monitor → Type 0
TellsIf None old new = Keeps old new
TellsIf (Some x) old new = Tells x old new
