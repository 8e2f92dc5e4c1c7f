-- What a history tells those who watch it: the events `device-attach` and `device-detach` of drvctl(4).
use Rattle.std.specs.Prelude.{◌≡◌, ℕ, true, false, List, take, filter_map, Option, Some, option_map, option_and_then}
use Rattle.std.specs.List.{enumerate_from}
use Rattle.std.specs.Option.{option_or}
use Rattle.run_rules.specs.declared.event.Event.{Event}
use Rattle.run_rules.specs.Laws.{attached_below, attached_name, freed_name, parent_in}
use Rattle.dev_monitor.specs.declared.news.News.{News}

-- a device came below a parent, or went from below it
abbrev pub came : List ℕ → List ℕ → News
came parent device = record { attach = true; device = device; parent = parent }

abbrev pub went : List ℕ → List ℕ → News
went parent device = record { attach = false; device = device; parent = parent }

-- what an event tells after those before it: one that attaches a device, with the parent that it names; one that frees a
-- device, with the parent below which it was last attached
abbrev pub news_at : List Event → Event → Option News
news_at before e =
    option_or (option_map (came (attached_below e.act)) (attached_name e.act))
    (option_and_then (λ x. option_map (λ parent. went parent x) (parent_in before x)) (freed_name e.act))

-- all that a history tells, in its order
unfoldable pub notes : List Event → List News
notes h = filter_map (λ at. news_at (take at.0 h) at.1) (enumerate_from 0 h)

-- each event that frees a device tells that it went, from below the parent that it had
abbrev pub TellsFreed : List Event → Event → Type 0
TellsFreed h e = (x : List ℕ) → freed_name e.act ≡ Some x → (parent : List ℕ) × (parent_in h x ≡ Some parent) × (news_at h e ≡ Some (went parent x))
