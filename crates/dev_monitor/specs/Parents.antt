-- The parents of the devices that live, by the names that are printed.
use Rattle.std.specs.Prelude.{◌≡◌, ℕ, if◌then◌else◌, List, Option, None, Some, option_map, option_and_then, bytes_eq}
use Rattle.std.specs.HashMap.{HashMap, get_by}
use Rattle.std.specs.Option.{option_or}
use Rattle.run_rules.specs.declared.event.Act.{Act}
use Rattle.run_rules.specs.declared.event.Event.{Event}
use Rattle.run_rules.specs.Laws.{attached_below, attached_name, freed_name, lives, parent_in}
use Rattle.dev_monitor.specs.declared.news.News.{News}
use Rattle.dev_monitor.specs.Notes.{came, went}

-- the parent that a map has for a name
abbrev pub parent_of : {S : Type 0} → HashMap (List ℕ) (List ℕ) S → List ℕ → Option (List ℕ)
parent_of parents x = get_by (bytes_eq x) parents

-- the parent of a device that lives
abbrev pub living_parent : List Event → List ℕ → Option (List ℕ)
living_parent h x = if lives h x then parent_in h x else None

-- the map has those of all devices that live, and no other
abbrev pub AreParents : {S : Type 0} → List Event → HashMap (List ℕ) (List ℕ) S → Type 0
AreParents h parents = (x : List ℕ) → parent_of parents x ≡ living_parent h x

-- what an act tells, where the map has these parents
abbrev pub news_by : {S : Type 0} → HashMap (List ℕ) (List ℕ) S → Act → Option News
news_by parents act =
    option_or (option_map (came (attached_below act)) (attached_name act))
    (option_and_then (λ x. option_map (λ parent. went parent x) (parent_of parents x)) (freed_name act))

-- the parent that a device has after it came or went
abbrev pub parent_then : News → Option (List ℕ)
parent_then x = if x.attach then Some x.parent else None

-- the map has this parent for the device, and the others as before
abbrev pub NotesParent : {S : Type 0} → News → HashMap (List ℕ) (List ℕ) S → HashMap (List ℕ) (List ℕ) S → Type 0
NotesParent x old new = (q : List ℕ) → parent_of new q ≡ (if bytes_eq x.device q then parent_then x else parent_of old q)

-- the map has all as before
abbrev pub KeepsParents : {S : Type 0} → HashMap (List ℕ) (List ℕ) S → HashMap (List ℕ) (List ℕ) S → Type 0
KeepsParents old new = (q : List ℕ) → parent_of new q ≡ parent_of old q
