-- A worked run: what the definitions compute of a setup and of the callers that take a turn, and that it keeps the laws.
use Prim.Native.String.{String}
use Rattle.std.specs.Prelude.{◌≡◌, ℕ, ◌-◌, ◌==◌, Bool, true, false, not, List, [], length, map, filter, None, Some, codes}
use Rattle.std.proofs.Common.{ap}
use Rattle.std.specs.Fmt.{digits}
use Rattle.cf_types.specs.Locators.{submatch}
use Rattle.cf_types.specs.Numbers.{below}
use Rattle.cf_types.specs.Offers.{walk, firsts, interfaces_of, interfaces, offers}
use Rattle.run_rules.specs.After.{listed, finaliser_placing, scan_placing, finaliser_placed, scan_placed, attached, released, after}
use Rattle.run_rules.specs.Laws.{Lawful}
use Rattle.run_rules.specs.Lines.{act_text, line_of}
use Rattle.run_rules.specs.Next.{arrival, next_scan, late_spot, finalise, next_boot, next_free, next_sleep, next_wake, freeing, suspending, waking, hindered, wanted_of, rescan_of, command_deed, next_command, next}
use Rattle.run_rules.specs.Run.{answer_of, tree_names, list_names, printed, event_of, played}
use Rattle.run_rules.specs.Search.{match_value, is_candidate, winner, free_after, unit_of, is_open, child_spots, places_of, is_bus_indirect, bus_turns, turns_of, is_before, is_due, due, after_turn}
use Rattle.run_rules.specs.Tree.{tree_below}
use Rattle.run_rules.specs.World.{World, Caller, has, start, lineage, is_under, unit_name, root_name, parent_name, is_pinned, absent_spots, late_spots, opening}
use Rattle.run_rules.specs.declared.deed.Choice.{Choice}
use Rattle.run_rules.specs.declared.deed.Choice.TheVariants.{Ended, Waits, Does}
use Rattle.run_rules.specs.declared.event.Act.TheVariants as act
use Rattle.run_rules.specs.declared.event.Event.{Event}
use Rattle.run_rules.specs.declared.event.PowerKind.TheVariants as kind
use Rattle.run_rules.specs.declared.world.Activity.{Activity}
use Rattle.run_rules.specs.declared.world.Activity.TheVariants as activity
use Rattle.run_rules.specs.declared.world.Deferred.{Deferred}
use Rattle.run_rules.specs.declared.world.Dev.{Dev}
use Rattle.run_rules.specs.declared.world.Frame.{Frame}
use Rattle.run_rules.specs.declared.world.Frame.TheVariants as frame
use Rattle.run_rules.specs.declared.world.Key.TheVariants as key
use Rattle.run_rules.specs.declared.world.Ref.{Ref}
use Rattle.run_rules.specs.declared.world.Setup.{Setup}
use Rattle.run_rules.specs.declared.world.Wait.{Wait}
use Rattle.worked_runs.proofs.LawsHold.{keeps_laws, lawful_from}
use Rattle.worked_runs.proofs.SoundTest.{AreSound, is_sound_along, sound_along}

-- ---- what is played

-- the callers that take a turn, a digit each
abbrev pub turns : String → List ℕ
turns order = map (λ c. c - 48) (filter (λ c. not (c == 32)) (codes order))

abbrev pub run_of : Setup → String → List Event × World
run_of s order = played (opening s) (turns order)

-- ---- what is said of it

-- what a caller does next: a line, spelt as in a history
pub data Said : Type 0 where
  Over : Said
  Stays : (why : Wait) → Said
  Then : (line : List ℕ) → Said

abbrev pub goes : String → Said
goes line = Then (codes line)

abbrev pub said : World → ℕ → Choice → Said
said w k Ended = Over
said w k (Waits why) = Stays why
said w k (Does deed) = Then (line_of (event_of w k deed))

abbrev pub nexts_in : World → List Said
nexts_in w = map (λ k. said w k (next w k)) (below (length w.callers))

-- the line of `tree`
abbrev pub tree_in : World → List ℕ
tree_in w = act_text (act.TreeDev None (tree_names w None))

abbrev pub placeless : Frame → Frame
placeless (frame.Scan s only wanted from) = frame.Scan s only wanted start
placeless (frame.Finaliser s) = frame.Finaliser s

abbrev pub placeless_caller : Caller → Caller
placeless_caller c = record c { stack = map placeless c.stack }

abbrev pub by_number : World → List ℕ → List ℕ
by_number w xs = filter (has xs) (below (length w.setup.machine.spots))

-- a world without the places of its scans, and with its spots by number
abbrev pub left_by : World → World
left_by w = record w { absent = by_number w w.absent; hidden = by_number w w.hidden; callers = map placeless_caller w.callers }

-- a world of the setup in which interrupts work and no spot is absent or hidden
abbrev pub quiet : Setup → World
quiet s = record (opening s) { absent = []; hidden = []; interrupts_on = true }

-- ---- short forms for a world

-- its serial, row and unit, its parent and its spot
abbrev pub dev : ℕ → ℕ → ℕ → ℕ → ℕ → Dev
dev n row unit of spot = record { serial = n; row = row; unit = unit; parent = of; spot = spot; asleep = false; condemned = None }

abbrev pub asleep : Dev → Dev
asleep d = record d { asleep = true }

-- and who condemned it
abbrev pub condemned : ℕ → Dev → Dev
condemned k d = record d { condemned = Some k }

-- a reference to a device, and its holder
abbrev pub ref : ℕ → ℕ → Ref
ref serial caller = record { serial = serial; caller = caller }

-- how many of its commands are over, what it does, and its frames
abbrev pub caller : ℕ → Activity → List Frame → Caller
caller over doing stack = record { over = over; doing = doing; stack = stack }

abbrev pub ended : ℕ → Caller
ended over = caller over activity.Ended []

abbrev pub idle : ℕ → Caller
idle over = caller over activity.Idle []

abbrev pub frees : ℕ → ℕ → Caller
frees over serial = caller over (activity.Frees serial) []

abbrev pub suspends : ℕ → ℕ → Caller
suspends over serial = caller over (activity.Power kind.Suspend serial) []

abbrev pub scans : ℕ → List Frame → Caller
scans over frames = caller over activity.Scans frames

-- a scan of a child that waits for its parent's
abbrev pub put_off : ℕ → ℕ → Deferred
put_off parent child = record { key = key.Parent parent; child = child }

-- the serial of the next device, the devices that live, and the callers
abbrev pub left : ℕ → List Dev → List Caller → World → World
left next live callers w = record w { next = next; live = live; callers = callers }

-- ---- a worked run

pub record Computed : Type 0 where
  pub history : List (List ℕ)
  pub world : World
  pub tree : List ℕ
  pub nexts : List Said
  pub sound : Bool
  pub lawful : Bool

-- opened, it opens all that a run is computed by
unfoldable pub computed : Setup → String → Computed
unfolding lineage is_under unit_name root_name parent_name walk firsts interfaces_of interfaces offers is_pinned absent_spots
    late_spots opening submatch match_value is_candidate winner free_after unit_of is_open child_spots places_of is_bus_indirect
    bus_turns turns_of is_before is_due due after_turn arrival next_scan late_spot finalise next_boot next_free next_sleep next_wake
    freeing suspending waking hindered wanted_of rescan_of command_deed next_command next listed finaliser_placing scan_placing
    finaliser_placed scan_placed attached released after answer_of tree_below tree_names list_names printed event_of played
    act_text line_of digits keeps_laws
computed s order =
    let run = run_of s order in
    record {
      history = map line_of run.0;
      world = left_by run.1;
      tree = tree_in run.1;
      nexts = nexts_in run.1;
      sound = is_sound_along (opening s) (turns order);
      lawful = keeps_laws run.0;
    }

-- the lines that are printed, what the world that is left has other than a quiet one, its tree, and what each caller does next;
-- each world on the way passes the test of sound worlds, and the history that of the laws
abbrev pub Worked : Setup → String → List String → (World → World) → String → List Said → Type 0
Worked s order history change tree nexts =
    computed s order ≡ record {
      history = map codes history;
      world = change (quiet s);
      tree = codes tree;
      nexts = nexts;
      sound = true;
      lawful = true;
    }

-- ---- what is shown by each

pub record Shown (s : Setup) (order : String) (history : List String) (change : World → World) (tree : String) (nexts : List Said)
    : Type 0 where
  pub prints : map line_of (run_of s order).0 ≡ map codes history
  pub leaves : left_by (run_of s order).1 ≡ change (quiet s)
  pub shows : tree_in (run_of s order).1 ≡ codes tree
  pub goes_on : nexts_in (run_of s order).1 ≡ nexts
  pub sound : AreSound (opening s) (turns order)
  pub lawful : Lawful (run_of s order).0

pub shown : (s : Setup) (order : String) (history : List String) (change : World → World) (tree : String) (nexts : List Said)
    → Worked s order history change tree nexts → Shown s order history change tree nexts
unfolding computed
shown s order history change tree nexts e = record {
  prints = ap (λ (c : Computed). c.history) e;
  leaves = ap (λ (c : Computed). c.world) e;
  shows = ap (λ (c : Computed). c.tree) e;
  goes_on = ap (λ (c : Computed). c.nexts) e;
  sound = sound_along (opening s) (turns order) (ap (λ (c : Computed). c.sound) e);
  lawful = lawful_from (run_of s order).0 (ap (λ (c : Computed). c.lawful) e);
}
