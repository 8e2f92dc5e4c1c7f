-- A plain test of the texts of scripts: no script detaches or unplugs where the commands before it may leave a reference open.
use Rattle.std.specs.Prelude.{◌≡◌, ◌↔◌, ◌⊎◌, ◌≤◌, ℕ, ◌+◌, ◌-◌, Bool, true, false, not, ◌&&◌, ◌||◌, if◌then◌else◌, List, [], ◌∷◌, ◌++◌, length, bytes_eq}
use Rattle.std.specs.List.{AllByRecursion}
use Rattle.cf_types.specs.declared.machine.Command.{Command}
use Rattle.cf_types.specs.declared.machine.Command.TheVariants as command
use Rattle.run_rules.specs.declared.event.Event.{Event}
use Rattle.run_rules.specs.declared.world.Setup.{Setup}
use Rattle.run_rules.specs.World.{World, caller_at, device_named, opening}
use Rattle.run_rules.specs.References.{without_first}
use Rattle.run_rules.specs.Sound.{is_empty}
use Rattle.run_rules.specs.Run.{Run, played}
use Rattle.run_sound.specs.Kept.{MayRun}
use Rattle.run_sound.specs.Scripts.{IsOfScript, script_of}
use Rattle.history_laws.specs.Counted.{held_of}
use Rattle.script_laws.specs.Begun.{begun_by}
use Rattle.progress_laws.specs.Ends.{most_events, all_callers, rounds}
use Rattle.progress_laws.specs.Ring.{FreesEmptyHanded}
use Rattle.progress_laws.specs.Still.{HaveAllEnded, SomebodyDoes}

-- ---- the test

-- a command that condemns devices, and then waits for the references to them
abbrev pub is_freeing : Command → Bool
is_freeing (command.Detach name) = true
is_freeing (command.Unplug name) = true
is_freeing _ = false

-- the names of the references that may be open behind a command: an open may add one, a close takes one away
abbrev pub open_after : List (List ℕ) → Command → List (List ℕ)
open_after names (command.OpenDev name) = names ++ name ∷ []
open_after names (command.OpenSole name) = names ++ name ∷ []
open_after names (command.CloseDev name) = without_first (λ n. bytes_eq n name) names
open_after names _ = names

-- where these may be open before the script: none may be open at a detach or an unplug
abbrev pub lets_go : List (List ℕ) → List Command → Bool
lets_go names [] = true
lets_go names (c ∷ cs) = (not (is_freeing c) || is_empty names) && lets_go (open_after names c) cs

-- a script begins with nothing open
abbrev pub lets_go_first : List Command → Bool
lets_go_first script = lets_go [] script

-- each script passes the test
abbrev pub AreAllPlain : List (List Command) → Type 0
AreAllPlain scripts = AllByRecursion (λ script. lets_go_first script ≡ true) scripts

-- ---- what the test says

-- how many references of a name may be open behind a command, where so many may be before it: an open counts one up, a close one down, never below 0
abbrev pub count_after : ℕ → Command → List ℕ → ℕ
count_after n (command.OpenDev name) x = n + (if bytes_eq name x then 1 else 0)
count_after n (command.OpenSole name) x = n + (if bytes_eq name x then 1 else 0)
count_after n (command.CloseDev name) x = n - (if bytes_eq name x then 1 else 0)
count_after n _ x = n

abbrev pub count_behind : ℕ → List Command → List ℕ → ℕ
count_behind n [] x = n
count_behind n (c ∷ cs) x = count_behind (count_after n c x) cs x

-- the opens of a name less its closes
abbrev pub opens_left : List Command → List ℕ → ℕ
opens_left commands x = count_behind 0 commands x

-- wherever a detach or an unplug stands in the script, the commands before it leave nothing open of any name
abbrev pub LetsGoFirst : List Command → Type 0
LetsGoFirst script =
    (before rest : List Command) (c : Command) → script ≡ before ++ c ∷ rest → is_freeing c ≡ true → (x : List ℕ) → opens_left before x ≡ 0

-- the test decides this
abbrev pub TestDecides : Type 0
TestDecides = (script : List Command) → (lets_go_first script ≡ true) ↔ LetsGoFirst script

-- a script without a detach or an unplug passes
abbrev pub SparingPass : Type 0
SparingPass = (script : List Command) → AllByRecursion (λ c. is_freeing c ≡ false) script → lets_go_first script ≡ true

-- ---- in every world of a run

-- of each name a caller holds no more than the commands that it began say: `begun` are these, `left` those that are left
pub record HoldsAtMostText (w : World) (k : ℕ) : Type 0 where
  pub begun : List Command
  pub left : List Command
  pub script : script_of w.setup k ≡ begun ++ left
  pub many : length begun ≡ begun_by (caller_at w k).over (caller_at w k).doing
  pub most : (x : List ℕ) → held_of w.refs k (device_named w.setup w.live x) ≤ opens_left begun x

abbrev pub AllHoldAtMostText : List Event → World → Type 0
AllHoldAtMostText h w = (k : ℕ) → IsOfScript w.setup k → HoldsAtMostText w k

-- where each script passes the test, no caller that frees holds a device
abbrev pub PlainFreeEmptyHanded : List Event → World → Type 0
PlainFreeEmptyHanded h w = AreAllPlain w.setup.scripts → FreesEmptyHanded w

-- and some caller does something, or all have ended
abbrev pub PlainScriptsGoOn : List Event → World → Type 0
PlainScriptsGoOn h w = AreAllPlain w.setup.scripts → SomebodyDoes w ⊎ HaveAllEnded w

-- more events lead to a world in which all have ended
pub record EndsAll (w : World) : Type 0 where
  pub more : List Event
  pub last : World
  pub run : Run w more last
  pub ended : HaveAllEnded last

-- every run of scripts that pass can be gone on with until all have ended
abbrev pub EndsForAll : List Event → World → Type 0
EndsForAll h w = AreAllPlain w.setup.scripts → EndsAll w

-- and where all callers take turns in rounds, all have ended after as many rounds as a run may have events
abbrev pub RoundsEndForAll : Type 0
RoundsEndForAll = (s : Setup) → MayRun s → AreAllPlain s.scripts → HaveAllEnded (played (opening s) (rounds (most_events s) (all_callers s))).1
