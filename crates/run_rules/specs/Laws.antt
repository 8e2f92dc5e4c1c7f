-- What anybody can count on the printed lines, and the laws of a history: this project's profile. No world is used here.
use Rattle.std.specs.Prelude.{◌≡◌, ◌≢◌, ◌⊎◌, ◌≤◌, ℕ, ◌==◌, Bool, true, false, ◌&&◌, ◌||◌, List, [], ◌∷◌, ◌++◌, reverse, find, count_by, Option, Some, None, option_and_then, option_map, bytes_eq, ℤ, pos, ◌-ℤ◌, ⊤}
use Rattle.std.specs.Option.{option_map_or}
use Rattle.run_rules.specs.declared.event.Event.{Event}
use Rattle.run_rules.specs.declared.event.Act.{Act}
use Rattle.run_rules.specs.declared.event.Act.TheVariants as act
use Rattle.run_rules.specs.declared.event.Reply.{Reply}
use Rattle.run_rules.specs.declared.event.Reply.TheVariants as reply
use Rattle.run_rules.specs.World.{root_name}

-- the name that an event attaches, and the parent that it names
abbrev pub attached_name : Act → Option (List ℕ)
attached_name (act.Found parent spot got) = option_map (λ g. g.name) got
attached_name (act.Final device shown) = option_map (λ g. g.name) (option_and_then (λ s. s.got) shown)
attached_name _ = None

abbrev pub attached_below : Act → List ℕ
attached_below (act.Found parent spot got) = parent
attached_below (act.Final device shown) = device
attached_below _ = []

abbrev pub freed_name : Act → Option (List ℕ)
freed_name (act.Free device) = Some device
freed_name _ = None

abbrev pub slept_name : Act → Option (List ℕ)
slept_name (act.Sleep device) = Some device
slept_name _ = None

abbrev pub woken_name : Act → Option (List ℕ)
woken_name (act.Wake device) = Some device
woken_name _ = None

abbrev pub is_name : Option (List ℕ) → List ℕ → Bool
is_name None x = false
is_name (Some y) x = bytes_eq y x

abbrev pub is_ok : Reply → Bool
is_ok reply.Ok = true
is_ok _ = false

abbrev pub opens : Act → List ℕ → Bool
opens (act.OpenDev device r) x = is_ok r && bytes_eq device x
opens (act.OpenSole device r) x = is_ok r && bytes_eq device x
opens _ x = false

abbrev pub returns : Act → List ℕ → Bool
returns (act.CloseDev device r) x = is_ok r && bytes_eq device x
returns (act.DropRef device) x = bytes_eq device x
returns _ x = false

-- a started or finished transfer on the device
abbrev pub transfers : Act → List ℕ → Bool
transfers (act.IoStart device value r) x = is_ok r && bytes_eq device x
transfers (act.IoDone device answer) x = bytes_eq device x
transfers _ x = false

-- the last event that passes the test
abbrev pub last_that : (Event → Bool) → List Event → Option Event
last_that test h = find test (reverse h)

-- X lives where the last event that attaches or frees it attaches it
unfoldable pub lives : List Event → List ℕ → Bool
lives h x =
    option_map_or (λ e. is_name (attached_name e.act) x)
    (last_that (λ e. is_name (attached_name e.act) x || is_name (freed_name e.act) x) h) false

unfoldable pub parent_in : List Event → List ℕ → Option (List ℕ)
parent_in h x = option_map (λ e. attached_below e.act) (last_that (λ e. is_name (attached_name e.act) x) h)

-- X lives, and of the events that attach it, put it to sleep or wake it, the last one puts it to sleep
unfoldable pub is_asleep_in : List Event → List ℕ → Bool
is_asleep_in h x =
    lives h x && option_map_or (λ e. is_name (slept_name e.act) x)
    (last_that (λ e. is_name (attached_name e.act) x || is_name (slept_name e.act) x || is_name (woken_name e.act) x) h) false

-- how often caller k opened X, less how often it gave X back
unfoldable pub holds : List Event → ℕ → List ℕ → ℤ
holds h k x = pos (count_by (λ e. e.caller == k && opens e.act x) h) -ℤ pos (count_by (λ e. e.caller == k && returns e.act x) h)

-- an open that asks for sole use
abbrev pub opens_sole : Act → List ℕ → Bool
opens_sole (act.OpenSole device r) x = is_ok r && bytes_eq device x
opens_sole _ x = false

-- caller k has X solely where, of its sole opens and its returns of X, the last one is a sole open
unfoldable pub sole_in : List Event → ℕ → List ℕ → Bool
sole_in h k x =
    option_map_or (λ e. opens_sole e.act x) (last_that (λ e. e.caller == k && (opens_sole e.act x || returns e.act x)) h) false

-- a number of references, from so many to 15
pub record IsCount (least : ℕ) (z : ℤ) : Type 0 where
  pub count : ℕ
  pub many : least ≤ count
  pub few : count ≤ 15
  pub is : z ≡ pos count

abbrev pub LivesAwake : List Event → List ℕ → Type 0
LivesAwake h x = (lives h x ≡ true) × (is_asleep_in h x ≡ false)

-- ---- the laws one by one: of events, or of the events before an event and this event

-- nobody holds what is freed
abbrev pub FreesUnheld : List Event → Event → Type 0
FreesUnheld h e = (x : List ℕ) → freed_name e.act ≡ Some x → (k : ℕ) → holds (h ++ e ∷ []) k x ≡ pos 0

-- and nothing lives below it
abbrev pub FreesChildless : List Event → Event → Type 0
FreesChildless h e =
    (x y : List ℕ) → freed_name e.act ≡ Some x → lives (h ++ e ∷ []) y ≡ true → parent_in (h ++ e ∷ []) y ≢ Some x

-- what lives below a sleeping device sleeps
abbrev pub SleepsBelow : List Event → Type 0
SleepsBelow h = (x y : List ℕ) → is_asleep_in h x ≡ true → lives h y ≡ true → parent_in h y ≡ Some x → is_asleep_in h y ≡ true

-- a caller holds a device 0 to 15 times
abbrev pub HoldsFew : List Event → Type 0
HoldsFew h = (k : ℕ) (x : List ℕ) → IsCount 0 (holds h k x)

-- only devices that live are held
abbrev pub HoldsLiving : List Event → Type 0
HoldsLiving h = (k : ℕ) (x : List ℕ) → lives h x ≡ false → holds h k x ≡ pos 0

-- who starts or ends a transfer on a device holds it
abbrev pub HoldsInUse : List Event → Event → Type 0
HoldsInUse h e = (x : List ℕ) → transfers e.act x ≡ true → IsCount 1 (holds (h ++ e ∷ []) e.caller x)

-- who has a device solely holds it once, and nobody else holds it
abbrev pub HoldsAlone : List Event → Type 0
HoldsAlone h =
    (k : ℕ) (x : List ℕ) → sole_in h k x ≡ true → (holds h k x ≡ pos 1) × ((j : ℕ) → j ≢ k → holds h j x ≡ pos 0)

-- what comes did not live
abbrev pub ComesFresh : List Event → Event → Type 0
ComesFresh h e = (x : List ℕ) → attached_name e.act ≡ Some x → lives h x ≡ false

-- and comes below the root, or below what lived and was awake
abbrev pub ComesBelowAwake : List Event → Event → Type 0
ComesBelowAwake h e =
    (x : List ℕ) → attached_name e.act ≡ Some x → (attached_below e.act ≡ root_name) ⊎ LivesAwake h (attached_below e.act)

-- ---- all of them

-- what holds where event e stands behind the events h
pub record IsLawfulNext (h : List Event) (e : Event) : Type 0 where
  pub unreferred : FreesUnheld h e
  pub childless : FreesChildless h e
  pub sleeping : SleepsBelow (h ++ e ∷ [])
  pub held : HoldsFew (h ++ e ∷ [])
  pub held_live : HoldsLiving (h ++ e ∷ [])
  pub held_in_use : HoldsInUse h e
  pub sole : HoldsAlone (h ++ e ∷ [])
  pub fresh : ComesFresh h e
  pub below_awake : ComesBelowAwake h e

-- each of these events is lawful behind those before it
abbrev pub LawfulFrom : List Event → List Event → Type 0
LawfulFrom h [] = ⊤
LawfulFrom h (e ∷ es) = IsLawfulNext h e × LawfulFrom (h ++ e ∷ []) es

abbrev pub Lawful : List Event → Type 0
Lawful h = LawfulFrom [] h
