-- What each step keeps. The tables, the machine and the scripts are formed and fitting.
-- Names: of two live devices driver or unit differ; with the drivers' names different and none ending in a digit, so do the printed names.
use Rattle.std.specs.Prelude.{◌≡◌, ◌≢◌, ◌↔◌, ℕ, ◌<◌, ◌==◌, Bool, true, false, not, ◌&&◌, ◌||◌, IsTrue, List, [], ◌∷◌, ⊤, Some, None}
use Rattle.std.specs.List.{AllByRecursion, list_any}
use Rattle.cf_types.specs.declared.machine.Ticket.{Ticket}
use Rattle.run_rules.specs.declared.world.Dev.{Dev}
use Rattle.run_rules.specs.declared.world.Frame.{Frame}
use Rattle.run_rules.specs.declared.world.Frame.TheVariants.{Scan, Finaliser}
use Rattle.run_rules.specs.declared.world.Key.{Key}
use Rattle.run_rules.specs.declared.world.Key.TheVariants as key
use Rattle.run_rules.specs.declared.world.Activity.{Activity}
use Rattle.run_rules.specs.declared.world.Activity.TheVariants as activity
use Rattle.run_rules.specs.declared.world.Setup.{Setup}
use Rattle.run_rules.specs.World.{World, Caller, is_live, is_under, driver_of, name_of, is_number, is_pinned, is_held, caller_at, frame_serial}
use Rattle.run_rules.specs.References.{AreCounted}
use Rattle.run_rules.specs.declared.world.Ref.{Ref}
use Rattle.run_rules.specs.declared.world.Deferred.{Deferred}

-- each element differs from all later ones
abbrev pub EachLater : {A : Type 0} → (A → A → Type 0) → List A → Type 0
EachLater R [] = ⊤
EachLater R (x ∷ xs) = AllByRecursion (R x) xs × EachLater R xs

-- two devices have no serial, name or spot in common, and the second came later
pub record IsApart (s : Setup) (d e : Dev) : Type 0 where
  pub later : d.serial < e.serial
  pub names : IsTrue (not (driver_of s d.row == driver_of s e.row && d.unit == e.unit))
  pub spots : d.spot ≢ e.spot

-- a serial was given out, and the parent is the root or an earlier device that is live
pub record IsPlaced (live : List Dev) (next : ℕ) (d : Dev) : Type 0 where
  pub below_next : d.serial < next
  pub after_parent : d.parent < d.serial
  pub parent_live : IsTrue (d.parent == 0 || is_live live d.parent)

-- the devices
pub record HasSoundDevices (s : Setup) (live : List Dev) (next : ℕ) : Type 0 where
  pub placed : AllByRecursion (IsPlaced live next) live
  pub apart : EachLater (IsApart s) live

-- no two of the devices print the same name
abbrev pub HaveOwnNames : Setup → List Dev → Type 0
HaveOwnNames s live = EachLater (λ d e. name_of s d ≢ name_of s e) live

-- the references: each names a live device and stands at most 15 times, and a device that is held solely stands in one pair, once
pub record HasSoundRefs (live : List Dev) (refs : List Ref) (sole : List ℕ) : Type 0 where
  pub live_ones : AllByRecursion (λ r. IsTrue (is_live live r.serial)) refs
  pub counted : AreCounted refs sole

abbrev pub frees_target : Activity → ℕ → Bool
frees_target (activity.Frees target) s = target == s
frees_target _ s = false

-- a condemned device is not pinned, its children are condemned by the same caller, and it is below the target that this caller frees
pub record IsSoundlyCondemned (w : World) (d : Dev) (k : ℕ) : Type 0 where
  pub unpinned : is_pinned w d.serial ≡ false
  pub children : AllByRecursion (λ e. e.parent ≡ d.serial → e.condemned ≡ Some k) w.live
  pub below_target : (target : ℕ) × ((caller_at w k).doing ≡ activity.Frees target) × IsTrue (is_under w.live target d.serial)

-- a sleeping device is not pinned, and its children sleep
pub record IsSoundlyAsleep (w : World) (d : Dev) : Type 0 where
  pub unpinned : is_pinned w d.serial ≡ false
  pub children : AllByRecursion (λ e. e.parent ≡ d.serial → IsTrue e.asleep) w.live

abbrev pub is_scan_of : ℕ → Frame → Bool
is_scan_of p (Scan s only wanted from) = s == p
is_scan_of p (Finaliser s) = false

abbrev pub is_known : World → ℕ → Bool
is_known w s = s == 0 || is_live w.live s

-- a scan that was put off is of a live device, and one that was put off on a parent goes with a scan of that parent
abbrev pub IsSoundlyDeferred : World → Deferred → Type 0
IsSoundlyDeferred w e = IsTrue (is_live w.live e.child) × OnParent e.key
  where
    OnParent : Key → Type 0
    OnParent key.Interrupts = ⊤
    OnParent (key.Parent p) = IsTrue (list_any (λ c. list_any (is_scan_of p) c.stack) w.callers)

abbrev pub is_powering : Activity → Bool
is_powering (activity.Power kind target) = true
is_powering _ = false

abbrev pub is_empty : {A : Type 0} → List A → Bool
is_empty [] = true
is_empty (x ∷ xs) = false

-- the device that a caller frees is live and condemned by it
abbrev pub IsFreed : World → ℕ → ℕ → Type 0
IsFreed w k s = AllByRecursion (λ d. d.serial ≡ s → d.condemned ≡ Some k) w.live × IsTrue (is_live w.live s)

-- a caller: it has the power turn exactly in a power command, it holds what its transfer is on, it has nothing left when it has ended,
-- it has frames only while it scans, if it does not boot, and what it frees is live and condemned by it
pub record IsSoundCaller (w : World) (k : ℕ) : Type 0 where
  pub turn : IsTrue (is_number w.power_owner k) ↔ IsTrue (is_powering (caller_at w k).doing)
  pub transfer : (t : Ticket) → (caller_at w k).doing ≡ activity.Transfer t → is_held w k t.serial ≡ true
  pub ended : (caller_at w k).doing ≡ activity.Ended → ((caller_at w k).stack ≡ []) × AllByRecursion (λ r. r.caller ≢ k) w.refs
  pub frames : IsTrue (not (k == 0)) → (caller_at w k).stack ≢ [] → (caller_at w k).doing ≡ activity.Scans
  pub target : (s : ℕ) → (caller_at w k).doing ≡ activity.Frees s → IsFreed w k s

-- before its first command
abbrev pub IsUnbegun : Caller → Type 0
IsUnbegun c = (c.over ≡ 0) × (c.doing ≡ activity.Idle) × (c.stack ≡ [])

-- all callers but the one that boots
abbrev pub others : List Caller → List Caller
others [] = []
others (c ∷ cs) = cs

-- while the boot goes on
pub record IsSoundBoot (w : World) : Type 0 where
  pub awake : AllByRecursion (λ d. IsTrue (not d.asleep)) w.live
  pub spared : AllByRecursion (λ d. d.condemned ≡ None) w.live
  pub no_refs : w.refs ≡ []
  pub no_turn : w.power_owner ≡ None
  pub waiting : AllByRecursion IsUnbegun (others w.callers)
  pub finalisers : AllByRecursion (λ s. IsTrue (is_live w.live s)) w.finalisers

pub record Sound (w : World) : Type 0 where
  pub devices : HasSoundDevices w.setup w.live w.next
  pub refs : HasSoundRefs w.live w.refs w.sole
  pub condemned : AllByRecursion (λ d. (k : ℕ) → d.condemned ≡ Some k → IsSoundlyCondemned w d k) w.live
  pub asleep : AllByRecursion (λ d. IsTrue d.asleep → IsSoundlyAsleep w d) w.live
  pub frames : AllByRecursion (λ c. AllByRecursion (λ f. IsTrue (is_known w (frame_serial f))) c.stack) w.callers
  pub deferred : AllByRecursion (IsSoundlyDeferred w) w.deferred
  pub callers : (k : ℕ) → IsSoundCaller w k
  pub interrupts_on : IsTrue w.interrupts_on → AllByRecursion (λ e. e.key ≢ key.Interrupts) w.deferred
  pub boot : (caller_at w 0).doing ≢ activity.Ended → IsSoundBoot w
