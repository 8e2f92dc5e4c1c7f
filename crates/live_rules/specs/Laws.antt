-- What the commands of a plan leave, whatever commands came before.
use Rattle.std.specs.Prelude.{◌≡◌, ◌≢◌, ◌↔◌, ℕ, ◌<◌, ◌+◌, true, false, List, ◌++◌, map, length}
use Rattle.std.specs.List.{AllByRecursion, Contains}
use Rattle.run_rules.specs.declared.world.Dev.{Dev}
use Rattle.run_rules.specs.World.{has}
use Rattle.run_rules.specs.Sound.{EachLater, HasSoundDevices}
use Rattle.live_rules.specs.declared.plan.PlanCommand.{PlanCommand}
use Rattle.live_rules.specs.declared.plan.LiveReply.TheVariants as reply
use Rattle.live_rules.specs.declared.plan.LiveLine.{LiveLine}
use Rattle.live_rules.specs.Live.{LiveWorld, Settled, LiveSite, Answer, add, after, attached_line, came, doomed, freed, freed_line, is_doomed, is_known, is_on, opening, pass, remove, scan}

-- ---- invariants

-- each live device came by a row that is on
abbrev pub AreOn : LiveSite → LiveWorld → Type 0
AreOn t w = AllByRecursion (λ d. is_on t w.on d.row ≡ true) w.live

-- serials rise, parents live, no two devices have a name or a spot in common, and each stands on a spot by a row that is on
pub record IsSound (t : LiveSite) (w : LiveWorld) : Type 0 where
  pub low : 0 < w.next
  pub devices : HasSoundDevices t.setup w.live w.next
  pub spots : AllByRecursion (λ d. d.spot < length t.setup.machine.spots) w.live
  pub rows : AllByRecursion (λ d. d.row < length t.setup.tables.rows) w.live
  pub on : AreOn t w

abbrev pub StaysSound : Type 0
StaysSound = (t : LiveSite) (cs : List PlanCommand) → IsSound t (after t opening cs)

-- no live device has a row that is off
abbrev pub NeverOff : Type 0
NeverOff = (t : LiveSite) (cs : List PlanCommand) → AreOn t (after t opening cs)

-- ---- what a pass leaves

abbrev pub AddsSettle : Type 0
AddsSettle = (t : LiveSite) (cs : List PlanCommand) (g : ℕ) → let w = after t opening cs in (add t w g).reply ≡ reply.Ok → Settled t (add t w g).world

abbrev pub ScansSettle : Type 0
ScansSettle = (t : LiveSite) (cs : List PlanCommand) → Settled t (scan t (after t opening cs)).world

-- what came stands behind what lived, which is as it was, and serials are counted on
pub record Appends (w v : LiveWorld) : Type 0 where
  pub behind : v.live ≡ w.live ++ came w v
  pub serials : v.next ≡ w.next + length (came w v)

abbrev pub PassesAppend : Type 0
PassesAppend = (t : LiveSite) (cs : List PlanCommand) (g : ℕ) → let w = after t opening cs in Appends w (scan t w).world × Appends w (add t w g).world

-- ---- what a removal leaves

-- the devices that live are those that are not doomed, as they were; a child of a doomed device is doomed;
-- the lines are those of the doomed, and each stands after those of its children; each parent that a live device has still lives
pub record Frees (t : LiveSite) (w : LiveWorld) (g : ℕ) (a : Answer) : Type 0 where
  pub left : (d : Dev) → Contains a.world.live d ↔ (Contains w.live d × (is_doomed t w.live g d.serial ≡ false))
  pub next : a.world.next ≡ w.next
  pub on : (h : ℕ) → has a.world.on h ≡ true ↔ ((has w.on h ≡ true) × (h ≢ g))
  pub told : a.lines ≡ map (freed_line t) (freed t w g)
  pub gone : (d : Dev) → Contains (freed t w g) d ↔ (Contains w.live d × (is_doomed t w.live g d.serial ≡ true))
  pub children_too : (d e : Dev) → Contains w.live d → Contains w.live e → e.parent ≡ d.serial → is_doomed t w.live g d.serial ≡ true → is_doomed t w.live g e.serial ≡ true
  pub children_first : EachLater (λ d e. e.parent ≢ d.serial) (freed t w g)
  pub parents : AllByRecursion (λ d. is_known a.world d.parent ≡ true) a.world.live

abbrev pub RemovesFree : Type 0
RemovesFree = (t : LiveSite) (cs : List PlanCommand) (g : ℕ) → let w = after t opening cs in (remove t w g).reply ≡ reply.Ok → Frees t w g (remove t w g)

-- ---- a group that comes and goes

-- where the world was settled, what a group brings is doomed, so that its removal, if no device hinders it, leaves the devices and the groups as they were
pub record IsUndone (t : LiveSite) (w : LiveWorld) (g : ℕ) (v : LiveWorld) : Type 0 where
  pub is_on : has v.on g ≡ true
  pub brought : doomed t v g ≡ came w v
  pub devices : (remove t v g).reply ≡ reply.Ok → (remove t v g).world.live ≡ w.live
  pub groups : (remove t v g).reply ≡ reply.Ok → (remove t v g).world.on ≡ w.on

abbrev pub AddsUndone : Type 0
AddsUndone =
    (t : LiveSite) (cs : List PlanCommand) (g : ℕ) → let w = after t opening cs in Settled t w → (add t w g).reply ≡ reply.Ok → IsUndone t w g (add t w g).world

-- ---- a pass cut short

-- what came is the beginning of what comes in a whole pass, and each device that came has its line behind those that were there
pub record IsCutShort (t : LiveSite) (w v : LiveWorld) (old new : List LiveLine) : Type 0 where
  pub first : List Dev
  pub rest : List Dev
  pub came : v.live ≡ w.live ++ first
  pub begins : (pass t w).live ≡ v.live ++ rest
  pub serials : v.next ≡ w.next + length first
  pub on : v.on ≡ w.on
  pub lines : new ≡ old ++ map (attached_line t v.live) first
