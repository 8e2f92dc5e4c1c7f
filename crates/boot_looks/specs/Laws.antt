-- What the turns of a boot have to do with its events.
use Rattle.std.specs.Prelude.{◌≡◌, ℕ, Bool, true, false, List, length, slice_get, Some, IsSome, option_map}
use Rattle.std.specs.List.{AllByRecursion}
use Rattle.std.specs.Option.{option_map_or}
use Rattle.run_rules.specs.declared.deed.Choice.TheVariants.{Does}
use Rattle.run_rules.specs.declared.deed.Deed.{Deed}
use Rattle.run_rules.specs.declared.event.Event.{Event}
use Rattle.run_rules.specs.declared.world.Setup.{Setup}
use Rattle.run_rules.specs.Next.{next}
use Rattle.run_rules.specs.Run.{Run}
use Rattle.run_rules.specs.Search.{winner_at}
use Rattle.run_rules.specs.World.{World, device_on, has, opening}
use Rattle.run_sound.specs.Kept.{MayRun}
use Rattle.plain_search.specs.Deeds.{coming}
use Rattle.plain_world.specs.Plain.{world_of}
use Rattle.boot_looks.specs.declared.boot.BootLooks.{BootLooks}
use Rattle.boot_looks.specs.declared.visit.Visit.{Visit}
use Rattle.boot_looks.specs.Looks.{AreBootLooks, is_on_bus, look_at, place_at, visit_by, world_at}

-- some events of the boot lead to the world
pub record IsRunTo (s : Setup) (w : World) : Type 0 where
  pub events : List Event
  pub run : Run (opening s) events w
  pub alone : AllByRecursion (λ e. e.caller ≡ 0) events

-- events of the boot lead to the world that as many turns lead to, and each turn leads to such a world
pub record BootsAreTurns : Type 0 where
  pub events : (s : Setup) (h : List Event) (w : World) → Run (opening s) h w → AllByRecursion (λ e. e.caller ≡ 0) h → w ≡ world_at s (length h)
  pub turns : (s : Setup) (n : ℕ) → IsRunTo s (world_at s n)

-- a deed that comes to a spot attaches the row that wins the spot there, or nothing if no row does
abbrev pub VisitsTakeWinners : Type 0
VisitsTakeWinners =
    (w : World) (x : ℕ) (visit : Visit) (d : Deed) → next w 0 ≡ Does d → visit_by w d x ≡ Some visit → visit.passed ≡ false
    → option_map (λ a. a.row) (coming d) ≡ winner_at w.setup w.live visit.parent (place_at w.setup x) x

-- the spot hangs below the root, or below a spot on which a device stands that offers its attribute
abbrev pub is_below_bus : World → ℕ → Bool
is_below_bus w x =
    option_map_or (λ spot. option_map_or (λ above. option_map_or (λ d. is_on_bus w.setup d x) (device_on w.live above) false) spot.parent true)
    (slice_get w.setup.machine.spots x) false

-- a boot came to each spot that hangs so when it has ended, and is neither absent nor hidden then
abbrev pub BootsMissNone : Type 0
BootsMissNone =
    (s : Setup) (b : BootLooks) (x : ℕ) → MayRun s → AreBootLooks s b → is_below_bus (world_of s b.end) x ≡ true
    → has (world_of s b.end).absent x ≡ false → has (world_of s b.end).hidden x ≡ false → IsSome (look_at b.looks x)
