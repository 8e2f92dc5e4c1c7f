-- How a boot comes to a spot, turn by turn, and the last time that it does.
use Rattle.std.specs.Prelude.{◌≡◌, ◌<◌, ◌+◌, ◌&&◌, ◌==◌, ℕ, zero, suc, min, Bool, true, false, if◌then◌else◌, List, [], length, slice_get, slice_index_or, Option, Some, None}
use Rattle.std.specs.Option.{option_map_or}
use Rattle.cf_types.specs.declared.tables.Place.{Place}
use Rattle.cf_types.specs.declared.tables.Place.TheVariants.{Root}
use Rattle.run_rules.specs.declared.deed.Choice.{Choice}
use Rattle.run_rules.specs.declared.deed.Choice.TheVariants.{Does}
use Rattle.run_rules.specs.declared.deed.Deed.{Deed}
use Rattle.run_rules.specs.declared.deed.Deed.TheVariants.{Search, EndScan, Finalise}
use Rattle.run_rules.specs.declared.world.Dev.{Dev}
use Rattle.run_rules.specs.declared.world.Setup.{Setup}
use Rattle.run_rules.specs.Next.{hangs_below, next}
use Rattle.run_rules.specs.Run.{taken}
use Rattle.run_rules.specs.Search.{is_bus_indirect, is_open}
use Rattle.run_rules.specs.World.{World, attach_of, device_at, has_ended, is_number, opening}
use Rattle.plain_world.specs.Plain.{world_of}
use Rattle.plain_world.specs.LiveDevices.{LiveDevices}
use Rattle.boot_looks.specs.declared.boot.BootLooks.{BootLooks}
use Rattle.boot_looks.specs.declared.see.Span.{Span}
use Rattle.boot_looks.specs.declared.visit.Look.{Look}
use Rattle.boot_looks.specs.declared.visit.Visit.{Visit}

-- ---- the boot, turn by turn

-- the world after what caller 0 does next; as it is, if caller 0 does nothing
abbrev pub turned : World → World
turned w = (taken w 0 (next w 0)).1

-- so many turns of caller 0 behind a world
unfoldable pub behind : World → ℕ → World
behind w zero = w
behind w (suc n) = turned (behind w n)

-- after so many turns of the boot
abbrev pub world_at : Setup → ℕ → World
world_at s n = behind (opening s) n

-- ---- what comes to a spot

-- the spot hangs below the device, at an attribute that the device offers
abbrev pub is_on_bus : Setup → Dev → ℕ → Bool
is_on_bus s d x = option_map_or (hangs_below s d) (slice_get s.machine.spots x) false

abbrev pub place_at : Setup → ℕ → Place
place_at s x = option_map_or (λ spot. spot.place) (slice_get s.machine.spots x) Root

-- and the device searches it row by row
abbrev pub is_on_row_bus : Setup → Dev → ℕ → Bool
is_on_row_bus s d x = is_on_bus s d x && is_bus_indirect s.machine (Some (attach_of s d.row)) (place_at s x)

-- the end of a search row by row passes a spot that is open then
abbrev pub is_passed : World → ℕ → ℕ → Bool
is_passed w p x = option_map_or (λ d. is_on_row_bus w.setup d x && is_open w.setup.machine w.live w.absent w.hidden [] x) (device_at w.live p) false

abbrev pub visit_if : Bool → Visit → Option Visit
visit_if comes visit = if comes then Some visit else None

-- the deed searches the spot, shows it, or ends a search that passes it
abbrev pub visit_by : World → Deed → ℕ → Option Visit
visit_by w (Search p spot to got) x = visit_if (spot == x) (record { parent = p; passed = false })
visit_by w (Finalise s shown got listed anew) x = visit_if (is_number shown x) (record { parent = s; passed = false })
visit_by w (EndScan p) x = visit_if (is_passed w p x) (record { parent = p; passed = true })
visit_by w _ x = None

-- what caller 0 does next comes to the spot so
abbrev pub visit_next : World → Choice → ℕ → Option Visit
visit_next w (Does d) x = visit_by w d x
visit_next w _ x = None

-- and so the turn of the boot of this number, counted from 0
abbrev pub visit_at : Setup → ℕ → ℕ → Option Visit
visit_at s n x = visit_next (world_at s n) (next (world_at s n) 0) x

-- ---- the last time

-- a turn of the boot comes to the spot so, with these devices live, and no later one comes to it
pub record IsLook (s : Setup) (x : ℕ) (look : Look) : Type 0 where
  pub turn : ℕ
  pub visit : visit_at s turn x ≡ Some look.visit
  pub live : look.live.devices ≡ (world_at s turn).live
  pub last : (n : ℕ) → turn < n → visit_at s n x ≡ None

-- or none does
abbrev pub IsLastLook : Setup → ℕ → Option Look → Type 0
IsLastLook s x (Some look) = IsLook s x look
IsLastLook s x None = (n : ℕ) → visit_at s n x ≡ None

-- the boot ends in this world
pub record IsEnd (s : Setup) (w : World) : Type 0 where
  pub turns : ℕ
  pub world : world_at s turns ≡ w
  pub over : has_ended w 0 ≡ true

-- of each spot the look at it, if there is one
abbrev pub look_at : List (Option Look) → ℕ → Option Look
look_at looks x = slice_index_or looks x None

-- of each spot of the machine its last look, and the world in which the boot ends
pub record AreBootLooks (s : Setup) (b : BootLooks) : Type 0 where
  pub spots : length b.looks ≡ length s.machine.spots
  pub looks : (x : ℕ) → x < length s.machine.spots → IsLastLook s x (look_at b.looks x)
  pub end : IsEnd s (world_of s b.end)

-- ---- step by step

-- a visit with the devices that are live, or if there is none the last look
abbrev pub seen : LiveDevices → Option Visit → Option Look → Option Look
seen live None last = last
seen live (Some visit) last = Some (record { live = live; visit = visit })

-- of so many spots those to which the deed may come
abbrev pub span_of : Deed → ℕ → Span
span_of (Search p spot to got) count = record { first = spot; end = min count (spot + 1) }
span_of (Finalise s (Some spot) got listed anew) count = record { first = spot; end = min count (spot + 1) }
span_of (EndScan p) count = record { first = 0; end = count }
span_of _ count = record { first = 0; end = 0 }

-- of each spot the look behind a deed
pub record AreSeen (w : World) (live : LiveDevices) (d : Deed) (old new : List (Option Look)) : Type 0 where
  pub spots : length new ≡ length old
  pub looks : (x : ℕ) → x < length old → look_at new x ≡ seen live (visit_by w d x) (look_at old x)
