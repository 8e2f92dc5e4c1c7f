-- A sound world, and worlds that soundness refuses, one for each of its facts.
use Rattle.std.proofs.Common.{◌≡◌, ℕ, true, false, Option, Some, None, List, [], ◌∷◌, refl, arith}
use Rattle.std.specs.Prelude.{false, replicate}
use Rattle.cf_types.specs.declared.machine.Ticket.{Ticket}
use Rattle.cf_types.specs.declared.tables.Place.TheVariants as place
use Rattle.run_rules.specs.declared.world.Setup.{Setup}
use Rattle.run_rules.specs.declared.world.Dev.{Dev}
use Rattle.run_rules.specs.declared.world.Frame.{Frame}
use Rattle.run_rules.specs.declared.world.Frame.TheVariants as frame
use Rattle.run_rules.specs.declared.world.Key.TheVariants as key
use Rattle.run_rules.specs.declared.world.Activity.TheVariants as activity
use Rattle.run_rules.specs.World.{World, has, scan_of, lineage, is_under, is_pinned, setup_of}
use Rattle.run_rules.specs.Sound.{Sound}
use Rattle.worked_runs.proofs.SoundTest.{sound_from}
use Rattle.worked_runs.proofs.Inputs.{device, row, tables_of}
use Rattle.worked_runs.proofs.Worked.{asleep, caller, condemned, dev, ended, frees, idle, put_off, ref, scans, suspends}
use Rattle.worked_runs.proofs.Worlds.{machine_of}

-- two drivers and a row of each
abbrev small : Setup
small = setup_of
    (tables_of [] (device "bus" None [] ∷ device "com" None [] ∷ []) []
    (row 0 0 false 0 place.Root None [] ∷ row 1 0 false 1 (place.At 0) None [] ∷ []))
    (machine_of 0 [] []) []

abbrev bus : Dev
bus = dev 1 0 0 0 0

abbrev leaf : Dev
leaf = dev 2 1 0 1 1

abbrev good : World
good = record {
  setup = small;
  live = bus ∷ leaf ∷ [];
  refs = [];
  next = 3;
  sole = [];
  interrupts_on = true;
  absent = [];
  hidden = [];
  power_owner = None;
  deferred = [];
  next_finaliser = 0;
  finalisers = [];
  pass_repeats = false;
  callers = ended 0 ∷ idle 0 ∷ idle 0 ∷ [];
}

good_is_sound : Sound good
unfolding lineage is_under is_pinned
good_is_sound = sound_from good refl

not_both : true ≡ false → ⊥
not_both e = cc

not_either : false ≡ true → ⊥
not_either e = cc

-- ---- devices

out_of_order : Sound (record good { live = record leaf { parent = 0 } ∷ bus ∷ [] }) → ⊥
out_of_order h = omega (arith, h.devices.apart.0.0.later)

not_given_out : Sound (record good { next = 2 }) → ⊥
not_given_out h = omega (arith, h.devices.placed.1.0.below_next)

orphan : Sound (record good { live = leaf ∷ [] }) → ⊥
orphan h = not_either h.devices.placed.0.parent_live

below_later : Sound (record good { live = record bus { parent = 2 } ∷ leaf ∷ [] }) → ⊥
below_later h = omega (arith, h.devices.placed.0.after_parent)

one_name : Sound (record good { live = bus ∷ record leaf { row = 0 } ∷ [] }) → ⊥
one_name h = not_either h.devices.apart.0.0.names

one_spot : Sound (record good { live = bus ∷ record leaf { spot = 0 } ∷ [] }) → ⊥
one_spot h = h.devices.apart.0.0.spots refl

-- ---- references

held_dead : Sound (record good { refs = ref 7 1 ∷ [] }) → ⊥
held_dead h = not_either h.refs.live_ones.0

-- a device that two callers hold, one of them twice, and one that is held solely
abbrev held : World
held = record good { refs = ref 1 2 ∷ ref 2 2 ∷ ref 2 1 ∷ ref 2 1 ∷ []; sole = 1 ∷ [] }

held_is_sound : Sound held
unfolding lineage is_under is_pinned
held_is_sound = sound_from held refl

held_16_times : Sound (record good { refs = replicate 16 (ref 2 1) }) → ⊥
held_16_times h = omega (arith, h.refs.counted.few 1 2)

sole_and_shared : Sound (record good { refs = ref 2 1 ∷ ref 2 2 ∷ []; sole = 2 ∷ [] }) → ⊥
sole_and_shared h = omega (arith, h.refs.counted.alone 2 refl)

sole_twice : Sound (record good { refs = ref 2 1 ∷ ref 2 1 ∷ []; sole = 2 ∷ [] }) → ⊥
sole_twice h = omega (arith, h.refs.counted.alone 2 refl)

sole_and_free : Sound (record good { sole = 2 ∷ [] }) → ⊥
sole_and_free h = omega (arith, h.refs.counted.alone 2 refl)

-- ---- condemned devices

abbrev doomed : World
doomed = record good { live = bus ∷ condemned 1 leaf ∷ []; callers = ended 0 ∷ frees 0 2 ∷ idle 0 ∷ [] }

doomed_is_sound : Sound doomed
unfolding lineage is_under is_pinned
doomed_is_sound = sound_from doomed refl

doomed_pinned : Sound (record doomed { callers = ended 0 ∷ frees 0 2 ∷ scans 0 (scan_of 2 ∷ []) ∷ [] }) → ⊥
unfolding is_pinned
doomed_pinned h = not_both (h.condemned.1.0 1 refl).unpinned

not_the_child : Sound (record doomed { live = condemned 1 bus ∷ leaf ∷ []; callers = ended 0 ∷ frees 0 1 ∷ idle 0 ∷ [] }) → ⊥
not_the_child h = clash ((h.condemned.0 1 refl).children.1.0 refl)
  where
    clash : ◌≡◌ {A = Option ℕ} None (Some 1) → ⊥
    clash e = cc

nobody_frees : Sound (record doomed { callers = ended 0 ∷ idle 0 ∷ idle 0 ∷ [] }) → ⊥
nobody_frees h = clash (h.condemned.1.0 1 refl).below_target.0 (h.condemned.1.0 1 refl).below_target.1
  where
    clash : (t : ℕ) → activity.Idle ≡ activity.Frees t → ⊥
    clash t e = cc

not_below_target : Sound (record doomed {
  live = condemned 1 bus ∷ record leaf { parent = 0; condemned = Some 1 } ∷ [];
  callers = ended 0 ∷ frees 0 1 ∷ idle 0 ∷ [];
}) → ⊥
unfolding lineage is_under
not_below_target h =
    let p = (h.condemned.1.0 1 refl).below_target in
    case p.0 p.1 p.2
  where
    case : (t : ℕ) → activity.Frees 1 ≡ activity.Frees t → has (2 ∷ 0 ∷ []) t ≡ true → ⊥
    case t e f = cc

target_spared : Sound (record good { callers = ended 0 ∷ frees 0 2 ∷ idle 0 ∷ [] }) → ⊥
target_spared h = clash (((h.callers 1).target 2 refl).0.1.0 refl)
  where
    clash : ◌≡◌ {A = Option ℕ} None (Some 1) → ⊥
    clash e = cc

-- ---- sleeping devices

sleeps_pinned : Sound (record good {
  live = bus ∷ asleep leaf ∷ [];
  callers = ended 0 ∷ scans 0 (frame.Finaliser 2 ∷ []) ∷ idle 0 ∷ [];
}) → ⊥
unfolding is_pinned
sleeps_pinned h = not_both (h.asleep.1.0 refl).unpinned

sleeps_above_awake : Sound (record good { live = asleep bus ∷ leaf ∷ [] }) → ⊥
sleeps_above_awake h = not_either ((h.asleep.0 refl).children.1.0 refl)

-- ---- frames and deferred entries

frame_of_dead : Sound (record good { callers = ended 0 ∷ scans 0 (scan_of 7 ∷ []) ∷ idle 0 ∷ [] }) → ⊥
frame_of_dead h = not_either h.frames.1.0.0

deferred_dead : Sound (record good { deferred = put_off 1 7 ∷ []; callers = ended 0 ∷ scans 0 (scan_of 1 ∷ []) ∷ idle 0 ∷ [] }) → ⊥
deferred_dead h = not_either h.deferred.0.0

deferred_alone : Sound (record good { deferred = put_off 1 2 ∷ []; callers = ended 0 ∷ scans 0 (frame.Finaliser 1 ∷ []) ∷ idle 0 ∷ [] }) → ⊥
deferred_alone h = not_either h.deferred.0.1

still_queued : Sound (record good { deferred = record { key = key.Interrupts; child = 2 } ∷ [] }) → ⊥
still_queued h = (h.interrupts_on refl).0 refl

-- ---- callers

turn_of_idle : Sound (record good { power_owner = Some 1 }) → ⊥
turn_of_idle h = not_either ((h.callers 1).turn.0 refl)

power_without_turn : Sound (record good { callers = ended 0 ∷ suspends 0 2 ∷ idle 0 ∷ [] }) → ⊥
power_without_turn h = not_either ((h.callers 1).turn.1 refl)

turn_of_nobody : Sound (record good { power_owner = Some 9 }) → ⊥
turn_of_nobody h = not_either ((h.callers 9).turn.0 refl)

abbrev ticket : Ticket
ticket = record { caller = 1; number = 1; serial = 2; slot = 1; bad = false; value = 0 }

transfer_unheld : Sound (record good { callers = ended 0 ∷ caller 0 (activity.Transfer ticket) [] ∷ idle 0 ∷ [] }) → ⊥
transfer_unheld h = not_either ((h.callers 1).transfer ticket refl)

ended_with_reference : Sound (record good { refs = ref 2 1 ∷ []; callers = ended 0 ∷ ended 0 ∷ idle 0 ∷ [] }) → ⊥
ended_with_reference h = ((h.callers 1).ended refl).1.0 refl

held_by_the_boot : Sound (record good { refs = ref 2 0 ∷ [] }) → ⊥
held_by_the_boot h = ((h.callers 0).ended refl).1.0 refl

held_by_nobody : Sound (record good { refs = ref 2 9 ∷ [] }) → ⊥
held_by_nobody h = ((h.callers 9).ended refl).1.0 refl

ended_with_frame : Sound (record good { callers = ended 0 ∷ caller 0 activity.Ended (scan_of 2 ∷ []) ∷ idle 0 ∷ [] }) → ⊥
ended_with_frame h = clash (scan_of 2) [] ((h.callers 1).ended refl).0
  where
    clash : (f : Frame) (fs : List Frame) → f ∷ fs ≡ [] → ⊥
    clash f fs e = cc

idle_with_frame : Sound (record good { callers = ended 0 ∷ caller 0 activity.Idle (scan_of 2 ∷ []) ∷ idle 0 ∷ [] }) → ⊥
idle_with_frame h = clash ((h.callers 1).frames refl (λ e. bare (scan_of 2) [] e))
  where
    bare : (f : Frame) (fs : List Frame) → f ∷ fs ≡ [] → ⊥
    bare f fs e = cc

    clash : activity.Idle ≡ activity.Scans → ⊥
    clash e = cc

-- ---- while the boot goes on

abbrev booting : World
booting = record good {
  interrupts_on = false;
  callers = caller 0 activity.Idle (scan_of 2 ∷ scan_of 1 ∷ scan_of 0 ∷ []) ∷ idle 0 ∷ idle 0 ∷ [];
}

booting_is_sound : Sound booting
unfolding lineage is_under is_pinned
booting_is_sound = sound_from booting refl

goes_on : activity.Idle ≡ activity.Ended → ⊥
goes_on e = cc

boot_asleep : Sound (record booting { live = bus ∷ asleep leaf ∷ [] }) → ⊥
boot_asleep h = not_either (h.boot goes_on).awake.1.0

boot_condemned : Sound (record booting { live = bus ∷ condemned 1 leaf ∷ [] }) → ⊥
boot_condemned h = clash (h.boot goes_on).spared.1.0
  where
    clash : ◌≡◌ {A = Option ℕ} (Some 1) None → ⊥
    clash e = cc

boot_finaliser : Sound (record booting { finalisers = 7 ∷ [] }) → ⊥
boot_finaliser h = not_either (h.boot goes_on).finalisers.0

boot_begun : Sound (record booting { callers = caller 0 activity.Idle (scan_of 0 ∷ []) ∷ idle 1 ∷ idle 0 ∷ [] }) → ⊥
boot_begun h = clash (h.boot goes_on).waiting.0.0
  where
    clash : ◌≡◌ {A = ℕ} 1 0 → ⊥
    clash e = cc

boot_other_ended : Sound (record booting { callers = caller 0 activity.Idle (scan_of 0 ∷ []) ∷ idle 0 ∷ ended 0 ∷ [] }) → ⊥
boot_other_ended h = clash (h.boot goes_on).waiting.1.0.1
  where
    clash : activity.Ended ≡ activity.Idle → ⊥
    clash e = cc
