-- How much is left before any event.
use Rattle.std.proofs.Common.{◌≡◌, ◌≤◌, ℕ, zero, suc, ◌+◌, ◌*◌, Bool, true, false, cond, List, [], ◌∷◌, map, length, sum_by, refl, ap, arith, slice_index_or, length-append}
use Rattle.std.specs.Prelude.{slice_get}
use Rattle.std.specs.Option.{option_map_or}
use Rattle.std.proofs.lemmas.List.Sums.{count_by-le-length, length-filter, sum_by-cons}
use Rattle.cf_types.specs.Numbers.{below}
use Rattle.cf_types.specs.declared.machine.Command.{Command}
use Rattle.run_rules.specs.declared.world.Setup.{Setup}
use Rattle.run_rules.specs.World.{World, beginning, has_ended, late_spots, nobody, opening, scan_of}
use Rattle.run_sound.specs.Kept.{MayRun}
use Rattle.run_sound.specs.Left.{free_spots, scan_left, spot_worth, whole_scan}
use Rattle.run_sound.specs.Scripts.{script_of}
use Rattle.run_sound.proofs.Opening.{opening_kept}
use Rattle.progress_laws.specs.Ahead.{ahead, begun_left, board_left, command_worth, frames_of, over_callers, run_left, unfinished}
use Rattle.progress_laws.specs.Ends.{commands_of, most_events}
use Rattle.run_sound.proofs.Falls.{frames_cons, product_le}
use Rattle.run_sound.proofs.Spots.{total, total_le}
use Rattle.progress_laws.proofs.Totals.{total_first, total_more, total_none}

-- ---- the commands

lines_at : (scripts : List (List Command)) → total (λ k. length (slice_index_or scripts k [])) (length scripts) ≡ sum_by length scripts
lines_at [] = refl
lines_at (x ∷ xs) = omega (arith, total_first (λ k. length (slice_index_or (x ∷ xs) k [])) (length xs), lines_at xs, sum_by-cons (λ (c : List Command). length c) x xs)

lines_are : (s : Setup) → total (λ k. length (script_of s k)) (suc (length s.scripts)) ≡ commands_of s
lines_are s = omega (arith, total_first (λ k. length (script_of s k)) (length s.scripts), lines_at s.scripts)

at_most_one : (b : Bool) → cond {A = ℕ} b 0 1 ≤ 1
at_most_one true = omega arith
at_most_one false = omega arith

ahead_few : (w : World) → over_callers ahead w ≤ commands_of w.setup + length w.setup.scripts + 1
ahead_few w =
    let f : ℕ → ℕ = λ k. length (script_of w.setup k) in
    omega (arith, total_le (ahead w) (λ k. f k + 1) (suc (length w.setup.scripts)) (λ k. omega (arith, at_most_one (has_ended w k))), total_more f (suc (length w.setup.scripts)), lines_are w.setup)

unfinished_few : (w : World) → over_callers unfinished w ≤ commands_of w.setup
unfinished_few w = omega (arith, total_le (unfinished w) (λ k. length (script_of w.setup k)) (suc (length w.setup.scripts)) (λ k. omega arith), lines_are w.setup)

-- ---- the frames

no_frames : (scripts : List (List Command)) (k : ℕ) → (slice_index_or (map (λ (script : List Command). beginning []) scripts) k nobody).stack ≡ []
no_frames [] k = refl
no_frames (x ∷ xs) zero = refl
no_frames (x ∷ xs) (suc k) = no_frames xs k

frames_first : (s : Setup) (n : ℕ) → over_callers (frames_of n) (opening s) ≡ whole_scan n
unfolding opening
frames_first s n =
    omega (
      arith,
      total_first (frames_of n (opening s)) (length s.scripts),
      total_none (λ k. frames_of n (opening s) (suc k)) (length s.scripts) (λ k. ap (sum_by (scan_left n)) (no_frames s.scripts k)),
      frames_cons n (scan_of 0) [],
    )

-- ---- the board

below_many : (n : ℕ) → length (below n) ≡ n
below_many zero = refl
below_many (suc n) = omega (arith, length-append (below n) (n ∷ []), below_many n)

late_few : (s : Setup) → length (late_spots s) ≤ length s.machine.spots
unfolding late_spots
late_few s =
    let test : ℕ → Bool = λ x. option_map_or (λ spot. spot.late) (slice_get s.machine.spots x) false in
    omega (arith, length-filter test (below (length s.machine.spots)), count_by-le-length test (below (length s.machine.spots)), below_many (length s.machine.spots))

board_first : (s : Setup) → MayRun s → board_left (length s.machine.spots) (opening s) ≤ spot_worth (length s.machine.spots) * length s.machine.spots + length s.machine.spots * length s.machine.spots + 1
unfolding opening
board_first s may =
    let n : ℕ = length s.machine.spots in
    let free : free_spots [] n ≤ n = omega (arith, (opening_kept s may).ranges.devices.few) in
    omega (arith, product_le (spot_worth n) (free_spots [] n) n free, product_le n (length (late_spots s)) n (late_few s))

-- ---- all of it

pub opens_with : (s : Setup) → (opening s).setup ≡ s
unfolding opening
opens_with s = refl

begun_first : (s : Setup) → MayRun s → begun_left (length s.machine.spots) (opening s)
    ≤ 2 * (whole_scan (length s.machine.spots) + spot_worth (length s.machine.spots) * length s.machine.spots + length s.machine.spots * length s.machine.spots + 1) + commands_of s
unfolding opening
begun_first s may = omega (arith, frames_first s (length s.machine.spots), board_first s may, unfinished_few (opening s))

pub left_first : (s : Setup) → MayRun s → run_left (opening s) ≤ most_events s
unfolding run_left opening
left_first s may =
    let n : ℕ = length s.machine.spots in
    omega (arith, product_le (command_worth n) (over_callers ahead (opening s)) (commands_of s + length s.scripts + 1) (ahead_few (opening s)), begun_first s may)
