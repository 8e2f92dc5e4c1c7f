-- What is left of the commands that have begun, as far as one caller's event changes it.
use Rattle.std.proofs.Common.{◌≡◌, ◌≢◌, ◌<◌, ℕ, suc, ◌+◌, ◌*◌, ◌-◌, length, sum_by, refl, ap, ◌∙◌, arith}
use Rattle.run_rules.specs.declared.world.Setup.{Setup}
use Rattle.run_rules.specs.World.{World, Caller, caller_at, has_ended, is_ended}
use Rattle.run_sound.specs.Left.{scan_left}
use Rattle.run_sound.specs.Scripts.{script_of}
use Rattle.script_laws.specs.Begun.{begun_by}
use Rattle.progress_laws.specs.Ahead.{ahead, begun_left, board_left, condemned_in, frames_of, free_worth, over_callers, turn_left, unfinished}
use Rattle.run_sound.proofs.Spots.{total}
use Rattle.progress_laws.proofs.Totals.{total_one}

-- of the caller's frames and command, and of the board
abbrev pub own : ℕ → World → ℕ → ℕ
own n w k = 2 * (frames_of n w k + board_left n w) + free_worth n * condemned_in w.live + turn_left w + length w.refs + unfinished w k

-- only caller k changes
pub record OneMoves (w v : World) (k : ℕ) : Type 0 where
  pub setup : v.setup ≡ w.setup
  pub others : (j : ℕ) → j ≢ k → caller_at v j ≡ caller_at w j
  pub there : k < suc (length w.setup.scripts)

pub moves : (f : World → ℕ → ℕ) (w v : World) (k : ℕ) → OneMoves w v k → ((j : ℕ) → j ≢ k → f v j ≡ f w j) → over_callers f v + f w k ≡ over_callers f w + f v k
moves f w v k one same =
    let many : over_callers f v ≡ total (f v) (suc (length w.setup.scripts)) = ap (λ (s : Setup). total (f v) (suc (length s.scripts))) one.setup in
    omega (arith, many, total_one (f w) (f v) (suc (length w.setup.scripts)) k one.there same)

unfinished_same : (w v : World) (k : ℕ) → OneMoves w v k → (j : ℕ) → j ≢ k → unfinished v j ≡ unfinished w j
unfinished_same w v k one j other = ap (λ (s : Setup). length (script_of s j) - (caller_at v j).over) one.setup ∙ ap (λ (c : Caller). length (script_of w.setup j) - c.over) (one.others j other)

ahead_same : (w v : World) (k : ℕ) → OneMoves w v k → (j : ℕ) → j ≢ k → ahead v j ≡ ahead w j
ahead_same w v k one j other =
    let rest : length (script_of v.setup j) - begun_by (caller_at v j).over (caller_at v j).doing ≡ length (script_of w.setup j) - begun_by (caller_at w j).over (caller_at w j).doing =
    ap (λ (s : Setup). length (script_of s j) - begun_by (caller_at v j).over (caller_at v j).doing) one.setup
    ∙ ap (λ (c : Caller). length (script_of w.setup j) - begun_by c.over c.doing) (one.others j other) in
    let flag : has_ended v j ≡ has_ended w j = ap (λ (c : Caller). is_ended c.doing) (one.others j other) in
    rw (rest, flag) refl

pub ahead_moves : (w v : World) (k : ℕ) → OneMoves w v k → over_callers ahead v + ahead w k ≡ over_callers ahead w + ahead v k
ahead_moves w v k one = moves ahead w v k one (ahead_same w v k one)

own_sum : (b c t l f' b' c' t' l' fs fs' us us' f u u' : ℕ) → fs' + f ≡ fs + f' → us' + u ≡ us + u'
    → (2 * (fs' + b') + c' + t' + l' + us') + (2 * (f + b) + c + t + l + u) ≡ (2 * (fs + b) + c + t + l + us) + (2 * (f' + b') + c' + t' + l' + u')
own_sum b c t l f' b' c' t' l' fs fs' us us' f u u' x y = omega (arith, x, y)

-- the whole changes as the caller's part
pub begun_moves : (n : ℕ) (w v : World) (k : ℕ) → OneMoves w v k → begun_left n v + own n w k ≡ begun_left n w + own n v k
begun_moves n w v k one =
    own_sum (board_left n w) (free_worth n * condemned_in w.live) (turn_left w) (length w.refs) (frames_of n v k) (board_left n v) (free_worth n * condemned_in v.live) (turn_left v) (length v.refs)
    (over_callers (frames_of n) w) (over_callers (frames_of n) v) (over_callers unfinished w) (over_callers unfinished v) (frames_of n w k) (unfinished w k) (unfinished v k)
    (moves (frames_of n) w v k one (λ j other. ap (λ (c : Caller). sum_by (scan_left n) c.stack) (one.others j other))) (moves unfinished w v k one (unfinished_same w v k one))
