-- A frame's deed lowers what is left, whoever does it.
use Rattle.std.proofs.Common.{◌≡◌, ◌≢◌, ◌<◌, ◌≤◌, inl, inr, ℕ, zero, suc, ◌+◌, ◌*◌, ◌-◌, Bool, true, false, cond, List, [], ◌∷◌, length, sum_by, Option, Some, None, refl, sym, ap, ◌∙◌, arith}
use Rattle.run_rules.specs.declared.world.Arrival.{Arrival}
use Rattle.run_rules.specs.declared.world.Deferred.{Deferred}
use Rattle.run_rules.specs.declared.world.Frame.{Frame}
use Rattle.run_rules.specs.declared.world.Frame.TheVariants.{Scan, Finaliser}
use Rattle.run_rules.specs.declared.world.Position.{Position}
use Rattle.run_rules.specs.declared.world.Setup.{Setup}
use Rattle.run_rules.specs.declared.world.Activity.{Activity}
use Rattle.run_rules.specs.declared.world.Activity.TheVariants as activity
use Rattle.run_rules.specs.World.{World, Caller, caller_at, has_ended, is_ended}
use Rattle.run_rules.specs.Sound.{is_powering}
use Rattle.run_rules.specs.After.{after, settled}
use Rattle.run_rules.specs.Next.{next}
use Rattle.run_rules.specs.declared.deed.Deed.{Deed}
use Rattle.run_rules.specs.declared.deed.Deed.TheVariants.{Search, EndScan, BeginInterrupts, Finalise}
use Rattle.run_rules.specs.declared.deed.Choice.TheVariants.{Does}
use Rattle.run_rules.proofs.Setups.{after_setup}
use Rattle.run_sound.proofs.Coming.{IsCall, IsCalled, IsScanEnd, IsTurn}
use Rattle.run_sound.specs.Kept.{Kept, MayRun}
use Rattle.run_sound.specs.Left.{boot_left, free_spots, scan_left, spot_worth, whole_scan}
use Rattle.run_sound.specs.Scripts.{script_of}
use Rattle.run_sound.proofs.Arrivals.{quiet_call, shown_inside}
use Rattle.run_sound.proofs.Callers.{doing_so, doing_there, later_test}
use Rattle.run_sound.proofs.Falls.{boot_falls}
use Rattle.run_sound.proofs.Ranges.{comes_fit}
use Rattle.run_sound.proofs.RangesCallers.{others_stay}
use Rattle.run_sound.proofs.Reasons.{has_reason}
use Rattle.run_sound.proofs.OwnCaller.{own_finalised, own_interrupts, own_scan_over, own_searched}
use Rattle.progress_laws.specs.Ahead.{condemned_in, frames_of, free_worth, turn_left, unfinished}
use Rattle.progress_laws.proofs.Frames.{bare_falls, end_falls, pass_falls, quiet_falls, shows_falls, turn_falls, work}
use Rattle.progress_laws.proofs.Own.{own}
use Rattle.progress_laws.proofs.Sides.{Side, end_side, finalise_side, phase_side, search_side}
use Rattle.progress_laws.proofs.Turns.{turn_stirs}

-- ---- who has a frame is in no power command

boot_calm : (w : World) → Kept w → is_powering (caller_at w 0).doing ≡ false
boot_calm w kept = elim kept.ranges.callers.booting [ inl idle ↦ ap is_powering idle | inr ended ↦ ap is_powering ended ]

scan_calm : (w : World) (k : ℕ) → Kept w → (caller_at w k).stack ≢ [] → is_powering (caller_at w k).doing ≡ false
scan_calm w zero kept some = boot_calm w kept
scan_calm w (suc k) kept some = ap is_powering ((kept.sound.callers (suc k)).frames (later_test (suc k) (λ same. omega (arith, same))) some)

topped : (w : World) (k : ℕ) (f : Frame) (rest : List Frame) → Kept w → (caller_at w k).stack ≡ f ∷ rest → is_powering (caller_at w k).doing ≡ false
topped w k f rest kept e = scan_calm w k kept (λ none. let no : f ∷ rest ≡ [] = sym e ∙ none in cc)

at_boot : (w : World) (k : ℕ) → Kept w → k ≡ 0 → is_powering (caller_at w k).doing ≡ false
at_boot w k kept same = rw same (boot_calm w kept)

-- ---- no command begins

-- no fewer commands are over, and the caller goes on
abbrev IsPast : ℕ → Caller → Type 0
IsPast n c = (n ≤ c.over) × (is_ended c.doing ≡ false)

past_settled : (n over : ℕ) (a : Activity) (stack : List Frame) → n ≤ over → is_ended a ≡ false → IsPast n (settled (record { over = over; doing = a; stack = stack }))
past_settled n over activity.Scans [] le goes = (omega (arith, le), refl)
past_settled n over activity.Scans (f ∷ fs) le goes = (le, goes)
past_settled n over activity.Idle stack le goes = (le, goes)
past_settled n over activity.Ended stack le goes = (le, goes)
past_settled n over (activity.Transfer t) stack le goes = (le, goes)
past_settled n over (activity.Frees s) stack le goes = (le, goes)
past_settled n over (activity.Power kind s) stack le goes = (le, goes)

past_keeps : (n : ℕ) (c : Caller) (stack : List Frame) → IsPast n c → IsPast n (settled (record { over = c.over; doing = c.doing; stack = stack }))
past_keeps n c stack h = past_settled n c.over c.doing stack h.0 h.1

past_now : (w : World) (k : ℕ) → has_ended w k ≡ false → IsPast (caller_at w k).over (caller_at w k)
past_now w k goes = (omega arith, goes)

pub unfinished_less : (w : World) (k : ℕ) (d : Deed) → (caller_at w k).over ≤ (caller_at (after w k d) k).over → unfinished (after w k d) k ≤ unfinished w k
unfinished_less w k d le =
    let same : length (script_of (after w k d).setup k) ≡ length (script_of w.setup k) = ap (λ (s : Setup). length (script_of s k)) (after_setup w k d) in
    omega (arith, le, same)

-- ---- the sum

frame_sum : (x x' c t t' l u u' : ℕ) → x' < x → t' ≤ t + 1 → u' ≤ u → 2 * x' + c + t' + l + u' < 2 * x + c + t + l + u
frame_sum x x' c t t' l u u' a b e = omega (arith, a, b, e)

lowers : (n : ℕ) (w : World) (k : ℕ) (d : Deed) → Kept w → is_powering (caller_at w k).doing ≡ false → Side w (after w k d) → (caller_at w k).over ≤ (caller_at (after w k d) k).over
    → work n (after w k d) k < work n w k → own n (after w k d) k < own n w k
lowers n w k d kept calm side past less =
    let turn : turn_left (after w k d) ≤ turn_left w + 1 = turn_stirs 1 w (after w k d) k kept.sound calm side.leaves.owner (λ j other. others_stay w k j d other) side.stirs in
    let refs : length (after w k d).refs ≡ length w.refs = ap length side.leaves.refs in
    rw (side.condemned, refs)
    (frame_sum (work n w k) (work n (after w k d) k) (free_worth n * condemned_in w.live) (turn_left w) (turn_left (after w k d)) (length w.refs) (unfinished w k) (unfinished (after w k d) k)
    less turn (unfinished_less w k d past))

-- ---- the boot

boot_sum : (f wa wf fi pa hi on f' wa' wf' fi' pa' hi' on' e e' : ℕ) → e ≡ e' → f' + wa' + wf' + fi' + pa' + hi' + on' + e' < f + wa + wf + fi + pa + hi + on + e
    → f' + (wa' + wf' + fi' + pa' + hi' + on') < f + (wa + wf + fi + pa + hi + on)
boot_sum f wa wf fi pa hi on f' wa' wf' fi' pa' hi' on' e e' same less = omega (arith, less, same)

abbrev left : ℕ → World → ℕ
left n w =
    sum_by (scan_left n) (caller_at w 0).stack + sum_by (λ (e : Deferred). whole_scan n) w.deferred + spot_worth n * free_spots w.live n + (length w.finalisers - w.next_finaliser) + cond w.pass_repeats n 0 + n * length w.hidden
    + cond w.interrupts_on 0 1 + cond (has_ended w 0) 0 1

left_is : (w : World) (n : ℕ) → length w.setup.machine.spots ≡ n → boot_left w ≡ left n w
unfolding boot_left
left_is w n e = rw e refl

boot_work : (w : World) (d : Deed) → MayRun w.setup → Kept w → next w 0 ≡ Does d → has_ended (after w 0 d) 0 ≡ false
    → work (length w.setup.machine.spots) (after w 0 d) 0 < work (length w.setup.machine.spots) w 0
boot_work w d may kept e goes =
    let n : ℕ = length w.setup.machine.spots in
    let v : World = after w 0 d in
    let same : length v.setup.machine.spots ≡ n = ap (λ (s : Setup). length s.machine.spots) (after_setup w 0 d) in
    let less : left n v < left n w = rw (left_is v n same, left_is w n refl) at (boot_falls w d may kept e) in
    let flag : has_ended w 0 ≡ has_ended v 0 = (doing_so w 0 d e).unended ∙ sym goes in
    boot_sum (frames_of n w 0) (sum_by (λ (e : Deferred). whole_scan n) w.deferred) (spot_worth n * free_spots w.live n) (length w.finalisers - w.next_finaliser) (cond w.pass_repeats n 0) (n * length w.hidden) (cond w.interrupts_on 0 1)
    (frames_of n v 0) (sum_by (λ (e : Deferred). whole_scan n) v.deferred) (spot_worth n * free_spots v.live n) (length v.finalisers - v.next_finaliser) (cond v.pass_repeats n 0) (n * length v.hidden) (cond v.interrupts_on 0 1)
    (cond (has_ended w 0) 0 1) (cond (has_ended v 0) 0 1) (ap (λ (b : Bool). cond {A = ℕ} b 0 1) flag) less

-- ---- each deed of a frame

turn_works : (w : World) (k p spot : ℕ) (to : Position) (got : Option Arrival) → MayRun w.setup → Kept w → next w k ≡ Does (Search p spot to got)
    → work (length w.setup.machine.spots) (after w k (Search p spot to got)) k < work (length w.setup.machine.spots) w k
turn_works w zero p spot to got may kept e =
    boot_work w (Search p spot to got) may kept e (own_searched (IsPast _) (past_keeps _) w 0 p spot to got (past_now w 0 (doing_so w 0 (Search p spot to got) e).unended)).1
turn_works w (suc k) p spot to None may kept e = pass_falls w (suc k) p spot to may (doing_there w (suc k) (Search p spot to None) e) (has_reason w (suc k) (Search p spot to None) e)
turn_works w (suc k) p spot to (Some a) may kept e =
    turn_falls (length w.setup.machine.spots) w (suc k) p spot to a (λ same. omega (arith, same)) ((doing_so w (suc k) (Search p spot to (Some a)) e).after_boot (λ same. omega (arith, same)))
    (doing_there w (suc k) (Search p spot to (Some a)) e) (comes_fit w (suc k) (Search p spot to (Some a)) may kept e) refl

pub search_lowers : (w : World) (k p spot : ℕ) (to : Position) (got : Option Arrival) → MayRun w.setup → Kept w → next w k ≡ Does (Search p spot to got)
    → own (length w.setup.machine.spots) (after w k (Search p spot to got)) k < own (length w.setup.machine.spots) w k
search_lowers w k p spot to got may kept e =
    let why : IsTurn w k p spot to got = has_reason w k (Search p spot to got) e in
    lowers (length w.setup.machine.spots) w k (Search p spot to got) kept (topped w k (Scan p why.only why.wanted why.from) why.rest kept why.stack) (search_side w k p spot to got)
    (own_searched (IsPast _) (past_keeps _) w k p spot to got (past_now w k (doing_so w k (Search p spot to got) e).unended)).0 (turn_works w k p spot to got may kept e)

pub scan_end_lowers : (w : World) (k p : ℕ) → MayRun w.setup → Kept w → next w k ≡ Does (EndScan p)
    → own (length w.setup.machine.spots) (after w k (EndScan p)) k < own (length w.setup.machine.spots) w k
scan_end_lowers w k p may kept e =
    let why : IsScanEnd w k p = has_reason w k (EndScan p) e in
    lowers (length w.setup.machine.spots) w k (EndScan p) kept (topped w k (Scan p why.only why.wanted why.from) why.rest kept why.stack) (end_side w k p)
    (own_scan_over (IsPast _) (past_keeps _) w k p (past_now w k (doing_so w k (EndScan p) e).unended)).0 (end_falls (length w.setup.machine.spots) w k p (doing_there w k (EndScan p) e) why)

phase_own : (w : World) (k : ℕ) → k ≡ 0 → MayRun w.setup → Kept w → next w k ≡ Does BeginInterrupts → own (length w.setup.machine.spots) (after w k BeginInterrupts) k < own (length w.setup.machine.spots) w k
phase_own w zero same may kept e =
    let past = own_interrupts (IsPast _) (past_keeps _) w 0 (past_now w 0 (doing_so w 0 BeginInterrupts e).unended) in
    lowers (length w.setup.machine.spots) w 0 BeginInterrupts kept (boot_calm w kept) (phase_side w 0) past.0 (boot_work w BeginInterrupts may kept e past.1)
phase_own w (suc k) same may kept e = absurd (omega (arith, same))

pub phase_lowers : (w : World) (k : ℕ) → MayRun w.setup → Kept w → next w k ≡ Does BeginInterrupts → own (length w.setup.machine.spots) (after w k BeginInterrupts) k < own (length w.setup.machine.spots) w k
phase_lowers w k may kept e = phase_own w k (has_reason w k BeginInterrupts e).boots may kept e

-- a finaliser on top
call_works : (w : World) (k s : ℕ) (spot : Option ℕ) (got : Option Arrival) (anew : Bool) → k ≢ 0 → MayRun w.setup → Kept w → next w k ≡ Does (Finalise s spot got None anew)
    → work (length w.setup.machine.spots) (after w k (Finalise s spot got None anew)) k < work (length w.setup.machine.spots) w k
call_works w k s None None anew later may kept e =
    quiet_falls (length w.setup.machine.spots) w k s anew (doing_there w k (Finalise s None None None anew) e) (has_reason w k (Finalise s None None None anew) e).called
call_works w k s None (Some a) anew later may kept e = absurd (quiet_call w k s a None anew (has_reason w k (Finalise s None (Some a) None anew) e))
call_works w k s (Some x) None anew later may kept e =
    let shown = shown_inside w k s x None None anew (has_reason w k (Finalise s (Some x) None None anew) e) in
    bare_falls (length w.setup.machine.spots) w k s x anew shown.1 (omega (arith, shown.0))
call_works w k s (Some x) (Some a) anew later may kept e =
    shows_falls (length w.setup.machine.spots) w k s x a anew ((doing_so w k (Finalise s (Some x) (Some a) None anew) e).after_boot later)
    (doing_there w k (Finalise s (Some x) (Some a) None anew) e) (comes_fit w k (Finalise s (Some x) (Some a) None anew) may kept e) refl

-- that of the boot's list is called by caller 0
listed_boots : (w : World) (k s place : ℕ) (anew : Bool) → IsCalled w k s (Some place) anew → k ≡ 0
listed_boots w k s place true called = called.0
listed_boots w k s place false called = called.0

final_works : (w : World) (k s : ℕ) (spot : Option ℕ) (got : Option Arrival) (place : Option ℕ) (anew : Bool) → MayRun w.setup → Kept w → next w k ≡ Does (Finalise s spot got place anew)
    → work (length w.setup.machine.spots) (after w k (Finalise s spot got place anew)) k < work (length w.setup.machine.spots) w k
final_works w zero s spot got place anew may kept e =
    boot_work w (Finalise s spot got place anew) may kept e
    (own_finalised (IsPast _) (past_keeps _) w 0 s spot got place anew (past_now w 0 (doing_so w 0 (Finalise s spot got place anew) e).unended)).1
final_works w (suc k) s spot got None anew may kept e = call_works w (suc k) s spot got anew (λ same. omega (arith, same)) may kept e
final_works w (suc k) s spot got (Some place) anew may kept e =
    absurd (let same : suc k ≡ 0 = listed_boots w (suc k) s place anew (has_reason w (suc k) (Finalise s spot got (Some place) anew) e).called in omega (arith, same))

call_calm : (w : World) (k s : ℕ) (place : Option ℕ) (anew : Bool) → Kept w → IsCalled w k s place anew → is_powering (caller_at w k).doing ≡ false
call_calm w k s None anew kept called = topped w k (Finaliser s) called.0 kept called.1
call_calm w k s (Some place) anew kept called = at_boot w k kept (listed_boots w k s place anew called)

pub finalise_lowers : (w : World) (k s : ℕ) (spot : Option ℕ) (got : Option Arrival) (place : Option ℕ) (anew : Bool) → MayRun w.setup → Kept w → next w k ≡ Does (Finalise s spot got place anew)
    → own (length w.setup.machine.spots) (after w k (Finalise s spot got place anew)) k < own (length w.setup.machine.spots) w k
finalise_lowers w k s spot got place anew may kept e =
    let why : IsCall w k s spot got place anew = has_reason w k (Finalise s spot got place anew) e in
    lowers (length w.setup.machine.spots) w k (Finalise s spot got place anew) kept (call_calm w k s place anew kept why.called) (finalise_side w k s spot got place anew)
    (own_finalised (IsPast _) (past_keeps _) w k s spot got place anew (past_now w k (doing_so w k (Finalise s spot got place anew) e).unended)).0
    (final_works w k s spot got place anew may kept e)
