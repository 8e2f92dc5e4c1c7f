-- Each deed of a frame of a script's caller lowers what frames and the board have left.
use Rattle.std.proofs.Common.{◌≡◌, ◌≢◌, ◌<◌, ◌≤◌, ◌+◌, ◌*◌, ◌-◌, ℕ, Bool, true, false, cond, List, ◌∷◌, ◌++◌, length, Some, None, refl, sym, ap, ◌∙◌, arith}
use Rattle.cf_types.specs.declared.machine.Policy.{Policy}
use Rattle.run_rules.specs.declared.world.Arrival.{Arrival}
use Rattle.run_rules.specs.declared.world.Frame.{Frame}
use Rattle.run_rules.specs.declared.world.Frame.TheVariants.{Scan, Finaliser}
use Rattle.run_rules.specs.declared.world.Key.TheVariants as key
use Rattle.run_rules.specs.declared.world.Placing.{Placing}
use Rattle.run_rules.specs.declared.world.Placing.TheVariants.{Nowhere, Queued, PutOff, Pushed}
use Rattle.run_rules.specs.declared.world.Position.{Position}
use Rattle.run_rules.specs.World.{World, Caller, caller_at, has, has_ended, is_ended, offered_by, policy_of, scan_of}
use Rattle.run_rules.specs.After.{after, attached, finaliser_placed, finaliser_placing, listed, moved_top, new_device, place_finaliser, place_scan, released, scan_placed, scan_placing, show_spot, under_top, with_stack}
use Rattle.run_sound.specs.Left.{free_spots, spot_worth, whole_scan}
use Rattle.run_rules.specs.declared.deed.Deed.TheVariants.{Search, EndScan, Finalise}
use Rattle.run_sound.proofs.Coming.{IsCalled, IsTurn, IsScanEnd}
use Rattle.run_sound.specs.Kept.{MayRun}
use Rattle.run_sound.proofs.Callers.{caller_there, callers_kept}
use Rattle.run_sound.proofs.Stacks.{stacked}
use Rattle.run_sound.proofs.TurnsLeft.{lessens}
use Rattle.run_sound.proofs.Falls.{begun, fewer_hidden, frames_cons, frames_left, hidden_falls, left_off, moved_less, moved_most, product, product_le, released_left, stack_is, unhidden, waiting, waiting_snoc, worth_falls}
use Rattle.run_sound.proofs.Comings.{Comes, attached_comes, scan_places}
use Rattle.run_sound.proofs.RangesOf.{FitsIn}
use Rattle.progress_laws.specs.Ahead.{board_left, frames_of}

-- ---- the work of a device that comes

-- frames and scans that were put off grow by so much at most
record AddsWork (n x : ℕ) (w v : World) (k : ℕ) : Type 0 where
  work : frames_left n (caller_at v k).stack + waiting n v.deferred ≤ frames_left n (caller_at w k).stack + waiting n w.deferred + x

scan_adds : (n : ℕ) (c : Placing) (w : World) (k parent s : ℕ) → k < length w.callers → AddsWork n (whole_scan n) w (place_scan c w k parent s) k
scan_adds n Nowhere w k parent s lt = record { work = omega arith }
scan_adds n Queued w k parent s lt = record { work = omega (arith, waiting_snoc n (record { key = key.Interrupts; child = s }) w.deferred) }
scan_adds n PutOff w k parent s lt = record { work = omega (arith, waiting_snoc n (record { key = key.Parent parent; child = s }) w.deferred) }
scan_adds n Pushed w k parent s lt = record { work = rw (stack_is w k (scan_of s ∷ (caller_at w k).stack) lt) (omega (arith, frames_cons n (scan_of s) (caller_at w k).stack)) }

-- a finaliser is a frame more, and the boot's list stays
record AddsCall (n : ℕ) (w v : World) (k : ℕ) : Type 0 where
  adds : AddsWork n 1 w v k
  finalisers : length v.finalisers ≡ length w.finalisers
  there : length v.callers ≡ length w.callers

call_adds : (n : ℕ) (finaliser : Bool) (w : World) (k s : ℕ) → k < length w.callers → AddsCall n w (place_finaliser (cond finaliser (cond true Pushed Queued) Nowhere) w k s) k
call_adds n true w k s lt = record {
  adds = record { work = rw (stack_is w k (Finaliser s ∷ (caller_at w k).stack) lt) (omega (arith, frames_cons n (Finaliser s) (caller_at w k).stack)) };
  finalisers = refl;
  there = callers_kept w k _;
}
call_adds n false w k s lt = record { adds = record { work = omega arith }; finalisers = refl; there = refl }

-- a device that comes after the boot adds a finaliser and a scan at most
record AddsDevice (n : ℕ) (w v : World) (k : ℕ) : Type 0 where
  adds : AddsWork n (whole_scan n + 1) w v k
  finalisers : length v.finalisers ≡ length w.finalisers

both_add : (n : ℕ) (finaliser : Bool) (c : Placing) (w : World) (k parent s t : ℕ) → k < length w.callers
    → AddsDevice n w (place_scan c (place_finaliser (cond finaliser (cond true Pushed Queued) Nowhere) w k s) k parent t) k
both_add n finaliser c w k parent s t lt =
    let u : World = place_finaliser (cond finaliser (cond true Pushed Queued) Nowhere) w k s in
    let call : AddsCall n w u k = call_adds n finaliser w k s lt in
    let scan : AddsWork n (whole_scan n) u (place_scan c u k parent t) k = scan_adds n c u k parent t (omega (arith, lt, call.there)) in
    record { adds = record { work = omega (arith, scan.work, call.adds.work) }; finalisers = ap length (scan_places c u k parent t).finalisers ∙ call.finalisers }

placed_adds : (n : ℕ) (booted : Bool) (p : Policy) (offered : List ℕ) (w : World) (k parent s : ℕ) (may_defer : Bool) → booted ≡ true → k < length w.callers
    → AddsDevice n w (scan_placed p offered (place_finaliser (finaliser_placing p booted) w k s) k parent s may_defer) k
unfolding scan_placed finaliser_placing
placed_adds n false p offered w k parent s may_defer ended lt = absurd cc
placed_adds n true p offered w k parent s may_defer ended lt =
    both_add n p.finaliser (scan_placing p offered (place_finaliser (cond p.finaliser (cond true Pushed Queued) Nowhere) w k s).interrupts_on may_defer) w k parent s s lt

attached_adds : (n : ℕ) (w : World) (k : ℕ) (a : Arrival) (may_defer : Bool) → k < length w.callers → has_ended w 0 ≡ true → AddsDevice n w (attached w k a may_defer) k
unfolding attached finaliser_placed listed
attached_adds n w k a may_defer lt ended =
    let d = placed_adds n (has_ended (listed w a) 0) (policy_of w.setup a.row) (offered_by w.setup a.row) (listed w a) k a.parent w.next may_defer ended lt in
    record { adds = record { work = d.adds.work }; finalisers = d.finalisers }

-- ---- a device comes

-- what the caller's frames and the board have left
abbrev pub work : ℕ → World → ℕ → ℕ
work n w k = frames_of n w k + board_left n w

-- on the way to a device that comes from u, nothing else is more but that a scan is set back
record Prepares (n : ℕ) (w u : World) (k : ℕ) : Type 0 where
  work : frames_left n (caller_at u k).stack + waiting n u.deferred ≤ frames_left n (caller_at w k).stack + waiting n w.deferred + whole_scan n
  live : u.live ≡ w.live
  finalisers : u.finalisers ≡ w.finalisers
  place : u.next_finaliser ≡ w.next_finaliser
  pass_repeats : u.pass_repeats ≡ w.pass_repeats
  interrupts_on : u.interrupts_on ≡ w.interrupts_on
  hidden : length u.hidden ≤ length w.hidden

come_sum : (f sc wa wf fi pa hi on sc' wa' wf' hi' : ℕ) → sc' + wa' ≤ sc + wa + f + (f + 1) → wf' + (2 * f + 2) ≤ wf → hi' ≤ hi
    → sc' + (wa' + wf' + fi + pa + hi' + on) < sc + (wa + wf + fi + pa + hi + on)
come_sum f sc wa wf fi pa hi on sc' wa' wf' hi' a b c = omega (arith, a, b, c)

come_falls : (n : ℕ) (w u v : World) (k : ℕ) (a : Arrival) → Prepares n w u k → Comes u v a → AddsDevice n u v k → FitsIn u.setup u.live u.hidden (new_device u a) → length u.setup.machine.spots ≡ n
    → work n v k < work n w k
come_falls n w u v k a pre is adds fits same =
    let free : spot_worth n * free_spots v.live n + spot_worth n ≤ spot_worth n * free_spots w.live n = rw pre.live at (worth_falls u v n a is fits same) in
    let place : v.next_finaliser ≡ w.next_finaliser = is.place ∙ pre.place in
    let pass_repeats : v.pass_repeats ≡ w.pass_repeats = is.pass_repeats ∙ pre.pass_repeats in
    let interrupts_on : v.interrupts_on ≡ w.interrupts_on = is.interrupts_on ∙ pre.interrupts_on in
    let called : length v.finalisers ≡ length w.finalisers = adds.finalisers ∙ ap length pre.finalisers in
    let hidden : length v.hidden ≤ length w.hidden = rw is.hidden pre.hidden in
    rw (place, pass_repeats, interrupts_on, called)
    (come_sum (whole_scan n) (frames_of n w k) (waiting n w.deferred) (spot_worth n * free_spots w.live n) (length w.finalisers - w.next_finaliser) (cond w.pass_repeats n 0) (n * length w.hidden) (cond w.interrupts_on 0 1)
    (frames_of n v k) (waiting n v.deferred) (spot_worth n * free_spots v.live n) (n * length v.hidden) (omega (arith, pre.work, adds.adds.work)) free (product_le n (length v.hidden) (length w.hidden) hidden))

-- ---- the deeds

stack_falls : (n : ℕ) (w : World) (k : ℕ) (fs : List Frame) → k < length w.callers → frames_left n fs < frames_of n w k → work n (with_stack w k fs) k < work n w k
stack_falls n w k fs lt less = rw (stack_is w k fs lt) (omega (arith, less))

pub end_falls : (n : ℕ) (w : World) (k p : ℕ) → k < length w.callers → IsScanEnd w k p → work n (after w k (EndScan p)) k < work n w k
unfolding after released
end_falls n w k p lt why =
    let u : World = record w { deferred = left_off w.deferred (key.Parent p) } in
    rw (why.stack, stack_is u k (begun w.deferred (key.Parent p) ++ why.rest) lt)
    (omega (arith, released_left n w.deferred (key.Parent p) why.rest, frames_cons n (Scan p why.only why.wanted why.from) why.rest))

pub pass_falls : (w : World) (k p spot : ℕ) (to : Position) → MayRun w.setup → k < length w.callers → IsTurn w k p spot to None
    → work (length w.setup.machine.spots) (after w k (Search p spot to None)) k < work (length w.setup.machine.spots) w k
unfolding after
pass_falls w k p spot to may lt t =
    stack_falls (length w.setup.machine.spots) w k (moved_top to (caller_at w k).stack) lt (moved_less (length w.setup.machine.spots) p t.only t.wanted to t.from (caller_at w k).stack t.rest t.stack (lessens w k p spot to may t))

turn_prepares : (n : ℕ) (w : World) (k : ℕ) (to : Position) → k < length w.callers → Prepares n w (with_stack w k (moved_top to (caller_at w k).stack)) k
turn_prepares n w k to lt = record {
  work = rw (stack_is w k (moved_top to (caller_at w k).stack) lt) (omega (arith, moved_most n to (caller_at w k).stack));
  live = refl;
  finalisers = refl;
  place = refl;
  pass_repeats = refl;
  interrupts_on = refl;
  hidden = omega arith;
}

pub turn_falls : (n : ℕ) (w : World) (k p spot : ℕ) (to : Position) (a : Arrival) → k ≢ 0 → has_ended w 0 ≡ true → k < length w.callers → FitsIn w.setup w.live w.hidden (new_device w a) → length w.setup.machine.spots ≡ n
    → work n (after w k (Search p spot to (Some a))) k < work n w k
unfolding after
turn_falls n w k p spot to a later ended lt fits spots =
    let c : Caller = stacked w k (moved_top to (caller_at w k).stack) in
    let u : World = with_stack w k (moved_top to (caller_at w k).stack) in
    let more : k < length u.callers = omega (arith, lt, callers_kept w k c) in
    let over : has_ended u 0 ≡ true = ap (λ (x : Caller). is_ended x.doing) (caller_there w k 0 c (λ same. later (sym same))) ∙ ended in
    come_falls n w u (attached u k a true) k a (turn_prepares n w k to lt) (attached_comes u k a true) (attached_adds n u k a true more over) fits spots

-- a finaliser on top
pub quiet_falls : (n : ℕ) (w : World) (k s : ℕ) (anew : Bool) → k < length w.callers → IsCalled w k s None anew → work n (after w k (Finalise s None None None anew)) k < work n w k
unfolding after
quiet_falls n w k s anew lt called =
    let e : (caller_at w k).stack ≡ Finaliser s ∷ called.0 = called.1 in
    let less : frames_left n (under_top (caller_at w k).stack) < frames_left n (caller_at w k).stack = rw e (omega (arith, frames_cons n (Finaliser s) called.0)) in
    stack_falls n w k (under_top (caller_at w k).stack) lt less

hidden_less : (n : ℕ) (w : World) (x : ℕ) → has w.hidden x ≡ true → n * length (unhidden w.hidden x) + n ≤ n * length w.hidden
hidden_less n w x h = product n (length (unhidden w.hidden x)) (length w.hidden) (hidden_falls w.hidden x h)

pub bare_falls : (n : ℕ) (w : World) (k s x : ℕ) (anew : Bool) → has w.hidden x ≡ true → x < n → work n (after w k (Finalise s (Some x) None None anew)) k < work n w k
unfolding after
bare_falls n w k s x anew was inside = omega (arith, hidden_less n w x was, inside)

shown_prepares : (n : ℕ) (w : World) (k x : ℕ) → Prepares n w (show_spot w (Some x)) k
shown_prepares n w k x = record {
  work = omega arith;
  live = refl;
  finalisers = refl;
  place = refl;
  pass_repeats = refl;
  interrupts_on = refl;
  hidden = fewer_hidden w.hidden x;
}

pub shows_falls : (n : ℕ) (w : World) (k s x : ℕ) (a : Arrival) (anew : Bool) → has_ended w 0 ≡ true → k < length w.callers → FitsIn w.setup w.live (show_spot w (Some x)).hidden (new_device w a) → length w.setup.machine.spots ≡ n
    → work n (after w k (Finalise s (Some x) (Some a) None anew)) k < work n w k
unfolding after
shows_falls n w k s x a anew ended lt fits spots =
    let u : World = show_spot w (Some x) in
    come_falls n w u (attached u k a false) k a (shown_prepares n w k x) (attached_comes u k a false) (attached_adds n u k a false lt ended) fits spots
