-- Each deed of the boot lowers how much of it is left.
use Rattle.std.proofs.Common.{◌≡◌, ◌<◌, ◌≤◌, ◌+◌, ◌*◌, ◌-◌, ℕ, Bool, true, false, not, ◌||◌, ◌==◌, cond, List, [], ◌∷◌, ◌++◌, map, length, sum_by, Option, Some, None, refl, sym, ap, ◌∙◌, arith}
use Rattle.std.specs.Prelude.{filter}
use Rattle.std.proofs.Math.Nat.{mul-le-mul_left}
use Rattle.std.proofs.lemmas.List.Sums.{sum_by-append, sum_by-cons}
use Rattle.cf_types.specs.declared.machine.Policy.{Policy}
use Rattle.run_rules.specs.declared.world.Activity.TheVariants as activity
use Rattle.run_rules.specs.declared.world.Arrival.{Arrival}
use Rattle.run_rules.specs.declared.world.Deferred.{Deferred}
use Rattle.run_rules.specs.declared.world.Frame.{Frame}
use Rattle.run_rules.specs.declared.world.Frame.TheVariants.{Scan, Finaliser}
use Rattle.run_rules.specs.declared.world.Key.{Key}
use Rattle.run_rules.specs.declared.world.Key.TheVariants as key
use Rattle.run_rules.specs.declared.world.Placing.{Placing}
use Rattle.run_rules.specs.declared.world.Placing.TheVariants.{Nowhere, Queued, PutOff, Pushed}
use Rattle.run_rules.specs.declared.world.Position.{Position}
use Rattle.run_rules.specs.declared.world.Setup.{Setup}
use Rattle.run_rules.specs.declared.world.Wanted.{Wanted}
use Rattle.run_rules.specs.World.{World, Caller, caller_at, has, has_ended, offered_by, policy_of, scan_of, start}
use Rattle.run_rules.specs.After.{after, attached, doing, finaliser_placed, finaliser_placing, listed, moved_top, new_device, place_finaliser, place_scan, released, same_key, scan_placed, scan_placing, show_spot, under_top, with_stack}
use Rattle.run_sound.specs.Left.{boot_left, free_spots, scan_left, spot_worth, turns_left, whole_scan}
use Rattle.run_rules.specs.declared.deed.Deed.{Deed}
use Rattle.run_rules.specs.declared.deed.Deed.TheVariants.{Search, EndScan, BeginInterrupts, Finalise, EndCaller}
use Rattle.run_rules.specs.declared.deed.Choice.TheVariants.{Does}
use Rattle.run_rules.specs.Next.{next}
use Rattle.run_rules.proofs.Setups.{after_setup}
use Rattle.run_sound.proofs.Coming.{HasReason, IsCalled, IsTurn}
use Rattle.run_sound.specs.Kept.{Kept, MayRun}
use Rattle.run_sound.proofs.Arrivals.{shown_inside, quiet_call}
use Rattle.run_sound.proofs.Callers.{caller_here, callers_kept, clash, doing_so, doing_there, ended_is, unended_so}
use Rattle.run_sound.proofs.Stacks.{settles, stacked}
use Rattle.run_sound.proofs.Reasons.{has_reason}
use Rattle.run_sound.proofs.Ranges.{comes_fit}
use Rattle.run_sound.proofs.OwnCaller.{IsBootDeed}
use Rattle.run_sound.proofs.RangesCallers.{boot_deed}
use Rattle.run_sound.proofs.RangesDeeds.{ComesFit}
use Rattle.run_sound.proofs.TurnsLeft.{less_product, lessens}
use Rattle.run_sound.proofs.Comings.{Comes, attached_comes}
use Rattle.run_sound.proofs.RangesOf.{FitsIn}
use Rattle.run_sound.proofs.Spots.{free_falls}

-- ---- scans

-- what frames have left, and what scans that were put off will have
abbrev pub frames_left : ℕ → List Frame → ℕ
frames_left n fs = sum_by (scan_left n) fs

abbrev pub waiting : ℕ → List Deferred → ℕ
waiting n es = sum_by (λ e. whole_scan n) es

pub frames_cons : (n : ℕ) (f : Frame) (fs : List Frame) → frames_left n (f ∷ fs) ≡ scan_left n f + frames_left n fs
frames_cons n f fs = sum_by-cons (scan_left n) f fs

pub waiting_cons : (n : ℕ) (e : Deferred) (es : List Deferred) → waiting n (e ∷ es) ≡ whole_scan n + waiting n es
waiting_cons n e es = sum_by-cons (λ (x : Deferred). whole_scan n) e es

pub waiting_snoc : (n : ℕ) (e : Deferred) (es : List Deferred) → waiting n (es ++ e ∷ []) ≡ whole_scan n + waiting n es
waiting_snoc n e es = omega (arith, sum_by-append (λ (x : Deferred). whole_scan n) es (e ∷ []))

abbrev pub begun : List Deferred → Key → List Frame
begun es which = map (λ e. scan_of e.child) (filter (λ e. same_key e.key which) es)

abbrev pub left_off : List Deferred → Key → List Deferred
left_off es which = filter (λ e. not (same_key e.key which)) es

-- a scan that begins has as much left as when it waited
pub released_left : (n : ℕ) (es : List Deferred) (which : Key) (rest : List Frame) → frames_left n (begun es which ++ rest) + waiting n (left_off es which) ≡ waiting n es + frames_left n rest
released_left n [] which rest = omega arith
released_left n (e ∷ es) which rest = cases (released_left n es which rest) (same_key e.key which)
  where
    cases : frames_left n (begun es which ++ rest) + waiting n (left_off es which) ≡ waiting n es + frames_left n rest → (b : Bool)
        → frames_left n (map (λ (x : Deferred). scan_of x.child) (cond b (e ∷ filter (λ x. same_key x.key which) es) (filter (λ x. same_key x.key which) es)) ++ rest)
        + waiting n (cond (not b) (e ∷ left_off es which) (left_off es which)) ≡ waiting n (e ∷ es) + frames_left n rest
    cases before true = omega (arith, before, waiting_cons n e es, frames_cons n (scan_of e.child) (begun es which ++ rest))
    cases before false = omega (arith, before, waiting_cons n e es, waiting_cons n e (left_off es which))

-- no scan has more left than one at its start
pub turns_most : (n : ℕ) (x : Position) → turns_left n x ≤ turns_left n start
turns_most n x = omega (arith, less_product (64 - x.attr) 64 (n + 1) (omega arith))

-- a scan that is set back has no more than a whole one
pub moved_most : (n : ℕ) (to : Position) (fs : List Frame) → frames_left n (moved_top to fs) ≤ frames_left n fs + whole_scan n
moved_most n to [] = omega arith
moved_most n to (Scan s only wanted from ∷ fs) = omega (arith, frames_cons n (Scan s only wanted from) fs, frames_cons n (Scan s only wanted to) fs, turns_most n to)
moved_most n to (Finaliser s ∷ fs) = omega arith

-- ---- a caller's frames are set

pub stack_is : (w : World) (k : ℕ) (stack : List Frame) → k < length w.callers → (caller_at (with_stack w k stack) k).stack ≡ stack
stack_is w k stack lt = ap (λ (c : Caller). c.stack) (caller_here w k (stacked w k stack) lt) ∙ (settles (caller_at w k).over (caller_at w k).doing stack).frames

-- ---- the work of a device that comes while the boot goes on

-- frames and scans that were put off grow by one scan at most
record AddsScan (n : ℕ) (w v : World) : Type 0 where
  work : frames_left n (caller_at v 0).stack + waiting n v.deferred ≤ frames_left n (caller_at w 0).stack + waiting n w.deferred + whole_scan n

scan_adds : (n : ℕ) (c : Placing) (w : World) (parent s : ℕ) → 0 < length w.callers → AddsScan n w (place_scan c w 0 parent s)
scan_adds n Nowhere w parent s lt = record { work = omega arith }
scan_adds n Queued w parent s lt = record { work = omega (arith, waiting_snoc n (record { key = key.Interrupts; child = s }) w.deferred) }
scan_adds n PutOff w parent s lt = record { work = omega (arith, waiting_snoc n (record { key = key.Parent parent; child = s }) w.deferred) }
scan_adds n Pushed w parent s lt = record { work = rw (stack_is w 0 (scan_of s ∷ (caller_at w 0).stack) lt) (omega (arith, frames_cons n (scan_of s) (caller_at w 0).stack)) }

-- a finaliser is queued, and so no frame
called_adds : (n : ℕ) (finaliser : Bool) (c : Placing) (w : World) (parent s t : ℕ) → 0 < length w.callers
    → AddsScan n w (place_scan c (place_finaliser (cond finaliser (cond false Pushed Queued) Nowhere) w 0 s) 0 parent t)
called_adds n true c w parent s t lt = record { work = (scan_adds n c (record w { finalisers = w.finalisers ++ s ∷ [] }) parent t lt).work }
called_adds n false c w parent s t lt = scan_adds n c w parent t lt

placed_adds : (n : ℕ) (booted : Bool) (p : Policy) (offered : List ℕ) (w : World) (parent s : ℕ) (may_defer : Bool) → booted ≡ false → 0 < length w.callers
    → AddsScan n w (scan_placed p offered (place_finaliser (finaliser_placing p booted) w 0 s) 0 parent s may_defer)
unfolding scan_placed finaliser_placing
placed_adds n true p offered w parent s may_defer goes lt = absurd cc
placed_adds n false p offered w parent s may_defer goes lt =
    called_adds n p.finaliser (scan_placing p offered (place_finaliser (cond p.finaliser (cond false Pushed Queued) Nowhere) w 0 s).interrupts_on may_defer) w parent s s lt

attached_adds : (n : ℕ) (w : World) (a : Arrival) (may_defer : Bool) → 0 < length w.callers → has_ended w 0 ≡ false → AddsScan n w (attached w 0 a may_defer)
unfolding attached finaliser_placed listed
attached_adds n w a may_defer lt goes =
    record { work = (placed_adds n (has_ended (listed w a) 0) (policy_of w.setup a.row) (offered_by w.setup a.row) (listed w a) a.parent w.next may_defer goes lt).work }

-- ---- products

pub product : (w a b : ℕ) → a < b → w * a + w ≤ w * b
product w a b lt = grind (arith, mul-le-mul_left)

pub product_le : (w a b : ℕ) → a ≤ b → w * a ≤ w * b
product_le w a b le = grind (arith, mul-le-mul_left)

-- ---- hidden spots

abbrev pub unhidden : List ℕ → ℕ → List ℕ
unhidden hidden x = filter (λ y. not (y == x)) hidden

pub fewer_hidden : (xs : List ℕ) (x : ℕ) → length (unhidden xs x) ≤ length xs
fewer_hidden [] x = omega arith
fewer_hidden (y ∷ ys) x = elim (y == x) as (λ b. length (cond (not b) (y ∷ unhidden ys x) (unhidden ys x)) ≤ length (y ∷ ys)) [ true ↦ omega (arith, fewer_hidden ys x) | false ↦ omega (arith, fewer_hidden ys x) ]

pub hidden_falls : (xs : List ℕ) (x : ℕ) → has xs x ≡ true → length (unhidden xs x) < length xs
hidden_falls [] x h = absurd cc
hidden_falls (y ∷ ys) x h = cases (λ k. hidden_falls ys x k) (y == x) h
  where
    cases : (has ys x ≡ true → length (unhidden ys x) < length ys) → (b : Bool) → (b || has ys x) ≡ true → length (cond (not b) (y ∷ unhidden ys x) (unhidden ys x)) < length (y ∷ ys)
    cases more true k = omega (arith, fewer_hidden ys x)
    cases more false k = omega (arith, more k)

-- ---- all of it, of n spots

abbrev left : ℕ → World → ℕ
left n w =
    frames_left n (caller_at w 0).stack + waiting n w.deferred + spot_worth n * free_spots w.live n + (length w.finalisers - w.next_finaliser) + cond w.pass_repeats n 0 + n * length w.hidden
    + cond w.interrupts_on 0 1 + cond (has_ended w 0) 0 1

left_is : (w : World) (n : ℕ) → length w.setup.machine.spots ≡ n → boot_left w ≡ left n w
unfolding boot_left
left_is w n e = rw e refl

at_most_one : (b : Bool) → cond b 0 1 ≤ 1
at_most_one true = omega arith
at_most_one false = omega arith

-- ---- a device comes

-- the numbers of a device that comes by a turn or by a finaliser on top, and by a finaliser of the list, of this pass and of a new one
turn_sum : (f sc wa wf l pl ag hi ph sc' wa' wf' l' hi' e' : ℕ) → e' ≤ 1 → sc' + wa' ≤ sc + wa + f + f → wf' + (2 * f + 2) ≤ wf → l' ≤ l + 1 → hi' ≤ hi
    → sc' + wa' + wf' + (l' - pl) + ag + hi' + ph + e' < sc + wa + wf + (l - pl) + ag + hi + ph + 1
turn_sum f sc wa wf l pl ag hi ph sc' wa' wf' l' hi' e' o a b c d = omega arith

next_sum : (f n sc wa wf l pl ag hi ph sc' wa' wf' l' hi' e' : ℕ) → e' ≤ 1 → sc' + wa' ≤ sc + wa + f → wf' + (2 * f + 2) ≤ wf → l' ≤ l + 1 → hi' + n ≤ hi
    → sc' + wa' + wf' + (l' - (pl + 1)) + n + hi' + ph + e' < sc + wa + wf + (l - pl) + ag + hi + ph + 1
next_sum f n sc wa wf l pl ag hi ph sc' wa' wf' l' hi' e' o a b c d = omega arith

anew_sum : (f n sc wa wf l pl hi ph sc' wa' wf' l' hi' e' : ℕ) → e' ≤ 1 → sc' + wa' ≤ sc + wa + f → wf' + (2 * f + 2) ≤ wf → l' ≤ l + 1 → hi' + n ≤ hi → l ≤ n
    → sc' + wa' + wf' + (l' - (0 + 1)) + n + hi' + ph + e' < sc + wa + wf + (l - pl) + n + hi + ph + 1
anew_sum f n sc wa wf l pl hi ph sc' wa' wf' l' hi' e' o a b c d g = omega arith

-- a free spot is taken
pub worth_falls : (u v : World) (n : ℕ) (a : Arrival) → Comes u v a → FitsIn u.setup u.live u.hidden (new_device u a) → length u.setup.machine.spots ≡ n
    → spot_worth n * free_spots v.live n + spot_worth n ≤ spot_worth n * free_spots u.live n
worth_falls u v n a is fits same =
    let inside : a.spot < n = omega (arith, fits.spot, same) in
    let free : free_spots (u.live ++ new_device u a ∷ []) n < free_spots u.live n = free_falls u.live (new_device u a) n inside fits.free in
    rw is.live (product (spot_worth n) (free_spots (u.live ++ new_device u a ∷ []) n) (free_spots u.live n) free)

-- on the way to a device that comes from u, nothing else is more but that a scan is set back
record Prepares (n : ℕ) (w u : World) : Type 0 where
  work : frames_left n (caller_at u 0).stack + waiting n u.deferred ≤ frames_left n (caller_at w 0).stack + waiting n w.deferred + whole_scan n
  live : u.live ≡ w.live
  finalisers : u.finalisers ≡ w.finalisers
  place : u.next_finaliser ≡ w.next_finaliser
  pass_repeats : u.pass_repeats ≡ w.pass_repeats
  interrupts_on : u.interrupts_on ≡ w.interrupts_on
  hidden : length u.hidden ≤ length w.hidden

come_falls : (n : ℕ) (w u v : World) (a : Arrival) → Prepares n w u → Comes u v a → AddsScan n u v → FitsIn u.setup u.live u.hidden (new_device u a) → length u.setup.machine.spots ≡ n
    → has_ended w 0 ≡ false → left n v < left n w
come_falls n w u v a pre is adds fits same goes =
    let free : spot_worth n * free_spots v.live n + spot_worth n ≤ spot_worth n * free_spots w.live n = rw pre.live at (worth_falls u v n a is fits same) in
    let place : v.next_finaliser ≡ w.next_finaliser = is.place ∙ pre.place in
    let pass_repeats : v.pass_repeats ≡ w.pass_repeats = is.pass_repeats ∙ pre.pass_repeats in
    let interrupts_on : v.interrupts_on ≡ w.interrupts_on = is.interrupts_on ∙ pre.interrupts_on in
    let called : length u.finalisers ≡ length w.finalisers = ap length pre.finalisers in
    let hidden : length v.hidden ≤ length w.hidden = rw is.hidden pre.hidden in
    rw (place, pass_repeats, interrupts_on, goes)
    (turn_sum (whole_scan n) (frames_left n (caller_at w 0).stack) (waiting n w.deferred) (spot_worth n * free_spots w.live n) (length w.finalisers) w.next_finaliser (cond w.pass_repeats n 0) (n * length w.hidden)
    (cond w.interrupts_on 0 1)
    (frames_left n (caller_at v 0).stack) (waiting n v.deferred) (spot_worth n * free_spots v.live n) (length v.finalisers) (n * length v.hidden) (cond (has_ended v 0) 0 1)
    (at_most_one (has_ended v 0)) (omega (arith, pre.work, adds.work)) free (omega (arith, is.one_more, called)) (product_le n (length v.hidden) (length w.hidden) hidden))

-- ---- a finaliser of the boot's list shows a spot

-- the boot's list moves on: its place, and whether one of this pass answered 1
abbrev moved_on : World → ℕ → Bool → World
moved_on v place pass_repeats = record v { next_finaliser = place; pass_repeats = pass_repeats }

-- the world in which the spot is shown
abbrev seen : World → ℕ → World
seen w x = show_spot w (Some x)

hidden_less : (n : ℕ) (w : World) (x : ℕ) → has w.hidden x ≡ true → n * length (unhidden w.hidden x) + n ≤ n * length w.hidden
hidden_less n w x h = product n (length (unhidden w.hidden x)) (length w.hidden) (hidden_falls w.hidden x h)

next_falls : (n : ℕ) (w v : World) (x : ℕ) (a : Arrival) → has w.hidden x ≡ true → Comes (seen w x) v a → AddsScan n (seen w x) v
    → FitsIn w.setup w.live (seen w x).hidden (new_device w a) → length w.setup.machine.spots ≡ n → has_ended w 0 ≡ false → left n (moved_on v (w.next_finaliser + 1) true) < left n w
next_falls n w v x a was is adds fits same goes =
    rw (is.interrupts_on, is.hidden, goes)
    (next_sum (whole_scan n) n (frames_left n (caller_at w 0).stack) (waiting n w.deferred) (spot_worth n * free_spots w.live n) (length w.finalisers) w.next_finaliser (cond w.pass_repeats n 0) (n * length w.hidden)
    (cond w.interrupts_on 0 1)
    (frames_left n (caller_at v 0).stack) (waiting n v.deferred) (spot_worth n * free_spots v.live n) (length v.finalisers) (n * length (unhidden w.hidden x)) (cond (has_ended v 0) 0 1)
    (at_most_one (has_ended v 0)) adds.work (worth_falls (seen w x) v n a is fits same) is.one_more (hidden_less n w x was))

anew_falls : (n : ℕ) (w v : World) (x : ℕ) (a : Arrival) → has w.hidden x ≡ true → Comes (seen w x) v a → AddsScan n (seen w x) v
    → FitsIn w.setup w.live (seen w x).hidden (new_device w a) → length w.setup.machine.spots ≡ n → has_ended w 0 ≡ false
    → w.pass_repeats ≡ true → length w.finalisers ≤ n → left n (moved_on v (0 + 1) true) < left n w
anew_falls n w v x a was is adds fits same goes pass_repeats few =
    rw (is.interrupts_on, is.hidden, goes, pass_repeats)
    (anew_sum (whole_scan n) n (frames_left n (caller_at w 0).stack) (waiting n w.deferred) (spot_worth n * free_spots w.live n) (length w.finalisers) w.next_finaliser (n * length w.hidden) (cond w.interrupts_on 0 1)
    (frames_left n (caller_at v 0).stack) (waiting n v.deferred) (spot_worth n * free_spots v.live n) (length v.finalisers) (n * length (unhidden w.hidden x)) (cond (has_ended v 0) 0 1)
    (at_most_one (has_ended v 0)) adds.work (worth_falls (seen w x) v n a is fits same) is.one_more (hidden_less n w x was) few)

-- ---- no device comes

stack_falls : (n : ℕ) (w : World) (fs : List Frame) → 0 < length w.callers → has_ended w 0 ≡ false → frames_left n fs < frames_left n (caller_at w 0).stack → left n (with_stack w 0 fs) < left n w
stack_falls n w fs lt goes less = rw (stack_is w 0 fs lt, goes) (omega (arith, less, at_most_one (has_ended (with_stack w 0 fs) 0)))

pub moved_less : (n p : ℕ) (only : Option ℕ) (wanted : List Wanted) (to from : Position) (stack rest : List Frame) → stack ≡ Scan p only wanted from ∷ rest → turns_left n to < turns_left n from
    → frames_left n (moved_top to stack) < frames_left n stack
moved_less n p only wanted to from stack rest e less = rw e (omega (arith, frames_cons n (Scan p only wanted from) rest, frames_cons n (Scan p only wanted to) rest))

scan_ends : (n : ℕ) (w : World) (which : Key) (f : Frame) (rest : List Frame) → 0 < length w.callers → has_ended w 0 ≡ false → (caller_at w 0).stack ≡ f ∷ rest → 0 < scan_left n f
    → left n (released w 0 which (under_top (caller_at w 0).stack)) < left n w
unfolding released
scan_ends n w which f rest lt goes e some =
    let u : World = record w { deferred = left_off w.deferred which } in
    rw (e, stack_is u 0 (begun w.deferred which ++ rest) lt, goes)
    (omega (arith, released_left n w.deferred which rest, frames_cons n f rest, some, at_most_one (has_ended (with_stack u 0 (begun w.deferred which ++ rest)) 0)))

phase_falls : (n : ℕ) (w : World) → 0 < length w.callers → has_ended w 0 ≡ false → w.interrupts_on ≡ false
    → left n (released (record w { interrupts_on = true }) 0 key.Interrupts (caller_at w 0).stack) < left n w
unfolding released
phase_falls n w lt goes before =
    let u : World = record w { interrupts_on = true; deferred = left_off w.deferred key.Interrupts } in
    let fs : List Frame = begun w.deferred key.Interrupts ++ (caller_at w 0).stack in
    rw (stack_is u 0 fs lt, goes, before) (omega (arith, released_left n w.deferred key.Interrupts (caller_at w 0).stack, at_most_one (has_ended (with_stack u 0 fs) 0)))

end_falls : (n : ℕ) (w : World) → 0 < length w.callers → has_ended w 0 ≡ false → left n (doing w 0 activity.Ended) < left n w
end_falls n w lt goes =
    let c : Caller = record { over = (caller_at w 0).over; doing = activity.Ended; stack = (caller_at w 0).stack } in
    rw (caller_here w 0 c lt, goes) (omega arith)

-- a finaliser of the list shows no spot
quiet_next : (n : ℕ) (w : World) → w.next_finaliser < length w.finalisers → has_ended w 0 ≡ false → left n (moved_on w (w.next_finaliser + 1) w.pass_repeats) < left n w
quiet_next n w inside goes = omega (arith, inside)

quiet_anew : (n : ℕ) (w : World) → length w.finalisers ≤ w.next_finaliser → w.pass_repeats ≡ true → 0 < length w.finalisers → length w.finalisers ≤ n → left n (moved_on w (0 + 1) false) < left n w
quiet_anew n w past pass_repeats some few = rw pass_repeats (omega (arith, past, some, few))

-- a finaliser shows one where nothing comes
bare_top : (n : ℕ) (w : World) (x : ℕ) → has w.hidden x ≡ true → x < n → left n (seen w x) < left n w
bare_top n w x was inside = omega (arith, hidden_less n w x was, inside)

bare_next : (n : ℕ) (w : World) (x : ℕ) → has w.hidden x ≡ true → w.next_finaliser < length w.finalisers → left n (moved_on (seen w x) (w.next_finaliser + 1) true) < left n w
bare_next n w x was inside = omega (arith, hidden_less n w x was, inside)

bare_anew : (n : ℕ) (w : World) (x : ℕ) → has w.hidden x ≡ true → length w.finalisers ≤ w.next_finaliser → w.pass_repeats ≡ true → 0 < length w.finalisers → length w.finalisers ≤ n
    → left n (moved_on (seen w x) (0 + 1) true) < left n w
bare_anew n w x was past pass_repeats some few = rw pass_repeats (omega (arith, hidden_less n w x was, past, some, few))

-- ---- each deed

-- the boot goes on in a world that is kept
record Booting (n : ℕ) (w : World) : Type 0 where
  spots : length w.setup.machine.spots ≡ n
  there : 0 < length w.callers
  goes : has_ended w 0 ≡ false
  few : length w.finalisers ≤ n
  some : w.pass_repeats ≡ true → 0 < length w.finalisers

quiet_falls : (n : ℕ) (w : World) (s : ℕ) (listed : Option ℕ) (anew : Bool) → Booting n w → IsCalled w 0 s listed anew → left n (after w 0 (Finalise s None None listed anew)) < left n w
unfolding after
quiet_falls n w s None anew b called =
    let e : (caller_at w 0).stack ≡ Finaliser s ∷ called.0 = called.1 in
    let less : frames_left n (under_top (caller_at w 0).stack) < frames_left n (caller_at w 0).stack = rw e (omega (arith, frames_cons n (Finaliser s) called.0)) in
    stack_falls n w (under_top (caller_at w 0).stack) b.there b.goes less
quiet_falls n w s (Some place) false b called = let at : place ≡ w.next_finaliser = called.3 in rw at (quiet_next n w called.4 b.goes)
quiet_falls n w s (Some place) true b called = let at : place ≡ 0 = called.3 in rw at (quiet_anew n w called.4 called.6 (b.some called.6) b.few)

bare_falls : (n : ℕ) (w : World) (s x : ℕ) (listed : Option ℕ) (anew : Bool) → Booting n w → IsCalled w 0 s listed anew → has w.hidden x ≡ true → x < n
    → left n (after w 0 (Finalise s (Some x) None listed anew)) < left n w
unfolding after
bare_falls n w s x None anew b called was inside = bare_top n w x was inside
bare_falls n w s x (Some place) false b called was inside = let at : place ≡ w.next_finaliser = called.3 in rw at (bare_next n w x was called.4)
bare_falls n w s x (Some place) true b called was inside = let at : place ≡ 0 = called.3 in rw at (bare_anew n w x was called.4 called.6 (b.some called.6) b.few)

shown_prepares : (n : ℕ) (w : World) (x : ℕ) → Prepares n w (seen w x)
shown_prepares n w x = record {
  work = omega arith;
  live = refl;
  finalisers = refl;
  place = refl;
  pass_repeats = refl;
  interrupts_on = refl;
  hidden = fewer_hidden w.hidden x;
}

shows_falls : (n : ℕ) (w : World) (s x : ℕ) (a : Arrival) (listed : Option ℕ) (anew : Bool) → Booting n w → IsCalled w 0 s listed anew → has w.hidden x ≡ true
    → FitsIn w.setup w.live (seen w x).hidden (new_device w a) → left n (after w 0 (Finalise s (Some x) (Some a) listed anew)) < left n w
unfolding after
shows_falls n w s x a None anew b called was fits =
    come_falls n w (seen w x) (attached (seen w x) 0 a false) a (shown_prepares n w x) (attached_comes (seen w x) 0 a false) (attached_adds n (seen w x) a false b.there b.goes) fits b.spots b.goes
shows_falls n w s x a (Some place) false b called was fits =
    let at : place ≡ w.next_finaliser = called.3 in
    rw at (next_falls n w (attached (seen w x) 0 a false) x a was (attached_comes (seen w x) 0 a false) (attached_adds n (seen w x) a false b.there b.goes) fits b.spots b.goes)
shows_falls n w s x a (Some place) true b called was fits =
    let at : place ≡ 0 = called.3 in
    rw at (anew_falls n w (attached (seen w x) 0 a false) x a was (attached_comes (seen w x) 0 a false) (attached_adds n (seen w x) a false b.there b.goes) fits b.spots b.goes called.6 b.few)

pass_falls : (n : ℕ) (w : World) (p spot : ℕ) (to : Position) → Booting n w → (t : IsTurn w 0 p spot to None) → turns_left n to < turns_left n t.from → left n (after w 0 (Search p spot to None)) < left n w
unfolding after
pass_falls n w p spot to b t less =
    stack_falls n w (moved_top to (caller_at w 0).stack) b.there b.goes (moved_less n p t.only t.wanted to t.from (caller_at w 0).stack t.rest t.stack less)

turn_prepares : (n : ℕ) (w : World) (to : Position) → 0 < length w.callers → Prepares n w (with_stack w 0 (moved_top to (caller_at w 0).stack))
turn_prepares n w to lt = record {
  work = rw (stack_is w 0 (moved_top to (caller_at w 0).stack) lt) (omega (arith, moved_most n to (caller_at w 0).stack));
  live = refl;
  finalisers = refl;
  place = refl;
  pass_repeats = refl;
  interrupts_on = refl;
  hidden = omega arith;
}

-- other frames do not end caller 0
stack_goes : (w : World) (fs : List Frame) → 0 < length w.callers → has_ended w 0 ≡ false → has_ended (with_stack w 0 fs) 0 ≡ false
stack_goes w fs lt goes =
    unended_so (with_stack w 0 fs) 0
    (λ ended. (settles (caller_at w 0).over (caller_at w 0).doing fs).goes (λ was. clash (has_ended w 0) (ended_is (caller_at w 0).doing was) goes)
    (sym (ap (λ (c : Caller). c.doing) (caller_here w 0 (stacked w 0 fs) lt)) ∙ ended))

turn_falls : (n : ℕ) (w : World) (p spot : ℕ) (to : Position) (a : Arrival) → Booting n w → FitsIn w.setup w.live w.hidden (new_device w a) → left n (after w 0 (Search p spot to (Some a))) < left n w
unfolding after
turn_falls n w p spot to a b fits =
    let u : World = with_stack w 0 (moved_top to (caller_at w 0).stack) in
    let more : 0 < length u.callers = omega (arith, b.there, callers_kept w 0 (stacked w 0 (moved_top to (caller_at w 0).stack))) in
    come_falls n w u (attached u 0 a true) a (turn_prepares n w to b.there) (attached_comes u 0 a true)
    (attached_adds n u a true more (stack_goes w (moved_top to (caller_at w 0).stack) b.there b.goes)) fits b.spots b.goes

deed_falls : (n : ℕ) (w : World) (d : Deed) → MayRun w.setup → Kept w → next w 0 ≡ Does d → Booting n w → IsBootDeed d → HasReason w 0 d → ComesFit w d → left n (after w 0 d) < left n w
unfolding after
deed_falls n w (Search p spot to None) may kept e b is why fits = pass_falls n w p spot to b why (rw b.spots at (lessens w 0 p spot to may why))
deed_falls n w (Search p spot to (Some a)) may kept e b is why fits = turn_falls n w p spot to a b fits
deed_falls n w (EndScan p) may kept e b is why fits = scan_ends n w (key.Parent p) (Scan p why.only why.wanted why.from) why.rest b.there b.goes why.stack (omega arith)
deed_falls n w BeginInterrupts may kept e b is why fits = phase_falls n w b.there b.goes why.before
deed_falls n w (Finalise s None None listed anew) may kept e b is why fits = quiet_falls n w s listed anew b why.called
deed_falls n w (Finalise s None (Some a) listed anew) may kept e b is why fits = absurd (quiet_call w 0 s a listed anew why)
deed_falls n w (Finalise s (Some x) None listed anew) may kept e b is why fits =
    let shown = shown_inside w 0 s x None listed anew why in
    bare_falls n w s x listed anew b why.called shown.1 (omega (arith, shown.0, b.spots))
deed_falls n w (Finalise s (Some x) (Some a) listed anew) may kept e b is why fits =
    shows_falls n w s x a listed anew b why.called (shown_inside w 0 s x (Some a) listed anew why).1 fits
deed_falls n w EndCaller may kept e b is why fits = end_falls n w b.there b.goes
deed_falls n w d may kept e b is why fits = absurd is

-- so the boot ends
pub boot_falls : (w : World) (d : Deed) → MayRun w.setup → Kept w → next w 0 ≡ Does d → boot_left (after w 0 d) < boot_left w
boot_falls w d may kept e =
    let n : ℕ = length w.setup.machine.spots in
    let goes : has_ended w 0 ≡ false = (doing_so w 0 d e).unended in
    let b : Booting n w = record { spots = refl; there = doing_there w 0 d e; goes = goes; few = omega (arith, (kept.ranges.list goes).few); some = (kept.ranges.list goes).some } in
    let same : length (after w 0 d).setup.machine.spots ≡ n = ap (λ (s : Setup). length s.machine.spots) (after_setup w 0 d) in
    rw (left_is (after w 0 d) n same, left_is w n refl)
    (deed_falls n w d may kept e b (boot_deed w d kept.ranges.callers.booting e) (has_reason w 0 d e) (comes_fit w 0 d may kept e))
