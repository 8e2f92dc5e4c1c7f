-- A caller of a list that becomes another.
use Rattle.std.proofs.Common.{◌≡◌, ◌<◌, ◌≤◌, ◌+◌, ◌∙◌, ℕ, zero, suc, List, [], ◌∷◌, length, slice_set, refl, sym, subst, ap, arith, ◌++◌, map, filter, not}
use Rattle.std.specs.Prelude.{OnOk}
use Rattle.std.specs.List.{slice_index_or}
use Rattle.std.specs.declared.result.Result.{Result}
use Rattle.std.specs.declared.result.Result.TheVariants.{Ok, Err}
use Rattle.run_rules.specs.declared.world.Activity.{Activity}
use Rattle.run_rules.specs.declared.world.Activity.TheVariants as activity
use Rattle.run_rules.specs.declared.world.Frame.{Frame}
use Rattle.run_rules.specs.declared.world.Deferred.{Deferred}
use Rattle.run_rules.specs.declared.world.Key.{Key}
use Rattle.run_rules.specs.World.{World, Caller, scan_of}
use Rattle.run_rules.specs.After.{released, same_key, settled, under_top}
use Rattle.plain_world.specs.declared.world.Plain.{Plain}
use Rattle.plain_world.specs.Plain.{HasCaller, restacked, state_at}

abbrev pub with_callers : World → List Caller → World
with_callers w cs = record w { callers = cs }

pub at_is : (cs : List Caller) (k : ℕ) (x : Caller) → k < length cs → x ≡ slice_index_or cs k x → x ≡ state_at cs k
at_is [] k x lt is = absurd (omega arith)
at_is (c ∷ cs) zero x lt is = is
at_is (c ∷ cs) (suc k) x lt is = at_is cs k x (omega arith) is

-- one stands in its place that it has become
pub set_is : (f : Caller → Caller) (cs : List Caller) (k : ℕ) (x y : Caller) → k < length cs → x ≡ slice_index_or cs k x → y ≡ f x → slice_set cs k y ≡ slice_set cs k (f (state_at cs k))
set_is f cs k x y lt is so = ap (slice_set cs k) (so ∙ ap f (at_is cs k x lt is))

pub set_here : (cs : List Caller) (k : ℕ) (y : Caller) → k < length cs → state_at (slice_set cs k y) k ≡ y
set_here [] k y lt = absurd (omega arith)
set_here (c ∷ cs) zero y lt = refl
set_here (c ∷ cs) (suc k) y lt = set_here cs k y (omega arith)

pub set_length : (cs : List Caller) (k : ℕ) (y : Caller) → length (slice_set cs k y) ≡ length cs
set_length [] k y = refl
set_length (c ∷ cs) zero y = refl
set_length (c ∷ cs) (suc k) y = ap (λ n. suc n) (set_length cs k y)

-- where a rescan ends one more command is over
pub settled_low : (c : Caller) → (settled c).over ≤ c.over + 1
settled_low c = cases c.doing c.stack
  where
    cases : (a : Activity) (stack : List Frame) → (settled (record { over = c.over; doing = a; stack = stack })).over ≤ c.over + 1
    cases activity.Idle stack = omega arith
    cases (activity.Transfer t) stack = omega arith
    cases (activity.Frees s) stack = omega arith
    cases activity.Scans [] = omega arith
    cases activity.Scans (f ∷ fs) = omega arith
    cases (activity.Power k s) stack = omega arith
    cases activity.Ended stack = omega arith

-- there is still such a caller
pub has_still : (cs : List Caller) (k n j : ℕ) (x y : Caller) → k < length cs → x ≡ slice_index_or cs k x → (state_at cs k).over ≤ n → y.over ≤ x.over + j
    → (k < length (slice_set cs k y)) × ((state_at (slice_set cs k y) k).over ≤ n + j)
has_still cs k n j x y lt is low few =
    let same : x.over ≡ (state_at cs k).over = ap (λ (c : Caller). c.over) (at_is cs k x lt is) in
    let here : (state_at (slice_set cs k y) k).over ≡ y.over = ap (λ (c : Caller). c.over) (set_here cs k y lt) in
    (omega (arith, set_length cs k y, lt), omega (arith, same, here, low, few))

pub restacked_low : (c y : Caller) (stack : List Frame) → y ≡ restacked c stack → y.over ≤ c.over + 1
restacked_low c y stack e = subst (λ (x : Caller). x.over ≤ c.over + 1) (sym e) (settled_low (record { over = c.over; doing = c.doing; stack = stack }))

-- ---- answers

pub ok_more : {A B P Q : Type 0} (r : Result A B) → OnOk r P → (P → Q) → OnOk r Q
ok_more (Ok x) p f = f p
ok_more (Err e) p f = tt

-- and few of its commands are over
pub over_small : (cs : List Caller) (k n : ℕ) (x : Caller) → k < length cs → x ≡ slice_index_or cs k x → (state_at cs k).over ≤ n → x.over ≤ n
over_small cs k n x lt is low = omega (arith, ap (λ (c : Caller). c.over) (at_is cs k x lt is), low)

-- a world with the same callers has each of them
pub has_too : (p q : Plain) (k m n : ℕ) → q.callers.items ≡ p.callers.items → m ≤ n → HasCaller p k m → HasCaller q k n
has_too p q k m n same le has =
    record {
      there = subst (λ (cs : List Caller). k < length cs) (sym same) has.there;
      low = subst (λ (cs : List Caller). (state_at cs k).over ≤ n) (sym same) (omega (arith, has.low, le));
    }

-- ---- one after the other

set_again : (cs : List Caller) (k : ℕ) (y z : Caller) → slice_set (slice_set cs k y) k z ≡ slice_set cs k z
set_again [] k y z = refl
set_again (c ∷ cs) zero y z = refl
set_again (c ∷ cs) (suc k) y z = ap (λ (xs : List Caller). c ∷ xs) (set_again cs k y z)

abbrev pub under : Caller → Caller
under c = record { over = c.over; doing = c.doing; stack = under_top c.stack }

-- scans are released in the place of the frame on top
pub released_under : (w : World) (k : ℕ) (which : Key) (y : Caller) → k < length w.callers → y ≡ under (state_at w.callers k)
    → released (with_callers w (slice_set w.callers k y)) k which (state_at (slice_set w.callers k y) k).stack ≡ released w k which (under_top (state_at w.callers k).stack)
unfolding released
released_under w k which y lt is =
    let frames : List Frame = map (λ e. scan_of e.child) (filter (λ e. same_key e.key which) w.deferred) in
    let left : List Deferred = filter (λ e. not (same_key e.key which)) w.deferred in
    ap (λ (c : Caller). record w { deferred = left; callers = slice_set (slice_set w.callers k y) k (restacked c (frames ++ c.stack)) }) (set_here w.callers k y lt ∙ is)
    ∙ ap (λ (cs : List Caller). record w { deferred = left; callers = cs }) (set_again w.callers k y (restacked (state_at w.callers k) (frames ++ under_top (state_at w.callers k).stack)))
