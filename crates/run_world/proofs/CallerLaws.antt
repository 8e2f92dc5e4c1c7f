-- A caller whose frames change.
use Rattle.std.proofs.Common.{◌≡◌, ◌<◌, ℕ, zero, suc, List, [], ◌∷◌, ◌++◌, map, length, slice_set, refl, sym, ◌∙◌, ap, append_assoc, arith}
use Rattle.std.specs.List.{slice_index_or}
use Rattle.std.proofs.lemmas.List.{map-append}
use Rattle.run_rules.specs.declared.world.Activity.{Activity}
use Rattle.run_rules.specs.declared.world.Activity.TheVariants as activity
use Rattle.run_rules.specs.declared.world.Deferred.{Deferred}
use Rattle.run_rules.specs.declared.world.Frame.{Frame}
use Rattle.run_rules.specs.declared.world.Key.{Key}
use Rattle.run_rules.specs.World.{World, Caller, caller_at, nobody, scan_of}
use Rattle.run_rules.specs.After.{doing, pushed, settled, with_caller, with_stack}
use Rattle.run_sound.proofs.Callers.{caller_here}
use Rattle.defer_queue.specs.Queue.{TakesLast, entry_of, entries_of}
use Rattle.defer_queue.proofs.Queues.{entries_taken}
use Rattle.scan_engine.specs.Frames.{Frames}
use Rattle.run_world.specs.declared.caller.CallerState.{CallerState}
use Rattle.run_world.specs.Arrivals.{state_at}
use Rattle.run_world.specs.Callers.{stacked, framed, released_frames}
use Rattle.run_world.specs.View.{caller_of, callers_of}

-- what was put off last is the last of the released frames
pub released_on : (old new : List Deferred) (which : Key) (child : ℕ) (frames : List Frame) → TakesLast old which child new
    → released_frames new which ++ scan_of child ∷ frames ≡ released_frames old which ++ frames
released_on old new which child frames took =
    sym (ap (λ (es : List Deferred). map (λ e. scan_of e.child) es ++ frames) (entries_taken old new which child took)
    ∙ ap (λ (fs : List Frame). fs ++ frames) (map-append (λ e. scan_of e.child) (entries_of new which) (entry_of which child ∷ []))
    ∙ append_assoc (released_frames new which) (scan_of child ∷ []) frames)

-- a caller with a frame is not over with a rescan
pub settled_frames : (c : Caller) (f : Frame) (fs : List Frame) → framed c (f ∷ fs) ≡ stacked c (f ∷ fs)
settled_frames c f fs = cases c.doing
  where
    cases : (a : Activity) → settled (record { over = c.over; doing = a; stack = f ∷ fs }) ≡ record { over = c.over; doing = a; stack = f ∷ fs }
    cases activity.Idle = refl
    cases (activity.Transfer t) = refl
    cases (activity.Frees s) = refl
    cases activity.Scans = refl
    cases (activity.Power k s) = refl
    cases activity.Ended = refl

-- ---- one caller of a list

pub set_again : {A : Type 0} (xs : List A) (i : ℕ) (a b : A) → slice_set (slice_set xs i a) i b ≡ slice_set xs i b
set_again [] i a b = refl
set_again (x ∷ xs) zero a b = refl
set_again {A} (x ∷ xs) (suc i) a b = ap (λ (r : List A). x ∷ r) (set_again xs i a b)

pub set_own : {A : Type 0} (xs : List A) (i : ℕ) (d : A) → slice_set xs i (slice_index_or xs i d) ≡ xs
set_own [] i d = refl
set_own (x ∷ xs) zero d = refl
set_own {A} (x ∷ xs) (suc i) d = ap (λ (r : List A). x ∷ r) (set_own xs i d)

pub map_set : {A B : Type 0} (f : A → B) (xs : List A) (i : ℕ) (x : A) → map f (slice_set xs i x) ≡ slice_set (map f xs) i (f x)
map_set f [] i x = refl
map_set f (y ∷ ys) zero x = refl
map_set {A} {B} f (y ∷ ys) (suc i) x = ap (λ (r : List B). f y ∷ r) (map_set f ys i x)

pub at_is : {A B : Type 0} (f : A → B) (xs : List A) (i : ℕ) (x : A) (d : B) → i < length xs → x ≡ slice_index_or xs i x → f x ≡ slice_index_or (map f xs) i d
at_is f [] i x d lt is = absurd (omega arith)
at_is f (y ∷ ys) zero x d lt is = ap f is
at_is f (y ∷ ys) (suc i) x d lt is = at_is f ys i x d (omega arith) is

-- a frame is pushed onto a caller
pub pushed_is : (w : World) (k : ℕ) (f : Frame) → with_stack w k (f ∷ (caller_at w k).stack) ≡ with_caller w k (stacked (caller_at w k) (f ∷ (caller_at w k).stack))
pushed_is w k f = ap (λ (c : Caller). with_caller w k c) (settled_frames (caller_at w k) f (caller_at w k).stack)

index_map : {A B : Type 0} (f : A → B) (xs : List A) (i : ℕ) (d : A) → f (slice_index_or xs i d) ≡ slice_index_or (map f xs) i (f d)
index_map f [] i d = refl
index_map f (x ∷ xs) zero d = refl
index_map f (x ∷ xs) (suc i) d = index_map f xs i d

pub state_is : (cs : List CallerState) (k : ℕ) → caller_of (state_at cs k) ≡ slice_index_or (callers_of cs) k nobody
state_is cs k = index_map caller_of cs k _

-- a caller in whose place one alike stands
pub callers_alike : (cs : List CallerState) (k : ℕ) (x y : CallerState) → k < length cs → x ≡ slice_index_or cs k x → caller_of y ≡ caller_of x → callers_of (slice_set cs k y) ≡ callers_of cs
callers_alike cs k x y lt is alike =
    map_set caller_of cs k y ∙ ap (slice_set (callers_of cs) k) (alike ∙ at_is caller_of cs k x nobody lt is) ∙ set_own (callers_of cs) k nobody

-- a caller in whose place one stands that it has become
pub caller_set : (f : Caller → Caller) (cs : List CallerState) (k : ℕ) (x y : CallerState) → k < length cs → x ≡ slice_index_or cs k x → caller_of y ≡ f (caller_of x)
    → callers_of (slice_set cs k y) ≡ slice_set (callers_of cs) k (f (slice_index_or (callers_of cs) k nobody))
caller_set f cs k x y lt is so = map_set caller_of cs k y ∙ ap (slice_set (callers_of cs) k) (so ∙ ap f (at_is caller_of cs k x nobody lt is))

-- a caller whose frames are the same, with another room
pub room_made : (cs : List CallerState) (k : ℕ) (x : CallerState) (stack : Frames) → k < length cs → x ≡ slice_index_or cs k x → stack.frames ≡ x.stack.frames
    → callers_of (slice_set cs k (record x { stack = stack })) ≡ callers_of cs
room_made cs k x stack lt is same =
    callers_alike cs k x (record x { stack = stack }) lt is (ap (λ (fs : List Frame). record { over = x.over; doing = x.doing; stack = fs }) same)

-- how many commands of the caller at a place are over
pub over_is : (cs : List CallerState) (k : ℕ) (x : CallerState) → k < length cs → x ≡ slice_index_or cs k x → x.over ≡ (slice_index_or (callers_of cs) k nobody).over
over_is cs k x lt is = ap (λ (c : Caller). c.over) (at_is caller_of cs k x nobody lt is)

-- the world with these callers
abbrev pub with_callers : World → List Caller → World
with_callers w cs = record w { callers = cs }

-- a frame is pushed onto a caller that scans from now on
pub scans_on : (w : World) (k : ℕ) (f : Frame) → k < length w.callers
    → with_caller w k (record { over = (caller_at w k).over; doing = activity.Scans; stack = f ∷ (caller_at w k).stack }) ≡ pushed (doing w k activity.Scans) k f
scans_on w k f lt =
    let c : Caller = record { over = (caller_at w k).over; doing = activity.Scans; stack = (caller_at w k).stack } in
    let m : World = with_caller w k c in
    sym (ap (λ (x : Caller). with_caller m k (settled (record { over = x.over; doing = x.doing; stack = f ∷ x.stack }))) (caller_here w k c lt)
    ∙ ap (λ (cs : List Caller). record w { callers = cs }) (set_again w.callers k c (record { over = c.over; doing = activity.Scans; stack = f ∷ c.stack })))
