-- What a caller does next, by its frames.
use Rattle.std.proofs.Common.{◌≡◌, ◌≢◌, ◌<◌, ◌&&◌, ◌==◌, ℕ, Bool, true, false, not, List, [], ◌∷◌, length, None, Some, refl, sym, ap, ◌∙◌, ne_eqb}
use Rattle.run_rules.specs.declared.world.Activity.{Activity}
use Rattle.run_rules.specs.declared.world.Frame.{Frame}
use Rattle.run_rules.specs.World.{World, Caller, caller_at, has_ended, is_ended}
use Rattle.run_rules.specs.declared.world.Wait.TheVariants as wait
use Rattle.run_rules.specs.declared.deed.Choice.{Choice}
use Rattle.run_rules.specs.declared.deed.Choice.TheVariants.{Ended, Waits}
use Rattle.run_rules.specs.Next.{by_activity, next, next_boot, next_command, on_top}
use Rattle.scan_engine.specs.Frames.{top_of}
use Rattle.run_world.specs.declared.caller.CallerState.{CallerState}
use Rattle.run_world.specs.View.{caller_of}

on_frames : (w : World) (k : ℕ) (st : List Frame) (f : Frame) (c : Choice) → Some f ≡ top_of st → ((rest : List Frame) → on_top w k (f ∷ rest) ≡ c) → on_top w k st ≡ c
on_frames w k [] f c top does = absurd cc
on_frames w k (g ∷ rest) f c top does = let same : g ≡ f = cc in ap (λ (h : Frame). on_top w k (h ∷ rest)) same ∙ does rest

-- the frame on top decides
pub on_frame : (w : World) (k : ℕ) (x : CallerState) (f : Frame) (c : Choice) → caller_of x ≡ caller_at w k → Some f ≡ top_of x.stack.frames → ((rest : List Frame) → on_top w k (f ∷ rest) ≡ c)
    → on_top w k (caller_at w k).stack ≡ c
on_frame w k x f c is top does = ap (λ (c : Caller). on_top w k c.stack) (sym is) ∙ on_frames w k x.stack.frames f c top does

no_frame : (w : World) (k : ℕ) (st : List Frame) → None ≡ top_of st → on_top w k st ≡ on_top w k []
no_frame w k [] top = refl
no_frame w k (g ∷ rest) top = absurd cc

-- without a frame the caller goes on by itself
pub on_own : (w : World) (k : ℕ) (x : CallerState) → caller_of x ≡ caller_at w k → None ≡ top_of x.stack.frames → on_top w k (caller_at w k).stack ≡ on_top w k []
on_own w k x is top = ap (λ (c : Caller). on_top w k c.stack) (sym is) ∙ no_frame w k x.stack.frames top

pub boots : (w : World) (k : ℕ) → k ≡ 0 → on_top w k [] ≡ next_boot w
boots w k is = rw is refl

pub goes_on : (w : World) (k : ℕ) → k ≢ 0 → on_top w k [] ≡ next_command w k
goes_on w k later = rw (ne_eqb k 0 later) refl

-- ---- who goes on

pub later_waits : (k : ℕ) (booted ended : Bool) → k ≢ 0 → booted ≡ ended → (not (k == 0) && not ended) ≡ not booted
later_waits k booted ended later is = rw (ne_eqb k 0 later) (ap not (sym is))

pub next_ended : (w : World) (k : ℕ) → has_ended w k ≡ true → next w k ≡ Ended
unfolding next
next_ended w k over = rw over refl

pub next_waits : (w : World) (k : ℕ) → has_ended w k ≡ false → (not (k == 0) && not (has_ended w 0)) ≡ true → next w k ≡ Waits wait.Boot
unfolding next
next_waits w k goes waits = rw (goes, waits) refl

pub next_goes : (w : World) (k : ℕ) → has_ended w k ≡ false → (not (k == 0) && not (has_ended w 0)) ≡ false → next w k ≡ by_activity w k (caller_at w k).doing
unfolding next
next_goes w k goes waits = rw (goes, waits) refl

-- who is in the middle of this goes on with it
pub next_doing : (w : World) (k : ℕ) (a : Activity) → (caller_at w k).doing ≡ a → is_ended a ≡ false → (not (k == 0) && not (has_ended w 0)) ≡ false → next w k ≡ by_activity w k a
next_doing w k a is goes boot = next_goes w k (ap is_ended is ∙ goes) boot ∙ ap (by_activity w k) is
