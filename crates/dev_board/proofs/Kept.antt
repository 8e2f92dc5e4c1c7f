-- A step of a caller keeps what a board keeps.
use Rattle.std.proofs.Common.{◌≡◌, ◌≤◌, ◌+◌, ◌&&◌, ℕ, Bool, true, false, not, find, None, List, [], ◌∷◌, ◌++◌, length, refl, sym, ◌∙◌, ap, subst, inl, inr, arith, length-append}
use Rattle.std.specs.List.{AllByRecursion}
use Rattle.run_rules.specs.declared.event.Event.{Event}
use Rattle.run_rules.specs.declared.world.Activity.{Activity}
use Rattle.run_rules.specs.declared.world.Activity.TheVariants as activity
use Rattle.run_rules.specs.declared.world.Dev.{Dev}
use Rattle.run_rules.specs.declared.world.Setup.{Setup}
use Rattle.run_rules.specs.World.{World, opening, has_ended, is_ended, is_held, caller_at}
use Rattle.run_rules.specs.declared.deed.Deed.{Deed}
use Rattle.run_rules.specs.declared.deed.Choice.TheVariants.{Does}
use Rattle.run_rules.specs.Next.{next}
use Rattle.run_rules.specs.After.{after}
use Rattle.run_rules.specs.Lines.{IsFormed}
use Rattle.run_rules.specs.Run.{Run, event_of}
use Rattle.run_rules.proofs.Devices.{all_snoc}
use Rattle.run_rules.proofs.Runs.{run_on}
use Rattle.run_rules.proofs.Setups.{after_setup}
use Rattle.run_sound.proofs.RangesDeeds.{after_serials}
use Rattle.run_sound.specs.Kept.{Kept}
use Rattle.dev_board.specs.declared.answer.LeaseStep.{LeaseStep}
use Rattle.dev_board.specs.declared.answer.LeaseStep.TheVariants.{Keep}
use Rattle.dev_board.specs.Performing.{Performed}
use Rattle.dev_board.specs.Shown.{Shown}
use Rattle.dev_board.specs.Stepping.{DoesNext}
use Rattle.dev_board.specs.StateKept.{StateKept, shown_of}
use Rattle.dev_board.specs.declared.board_state.BoardState.{BoardState}
use Rattle.dev_board.specs.Witness.{Witness, lease_step, told_did}

-- ---- the caller that boots

clash : (a : Activity) → a ≡ activity.Ended → is_ended a ≡ false → ⊥
clash activity.Ended e h = cc
clash activity.Idle e h = cc
clash (activity.Transfer t) e h = cc
clash (activity.Frees s) e h = cc
clash activity.Scans e h = cc
clash (activity.Power what s) e h = cc

pub boot_idle : (w : World) → Kept w → has_ended w 0 ≡ false → (caller_at w 0).doing ≡ activity.Idle
boot_idle w kept goes = elim kept.ranges.callers.booting [ inl idle ↦ idle | inr ended ↦ absurd (clash (caller_at w 0).doing ended goes) ]

-- ---- what is kept

pub kept_step : (old new : BoardState) (k : ℕ) (d : Deed) → StateKept old → next old.going k ≡ Does d → Performed old new k d → StateKept new
kept_step old new k d kept chosen did =
    let w : World = old.going in
    let from : World = opening w.setup in
    let long : Run from (old.events.items ++ event_of w k d ∷ []) (after w k d) = run_on from old.events.items w k d kept.run chosen in
    let moved : Run from new.events.items (after w k d) = subst (λ (h : List Event). Run from h (after w k d)) (sym did.events) long in
    let grown : new.going.next ≡ (after w k d).next = ap (λ (v : World). v.next) did.world in
    let setup : new.going.setup ≡ w.setup = ap (λ (v : World). v.setup) did.world ∙ after_setup w k d in
    record {
      run =
          subst (λ (s : Setup). Run (opening s) new.events.items new.going) (sym setup)
          (subst (λ (v : World). Run from new.events.items v) (sym did.world) moved);
      formed = subst (AllByRecursion IsFormed) (sym did.events) (all_snoc IsFormed old.events.items (event_of w k d) kept.formed did.formed);
      next_high = omega (arith, grown, (after_serials w k d).1, kept.next_high, ap length did.events, length-append old.events.items (event_of w k d ∷ []));
    }

-- so does a change that the board does not show
pub kept_shown : (old new : BoardState) → shown_of new ≡ shown_of old → StateKept old → StateKept new
kept_shown old new same kept = record {
  run = subst (λ (b : Shown). Run (opening b.world.setup) b.events b.world) (sym same) kept.run;
  formed = subst (λ (b : Shown). AllByRecursion IsFormed b.events) (sym same) kept.formed;
  next_high = subst (λ (b : Shown). b.world.next ≤ length b.events + 1) (sym same) kept.next_high;
}

-- ---- the witness

never_found : {A : Type 0} (p : A → Bool) (xs : List A) → ((x : A) → p x ≡ false) → find p xs ≡ None
never_found p [] h = refl
never_found p (x ∷ xs) h = rw (h x, never_found p xs h) refl

and_not : (b : Bool) → (b && not b) ≡ false
and_not true = refl
and_not false = refl

-- where the references stay, nobody takes or gives a lease
pub no_lease : (w v : World) (k : ℕ) → v.refs ≡ w.refs → lease_step w v k ≡ Keep
unfolding lease_step
no_lease w v k same =
    rw (same, never_found (λ (d : Dev). is_held w k d.serial && not (is_held w k d.serial)) w.live (λ d. and_not (is_held w k d.serial))) refl

pub does_next : (old new : BoardState) (k : ℕ) (d : Deed) (place : ℕ) (lease : LeaseStep) (told : Witness) → next old.going k ≡ Does d → Performed old new k d
    → place ≡ length old.events.items → lease_step old.going new.going k ≡ lease → told ≡ told_did (opening old.going.setup) k (length old.events.items) (event_of old.going k d) lease
    → DoesNext (shown_of old) k place told (shown_of new)
does_next old new k d place lease told chosen did at steps is = record {
  deed = d;
  chosen = chosen;
  last = at;
  board = rw (did.world, did.events, did.stops, did.stopped) refl;
  told = rw (steps, at) is;
}
