-- An event more, in the books.
use Rattle.std.proofs.Common.{◌≡◌, ◌≢◌, ◌≤◌, ◌+◌, ℕ, cond, true, List, [], ◌∷◌, ◌++◌, sym, refl, ap, ◌∙◌, subst, arith}
use Rattle.std.proofs.lemmas.Bool.{eqb-true}
use Rattle.std.specs.Prelude.{◌==◌, not, Bool, false, length, slice_get, Option, Some, None}
use Rattle.run_rules.specs.declared.event.Event.{Event}
use Rattle.run_rules.specs.World.{World, opening}
use Rattle.run_rules.specs.declared.deed.Choice.TheVariants.{Does}
use Rattle.run_rules.specs.declared.deed.Deed.{Deed}
use Rattle.run_rules.specs.Next.{next}
use Rattle.run_rules.specs.Run.{event_of}
use Rattle.run_rules.specs.Counts.{ends_of, dids_of, is_of_script, closes_script}
use Rattle.run_rules.proofs.CountsOn.{count_on}
use Rattle.run_rules.proofs.Setups.{after_setup}
use Rattle.dev_board.specs.Witness.{Witness}
use Rattle.dev_board.specs.Shown.{Shown, began}
use Rattle.dev_board.specs.Stepping.{DoesNext}
use Rattle.board_lock.specs.Boards.{one_end, one_did}

last_of : (xs : List Event) (e : Event) → slice_get (xs ++ e ∷ []) (length xs) ≡ Some e
last_of [] e = refl
last_of (x ∷ xs) e = last_of xs e

abbrev unwrapped : Event → Option Event → Event
unwrapped d None = d
unwrapped d (Some e) = e

caller_of : (w : World) (k : ℕ) (d : Deed) → (event_of w k d).caller ≡ k
unfolding event_of
caller_of w k d = refl

one : (e : Event) → e.caller ≢ 0 → one_did e ≡ 1
one e h = cases (e.caller == 0) refl
  where
    number : Bool → ℕ
    number b = cond b 1 0

    cases : (b : Bool) → (e.caller == 0) ≡ b → number (not b) ≡ 1
    cases true p = absurd (h (eqb-true e.caller 0 p))
    cases false p = refl

pub record Booked (k : ℕ) (old new : Shown) (told : Witness) (e : Event) : Type 0 where
  pub deed : Deed
  pub chosen : next old.world k ≡ Does deed
  pub is : e ≡ event_of old.world k deed
  pub caller : e.caller ≡ k
  pub event : told.event ≡ Some e
  pub began : began new ≡ began old
  pub ends : ends_of new.events ≡ ends_of old.events + one_end e
  pub dids : dids_of new.events ≡ dids_of old.events + one_did e
  pub stops : new.stops ≡ old.stops

pub booked : (k : ℕ) (old new : Shown) (p : ℕ) (told : Witness) (e : Event) → DoesNext old k p told new → slice_get new.events p ≡ Some e → Booked k old new told e
booked k old new p told e a at =
    let d = event_of old.world k a.deed in
    let events : new.events ≡ old.events ++ d ∷ [] = ap (λ s. s.events) a.board in
    let there : slice_get new.events p ≡ Some d = subst (λ (t : List Event × ℕ). slice_get t.0 t.1 ≡ Some d) (λ i. (sym events i, sym a.last i)) (last_of old.events d) in
    let same : e ≡ d = ap (unwrapped e) (sym at ∙ there) in
    record {
      deed = a.deed;
      chosen = a.chosen;
      is = same;
      caller = ap (λ (x : Event). x.caller) same ∙ caller_of old.world k a.deed;
      event = ap (λ x. x.event) a.told ∙ ap (λ (x : Event). Some x) (sym same);
      began = ap opening (ap (λ s. s.world.setup) a.board ∙ after_setup old.world k a.deed);
      ends = ap ends_of events ∙ (count_on closes_script old.events d ∙ ap (λ x. ends_of old.events + one_end x) (sym same));
      dids = ap dids_of events ∙ (count_on is_of_script old.events d ∙ ap (λ x. dids_of old.events + one_did x) (sym same));
      stops = ap (λ s. s.stops) a.board;
    }

pub one_more : (k : ℕ) (old new : Shown) (told : Witness) (e : Event) → Booked k old new told e → 1 ≤ k → dids_of new.events ≡ dids_of old.events + 1
one_more k old new told e b l = b.dids ∙ ap (λ n. dids_of old.events + n) (one e (λ z. let c = b.caller in omega arith))
