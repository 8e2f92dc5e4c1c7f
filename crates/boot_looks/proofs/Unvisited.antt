-- A deed of a boot that does not come to a spot leaves it awaited.
use Rattle.std.proofs.Common.{◌≡◌, ◌≢◌, ◌⊎◌, ◌<◌, ℕ, Bool, true, false, not, ◌==◌, nat_lt, List, ◌∷◌, length, Option, Some, None, refl, sym, ap, ◌∙◌, inl, inr, arith, eq-eqb}
use Rattle.std.proofs.lemmas.Bool.{eqb-false, ne_eqb}
use Rattle.std.proofs.lemmas.Bool.Decides.{nat_tests}
use Rattle.run_rules.specs.declared.deed.Choice.TheVariants.{Does}
use Rattle.run_rules.specs.declared.deed.Deed.{Deed}
use Rattle.run_rules.specs.declared.deed.Deed.TheVariants.{Search, EndScan, BeginInterrupts, Finalise, EndCaller, Drop, Refuse, Open, Close, Start, Done, Detach, Free, Rescan, BeginPower, Sleep, Wake, EndPower, Plug, Unplug, Tell}
use Rattle.run_rules.specs.declared.world.Arrival.{Arrival}
use Rattle.run_rules.specs.declared.world.Frame.{Frame}
use Rattle.run_rules.specs.declared.world.Frame.TheVariants.{Scan}
use Rattle.run_rules.specs.declared.world.Key.{Key}
use Rattle.run_rules.specs.declared.world.Key.TheVariants as key
use Rattle.run_rules.specs.declared.world.Position.{Position}
use Rattle.run_rules.specs.declared.world.Turn.{Turn}
use Rattle.run_rules.specs.After.{after, arrived, attached, finaliser_done, list_moved, moved_top, released, show_spot, under_top, with_stack}
use Rattle.run_rules.specs.Next.{next}
use Rattle.run_rules.specs.Search.{is_before}
use Rattle.run_rules.specs.World.{World, caller_at, is_number}
use Rattle.run_sound.specs.Kept.{Kept}
use Rattle.run_sound.proofs.Arrivals.{quiet_call, shown_spot, turn_spot}
use Rattle.run_sound.proofs.Callers.{callers_kept, clash, doing_there}
use Rattle.run_sound.proofs.Coming.{IsCall, IsScanEnd, IsTurn}
use Rattle.run_sound.proofs.Comings.{attached_comes}
use Rattle.run_sound.proofs.Falls.{stack_is}
use Rattle.run_sound.proofs.OwnCaller.{IsBootDeed}
use Rattle.run_sound.proofs.Reasons.{has_reason}
use Rattle.boot_laws.proofs.Deeds.{fresh, left, turned}
use Rattle.boot_laws.proofs.Finals.{bare_before, before_shown, quiet_to_come}
use Rattle.boot_laws.proofs.Watched.{AnyIn, Covers, IsTurnOf, attached_adds, released_to_come}
use Rattle.boot_looks.specs.declared.visit.Visit.{Visit}
use Rattle.boot_looks.specs.Looks.{is_passed, visit_by, visit_if}
use Rattle.boot_looks.proofs.Awaited.{IsAwaited, IsPassing, IsScanned, SameSpots, come_awaited, passed, passing, restacked_awaited, some_turn, turn_before}

no_visit : (b : Bool) (visit : Visit) → visit_if b visit ≡ None → b ≡ false
no_visit true visit e = absurd cc
no_visit false visit e = refl

restacked : (w : World) (stack : List Frame) → SameSpots w (with_stack w 0 stack)
restacked w stack = record { setup = refl; live = refl; absent = refl; hidden = refl }

begun : (w : World) (which : Key) (rest : List Frame) → SameSpots w (released w 0 which rest)
unfolding released
begun w which rest = record { setup = refl; live = refl; absent = refl; hidden = refl }

-- ---- a turn of another spot

not_before_itself : (at : Position) → is_before at at ≡ false
unfolding is_before
not_before_itself at =
    let attr : nat_lt at.attr at.attr ≡ false = grind (arith, nat_tests) in
    let row : nat_lt at.row at.row ≡ false = grind (arith, nat_tests) in
    let spot : nat_lt at.spot at.spot ≡ false = grind (arith, nat_tests) in
    rw (attr, row, spot, eq-eqb at.attr at.attr refl, eq-eqb at.row at.row refl) refl

-- the search on top moves on, and so does no other
moved_scan : (w : World) (p spot : ℕ) (to : Position) (got : Option Arrival) (i : IsTurn w 0 p spot to got) (q : ℕ) → 0 < length w.callers → IsScanned w q
    → IsScanned (with_stack w 0 (moved_top to (caller_at w 0).stack)) q
moved_scan w p spot to got i q lt (t, inr entry) = (t, inr entry)
moved_scan w p spot to got i q lt (t, inl frame) = cases (rw i.stack at frame)
  where
    moved : (caller_at (with_stack w 0 (moved_top to (caller_at w 0).stack)) 0).stack ≡ Scan p i.only i.wanted to ∷ i.rest
    moved = stack_is w 0 (moved_top to (caller_at w 0).stack) lt ∙ ap (moved_top to) i.stack

    cases : Covers q t (Scan p i.only i.wanted i.from) ⊎ AnyIn (Covers q t) i.rest → IsScanned (with_stack w 0 (moved_top to (caller_at w 0).stack)) q
    cases (inr more) = (t, inl (rw moved (inr more)))
    cases (inl (same, whole, all, ahead)) = (some_turn to, inl (rw moved (inl (same, whole, all, not_before_itself to))))

moved_awaited : (w : World) (p spot : ℕ) (to : Position) (got : Option Arrival) (i : IsTurn w 0 p spot to got) (x : ℕ) → 0 < length w.callers → spot ≢ x → IsAwaited w x
    → IsAwaited (with_stack w 0 (moved_top to (caller_at w 0).stack)) x
moved_awaited w p spot to got i x lt other so = record {
  free = so.free;
  turns = λ q t at is direct.
      let stack : List Frame = moved_top to (caller_at w 0).stack in
      let before : IsTurnOf w q t = turn_before w (with_stack w 0 stack) q t (restacked w stack) at in
      elim (turned w p spot to got i q t lt before (rw direct refl) (so.turns q t before is direct)) [
        | inl same ↦ absurd (other (i.place ∙ ap (λ (u : Turn). u.at.spot) same.1 ∙ is))
        | inr still ↦ still
      ];
  ends = λ q h. moved_scan w p spot to got i q lt (so.ends q h);
}

search_awaited : (w : World) (p spot : ℕ) (to : Position) (got : Option Arrival) (x : ℕ) → Kept w → next w 0 ≡ Does (Search p spot to got) → spot ≢ x → IsAwaited w x
    → IsAwaited (after w 0 (Search p spot to got)) x
unfolding after
search_awaited w p spot to None x kept e other so = moved_awaited w p spot to None (has_reason w 0 (Search p spot to None) e) x (doing_there w 0 (Search p spot to None) e) other so
search_awaited w p spot to (Some a) x kept e other so =
    let i : IsTurn w 0 p spot to (Some a) = has_reason w 0 (Search p spot to (Some a)) e in
    let lt : 0 < length w.callers = doing_there w 0 (Search p spot to (Some a)) e in
    let u : World = with_stack w 0 (moved_top to (caller_at w 0).stack) in
    let there : 0 < length u.callers = rw (callers_kept w 0 _) lt in
    come_awaited u _ a x (attached_comes u 0 a true) (attached_adds u a true there) (fresh w kept) (λ same. other (i.place ∙ sym (turn_spot w 0 p spot to a i) ∙ same)) (moved_awaited w p spot to (Some a) i x lt other so)

-- ---- the end of a search that does not pass the spot

ended_scan : (w : World) (p x : ℕ) (i : IsScanEnd w 0 p) (q : ℕ) → 0 < length w.callers → is_passed w p x ≡ false → is_passed w q x ≡ true → IsScanned w q
    → IsScanned (released w 0 (key.Parent p) (under_top (caller_at w 0).stack)) q
ended_scan w p x i q lt none h (t, inr entry) = (t, released_to_come w (key.Parent p) (under_top (caller_at w 0).stack) q t lt (inr entry))
ended_scan w p x i q lt none h (t, inl frame) = cases (rw i.stack at frame)
  where
    under : under_top (caller_at w 0).stack ≡ i.rest
    under = ap under_top i.stack

    cases : Covers q t (Scan p i.only i.wanted i.from) ⊎ AnyIn (Covers q t) i.rest → IsScanned (released w 0 (key.Parent p) (under_top (caller_at w 0).stack)) q
    cases (inl (same, whole, all, ahead)) = clash (is_passed w p x) (rw same h) none
    cases (inr more) = (t, released_to_come w (key.Parent p) (under_top (caller_at w 0).stack) q t lt (inl (rw under more)))

end_awaited : (w : World) (p x : ℕ) → next w 0 ≡ Does (EndScan p) → is_passed w p x ≡ false → IsAwaited w x → IsAwaited (after w 0 (EndScan p)) x
unfolding after released
end_awaited w p x e none so =
    let i : IsScanEnd w 0 p = has_reason w 0 (EndScan p) e in
    let lt : 0 < length w.callers = doing_there w 0 (EndScan p) e in
    record {
      free = so.free;
      turns = λ q t at is direct.
          let rest : List Frame = under_top (caller_at w 0).stack in
          let before : IsTurnOf w q t = turn_before w (released w 0 (key.Parent p) rest) q t (begun w (key.Parent p) rest) at in
          released_to_come w (key.Parent p) (under_top (caller_at w 0).stack) q t lt (left w p i q t before (rw direct refl) (so.turns q t before is direct));
      ends = λ q h. ended_scan w p x i q lt none h (so.ends q h);
    }

-- ---- interrupts

phase_awaited : (w : World) (x : ℕ) → next w 0 ≡ Does BeginInterrupts → IsAwaited w x → IsAwaited (after w 0 BeginInterrupts) x
unfolding after released
phase_awaited w x e so =
    restacked_awaited w _ x (record { setup = refl; live = refl; absent = refl; hidden = refl })
    (λ p t waits. released_to_come (record w { interrupts_on = true }) key.Interrupts (caller_at w 0).stack p t (doing_there w 0 BeginInterrupts e) waits) so

-- ---- a finaliser that shows another spot, or none

shown_awaited : (w : World) (y x : ℕ) → (x == y) ≡ false → IsAwaited w x → IsAwaited (show_spot w (Some y)) x
shown_awaited w y x other so = record {
  free = so.free;
  turns = λ p t at is direct. so.turns p t (before_shown w y p t (rw is other) at) is direct;
  ends = λ p h. so.ends p (before p (passing (show_spot w (Some y)) p x h));
}
  where
    before : (p : ℕ) → IsPassing w.setup w.live w.absent (show_spot w (Some y)).hidden p x → is_passed w p x ≡ true
    before p h = passed w p x (record { device = h.device; found = h.found; on = h.on; bare = bare_before w.setup.machine w.live w.absent w.hidden y x other h.bare })

called_awaited : (w : World) (s y : ℕ) (got : Option Arrival) (listed : Option ℕ) (anew : Bool) (x : ℕ) → Kept w → 0 < length w.callers → IsCall w 0 s (Some y) got listed anew → (y == x) ≡ false → IsAwaited w x
    → IsAwaited (arrived (show_spot w (Some y)) 0 got false) x
called_awaited w s y got listed anew x kept lt call apart so = comes got call
  where
    other : y ≢ x
    other = eqb-false y x apart

    u : World
    u = show_spot w (Some y)

    seen : IsAwaited u x
    seen = shown_awaited w y x (ne_eqb x y (λ same. other (sym same))) so

    comes : (g : Option Arrival) → IsCall w 0 s (Some y) g listed anew → IsAwaited (arrived u 0 g false) x
    comes None is = seen
    comes (Some a) is = come_awaited u (attached u 0 a false) a x (attached_comes u 0 a false) (attached_adds u a false lt) (fresh w kept) (λ same. other (sym (shown_spot w 0 s y a listed anew is) ∙ same)) seen

-- the list moves on, and no frame goes
answered_awaited : (v : World) (listed : Option ℕ) (anew : Bool) (x : ℕ) → IsAwaited v x → IsAwaited (finaliser_done (list_moved v listed anew true) 0 listed true) x
answered_awaited v None anew x so = so
answered_awaited v (Some place) anew x so = restacked_awaited v _ x (record { setup = refl; live = refl; absent = refl; hidden = refl }) (λ p t waits. waits) so

quiet_spots : (w : World) (listed : Option ℕ) (anew : Bool) → SameSpots w (finaliser_done (list_moved w listed anew false) 0 listed false)
quiet_spots w None anew = record { setup = refl; live = refl; absent = refl; hidden = refl }
quiet_spots w (Some place) anew = record { setup = refl; live = refl; absent = refl; hidden = refl }

final_awaited : (w : World) (s : ℕ) (shown : Option ℕ) (got : Option Arrival) (listed : Option ℕ) (anew : Bool) (x : ℕ) → Kept w → next w 0 ≡ Does (Finalise s shown got listed anew) → is_number shown x ≡ false → IsAwaited w x
    → IsAwaited (after w 0 (Finalise s shown got listed anew)) x
unfolding after
final_awaited w s None None listed anew x kept e apart so =
    let call : IsCall w 0 s None None listed anew = has_reason w 0 (Finalise s None None listed anew) e in
    let lt : 0 < length w.callers = doing_there w 0 (Finalise s None None listed anew) e in
    restacked_awaited w _ x (quiet_spots w listed anew) (λ p t waits. quiet_to_come w s listed anew p t lt call.called waits) so
final_awaited w s None (Some a) listed anew x kept e apart so = absurd (quiet_call w 0 s a listed anew (has_reason w 0 (Finalise s None (Some a) listed anew) e))
final_awaited w s (Some y) got listed anew x kept e apart so =
    let call : IsCall w 0 s (Some y) got listed anew = has_reason w 0 (Finalise s (Some y) got listed anew) e in
    answered_awaited (arrived (show_spot w (Some y)) 0 got false) listed anew x (called_awaited w s y got listed anew x kept (doing_there w 0 (Finalise s (Some y) got listed anew) e) call apart so)

-- ---- each deed of the boot but its end

pub awaited_after : (w : World) (d : Deed) (x : ℕ) → Kept w → next w 0 ≡ Does d → d ≢ EndCaller → IsBootDeed d → visit_by w d x ≡ None → IsAwaited w x → IsAwaited (after w 0 d) x
awaited_after w (Search p spot to got) x kept e goes is none so =
    search_awaited w p spot to got x kept e (eqb-false spot x (no_visit (spot == x) (record { parent = p; passed = false }) none)) so
awaited_after w (EndScan p) x kept e goes is none so = end_awaited w p x e (no_visit (is_passed w p x) (record { parent = p; passed = true }) none) so
awaited_after w BeginInterrupts x kept e goes is none so = phase_awaited w x e so
awaited_after w (Finalise s shown got listed anew) x kept e goes is none so =
    final_awaited w s shown got listed anew x kept e (no_visit (is_number shown x) (record { parent = s; passed = false }) none) so
awaited_after w EndCaller x kept e goes is none so = absurd (goes refl)
awaited_after w (Drop s) x kept e goes is none so = absurd is
awaited_after w (Refuse why) x kept e goes is none so = absurd is
awaited_after w (Open s sole) x kept e goes is none so = absurd is
awaited_after w (Close s) x kept e goes is none so = absurd is
awaited_after w (Start t) x kept e goes is none so = absurd is
awaited_after w (Done t) x kept e goes is none so = absurd is
awaited_after w (Detach s) x kept e goes is none so = absurd is
awaited_after w (Free s) x kept e goes is none so = absurd is
awaited_after w (Rescan s only) x kept e goes is none so = absurd is
awaited_after w (BeginPower kind s) x kept e goes is none so = absurd is
awaited_after w (Sleep s) x kept e goes is none so = absurd is
awaited_after w (Wake s) x kept e goes is none so = absurd is
awaited_after w (EndPower end) x kept e goes is none so = absurd is
awaited_after w (Plug y) x kept e goes is none so = absurd is
awaited_after w (Unplug y of) x kept e goes is none so = absurd is
awaited_after w Tell x kept e goes is none so = absurd is
