-- So a boot leaves no spot that some row would take.
use Rattle.std.proofs.Common.{◌≡◌, ◌≢◌, ◌⊎◌, ◌<◌, ℕ, Bool, true, false, ◌||◌, ◌==◌, List, [], ◌∷◌, ◌++◌, length, Option, Some, None, refl, sym, ap, ◌∙◌, subst, inl, inr, slice_index_or, eqb-true}
use Rattle.std.specs.Prelude.{IsTrue}
use Rattle.std.specs.List.{AllByRecursion, list_any}
use Rattle.cf_types.specs.declared.tables.Place.{Place}
use Rattle.run_rules.specs.declared.event.Event.{Event}
use Rattle.run_rules.specs.declared.world.Deferred.{Deferred}
use Rattle.run_rules.specs.declared.world.Key.{Key}
use Rattle.run_rules.specs.declared.world.Key.TheVariants as key
use Rattle.run_rules.specs.declared.world.Setup.{Setup}
use Rattle.run_rules.specs.declared.world.Turn.{Turn}
use Rattle.run_rules.specs.declared.deed.Deed.{Deed}
use Rattle.run_rules.specs.declared.deed.Deed.TheVariants.{Search, EndScan, BeginInterrupts, Finalise, EndCaller}
use Rattle.run_rules.specs.declared.deed.Choice.TheVariants.{Does}
use Rattle.run_rules.specs.World.{World, Caller, caller_at, has_ended, is_ended, nobody, opening, scan_of}
use Rattle.run_rules.specs.After.{after}
use Rattle.run_rules.specs.Next.{next}
use Rattle.run_rules.specs.Run.{Boot, Run, Step}
use Rattle.run_rules.specs.Search.{attach_at, driver_at, is_candidate, is_indirect, parent_ref, spot_of, turns, winner, winner_at}
use Rattle.run_rules.specs.Sound.{IsSoundlyDeferred, IsUnbegun, is_scan_of, others}
use Rattle.run_sound.proofs.Coming.{IsEnd}
use Rattle.run_sound.specs.Kept.{Kept, MayRun}
use Rattle.run_sound.proofs.Callers.{caller_here, clash, doing_so, doing_there, not_ended}
use Rattle.run_sound.proofs.OwnCaller.{IsBootDeed}
use Rattle.run_sound.proofs.RangesCallers.{boot_deed}
use Rattle.run_sound.proofs.Reasons.{has_reason}
use Rattle.history_laws.proofs.Stands.{Stands, stands_on, stands_open}
use Rattle.script_laws.proofs.Deeds.{kind_of}
use Rattle.boot_laws.specs.Settled.{IsPassedOver, IsSettled}
use Rattle.run_rules.proofs.Free.{winner_below}
use Rattle.run_rules.specs.declared.world.ParentRef.{ParentRef}
use Rattle.std.proofs.lemmas.Bool.{false_from_ne_true}
use Rattle.run_sound.proofs.Candidates.{no_candidate}
use Rattle.boot_laws.proofs.Candidates.{still_first, taken_row, was_candidate, winner_candidate}
use Rattle.boot_laws.proofs.Scans.{HasTurn, among, has_turn}
use Rattle.boot_laws.proofs.Watched.{Covers, IsPast, IsToCome, IsTurnOf, IsWatched, covers_whole}
use Rattle.boot_laws.proofs.Deeds.{end_watched, phase_watched, search_watched}
use Rattle.boot_laws.proofs.Finals.{final_watched}

-- ---- while the boot goes on

watched_after : (w : World) (d : Deed) → Kept w → next w 0 ≡ Does d → d ≢ EndCaller → IsBootDeed d → IsWatched w → IsWatched (after w 0 d)
watched_after w (Search p spot to got) kept e goes is watched = search_watched w p spot to got kept e watched
watched_after w (EndScan p) kept e goes is watched = end_watched w p e watched
watched_after w BeginInterrupts kept e goes is watched = phase_watched w e watched
watched_after w (Finalise s shown got listed anew) kept e goes is watched = final_watched w s shown got listed anew kept e watched
watched_after w EndCaller kept e goes is watched = absurd (goes refl)
watched_after w d kept e goes is watched = absurd is

pub opening_to_come : (s : Setup) (p : ℕ) (t : Turn) → IsTurnOf (opening s) p t → IsToCome (opening s) p t
unfolding opening
opening_to_come s p t at = inl (inl (root p at.known))
  where
    root : (q : ℕ) → IsTrue (q == 0 || false) → Covers q t (scan_of 0)
    root q h = subst (λ (n : ℕ). Covers n t (scan_of 0)) (sym (zero_is q h)) (covers_whole 0 t)
      where
        zero_is : (q : ℕ) → (q == 0 || false) ≡ true → q ≡ 0
        zero_is q h = eqb-true q 0 (left (q == 0) h)
          where
            left : (b : Bool) → (b || false) ≡ true → b ≡ true
            left true k = refl
            left false k = absurd cc

opening_watched : (s : Setup) → IsWatched (opening s)
opening_watched s p t at = inr (opening_to_come s p t at)

-- ---- where it ends nothing is left to come

no_scans : (p : ℕ) (cs : List Caller) → AllByRecursion IsUnbegun cs → list_any (λ (c : Caller). list_any (is_scan_of p) c.stack) cs ≡ false
no_scans p [] h = refl
no_scans p (c ∷ cs) h = rw (h.0.2, no_scans p cs h.1) refl

all_idle : (p : ℕ) (cs : List Caller) → (slice_index_or cs 0 nobody).stack ≡ [] → AllByRecursion IsUnbegun (others cs) → list_any (λ (c : Caller). list_any (is_scan_of p) c.stack) cs ≡ false
all_idle p [] first h = refl
all_idle p (c ∷ cs) first h = rw (first, no_scans p cs h) refl

none_waits : (w : World) → Kept w → has_ended w 0 ≡ false → (caller_at w 0).stack ≡ [] → w.interrupts_on ≡ true → w.deferred ≡ []
none_waits w kept goes stack on = cases w.deferred kept.sound.deferred (kept.sound.interrupts_on on)
  where
    one : (e : Deferred) (k : Key) → e.key ≡ k → IsSoundlyDeferred w e → e.key ≢ key.Interrupts → ⊥
    one e key.Interrupts is sound off = off is
    one e (key.Parent p) is sound off =
        clash (list_any (λ (c : Caller). list_any (is_scan_of p) c.stack) w.callers) (rw is at sound.1) (all_idle p w.callers stack (kept.sound.boot (not_ended w 0 goes)).waiting)

    cases : (es : List Deferred) → AllByRecursion (IsSoundlyDeferred w) es → AllByRecursion (λ e. e.key ≢ key.Interrupts) es → es ≡ []
    cases [] sound off = refl
    cases (e ∷ es) sound off = absurd (one e e.key refl sound.0 off.0)

pub nothing_to_come : (w : World) (p : ℕ) (t : Turn) → (caller_at w 0).stack ≡ [] → w.deferred ≡ [] → IsToCome w p t → ⊥
nothing_to_come w p t stack none (inl frame) = rw stack at frame
nothing_to_come w p t stack none (inr entry) = rw none at entry

-- a spot that an indirect bus leaves to a row was passed over
passed_over : (w : World) (p : ℕ) (place : Place) (x r : ℕ) → is_indirect w.setup w.live p place ≡ true → winner_at w.setup w.live p place x ≡ Some r
    → (winner w.setup [] (parent_ref w.setup w.live p) place x ≡ Some r → ⊥) → IsPassedOver w p place x
passed_over w p place x r indirect won other = cases (winner w.setup [] (parent_ref w.setup w.live p) place x) refl
  where
    ref : ParentRef
    ref = parent_ref w.setup w.live p

    was : is_candidate w.setup [] ref place x r ≡ true
    was = was_candidate w.setup w.live ref place x r (winner_candidate w.setup w.live ref place x r won)

    cases : (o : Option ℕ) → winner w.setup [] ref place x ≡ o → IsPassedOver w p place x
    cases None none = clash (is_candidate w.setup [] ref place x r) was (no_candidate w.setup [] ref place x none r)
    cases (Some q) first =
        let gone : is_candidate w.setup w.live ref place x q ≡ false =
        false_from_ne_true (is_candidate w.setup w.live ref place x q) (λ h. other (first ∙ sym (still_first w.setup w.live ref place x q first h) ∙ won)) in
        let taken = taken_row w.setup w.live ref place x q (winner_candidate w.setup [] ref place x q first) gone in
        record { indirect = indirect; number = q; row = taken.row; first = first; there = taken.there; alone = taken.alone; taken = taken.taken }

settled : (w : World) → IsWatched w → (caller_at w 0).stack ≡ [] → w.deferred ≡ [] → IsSettled w
settled w watched stack none p place x is bare = cases (is_indirect w.setup w.live p place) refl (winner_at w.setup w.live p place x) refl
  where
    turn : (indirect : Bool) (r : ℕ) → is_indirect w.setup w.live p place ≡ indirect → (indirect ≡ true → r < length w.setup.tables.rows) → HasTurn (turns w.setup w.live p None) place x indirect r
    turn indirect r style low =
        has_turn w.setup.tables w.setup.machine (driver_at w.setup w.live p) (attach_at w.setup w.live p) (spot_of w.live p) place x r indirect (among _ place is.offered) style is.child low

    past : (indirect : Bool) (r : ℕ) (at : HasTurn (turns w.setup w.live p None) place x indirect r) → IsPast w.setup w.live p at.turn
    past indirect r at =
        elim (watched p at.turn (record { known = is.known; among = at.among; bare = rw at.at bare })) [
          | inl gone ↦ gone
          | inr waits ↦ absurd (nothing_to_come w p at.turn stack none waits)
        ]

    cases : (b : Bool) → is_indirect w.setup w.live p place ≡ b → (o : Option ℕ) → winner_at w.setup w.live p place x ≡ o → (winner_at w.setup w.live p place x ≡ None) ⊎ IsPassedOver w p place x
    cases b style None no_row = inl no_row
    cases false style (Some r) won =
        let at = turn false 0 style (λ h. absurd cc) in
        inl (rw (at.of, at.at) at ((past false 0 at).no_row at.style))
    cases true style (Some r) won =
        let at = turn true r style (λ h. winner_below w.setup w.live (parent_ref w.setup w.live p) place x r won) in
        let row : at.turn.at.row ≡ r = at.row refl in
        inr (passed_over w p place x r style won (λ first. (past true r at).not_it at.style (rw (at.of, at.at, row) won) (rw (at.of, at.at, row) first)))

-- where the boot ends it has no frame, and no scan is put off
pub bare_end : (w : World) → Kept w → next w 0 ≡ Does EndCaller → ((caller_at w 0).stack ≡ []) × (w.deferred ≡ [])
bare_end w kept e =
    let end : IsEnd w 0 = has_reason w 0 EndCaller e in
    let goes : has_ended w 0 ≡ false = (doing_so w 0 EndCaller e).unended in
    (end.stack, none_waits w kept goes end.stack (on end))
  where
    on : IsEnd w 0 → w.interrupts_on ≡ true
    on end = elim end.over [ inl boot ↦ boot.1 | inr script ↦ absurd (script.0 refl) ]

settled_end : (w : World) → Kept w → next w 0 ≡ Does EndCaller → IsWatched w → IsSettled w
settled_end w kept e watched = let bare = bare_end w kept e in settled w watched bare.0 bare.1

-- ---- a whole boot

ended_settled : (w : World) → IsSettled w → IsSettled (after w 0 EndCaller)
unfolding after
ended_settled w is p place x at bare =
    elim (is p place x (record { known = at.known; offered = at.offered; child = at.child }) bare) [
      | inl none ↦ inl none
      | inr over ↦ inr (record { indirect = over.indirect; number = over.number; row = over.row; first = over.first; there = over.there; alone = over.alone; taken = over.taken })
    ]

pub has_now_ended : (w : World) → 0 < length w.callers → has_ended (after w 0 EndCaller) 0 ≡ true
unfolding after
has_now_ended w lt = ap (λ (c : Caller). is_ended c.doing) (caller_here w 0 _ lt)

abbrev AreOfBoot : List Event → Type 0
AreOfBoot h = AllByRecursion (λ e. e.caller ≡ 0) h

-- caller 0 does nothing once it has ended
rests : (w : World) (h : List Event) (v : World) → has_ended w 0 ≡ true → AreOfBoot h → Run w h v → IsSettled w → IsSettled v
rests w [] v ended alone run is = subst IsSettled run is
rests w (e ∷ h) v ended alone run is =
    let step : Step w 0 e run.0 = subst (λ (k : ℕ). Step w k e run.0) alone.0 run.1 in
    clash (has_ended w 0) ended (doing_so w 0 step.deed step.chosen).unended

-- a deed of the boot is its end, or the boot goes on
pub goes_or_ends : (w : World) (d : Deed) → Kept w → next w 0 ≡ Does d → ((has_ended (after w 0 d) 0 ≡ false) × (d ≢ EndCaller)) ⊎ (d ≡ EndCaller)
goes_or_ends w d kept chosen =
    elim (kind_of w 0 kept d chosen) [
      | inl answers ↦ inl (answers.on.goes, no_end answers.on.goes)
      | inr other ↦ elim other [ inl none ↦ inl (none.on.goes, no_end none.on.goes) | inr is ↦ inr is ]
    ]
  where
    no_end : has_ended (after w 0 d) 0 ≡ false → d ≢ EndCaller
    no_end goes is = clash (has_ended (after w 0 d) 0) (rw is (has_now_ended w (doing_there w 0 d chosen))) goes

boot_run : (g : List Event) (w : World) (h : List Event) (v : World) → Stands g w → AreOfBoot h → Run w h v → has_ended w 0 ≡ false → has_ended v 0 ≡ true → IsWatched w → IsSettled v
boot_run g w [] v at alone run goes over watched = clash (has_ended v 0) over (ap (λ (x : World). has_ended x 0) (sym run) ∙ goes)
boot_run g w (e ∷ h) v at alone run goes over watched =
    let step : Step w 0 e run.0 = subst (λ (k : ℕ). Step w k e run.0) alone.0 run.1 in
    let d : Deed = step.deed in
    elim (goes_or_ends w d at.kept step.chosen) [
      | inl on ↦ boot_run (g ++ e ∷ []) run.0 h v (stands_on g w e.caller e run.0 at run.1) alone.1 run.2 (ap (λ (x : World). has_ended x 0) step.world ∙ on.0) over
          (subst IsWatched (sym step.world) (watched_after w d at.kept step.chosen on.1 (boot_deed w d at.kept.ranges.callers.booting step.chosen) watched))
      | inr is ↦ rests run.0 h v (ap (λ (x : World). has_ended x 0) step.world ∙ rw is (has_now_ended w (doing_there w 0 d step.chosen))) alone.1 run.2
          (subst IsSettled (sym step.world) (subst (λ (x : Deed). IsSettled (after w 0 x)) (sym is) (ended_settled w (settled_end w at.kept (step.chosen ∙ ap Does is) watched))))
    ]

pub opening_goes : (s : Setup) → has_ended (opening s) 0 ≡ false
unfolding opening
opening_goes s = refl

pub boot_settles : (s : Setup) (h : List Event) (v : World) → MayRun s → Boot (opening s) h v → IsSettled v
boot_settles s h v may boot = boot_run [] (opening s) h v (stands_open s may) boot.alone boot.run (opening_goes s) boot.over (opening_watched s)
