-- A deed leaves as many callers as there were, all but its own as they were, and caller 0 at its boot or at its end.
use Rattle.std.proofs.Common.{◌≡◌, ◌≢◌, ◌⊎◌, ◌==◌, ℕ, not, nat_lt, Bool, true, false, List, [], ◌∷◌, length, Option, Some, None, option_and_then, refl, sym, ap, eqb-true, eq-eqb, subst, ◌∙◌, inl, inr, slice_index_or, slice_set, length-set, get_or-set_other}
use Rattle.std.specs.Option.{option_map_or}
use Rattle.std.specs.Prelude.{is_some, if◌then◌else◌}
use Rattle.run_rules.specs.declared.world.Setup.{Setup}
use Rattle.run_rules.specs.declared.world.Dev.{Dev}
use Rattle.run_rules.specs.declared.world.Frame.{Frame}
use Rattle.run_rules.specs.declared.world.Frame.TheVariants.{Scan, Finaliser}
use Rattle.run_rules.specs.declared.world.Position.{Position}
use Rattle.run_rules.specs.declared.world.Turn.{Turn}
use Rattle.run_rules.specs.declared.world.Wanted.{Wanted}
use Rattle.run_rules.specs.declared.world.Arrival.{Arrival}
use Rattle.run_rules.specs.declared.world.Activity.{Activity}
use Rattle.run_rules.specs.declared.world.Activity.TheVariants as activity
use Rattle.run_rules.specs.declared.world.Placing.{Placing}
use Rattle.run_rules.specs.declared.world.Placing.TheVariants.{Nowhere, Queued, PutOff, Pushed}
use Rattle.run_rules.specs.World.{World, Caller, caller_at, device_at, has_ended, is_ended, nobody, offered_by, policy_of}
use Rattle.run_rules.specs.Search.{after_turn, due}
use Rattle.run_rules.specs.Next.{arrival, by_activity, finalise, late_spot, next, next_boot, next_scan, on_top, place_of_spot}
use Rattle.run_rules.specs.declared.deed.Deed.{Deed}
use Rattle.run_rules.specs.declared.deed.Deed.TheVariants.{Search, EndScan, BeginInterrupts, Finalise, EndCaller, Drop, Free, Rescan, Sleep, Wake, Unplug}
use Rattle.run_rules.specs.declared.deed.Choice.{Choice}
use Rattle.run_rules.specs.declared.deed.Choice.TheVariants.{Ended, Waits, Does}
use Rattle.run_rules.specs.After.{after, arrived, attached, finaliser_done, finaliser_placed, finaliser_placing, freed, freeing_target, list_moved, listed, moved_top, over, place_finaliser, place_scan, released, settled, scan_placed, scan_placing, show_spot, with_stack}
use Rattle.run_sound.proofs.Callers.{clash, doing_so}
use Rattle.run_sound.proofs.OwnCaller.{IsBootDeed, Stays, own_after}

-- a property of the callers that stays when caller k is set to any
abbrev StaysSet : ℕ → (List Caller → Type 0) → Type 0
StaysSet k P = (cs : List Caller) (c : Caller) → P cs → P (slice_set cs k c)

-- ---- what a deed does to the callers: it sets its own, once or more

finaliser_callers : (P : List Caller → Type 0) (x : Placing) (w : World) (k s : ℕ) → StaysSet k P → P w.callers → P (place_finaliser x w k s).callers
finaliser_callers P Nowhere w k s stays h = h
finaliser_callers P Queued w k s stays h = h
finaliser_callers P PutOff w k s stays h = h
finaliser_callers P Pushed w k s stays h = stays w.callers _ h

scan_callers : (P : List Caller → Type 0) (x : Placing) (w : World) (k parent s : ℕ) → StaysSet k P → P w.callers → P (place_scan x w k parent s).callers
scan_callers P Nowhere w k parent s stays h = h
scan_callers P Queued w k parent s stays h = h
scan_callers P PutOff w k parent s stays h = h
scan_callers P Pushed w k parent s stays h = stays w.callers _ h

arrived_callers : (P : List Caller → Type 0) (w : World) (k : ℕ) (got : Option Arrival) (may_defer : Bool) → StaysSet k P → P w.callers → P (arrived w k got may_defer).callers
unfolding attached scan_placed finaliser_placed listed
arrived_callers P w k None may_defer stays h = h
arrived_callers P w k (Some a) may_defer stays h =
    let come : World = listed w a in
    let called : World = place_finaliser (finaliser_placing (policy_of w.setup a.row) (has_ended come 0)) come k w.next in
    scan_callers P (scan_placing (policy_of w.setup a.row) (offered_by w.setup a.row) called.interrupts_on may_defer) called k a.parent w.next stays
    (finaliser_callers P (finaliser_placing (policy_of w.setup a.row) (has_ended come 0)) come k w.next stays h)

shown_callers : (P : List Caller → Type 0) (w : World) (shown : Option ℕ) → P w.callers → P (show_spot w shown).callers
shown_callers P w None h = h
shown_callers P w (Some x) h = h

called_callers : (P : List Caller → Type 0) (u : World) (k : ℕ) (place : Option ℕ) (anew answer : Bool) → StaysSet k P → P u.callers
    → P (finaliser_done (list_moved u place anew answer) k place answer).callers
called_callers P u k (Some place) anew answer stays h = h
called_callers P u k None anew true stays h = h
called_callers P u k None anew false stays h = stays u.callers _ h

freed_callers : (P : List Caller → Type 0) (w : World) (k s : ℕ) (last : Bool) → StaysSet k P → P w.callers → P (if last then over (freed w s) k else freed w s).callers
freed_callers P w k s true stays h = stays w.callers _ h
freed_callers P w k s false stays h = h

pub callers_after : (P : List Caller → Type 0) (w : World) (k : ℕ) (d : Deed) → StaysSet k P → P w.callers → P (after w k d).callers
unfolding after released
callers_after P w k (Search p spot to got) stays h = arrived_callers P (with_stack w k (moved_top to (caller_at w k).stack)) k got true stays (stays w.callers _ h)
callers_after P w k (Finalise s shown got place anew) stays h =
    called_callers P (arrived (show_spot w shown) k got false) k place anew (is_some shown) stays (arrived_callers P (show_spot w shown) k got false stays (shown_callers P w shown h))
callers_after P w k (Drop s) stays h = h
callers_after P w k (Free s) stays h = freed_callers P w k s (freeing_target (caller_at w k).doing s) stays h
callers_after P w k (Rescan s only) stays h = stays (slice_set w.callers k _) _ (stays w.callers _ h)
callers_after P w k (Sleep s) stays h = h
callers_after P w k (Wake s) stays h = h
callers_after P w k (Unplug x None) stays h = stays w.callers _ h
callers_after P w k (Unplug x (Some s)) stays h = stays w.callers _ h
callers_after P w k d stays h = stays w.callers _ h

-- ---- so there are as many, and each other one is as it was

pub callers_many : (w : World) (k : ℕ) (d : Deed) → length (after w k d).callers ≡ length w.callers
callers_many w k d = callers_after (λ cs. length cs ≡ length w.callers) w k d (λ cs c e. length-set cs k c ∙ e) refl

pub others_stay : (w : World) (k j : ℕ) (d : Deed) → j ≢ k → caller_at (after w k d) j ≡ caller_at w j
others_stay w k j d other = callers_after (λ cs. slice_index_or cs j nobody ≡ caller_at w j) w k d (λ cs c e. get_or-set_other cs k j c nobody other ∙ e) refl

-- ---- caller 0 while it boots

-- it boots, or it has ended
abbrev pub Boots : Activity → Type 0
Boots a = (a ≡ activity.Idle) ⊎ (a ≡ activity.Ended)

-- a choice of one
abbrev ChoosesBoot : Choice → Type 0
ChoosesBoot (Does d) = IsBootDeed d
ChoosesBoot (Waits why) = ⊥
ChoosesBoot Ended = ⊥

boot_scan : (s : Setup) (live : List Dev) (absent hidden : List ℕ) (p : ℕ) (only : Option ℕ) (wanted : List Wanted) (from : Position) → IsBootDeed (next_scan s live absent hidden p only wanted from)
unfolding next_scan
boot_scan s live absent hidden p only wanted from = cases (due s live absent hidden p only wanted from)
  where
    cases : (o : Option Turn) → IsBootDeed (option_map_or (λ t. Search p t.at.spot (after_turn t) (arrival s live p t.place t.at.spot)) o (EndScan p))
    cases None = tt
    cases (Some t) = tt

boot_call : (w : World) (s : ℕ) (place : Option ℕ) (anew : Bool) → IsBootDeed (finalise w s place anew)
unfolding finalise
boot_call w s place anew = cases (option_and_then (late_spot w) (device_at w.live s))
  where
    cases : (o : Option ℕ) → IsBootDeed (option_map_or (λ x. Finalise s (Some x) (arrival w.setup w.live s (place_of_spot w x) x) place anew) o (Finalise s None None place anew))
    cases None = tt
    cases (Some x) = tt

boot_rest : (w : World) → ChoosesBoot (next_boot w)
unfolding next_boot
boot_rest w = cases w.interrupts_on (nat_lt w.next_finaliser (length w.finalisers)) w.pass_repeats
  where
    cases : (interrupts_on more pass_repeats : Bool)
        → ChoosesBoot (if not interrupts_on then Does BeginInterrupts else (if more then Does (finalise w (slice_index_or w.finalisers w.next_finaliser 0) (Some w.next_finaliser) false)
        else (if pass_repeats then Does (finalise w (slice_index_or w.finalisers 0 0) (Some 0) true) else Does EndCaller)))
    cases false more pass_repeats = tt
    cases true true pass_repeats = boot_call w (slice_index_or w.finalisers w.next_finaliser 0) (Some w.next_finaliser) false
    cases true false true = boot_call w (slice_index_or w.finalisers 0 0) (Some 0) true
    cases true false false = tt

boot_top : (w : World) (stack : List Frame) → ChoosesBoot (on_top w 0 stack)
boot_top w (Scan p only wanted from ∷ rest) = boot_scan w.setup w.live w.absent w.hidden p only wanted from
boot_top w (Finaliser s ∷ rest) = boot_call w s None false
boot_top w [] = boot_rest w

-- caller 0 does a deed of the boot
pub boot_deed : (w : World) (d : Deed) → Boots (caller_at w 0).doing → next w 0 ≡ Does d → IsBootDeed d
boot_deed w d boots e = cases (caller_at w 0).doing refl boots (doing_so w 0 d e).does
  where
    cases : (a : Activity) → (caller_at w 0).doing ≡ a → Boots a → by_activity w 0 a ≡ Does d → IsBootDeed d
    cases a is (inl idle) does = subst ChoosesBoot (rw idle at does) (boot_top w (caller_at w 0).stack)
    cases a is (inr ended) does = absurd (never (rw ended at does))
      where
        never : Ended ≡ Does d → ⊥
        never e = cc

-- ---- and caller 0 goes on booting, or ends

settled_boots : (over : ℕ) (doing : Activity) (stack : List Frame) → Boots doing → Boots (settled (record { over = over; doing = doing; stack = stack })).doing
settled_boots over doing stack (inl idle) = rw idle (inl refl)
settled_boots over doing stack (inr ended) = rw ended (inr refl)

boots_stay : Stays (λ c. Boots c.doing)
boots_stay = record { stacked = λ c stack. settled_boots c.over c.doing stack; ended = λ c h. inr refl }

pub boots_after : (w : World) (k : ℕ) (d : Deed) → next w k ≡ Does d → Boots (caller_at w 0).doing → Boots (caller_at (after w k d) 0).doing
boots_after w k d e h = cases (k == 0) refl
  where
    cases : (b : Bool) → (k == 0) ≡ b → Boots (caller_at (after w k d) 0).doing
    cases true is =
        let same : k ≡ 0 = eqb-true k 0 is in
        rw same (own_after (λ c. Boots c.doing) boots_stay w 0 d (boot_deed w d h (rw same at e)) h)
    cases false is =
        let other : 0 ≢ k = λ same. clash (k == 0) (eq-eqb k 0 (sym same)) is in
        rw (others_stay w k 0 d other) h

-- ---- while the boot goes on after a deed, caller 0 did it

pub boot_did : (w : World) (k : ℕ) (d : Deed) → next w k ≡ Does d → has_ended (after w k d) 0 ≡ false → (k ≡ 0) × (has_ended w 0 ≡ false)
boot_did w k d e goes = cases (k == 0) refl
  where
    cases : (b : Bool) → (k == 0) ≡ b → (k ≡ 0) × (has_ended w 0 ≡ false)
    cases true is = let same : k ≡ 0 = eqb-true k 0 is in (same, rw same at (doing_so w k d e).unended)
    cases false is =
        let differs : k ≢ 0 = λ same. clash (k == 0) (eq-eqb k 0 same) is in
        let stays : has_ended (after w k d) 0 ≡ has_ended w 0 = ap (λ (c : Caller). is_ended c.doing) (others_stay w k 0 d (λ same. differs (sym same))) in
        clash (has_ended (after w k d) 0) (stays ∙ (doing_so w k d e).after_boot differs) goes
