-- What comes to a spot is by the row that wins it.
use Rattle.std.proofs.Common.{◌≡◌, ◌∙◌, ◌==◌, ℕ, Bool, true, false, List, Option, Some, None, slice_get, refl, sym, ap, eqb-true}
use Rattle.std.specs.Prelude.{option_map}
use Rattle.std.specs.Option.{option_map_or}
use Rattle.cf_types.specs.declared.machine.Machine.{Machine}
use Rattle.cf_types.specs.declared.machine.Spot.{Spot}
use Rattle.cf_types.specs.declared.tables.Place.{Place}
use Rattle.cf_types.specs.declared.tables.Place.TheVariants.{Root, At}
use Rattle.run_rules.specs.declared.deed.Choice.TheVariants.{Does}
use Rattle.run_rules.specs.declared.deed.Deed.{Deed}
use Rattle.run_rules.specs.declared.deed.Deed.TheVariants.{Search, EndScan, BeginInterrupts, Finalise, EndCaller, Drop, Refuse, Open, Close, Start, Done, Detach, Free, Rescan, BeginPower, Sleep, Wake, EndPower, Plug, Unplug, Tell}
use Rattle.run_rules.specs.declared.world.Arrival.{Arrival}
use Rattle.run_rules.specs.declared.world.Dev.{Dev}
use Rattle.run_rules.specs.declared.world.Position.{Position}
use Rattle.run_rules.specs.declared.world.Setup.{Setup}
use Rattle.run_rules.specs.Next.{arrival, next}
use Rattle.run_rules.specs.Search.{winner_at}
use Rattle.run_rules.specs.World.{World, is_number, same_place}
use Rattle.run_sound.proofs.Callers.{clash}
use Rattle.run_sound.proofs.Coming.{IsCall, IsTurn}
use Rattle.run_sound.proofs.Reasons.{has_reason}
use Rattle.plain_search.specs.Deeds.{coming}
use Rattle.run_rules.specs.Suits.{hangs_at}
use Rattle.plain_search.proofs.TurnLaws.{due_hangs}
use Rattle.boot_looks.specs.declared.visit.Visit.{Visit}
use Rattle.boot_looks.specs.Looks.{is_passed, place_at, visit_by, visit_if}

abbrev row_of : Option Arrival → Option ℕ
row_of got = option_map (λ a. a.row) got

rows : (o : Option ℕ) (f : ℕ → Arrival) → ((r : ℕ) → (f r).row ≡ r) → row_of (option_map f o) ≡ o
rows None f same = refl
rows (Some r) f same = ap Some (same r)

arrives : (s : Setup) (live : List Dev) (p : ℕ) (place : Place) (x : ℕ) → row_of (arrival s live p place x) ≡ winner_at s live p place x
unfolding arrival
arrives s live p place x = rows (winner_at s live p place x) _ (λ r. refl)

place_is : (a b : Place) → same_place a b ≡ true → a ≡ b
place_is Root Root h = refl
place_is (At a) (At b) h = ap At (eqb-true a b h)
place_is Root (At b) h = absurd cc
place_is (At a) Root h = absurd cc

-- a spot hangs at its own place alone
own_place : (m : Machine) (x : ℕ) (place : Place) → hangs_at m x place ≡ true → place ≡ option_map_or (λ spot. spot.place) (slice_get m.spots x) Root
own_place m x place h = cases (slice_get m.spots x) h
  where
    cases : (o : Option Spot) → option_map_or (λ spot. same_place spot.place place) o false ≡ true → place ≡ option_map_or (λ spot. spot.place) o Root
    cases None e = absurd cc
    cases (Some spot) e = sym (place_is spot.place place e)

abbrev Wins : World → ℕ → Deed → Visit → Type 0
Wins w x d visit = row_of (coming d) ≡ winner_at w.setup w.live visit.parent (place_at w.setup x) x

by_turn : (w : World) (x p spot : ℕ) (to : Position) (got : Option Arrival) → IsTurn w 0 p spot to got → spot ≡ x → row_of got ≡ winner_at w.setup w.live p (place_at w.setup x) x
by_turn w x p spot to got is same =
    let at : is.turn.at.spot ≡ x = sym is.place ∙ same in
    ap row_of is.came ∙ arrives w.setup w.live p is.turn.place is.turn.at.spot
    ∙ ap (λ (place : Place). winner_at w.setup w.live p place is.turn.at.spot)
    (own_place w.setup.machine is.turn.at.spot is.turn.place (due_hangs w.setup w.live w.absent w.hidden p is.only is.wanted is.from is.turn is.is_due))
    ∙ ap (λ (y : ℕ). winner_at w.setup w.live p (place_at w.setup y) y) at

by_call : (w : World) (x s : ℕ) (shown : Option ℕ) (got : Option Arrival) (listed : Option ℕ) (anew : Bool) → IsCall w 0 s shown got listed anew → is_number shown x ≡ true
    → row_of got ≡ winner_at w.setup w.live s (place_at w.setup x) x
by_call w x s None got listed anew is shows = absurd cc
by_call w x s (Some y) got listed anew is shows =
    ap row_of is.came ∙ arrives w.setup w.live s (place_at w.setup y) y
    ∙ ap (λ (z : ℕ). winner_at w.setup w.live s (place_at w.setup z) z) (eqb-true y x shows)

-- the parts of a visit
comes : (b : Bool) (one visit : Visit) → visit_if b one ≡ Some visit → (b ≡ true) × (one ≡ visit)
comes true one visit e = (refl, same e)
  where
    same : Some one ≡ Some visit → one ≡ visit
    same e = cc
comes false one visit e = absurd cc

nothing : {A : Type 0} (visit : Visit) → None ≡ Some visit → A
nothing visit e = absurd cc

pub wins : (w : World) (x : ℕ) (visit : Visit) (d : Deed) → next w 0 ≡ Does d → visit_by w d x ≡ Some visit → visit.passed ≡ false → Wins w x d visit
wins w x visit (Search p spot to got) chosen is took =
    let so = comes (spot == x) (record { parent = p; passed = false }) visit is in
    by_turn w x p spot to got (has_reason w 0 (Search p spot to got) chosen) (eqb-true spot x so.0)
    ∙ ap (λ (v : Visit). winner_at w.setup w.live v.parent (place_at w.setup x) x) so.1
wins w x visit (Finalise s shown got listed anew) chosen is took =
    let so = comes (is_number shown x) (record { parent = s; passed = false }) visit is in
    by_call w x s shown got listed anew (has_reason w 0 (Finalise s shown got listed anew) chosen) so.0
    ∙ ap (λ (v : Visit). winner_at w.setup w.live v.parent (place_at w.setup x) x) so.1
wins w x visit (EndScan p) chosen is took =
    let so = comes (is_passed w p x) (record { parent = p; passed = true }) visit is in
    clash visit.passed (ap (λ (v : Visit). v.passed) (sym so.1)) took
wins w x visit BeginInterrupts chosen is took = nothing visit is
wins w x visit EndCaller chosen is took = nothing visit is
wins w x visit (Drop s) chosen is took = nothing visit is
wins w x visit (Refuse why) chosen is took = nothing visit is
wins w x visit (Open s sole) chosen is took = nothing visit is
wins w x visit (Close s) chosen is took = nothing visit is
wins w x visit (Start t) chosen is took = nothing visit is
wins w x visit (Done t) chosen is took = nothing visit is
wins w x visit (Detach s) chosen is took = nothing visit is
wins w x visit (Free s) chosen is took = nothing visit is
wins w x visit (Rescan s only) chosen is took = nothing visit is
wins w x visit (BeginPower kind s) chosen is took = nothing visit is
wins w x visit (Sleep s) chosen is took = nothing visit is
wins w x visit (Wake s) chosen is took = nothing visit is
wins w x visit (EndPower end) chosen is took = nothing visit is
wins w x visit (Plug y) chosen is took = nothing visit is
wins w x visit (Unplug y of) chosen is took = nothing visit is
wins w x visit Tell chosen is took = nothing visit is
