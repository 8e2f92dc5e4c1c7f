-- What a deed needs is there where it is chosen, and what it leaves is the world after its deed.
use Rattle.std.proofs.lemmas.List.Elements.{recursion_from_All}
use Rattle.std.proofs.Common.{◌≡◌, ◌≢◌, ◌<◌, ◌≤◌, ◌^◌, ◌-◌, ℕ, zero, suc, Bool, true, false, List, [], ◌∷◌, length, Option, Some, None, refl, arith}
use Rattle.std.specs.Prelude.{IsTrue, IfSome, OnOk, OnErr}
use Rattle.std.specs.declared.result.Result.{Result}
use Rattle.std.specs.declared.result.Result.TheVariants.{Ok, Err}
use Rattle.std.specs.List.{AllByRecursion}
use Rattle.cf_types.specs.Locators.{locators_at}
use Rattle.cf_types.specs.declared.machine.Given.{Given}
use Rattle.cf_types.specs.declared.tables.Attr.{Attr}
use Rattle.cf_types.specs.declared.tables.Place.TheVariants.{At}
use Rattle.run_rules.specs.declared.world.Dev.{Dev}
use Rattle.run_rules.specs.declared.world.Setup.{Setup}
use Rattle.run_rules.specs.World.{World, caller_at, children, is_live}
use Rattle.run_rules.specs.After.{given_by}
use Rattle.run_rules.specs.declared.deed.Deed.{Deed}
use Rattle.run_rules.specs.declared.deed.Deed.TheVariants.{Search, EndScan, BeginInterrupts, Finalise, EndCaller, Drop, Refuse, Open, Close, Start, Done, Detach, Free, Rescan, BeginPower, Sleep, Wake, EndPower, Plug, Unplug, Tell}
use Rattle.run_rules.specs.declared.world.Arrival.{Arrival}
use Rattle.run_rules.specs.declared.world.Position.{Position}
use Rattle.run_rules.specs.declared.deed.Choice.TheVariants.{Does}
use Rattle.run_rules.specs.Next.{command_of, next, next_sleep, next_wake}
use Rattle.run_sound.proofs.Commands.{IsOnly}
use Rattle.run_sound.specs.Kept.{Kept, MayRun}
use Rattle.run_sound.proofs.Members.{contained_live, found_contained, found_from_end}
use Rattle.run_sound.proofs.Reasons.{has_command_reason}
use Rattle.run_sound.proofs.ScriptLaws.{between_script, over_low}
use Rattle.detach_engine.proofs.FreeLaws.{next_free_alone}
use Rattle.run_world.specs.Rescans.{IsKnown}
use Rattle.deed_effect.specs.Effects.{MayDo, is_of_frame, is_plain}

pub ok_more : {A B : Type 0} {P Q : Type 0} (r : Result A B) → OnOk r P → (P → Q) → OnOk r Q
ok_more (Ok x) h f = f h
ok_more (Err x) h f = h

pub err_more : {A B : Type 0} {P Q : Type 0} (r : Result A B) → OnErr r P → (P → Q) → OnErr r Q
err_more (Ok x) h f = h
err_more (Err x) h f = f h

-- ---- what a work needs

slept : (live : List Dev) (target s : ℕ) (d : Dev) → next_sleep live target ≡ Some d → d.serial ≡ s → IsTrue (is_live live s)
unfolding next_sleep
slept live target s d e named = rw (← named) (contained_live live d (found_from_end _ live d e))

woken : (live : List Dev) (target s : ℕ) (below : _) (d : Dev) → next_wake live target below ≡ Some d → d.serial ≡ s → IsTrue (is_live live s)
unfolding next_wake
woken live target s below d e named = rw (← named) (contained_live live d (found_contained _ live d e))

pub free_may : (w : World) (k of : ℕ) → Kept w → next w k ≡ Does (Free of) → IsTrue (is_live w.live of) × (children w.live of ≡ [])
free_may w k of kept e =
    let why = has_command_reason w k (Free of) e in
    (why.live, next_free_alone w k of kept.sound.devices kept.sound.condemned why.last)

pub may_do : (w : World) (k : ℕ) (d : Deed) → MayRun w.setup → Kept w → next w k ≡ Does d → MayDo w k d
may_do w k (Open s sole) may kept e =
    let why = has_command_reason w k (Open s sole) e in
    let script = between_script w k (Open s sole) kept e why.begins.between in
    ((script.0, omega (arith, script.1, may.few_scripts)), why.room)
may_do w k (Close s) may kept e = (has_command_reason w k (Close s) e).held
may_do w k (Drop s) may kept e = (has_command_reason w k (Drop s) e).held
may_do w k (Detach s) may kept e = (has_command_reason w k (Detach s) e).named.live
may_do w k (Unplug x (Some s)) may kept e = (has_command_reason w k (Unplug x (Some s)) e).live
may_do w k (Unplug x None) may kept e = tt
may_do w k (Sleep s) may kept e = let why = has_command_reason w k (Sleep s) e in slept w.live why.target s why.dev why.last why.serial
may_do w k (Wake s) may kept e = let why = has_command_reason w k (Wake s) e in woken w.live why.target s why.below why.dev why.first why.serial
may_do w k (Free s) may kept e = free_may w k s kept e
may_do w k (Search p spot to got) may kept e = tt
may_do w k (EndScan p) may kept e = tt
may_do w k BeginInterrupts may kept e = tt
may_do w k (Finalise s shown got listed anew) may kept e = tt
may_do w k EndCaller may kept e = tt
may_do w k (Refuse why) may kept e = tt
may_do w k (Start ticket) may kept e = tt
may_do w k (Done ticket) may kept e = tt
may_do w k (Rescan s only) may kept e = tt
may_do w k (BeginPower kind s) may kept e = tt
may_do w k (EndPower end) may kept e = tt
may_do w k (Plug x) may kept e = tt
may_do w k Tell may kept e = tt

-- a script is short
pub over_fits : (w : World) (k : ℕ) → MayRun w.setup → Kept w → (caller_at w k).over < 2 ^ 32 - 1
over_fits w k may kept = omega (arith, over_low w may kept k)

-- ---- the values of a rescan

few_in : (attrs : List Attr) (a : ℕ) → AllByRecursion (λ x. length x.locs ≤ 16) attrs → length (locators_at attrs (At a)) ≤ 16
few_in [] a h = omega arith
few_in (x ∷ xs) zero h = h.0
few_in (x ∷ xs) (suc a) h = few_in xs a h.1

pub few_locators : (s : Setup) (a : ℕ) → MayRun s → length (locators_at s.tables.attrs (At a)) ≤ 16
few_locators s a may = few_in s.tables.attrs a (recursion_from_All (λ x. length x.locs ≤ 16) s.tables.attrs may.tables.counted.locators)

known_of : (w : World) (d : Dev) (a : ℕ) (attr : Option (List ℕ)) (given : List Given) → IsOnly w d attr given (Some a) → IsKnown w.setup given a
known_of w d a None given scope = absurd cc
known_of w d a (Some n) given scope =
    let same : a ≡ scope.0 = cc in
    rw (same, scope.4) refl

pub known_given : (w : World) (k of : ℕ) (only : Option ℕ) → next w k ≡ Does (Rescan of only) → IfSome only (IsKnown w.setup (given_by (command_of w k)))
known_given w k of None e = tt
known_given w k of (Some a) e =
    let why = has_command_reason w k (Rescan of (Some a)) e in
    rw (why.begins.command, why.words) (known_of w why.named.dev a why.attr why.given why.scope)

pub unplug_may : (w : World) (k spot : ℕ) (of : Option ℕ) → MayDo w k (Unplug spot of) → IfSome of (λ s. IsTrue (is_live w.live s))
unplug_may w k spot None h = tt
unplug_may w k spot (Some s) h = h

-- which deeds are left
pub command_is_left : (d : Deed) → ((p spot : ℕ) (to : Position) (got : Option Arrival) → d ≢ Search p spot to got) → ((p : ℕ) → d ≢ EndScan p) → d ≢ BeginInterrupts
    → ((s : ℕ) (shown : Option ℕ) (got : Option Arrival) (listed : Option ℕ) (anew : Bool) → d ≢ Finalise s shown got listed anew) → is_of_frame d ≡ false
command_is_left (Search p spot to got) a b c f = absurd (a p spot to got refl)
command_is_left (EndScan p) a b c f = absurd (b p refl)
command_is_left BeginInterrupts a b c f = absurd (c refl)
command_is_left (Finalise s shown got listed anew) a b c f = absurd (f s shown got listed anew refl)
command_is_left EndCaller a b c f = refl
command_is_left (Drop s) a b c f = refl
command_is_left (Refuse why) a b c f = refl
command_is_left (Open s sole) a b c f = refl
command_is_left (Close s) a b c f = refl
command_is_left (Start ticket) a b c f = refl
command_is_left (Done ticket) a b c f = refl
command_is_left (Detach s) a b c f = refl
command_is_left (Free s) a b c f = refl
command_is_left (Rescan s only) a b c f = refl
command_is_left (BeginPower kind s) a b c f = refl
command_is_left (Sleep s) a b c f = refl
command_is_left (Wake s) a b c f = refl
command_is_left (EndPower end) a b c f = refl
command_is_left (Plug x) a b c f = refl
command_is_left (Unplug x of) a b c f = refl
command_is_left Tell a b c f = refl

pub plain_is_left : (d : Deed) → is_of_frame d ≡ false → ((s : ℕ) (sole : Bool) → d ≢ Open s sole) → ((s : ℕ) (only : Option ℕ) → d ≢ Rescan s only) → ((x : ℕ) (of : Option ℕ) → d ≢ Unplug x of) → is_plain d ≡ true
plain_is_left (Search p spot to got) h a b c = absurd cc
plain_is_left (EndScan p) h a b c = absurd cc
plain_is_left BeginInterrupts h a b c = absurd cc
plain_is_left (Finalise s shown got listed anew) h a b c = absurd cc
plain_is_left EndCaller h a b c = refl
plain_is_left (Drop s) h a b c = refl
plain_is_left (Refuse why) h a b c = refl
plain_is_left (Open s sole) h a b c = absurd (a s sole refl)
plain_is_left (Close s) h a b c = refl
plain_is_left (Start ticket) h a b c = refl
plain_is_left (Done ticket) h a b c = refl
plain_is_left (Detach s) h a b c = refl
plain_is_left (Free s) h a b c = refl
plain_is_left (Rescan s only) h a b c = absurd (b s only refl)
plain_is_left (BeginPower kind s) h a b c = refl
plain_is_left (Sleep s) h a b c = refl
plain_is_left (Wake s) h a b c = refl
plain_is_left (EndPower end) h a b c = refl
plain_is_left (Plug x) h a b c = refl
plain_is_left (Unplug x of) h a b c = absurd (c x of refl)
plain_is_left Tell h a b c = refl
