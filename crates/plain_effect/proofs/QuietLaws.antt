-- What is left of the deeds once those that take memory are done.
use Rattle.std.proofs.Common.{◌≡◌, ◌≢◌, ℕ, Bool, true, Option, refl}
use Rattle.run_rules.specs.declared.deed.Deed.{Deed}
use Rattle.run_rules.specs.declared.deed.Deed.TheVariants.{Search, EndScan, BeginInterrupts, Finalise, EndCaller, Drop, Refuse, Open, Close, Start, Done, Detach, Free, Rescan, BeginPower, Sleep, Wake, EndPower, Plug, Unplug, Tell}
use Rattle.run_rules.specs.declared.world.Arrival.{Arrival}
use Rattle.run_rules.specs.declared.world.Position.{Position}
use Rattle.plain_effect.specs.Effects.{is_quiet}

-- it takes none
pub quiet_is_left : (d : Deed)
    → ((p spot : ℕ) (to : Position) (got : Option Arrival) → d ≢ Search p spot to got)
    → ((p : ℕ) → d ≢ EndScan p)
    → d ≢ BeginInterrupts
    → ((s : ℕ) (shown : Option ℕ) (got : Option Arrival) (listed : Option ℕ) (anew : Bool) → d ≢ Finalise s shown got listed anew)
    → ((s : ℕ) (sole : Bool) → d ≢ Open s sole)
    → ((s : ℕ) → d ≢ Detach s)
    → ((s : ℕ) (only : Option ℕ) → d ≢ Rescan s only)
    → ((x : ℕ) (of : Option ℕ) → d ≢ Unplug x of)
    → is_quiet d ≡ true
quiet_is_left (Search p spot to got) a b c e f g h l = absurd (a p spot to got refl)
quiet_is_left (EndScan p) a b c e f g h l = absurd (b p refl)
quiet_is_left BeginInterrupts a b c e f g h l = absurd (c refl)
quiet_is_left (Finalise s shown got listed anew) a b c e f g h l = absurd (e s shown got listed anew refl)
quiet_is_left (Open s sole) a b c e f g h l = absurd (f s sole refl)
quiet_is_left (Detach s) a b c e f g h l = absurd (g s refl)
quiet_is_left (Rescan s only) a b c e f g h l = absurd (h s only refl)
quiet_is_left (Unplug x of) a b c e f g h l = absurd (l x of refl)
quiet_is_left EndCaller a b c e f g h l = refl
quiet_is_left (Drop s) a b c e f g h l = refl
quiet_is_left (Refuse why) a b c e f g h l = refl
quiet_is_left (Close s) a b c e f g h l = refl
quiet_is_left (Start ticket) a b c e f g h l = refl
quiet_is_left (Done ticket) a b c e f g h l = refl
quiet_is_left (Free s) a b c e f g h l = refl
quiet_is_left (BeginPower kind s) a b c e f g h l = refl
quiet_is_left (Sleep s) a b c e f g h l = refl
quiet_is_left (Wake s) a b c e f g h l = refl
quiet_is_left (EndPower end) a b c e f g h l = refl
quiet_is_left (Plug x) a b c e f g h l = refl
quiet_is_left Tell a b c e f g h l = refl
