-- The place in the boot's list of a finaliser that is called.
use Rattle.std.proofs.Common.{◌≡◌, ◌<◌, ◌-◌, ◌^◌, ℕ, Bool, true, false, length, Option, Some, None, arith}
use Rattle.std.specs.Prelude.{IfSome}
use Rattle.run_rules.specs.declared.deed.Deed.{Deed}
use Rattle.run_rules.specs.declared.deed.Deed.TheVariants.{Search, EndScan, BeginInterrupts, Finalise, EndCaller, Drop, Refuse, Open, Close, Start, Done, Detach, Free, Rescan, BeginPower, Sleep, Wake, EndPower, Plug, Unplug, Tell}
use Rattle.run_rules.specs.declared.deed.Choice.TheVariants.{Does}
use Rattle.run_rules.specs.Next.{next}
use Rattle.run_rules.specs.World.{World}
use Rattle.run_sound.proofs.Coming.{IsCalled}
use Rattle.run_sound.proofs.Reasons.{has_reason}
use Rattle.plain_effect.specs.Effects.{HasPlace}

place_low : (w : World) (k s : ℕ) (listed : Option ℕ) (anew : Bool) → length w.finalisers < 2 ^ 64 - 1 → IsCalled w k s listed anew → IfSome listed (λ place. place < 2 ^ 64 - 1)
place_low w k s None anew few called = tt
place_low w k s (Some place) false few called = omega (arith, called.3, called.4, few)
place_low w k s (Some place) true few called = omega (arith, called.3, few)

pub has_place : (w : World) (k : ℕ) (d : Deed) → length w.finalisers < 2 ^ 64 - 1 → next w k ≡ Does d → HasPlace d
has_place w k (Finalise s shown got listed anew) few chosen = place_low w k s listed anew few (has_reason w k (Finalise s shown got listed anew) chosen).called
has_place w k _ few chosen = tt
