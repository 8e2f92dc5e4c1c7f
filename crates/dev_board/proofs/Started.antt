-- After its first boot a board has done nothing else.
use Rattle.std.proofs.Common.{◌≡◌, List, [], None, sym, ◌∙◌, ap, subst}
use Rattle.std.specs.Prelude.{IfOk, Result}
use Rattle.std.specs.Prelude as std
use Rattle.history_laws.specs.Reliable.{IsReliable}
use Rattle.ref_ledger.specs.declared.state.SlotState.{SlotState}
use Rattle.run_rules.specs.declared.world.Setup.{Setup}
use Rattle.run_rules.specs.Run as run
use Rattle.run_rules.specs.World.{World, opening}
use Rattle.run_rules.proofs.Setups.{run_setup}
use Rattle.deed_effect.specs.Agreement.{slots_of}
use Rattle.dev_board.specs.Booting.{Boots, IsNew, IsStarted}
use Rattle.dev_board.specs.Shown.{Shown}
use Rattle.dev_board.proofs.Began.{opening_setup}
use Rattle.dev_board.proofs.Boots.{boot_is}

-- the opening world of a setup belongs to a new board, and its setup is that one
opens : (s : Setup) (b : Shown) → b.world ≡ opening s → b.world.setup ≡ s
opens s b begun = ap (λ (w : World). w.setup) begun ∙ opening_setup s

pub new_is : (s : Setup) (b : Shown) → b.world ≡ opening s → b.events ≡ [] → (b.stops ≡ 0) × (b.stopped ≡ None) → IsNew b
new_is s b begun none stops = record { world = begun ∙ sym (ap opening (opens s b begun)); events = none; stops = stops.0; stopped = stops.1 }

pub started_is : (b n : Shown) (slots : List SlotState) → IsNew b → Boots b n → IsReliable n.events n.world → slots ≡ slots_of n.world → IsStarted b.world.setup n slots
started_is b n slots new boots reliable agree =
    let s : Setup = b.world.setup in
    let setup : n.world.setup ≡ s = run_setup b.world boots.0 n.world boots.1.run in
    let boot = boot_is s b n new.world new.events boots in
    record {
      booted = record { boot = subst (λ (t : Setup). run.Boot (opening t) n.events n.world) (sym setup) boot; stops = boots.1.stops ∙ new.stops; stopped = boots.1.stopped ∙ new.stopped };
      boot = boot;
      setup = setup;
      reliable = reliable;
      goes_on = boots.1.stopped ∙ new.stopped;
      agree = agree;
    }

-- what holds of a new board's setup holds of the setup that it was made of
pub started_of : {E : Type 0} (s : Setup) (b : Shown) (r : Result (Shown × List SlotState) E) → b.world ≡ opening s
    → IfOk r (λ x. IsStarted b.world.setup x.0 x.1) → IfOk r (λ x. IsStarted s x.0 x.1)
started_of s b (std.Ok x) begun is = subst (λ (t : Setup). IsStarted t x.0 x.1) (opens s b begun) is
started_of s b (std.Err e) begun is = tt
