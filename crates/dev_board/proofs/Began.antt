-- The world that a board began with, and what its first boot leaves.
use Rattle.std.proofs.Common.{◌≡◌, List, [], refl, sym, subst}
use Rattle.run_rules.specs.declared.event.Event.{Event}
use Rattle.run_rules.specs.declared.world.Setup.{Setup}
use Rattle.run_rules.specs.Run.{Run}
use Rattle.run_rules.specs.World.{opening}
use Rattle.run_sound.specs.Kept.{MayRun}
use Rattle.history_laws.specs.Calm.{IsCalm}
use Rattle.history_laws.proofs.Boots.{calm_boot}
use Rattle.dev_board.specs.Booting.{Boots}
use Rattle.dev_board.specs.Shown.{Shown, began}
use Rattle.dev_board.proofs.Boots.{boot_is}

pub calm_booted : (old new : Shown) → MayRun old.world.setup → Run (began old) old.events old.world → Boots old new → old.events ≡ [] → IsCalm new.events new.world
calm_booted old new may run boots none =
    let begun : opening old.world.setup ≡ old.world = subst (λ (h : List Event). Run (began old) h old.world) none run in
    calm_boot old.world.setup new.events new.world may (boot_is old.world.setup old new (sym begun) none boots)

-- an opening world has the setup that it was made of
pub opening_setup : (s : Setup) → (opening s).setup ≡ s
unfolding opening
opening_setup s = refl
