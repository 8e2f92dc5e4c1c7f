use Rattle.std.proofs.Common.{◌==◌, ◌∙◌, sym}
use Rattle.run_rules.specs.World.{is_live}
use Rattle.run_sound.proofs.Callers.{clash}
use Rattle.run_sound.proofs.Trees.{none_found}
use Rattle.plain_event.proofs.telling.live_name.Goals as goal

pub unreachable-requires : goal.unreachable-requires
unreachable-requires c = clash (is_live c.args.live.now.devices c.args.serial) c.requires.live (none_found (λ d. d.serial == c.args.serial) c.args.live.now.devices (sym c.device_at.ensures ∙ c.in-None.is))
