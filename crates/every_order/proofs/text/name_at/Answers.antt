use Rattle.std.proofs.Common.{◌∙◌, sym}
use Rattle.every_order.proofs.Waiting.{live_found}
use Rattle.every_order.proofs.text.name_at.Goals as goal

pub unreachable-requires : goal.unreachable-requires
unreachable-requires c = live_found c.args.plain.now.live.devices c.args.serial c.requires.live (sym c.device_at.ensures ∙ c.in-None.is)
