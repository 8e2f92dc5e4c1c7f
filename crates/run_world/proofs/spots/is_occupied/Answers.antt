use Rattle.std.proofs.Common.{◌∙◌, ap, is_some}
use Rattle.run_world.proofs.LookLaws.{occupied_is}
use Rattle.run_world.proofs.spots.is_occupied.Goals as goal

pub returns : goal.returns
returns c = c.is_some.ensures ∙ ap is_some c.on_spot.ensures ∙ occupied_is c.args.tree.now.live c.args.spot
