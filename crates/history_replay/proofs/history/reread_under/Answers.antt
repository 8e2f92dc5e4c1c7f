use Rattle.plain_world.proofs.Going.{next_first, none_first}
use Rattle.history_replay.proofs.Goes.{going_first}
use Rattle.history_replay.proofs.history.reread_under.Goals as goal

pub reread_by-requires : goal.reread_by-requires
reread_by-requires c = record {
  going = going_first c.args.rules.now c.in-Ok.plain c.stands.ensures c.in-Ok.ensures;
  none = none_first c.args.rules.now c.in-Ok.plain c.in-Ok.ensures;
  next = next_first c.args.rules.now c.in-Ok.plain c.in-Ok.ensures;
}
