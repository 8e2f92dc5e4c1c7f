use Rattle.std.proofs.Common.{List, sym, subst}
use Rattle.run_rules.specs.declared.world.Dev.{Dev}
use Rattle.plain_search.specs.Open.{Follows}
use Rattle.plain_world.specs.declared.rules.Rules.{Rules}
use Rattle.history_replay.specs.Going.{IsGoing}
use Rattle.history_replay.proofs.reader.read_behind_head.Goals as goal

pub read_lines-requires-clause-going : goal.read_lines-requires-clause-going
read_lines-requires-clause-going c = subst (λ (x : Rules). IsGoing x c.args.plain.now) (sym c.in-Ok.ensures.means.0) c.requires.going

pub read_lines-requires-clause-follows : goal.read_lines-requires-clause-follows
read_lines-requires-clause-follows c = subst (λ (ds : List Dev). Follows c.in-Ok.reader.seeker ds) (sym c.requires.none) c.in-Ok.ensures.follows
