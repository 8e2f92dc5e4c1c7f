use Rattle.std.proofs.Common.{◌∙◌, ap, map}
use Rattle.cf_types.specs.declared.tables.Row.{Row}
use Rattle.run_rules.specs.declared.world.Setup.{Setup}
use Rattle.plain_search.proofs.DeedLaws.{none_counted}
use Rattle.plain_search.proofs.seeker.Seeker.make.Goals as goal

pub returns-clause-follows : goal.returns-clause-follows
returns-clause-follows c = none_counted c.args.rules.now c.in_ok-taken.taken ((rw c.items.ensures at c.in_ok-taken.ensures) ∙ ap (λ (s : Setup). map (λ (row : Row). 0) s.tables.rows) c.rules.view_is)
