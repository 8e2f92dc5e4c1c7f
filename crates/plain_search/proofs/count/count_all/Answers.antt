use Rattle.std.proofs.Common.{◌∙◌, ap, map}
use Rattle.cf_types.specs.declared.tables.Row.{Row}
use Rattle.run_rules.specs.declared.world.Setup.{Setup}
use Rattle.plain_search.proofs.DeedLaws.{none_counted, zeros_length}
use Rattle.plain_search.proofs.count.count_all.Goals as goal

pub loop-device-init : goal.loop-device-init
loop-device-init c = record {
  rows = zeros_length c.args.rules.now.tables.rows c.in_ok-taken.taken ((rw c.items.ensures at c.in_ok-taken.ensures) ∙ ap (λ (s : Setup). map (λ (row : Row). 0) s.tables.rows) c.rules.view_is);
  counted = none_counted c.args.rules.now c.in_ok-taken.taken ((rw c.items.ensures at c.in_ok-taken.ensures) ∙ ap (λ (s : Setup). map (λ (row : Row). 0) s.tables.rows) c.rules.view_is);
}
