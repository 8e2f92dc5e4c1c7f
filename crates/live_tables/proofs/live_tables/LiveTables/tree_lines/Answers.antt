use Rattle.std.proofs.Common.{◌≡◌, ◌∙◌, length, ap, arith}
use Rattle.live_rules.specs.Live.{tree_lines}
use Rattle.live_tables.specs.Kept.{live_view}
use Rattle.live_tables.specs.Running.{Running}
use Rattle.live_tables.proofs.Counts.{few_live}
use Rattle.live_tables.proofs.live_tables.LiveTables.tree_lines.Goals as goal

pub overflow_cast-levels : goal.overflow_cast-levels
overflow_cast-levels c =
    let r : Running = live_view c.self.inside in
    omega (arith, few_live r.site r.world c.self.invariant.kept.sound, c.self.inside.site.bounded.few_spots, c.count-levels.ensures)

pub push_below-requires-clause-shallow : goal.push_below-requires-clause-shallow
push_below-requires-clause-shallow c =
    let r : Running = live_view c.self.inside in
    omega (arith, few_live r.site r.world c.self.invariant.kept.sound, c.self.inside.site.bounded.few_spots, c.count-levels.ensures)

pub returns : goal.returns
unfolding tree_lines
returns c =
    let r : Running = c.args.self.now in
    let levels : c.count-levels.result ≡ length r.world.live = c.count-levels.ensures ∙ ap (λ (q : Running). length q.world.live) c.self.view_is in
    rw (c.make-lines.ensures, levels) at c.in_ok-push_below.ensures
