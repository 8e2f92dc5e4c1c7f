use Rattle.std.proofs.Common.{◌∙◌, ◌&&◌, Bool, ap, sym}
use Rattle.live_rules.specs.Live.{is_on}
use Rattle.live_tables.specs.Kept.{live_view}
use Rattle.live_tables.specs.Running.{Running}
use Rattle.live_tables.proofs.OpenLaws.{open_mark}
use Rattle.live_tables.proofs.live_tables.LiveTables.is_open.Goals as goal

pub returns-then-is_live : goal.returns-then-is_live
returns-then-is_live c =
    let r : Running = live_view c.self.inside in
    rw (← c.self.view_is)
    (rw (← c.self.view_is, c.from-row.ensures) at c.is_on.ensures
    ∙ ap (λ (b : Bool). b && is_on r.site r.world.on c.args.row) (sym c.if-is_live.true)
    ∙ open_mark r.site r.world c.self.inside.rows c.args.row c.is_live.result c.self.invariant.kept.rows (rw c.from-row.ensures at c.is_live.ensures))

pub returns-else-is_live : goal.returns-else-is_live
returns-else-is_live c =
    let r : Running = live_view c.self.inside in
    rw (← c.self.view_is)
    (c.if-is_live.false ∙ ap (λ (b : Bool). b && is_on r.site r.world.on c.args.row) (sym c.if-is_live.false)
    ∙ open_mark r.site r.world c.self.inside.rows c.args.row c.is_live.result c.self.invariant.kept.rows (rw c.from-row.ensures at c.is_live.ensures))
