use Rattle.std.proofs.Common.{◌∙◌, Some, ap, sym}
use Rattle.live_tables.specs.Kept.{live_view}
use Rattle.live_tables.proofs.OpenLaws.{first_wins}
use Rattle.live_tables.proofs.live_tables.LiveTables.winner.Goals as goal

pub returns-in-Some : goal.returns-in-Some
returns-in-Some c =
    let r = live_view c.self.inside in
    let offered = rw (← c.self.view_is) at c.requires.offered in
    let here = rw (← c.self.view_is) at c.requires.here in
    rw (← c.self.view_is)
    (ap Some c.from.ensures ∙ sym c.in-Some.is ∙ rw (c.parent_ref.ensures, c.rows-rows.ensures, ← c.self.view_is) at c.first_open.ensures
    ∙ first_wins r.site r.world c.args.parent c.args.place c.args.spot c.self.inside.site.index c.self.inside.site.indexed here offered)

pub returns-in-None : goal.returns-in-None
returns-in-None c =
    let r = live_view c.self.inside in
    let offered = rw (← c.self.view_is) at c.requires.offered in
    let here = rw (← c.self.view_is) at c.requires.here in
    rw (← c.self.view_is)
    (sym c.in-None.is ∙ rw (c.parent_ref.ensures, c.rows-rows.ensures, ← c.self.view_is) at c.first_open.ensures
    ∙ first_wins r.site r.world c.args.parent c.args.place c.args.spot c.self.inside.site.index c.self.inside.site.indexed here offered)
