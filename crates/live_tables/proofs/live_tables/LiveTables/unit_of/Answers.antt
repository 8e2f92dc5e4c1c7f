use Rattle.std.proofs.Common.{◌≡◌, ◌∙◌, Some, slice_get, length, refl, sym, arith}
use Rattle.std.proofs.lemmas.Option.{slice_get_past, slice_get_read}
use Rattle.run_world.proofs.UnitLaws.{few_taken, pick_is, star_unit, own_unit, no_unit}
use Rattle.live_tables.specs.Kept.{live_view}
use Rattle.live_tables.proofs.Counts.{few_live}
use Rattle.live_tables.proofs.live_tables.LiveTables.unit_of.Goals as goal

pub pick-requires-clause-few : goal.pick-requires-clause-few
pick-requires-clause-few c =
    let r = live_view c.self.inside in
    few_taken r.site.setup r.world.live c.self.inside.units c.in-Some.found.now.device c.self.invariant.kept.units (omega (arith, few_live r.site r.world c.self.invariant.kept.sound, c.self.inside.site.bounded.few_spots))

pub returns-then-found : goal.returns-then-found
returns-then-found c =
    let r = live_view c.self.inside in
    let rows = r.site.setup.tables.rows in
    let at : slice_get rows c.args.row ≡ Some c.in-Some.found.now =
    slice_get_read rows (length rows) c.args.row c.in-Some.found.now refl (rw c.items.ensures at c.in-Some.ensures.lookup).3.0 (rw c.items.ensures at c.in-Some.ensures.lookup).1 in
    rw (← c.self.view_is)
    (sym (star_unit r.site.setup r.world.live c.args.row c.in-Some.found.now at c.if-found.true
    ∙ pick_is r.site.setup r.world.live c.self.inside.units c.in-Some.found.now.device c.in-Some.found.now.unit c.pick.result c.self.invariant.kept.units c.pick.ensures))

pub returns-else-found : goal.returns-else-found
returns-else-found c =
    let r = live_view c.self.inside in
    let rows = r.site.setup.tables.rows in
    let at : slice_get rows c.args.row ≡ Some c.in-Some.found.now =
    slice_get_read rows (length rows) c.args.row c.in-Some.found.now refl (rw c.items.ensures at c.in-Some.ensures.lookup).3.0 (rw c.items.ensures at c.in-Some.ensures.lookup).1 in
    rw (← c.self.view_is) (sym (own_unit r.site.setup r.world.live c.args.row c.in-Some.found.now at c.if-found.false))

pub returns-in-None : goal.returns-in-None
returns-in-None c =
    let r = live_view c.self.inside in
    rw (← c.self.view_is) (sym (no_unit r.site.setup r.world.live c.args.row (slice_get_past r.site.setup.tables.rows c.args.row (rw c.items.ensures at c.in-None.ensures.lookup).3)))
