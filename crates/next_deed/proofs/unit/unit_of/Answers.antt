use Rattle.std.proofs.Common.{◌≡◌, ◌∙◌, Some, slice_get, length, refl}
use Rattle.std.proofs.lemmas.Option.{slice_get_past, slice_get_read}
use Rattle.run_world.proofs.UnitLaws.{pick_is, star_unit, own_unit, no_unit}
use Rattle.next_deed.proofs.unit.unit_of.Goals as goal

pub returns-then-r : goal.returns-then-r
returns-then-r c = λ live are.
    (let at : slice_get c.args.setup.now.tables.rows c.args.row ≡ Some c.in-Some.r.now =
    slice_get_read c.args.setup.now.tables.rows (length c.args.setup.now.tables.rows) c.args.row c.in-Some.r.now refl (rw c.items.ensures at c.in-Some.ensures.lookup).3.0 (rw c.items.ensures at c.in-Some.ensures.lookup).1 in
    star_unit c.args.setup.now live c.args.row c.in-Some.r.now at c.if-r.true
    ∙ pick_is c.args.setup.now live c.args.units.now c.in-Some.r.now.device c.in-Some.r.now.unit c.pick.result are c.pick.ensures)

pub returns-else-r : goal.returns-else-r
returns-else-r c = λ live are.
    (let at : slice_get c.args.setup.now.tables.rows c.args.row ≡ Some c.in-Some.r.now =
    slice_get_read c.args.setup.now.tables.rows (length c.args.setup.now.tables.rows) c.args.row c.in-Some.r.now refl (rw c.items.ensures at c.in-Some.ensures.lookup).3.0 (rw c.items.ensures at c.in-Some.ensures.lookup).1 in
    own_unit c.args.setup.now live c.args.row c.in-Some.r.now at c.if-r.false)

pub returns-in-None : goal.returns-in-None
returns-in-None c = λ live are.
    no_unit c.args.setup.now live c.args.row (slice_get_past c.args.setup.now.tables.rows c.args.row (rw c.items.ensures at c.in-None.ensures.lookup).3)
