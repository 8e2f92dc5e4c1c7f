use Rattle.std.proofs.Common.{◌≡◌, ◌<◌, ◌==◌, ◌∙◌, sym, length, Some}
use Rattle.run_rules.specs.World.{device_at, driver_of}
use Rattle.run_rules.proofs.Devices.{found_in}
use Rattle.run_rules.proofs.OwnNames.{row_driver}
use Rattle.dev_tree.proofs.DriverLaws.{drivers_without}
use Rattle.deed_effect.proofs.GoneLaws.{found_there, units_gone, marks_gone, unit_found}
use Rattle.deed_effect.proofs.freed.free_device.Goals as goal

pub give-requires-clause-device : goal.give-requires-clause-device
give-requires-clause-device c =
    let s = c.args.site.now.setup in
    let live = c.args.core.now.tree.live in
    let at : device_at live c.args.of ≡ Some c.in-Some.device = sym c.get.ensures ∙ c.in-Some.is in
    let row : c.in-Some.device.row < length s.tables.rows = found_in (λ d. d.row < length s.tables.rows) (λ d. d.serial == c.args.of) live c.in-Some.device c.requires.rows at in
    rw (c.driver_of-driver.ensures, c.requires.books.units.devices) (row_driver s c.in-Some.device.row c.args.site.now.bounded.tables.formed row)

pub give-requires-clause-taken : goal.give-requires-clause-taken
give-requires-clause-taken c =
    let s = c.args.site.now.setup in
    let live = c.args.core.now.tree.live in
    let d = c.in-Some.device in
    rw c.driver_of-driver.ensures (c.requires.books.units.taken (driver_of s d.row) d.unit ∙ unit_found s live c.args.of d (sym c.get.ensures ∙ c.in-Some.is))

pub unreachable-requires : goal.unreachable-requires
unreachable-requires c = found_there c.args.core.now.tree.live c.args.of c.requires.live (sym c.get.ensures ∙ c.in-None.is)

pub returns-clause-books : goal.returns-clause-books
returns-clause-books c =
    let s = c.args.site.now.setup in
    let core = c.args.core.now in
    let live = core.tree.live in
    let d = c.in-Some.device in
    let at : device_at live c.args.of ≡ Some d = sym c.get.ensures ∙ c.in-Some.is in
    rw c.free.ensures (record {
      marks = marks_gone s live c.args.of d core.rows c.set.new.rows c.requires.sound.apart at c.requires.books.marks (rw c.driver_of-driver.ensures at c.set.ensures);
      units = units_gone s live c.args.of d core.units c.give.new.self c.requires.sound.apart at c.requires.books.units (rw c.driver_of-driver.ensures at c.give.ensures);
      drivers = drivers_without s core.tree c.args.of c.requires.books.drivers;
      recent = c.requires.books.recent;
    })
