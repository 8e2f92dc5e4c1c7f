use Rattle.std.proofs.Common.{◌≡◌, ◌∷◌, [], ◌∙◌, ℕ, false, refl, ap}
use Rattle.std.proofs.lemmas.List.{map-append}
use Rattle.run_rules.specs.After.{listed, new_device}
use Rattle.run_rules.specs.World.{driver_of}
use Rattle.run_rules.proofs.OwnNames.{row_driver}
use Rattle.run_world.specs.View.{world_of}
use Rattle.run_world.specs.Arrivals.{put_off_too}
use Rattle.deed_effect.proofs.ArriveLaws.{err_of, named_is, ok_of, own_taken}
use Rattle.deed_effect.proofs.MarkLaws.{more_marks, same_length}
use Rattle.run_rules.specs.Search as rule
use Rattle.run_world.proofs.UnitLaws.{more_units, same_units}
use Rattle.unit_alloc.specs.Taken.{is_taken}
use Rattle.deed_effect.proofs.attach.list.Goals as goal

pub attach-requires-clause-name : goal.attach-requires-clause-name
attach-requires-clause-name c =
    let s = c.args.site.now.setup in
    let live = c.args.core.now.tree.live in
    rw (c.requires.books.drivers, named_is s live c.driver_of-driver.result c.args.arrival.unit, c.driver_of-driver.ensures) c.requires.may.unit

-- ---- the unit is of a device that is there, and free

pub take-requires-clause-device : goal.take-requires-clause-device
take-requires-clause-device c =
    rw (c.driver_of-driver.ensures, c.requires.books.units.devices) (row_driver c.args.site.now.setup c.args.arrival.row c.args.site.now.bounded.tables.formed c.requires.may.row)

pub take-requires-clause-free : goal.take-requires-clause-free
take-requires-clause-free c =
    c.requires.books.units.taken c.driver_of-driver.result c.args.arrival.unit
    ∙ ap (λ (x : ℕ). rule.is_taken c.args.site.now.setup c.args.core.now.tree.live x c.args.arrival.unit) c.driver_of-driver.ensures ∙ c.requires.may.unit

pub give-requires-clause-device : goal.give-requires-clause-device
give-requires-clause-device c =
    rw (c.in_ok-take.ensures.ok.devices, c.driver_of-driver.ensures, c.requires.books.units.devices) (row_driver c.args.site.now.setup c.args.arrival.row c.args.site.now.bounded.tables.formed c.requires.may.row)

pub give-requires-clause-taken : goal.give-requires-clause-taken
give-requires-clause-taken c = own_taken c.args.core.now.units c.take.new.self c.driver_of-driver.result c.args.arrival.unit c.in_ok-take.ensures.ok

pub give-requires-in-Err-clause-device : goal.give-requires-in-Err-clause-device
give-requires-in-Err-clause-device c =
    rw (c.in_ok-take.ensures.ok.devices, c.driver_of-driver.ensures, c.requires.books.units.devices) (row_driver c.args.site.now.setup c.args.arrival.row c.args.site.now.bounded.tables.formed c.requires.may.row)

pub give-requires-in-Err-clause-taken : goal.give-requires-in-Err-clause-taken
give-requires-in-Err-clause-taken c = own_taken c.args.core.now.units c.take.new.self c.driver_of-driver.result c.args.arrival.unit c.in_ok-take.ensures.ok

pub set-requires-clause-length : goal.set-requires-clause-length
set-requires-clause-length c = same_length c.args.site.now.setup c.args.core.now.tree.live c.args.core.now.rows c.requires.books.marks

pub returns-in-Ok-clause-serial : goal.returns-in-Ok-clause-serial
returns-in-Ok-clause-serial c = c.in-Ok.ensures.serial

pub returns-in-Ok-clause-ok : goal.returns-in-Ok-clause-ok
unfolding listed
returns-in-Ok-clause-ok c =
    let deferred : c.put_off.new.deferred ≡ put_off_too c.args.placing c.args.core.now.deferred c.args.arrival.parent c.args.core.now.tree.next =
    ok_of _ c.put_off.result c.is_err.result c.is_err.ensures.value c.if-is_err.false c.put_off.ensures.ok
    ∙ ap (put_off_too c.args.placing c.args.core.now.deferred c.args.arrival.parent) c.next.ensures in
    record {
      world = rw (c.in-Ok.ensures.ok, deferred) refl;
      callers = refl;
      finalisers = refl;
    }

pub returns-in-Ok-clause-books : goal.returns-in-Ok-clause-books
returns-in-Ok-clause-books c =
    let s = c.args.site.now.setup in
    let core = c.args.core.now in
    let d = new_device (world_of s core) c.args.arrival in
    rw c.in-Ok.ensures.ok (record {
      marks = more_marks s core.tree.live d core.rows c.set.new.rows c.requires.books.marks (rw c.driver_of-driver.ensures at c.set.ensures);
      units = more_units s core.tree.live d core.units c.take.new.self c.requires.books.units (rw c.driver_of-driver.ensures at c.in_ok-take.ensures.ok);
      drivers = rw (c.requires.books.drivers, c.driver_of-driver.ensures, map-append (λ d. driver_of s d.row) core.tree.live (d ∷ [])) refl;
      recent = c.requires.books.recent;
    })

-- ---- where memory runs out, what was taken is given back

pub returns-then-is_err-clause-err : goal.returns-then-is_err-clause-err
returns-then-is_err-clause-err c =
    let deferred : c.put_off.new.deferred ≡ c.args.core.now.deferred = err_of _ c.put_off.result c.is_err.result c.is_err.ensures.value c.if-is_err.true c.put_off.ensures.err in
    rw deferred refl

pub returns-then-is_err-clause-books : goal.returns-then-is_err-clause-books
returns-then-is_err-clause-books c =
    let s = c.args.site.now.setup in
    let core = c.args.core.now in
    let n = c.args.arrival.unit in
    let d = c.driver_of-driver.result in
    let free : is_taken core.units d n ≡ false = c.requires.books.units.taken d n ∙ ap (λ (x : ℕ). rule.is_taken s core.tree.live x n) c.driver_of-driver.ensures ∙ c.requires.may.unit in
    record {
      marks = c.requires.books.marks;
      units = same_units s core.tree.live core.units c.take.new.self c.give.new.self d n c.requires.books.units free c.in_ok-take.ensures.ok c.give.ensures;
      drivers = c.requires.books.drivers;
      recent = c.requires.books.recent;
    }

pub returns-in-Err-clause-err : goal.returns-in-Err-clause-err
returns-in-Err-clause-err c =
    let core = c.args.core.now in
    let was : c.put_off.new.deferred ≡ put_off_too c.args.placing core.deferred c.args.arrival.parent core.tree.next =
    ok_of _ c.put_off.result c.is_err.result c.is_err.ensures.value c.if-is_err.false c.put_off.ensures.ok
    ∙ ap (put_off_too c.args.placing core.deferred c.args.arrival.parent) c.next.ensures in
    rw (c.in-Err.ensures.err, c.take_back.ensures core.deferred core.tree.next was) refl

pub returns-in-Err-clause-books : goal.returns-in-Err-clause-books
returns-in-Err-clause-books c =
    let s = c.args.site.now.setup in
    let core = c.args.core.now in
    let n = c.args.arrival.unit in
    let d = c.driver_of-driver.result in
    let free : is_taken core.units d n ≡ false = c.requires.books.units.taken d n ∙ ap (λ (x : ℕ). rule.is_taken s core.tree.live x n) c.driver_of-driver.ensures ∙ c.requires.may.unit in
    rw c.in-Err.ensures.err (record {
      marks = c.requires.books.marks;
      units = same_units s core.tree.live core.units c.take.new.self c.give-in-Err.new.self d n c.requires.books.units free c.in_ok-take.ensures.ok c.give-in-Err.ensures;
      drivers = c.requires.books.drivers;
      recent = c.requires.books.recent;
    })
