use Rattle.std.proofs.Common.{◌≤◌, length, arith, subst}
use Rattle.std.proofs.lemmas.Result.{err_from_is_err_and}
use Rattle.live_rules.specs.Live.{LiveSite}
use Rattle.live_tables.proofs.Counts.{few_live}
use Rattle.live_tables.proofs.Passes.{all_searched, blank, device_searched, device_stopped, root_cut}
use Rattle.live_tables.proofs.live_tables.LiveTables.pass.Goals as goal

pub returns-in_err-search_below : goal.returns-in_err-search_below
returns-in_err-search_below c =
    let p = err_from_is_err_and c.from_residual.result c.from_residual.ensures.1 in
    rw p.1 (root_cut c.args.self.now c.search_below.new.self c.args.lines.now.items c.search_below.new.lines.items p.0 c.stands.ensures.sound.low c.in_err-search_below.ensures)

pub returns-in_err-search_below-2 : goal.returns-in_err-search_below-2
returns-in_err-search_below-2 c =
    let p = err_from_is_err_and c.from_residual-in_err-search_below-2.result c.from_residual-in_err-search_below-2.ensures.1 in
    rw p.1
    (device_stopped c.args.self.now c.loop-at.self c.search_below-in-loop-at.new.self c.args.lines.now.items c.loop-at.lines.items c.search_below-in-loop-at.new.lines.items c.loop-at.at c.serial_at-serial.result p.0
    (omega (arith, c.loop-at-test.true, c.count.ensures)) (c.serial_at-serial.ensures blank) c.loop-at.invariant c.in_err-search_below-2.ensures)

pub loop-at-smaller : goal.loop-at-smaller
loop-at-smaller c =
    let few = subst (λ (t : LiveSite). length c.loop-at.self.world.live ≤ length t.setup.machine.spots) c.loop-at.invariant.brings.site (few_live c.loop-at.self.site c.loop-at.self.world c.loop-at.invariant.sound) in
    omega (arith, few, c.loop-at-test.true, c.count.ensures)

pub loop-at-preserved : goal.loop-at-preserved
loop-at-preserved c =
    device_searched c.args.self.now c.loop-at.self c.search_below-in-loop-at.new.self c.args.lines.now.items c.loop-at.lines.items c.search_below-in-loop-at.new.lines.items c.loop-at.at c.serial_at-serial.result
    (omega (arith, c.loop-at-test.true, c.count.ensures)) (c.serial_at-serial.ensures blank) c.stands-in-loop-at.ensures.sound c.loop-at.invariant c.in_ok-search_below-2.ensures.brings c.in_ok-search_below-2.ensures.ok

pub returns : goal.returns
returns c =
    all_searched c.args.self.now c.loop-at.self c.args.lines.now.items c.loop-at.lines.items c.loop-at.at (omega (arith, c.loop-at-test.false, c.count.ensures)) c.loop-at.invariant
