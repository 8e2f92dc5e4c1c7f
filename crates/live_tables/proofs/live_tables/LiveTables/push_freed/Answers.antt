use Rattle.std.proofs.Common.{◌≡◌, ◌∙◌, ◌-◌, suc, false, length, ap, arith, subst, sym}
use Rattle.run_rules.specs.declared.world.Dev.{Dev}
use Rattle.live_rules.specs.Live.{is_doomed}
use Rattle.live_tables.specs.Running.{Running}
use Rattle.live_tables.proofs.Dooms.{mark_of}
use Rattle.live_tables.proofs.Frees.{FreedSoFar, all_freed, none_freed, one_spared}
use Rattle.live_tables.proofs.Passes.{blank}
use Rattle.live_tables.proofs.live_tables.LiveTables.push_freed.Goals as goal

pub loop-at-preserved : goal.loop-at-preserved
loop-at-preserved c =
    let r : Running = c.args.self.now in
    let k = c.loop-at.at - 1 in
    let more : c.loop-at.at ≡ suc k = omega (arith, c.loop-at-test.true) in
    let h : FreedSoFar r c.args.group c.args.lines.now.items c.loop-at.lines.items (suc k) = subst (FreedSoFar r c.args.group c.args.lines.now.items c.loop-at.lines.items) more c.loop-at.invariant in
    one_spared r c.args.group c.args.lines.now.items c.loop-at.lines.items k blank h
    (sym (mark_of (λ (d : Dev). is_doomed r.site r.world.live c.args.group d.serial) r.world.live k blank false (omega (arith, h.within))) ∙ rw c.requires.doomed at c.if-doomed-at.false)

pub loop-at-init : goal.loop-at-init
loop-at-init c =
    subst (FreedSoFar c.args.self.now c.args.group c.args.lines.now.items c.args.lines.now.items) (sym (ap length c.devices-devices.ensures ∙ ap (λ (q : Running). length q.world.live) c.self.view_is))
    (none_freed c.args.self.now c.args.group c.args.lines.now.items)

pub returns-clause-ok : goal.returns-clause-ok
returns-clause-ok c = all_freed c.args.self.now c.args.group c.args.lines.now.items c.loop-at.lines.items c.loop-at.at (omega (arith, c.loop-at-test.false)) c.loop-at.invariant
