use Rattle.std.proofs.Common.{◌≡◌, ◌∙◌, ◌≤◌, ℕ, List, suc, ◌+◌, Some, false, true, drop, find, get_or, length, ap, arith, sym}
use Rattle.std.proofs.lemmas.List.{drop_all}
use Rattle.run_rules.specs.declared.world.Dev.{Dev}
use Rattle.live_tables.specs.Running.{Running}
use Rattle.live_tables.proofs.Dooms.{find_hit, find_miss, hindering_is, hinders_is, is_hindering}
use Rattle.live_tables.proofs.Passes.{blank}
use Rattle.live_tables.proofs.live_tables.LiveTables.hindering.Goals as goal

pub returns-then-is_hindering : goal.returns-then-is_hindering
returns-then-is_hindering c =
    let r : Running = c.args.self.now in
    let are : c.devices-device-items.result.now ≡ r.world.live = c.devices-device-items.ensures ∙ ap (λ (q : Running). q.world.live) c.self.view_is in
    let hit : is_hindering r c.args.group (get_or r.world.live c.loop-at.at blank) ≡ true =
    hindering_is r c.args.group c.args.doomed.now c.devices-device-items.result.now c.loop-at.at blank c.is_hindering.result c.requires.doomed are c.loop-at-test.true c.is_hindering.ensures ∙ c.if-is_hindering.true in
    ap (λ (ds : List Dev). Some (get_or ds c.loop-at.at blank)) are
    ∙ sym (find_hit (is_hindering r c.args.group) r.world.live c.loop-at.at blank (omega (arith, c.loop-at-test.true, ap length are)) hit) ∙ c.loop-at.invariant ∙ hinders_is r.site r.world c.args.group

pub loop-at-preserved : goal.loop-at-preserved
loop-at-preserved c =
    let r : Running = c.args.self.now in
    let are : c.devices-device-items.result.now ≡ r.world.live = c.devices-device-items.ensures ∙ ap (λ (q : Running). q.world.live) c.self.view_is in
    let miss : is_hindering r c.args.group (get_or r.world.live c.loop-at.at blank) ≡ false =
    hindering_is r c.args.group c.args.doomed.now c.devices-device-items.result.now c.loop-at.at blank c.is_hindering.result c.requires.doomed are c.loop-at-test.true c.is_hindering.ensures ∙ c.if-is_hindering.false in
    let next : c.loop-at.at + 1 ≡ suc c.loop-at.at = omega arith in
    ap (λ (k : ℕ). find (is_hindering r c.args.group) (drop k r.world.live)) next
    ∙ sym (find_miss (is_hindering r c.args.group) r.world.live c.loop-at.at blank (omega (arith, c.loop-at-test.true, ap length are)) miss) ∙ c.loop-at.invariant

pub returns : goal.returns
returns c =
    let r : Running = c.args.self.now in
    let past : length r.world.live ≤ c.loop-at.at = omega (arith, c.loop-at-test.false, ap length c.devices-device-items.ensures, ap (λ (q : Running). length q.world.live) c.self.view_is) in
    ap (find (is_hindering r c.args.group)) (sym (drop_all c.loop-at.at r.world.live past)) ∙ c.loop-at.invariant ∙ hinders_is r.site r.world c.args.group
