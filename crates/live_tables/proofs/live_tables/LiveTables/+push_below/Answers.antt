use Rattle.std.proofs.Common.{◌≡◌, ◌<◌, ◌∙◌, ap, ◌++◌, List, length, take}
use Rattle.cf_types.specs.declared.tree.DevLine.{DevLine}
use Rattle.run_rules.specs.World.{children}
use Rattle.run_rules.proofs.Levels.{no_level, lines_on}
use Rattle.live_rules.specs.Live.{tree_line}
use Rattle.live_tables.specs.Running.{Running}
use Rattle.live_tables.proofs.Passes.{blank}
use Rattle.told_names.proofs.WalkLaws.{told_among, among_more, among_whole, child_has}
use Rattle.live_tables.proofs.live_tables.LiveTables.+push_below.Goals as goal

pub returns-then-levels-eq0 : goal.returns-then-levels-eq0
returns-then-levels-eq0 t c = no_level (tree_line c.args.self.now.site c.args.self.now.world) c.args.self.now.world.live c.args.levels c.args.depth c.args.parent c.args.lines.now c.if-levels-eq0.true

pub tree_line-requires : goal.tree_line-requires
tree_line-requires t c = rw (← c.self.view_is) (record {
  row = child_has (λ d. d.row < length c.self.inside.site.setup.tables.rows) c.self.inside.tree.live c.below-children.result.now c.args.parent c.loop-device.device-index blank c.self.invariant.kept.sound.rows
      c.below-children.ensures c.loop-device-test.true;
})

pub loop-device-preserved : goal.loop-device-preserved
loop-device-preserved t c =
    let r : Running = c.args.self.now in
    let f = tree_line r.site r.world in
    let kids = c.below-children.result.now in
    rw (among_more f r.world.live c.args.levels c.args.depth kids c.loop-device.device-index blank c.loop-device-test.true)
    (lines_on c.args.lines.now c.loop-device.lines c.push.new.self c.push_below.new.lines _ _ (told_among f r.world.live c.args.levels c.args.depth (take c.loop-device.device-index kids))
    c.in_ok-push_below.ensures (rw (← c.in_ok-line.ensures) c.in_ok-push.ensures.ok) c.loop-device.invariant)

pub returns : goal.returns
returns t c =
    let r : Running = c.args.self.now in
    let are : c.below-children.result.now ≡ children r.world.live c.args.parent = c.below-children.ensures ∙ ap (λ (q : Running). children q.world.live c.args.parent) c.self.view_is in
    c.loop-device.invariant
    ∙ ap (λ (more : List DevLine). c.args.lines.now ++ more)
    (among_whole (tree_line r.site r.world) r.world.live c.args.levels c.args.depth c.args.parent c.loop-device.device-index c.below-children.result.now c.if-levels-eq0.false are c.loop-device-test.false)
