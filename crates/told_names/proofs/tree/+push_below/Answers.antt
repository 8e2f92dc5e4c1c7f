use Rattle.std.proofs.Common.{◌<◌, ◌∙◌, ap, ◌++◌, List, length, take, false, None}
use Rattle.cf_types.specs.declared.tree.DevLine.{DevLine}
use Rattle.run_rules.specs.declared.world.Dev.{Dev}
use Rattle.run_rules.specs.World.{children}
use Rattle.run_rules.specs.Tree.{dev_line}
use Rattle.run_rules.proofs.Levels.{no_level, lines_on}
use Rattle.told_names.proofs.WalkLaws.{told_among, among_more, among_whole, child_has}
use Rattle.told_names.proofs.tree.+push_below.Goals as goal

pub returns-then-levels-eq0 : goal.returns-then-levels-eq0
returns-then-levels-eq0 t c = no_level (dev_line c.args.going.now) c.args.going.now.live c.args.levels c.args.depth c.args.parent c.args.lines.now c.if-levels-eq0.true

-- what stands past the end
abbrev blank : Dev
blank = record { serial = 0; row = 0; unit = 0; parent = 0; spot = 0; asleep = false; condemned = None }

pub line_of-requires : goal.line_of-requires
line_of-requires t c =
    child_has (λ d. d.row < length c.args.going.now.setup.tables.rows) c.args.going.now.live c.below-children.result.now c.args.parent c.loop-device.device-index blank c.stands.ensures.goes_on.kept.ranges.devices.rows (c.below-children.ensures ∙ ap (λ ds. children ds c.args.parent) c.tree.ensures) c.loop-device-test.true

pub loop-device-preserved : goal.loop-device-preserved
loop-device-preserved t c =
    let f = dev_line c.args.going.now in
    let live = c.args.going.now.live in
    let kids = c.below-children.result.now in
    rw (among_more f live c.args.levels c.args.depth kids c.loop-device.device-index blank c.loop-device-test.true)
    (lines_on c.args.lines.now c.loop-device.lines c.push.new.self c.push_below.new.lines _ _ (told_among f live c.args.levels c.args.depth (take c.loop-device.device-index kids))
    c.in_ok-push_below.ensures (rw (← c.in_ok-line.ensures) c.in_ok-push.ensures.ok) c.loop-device.invariant)

pub returns : goal.returns
returns t c =
    c.loop-device.invariant
    ∙ ap (λ (more : List DevLine). c.args.lines.now ++ more)
    (among_whole (dev_line c.args.going.now) c.args.going.now.live c.args.levels c.args.depth c.args.parent c.loop-device.device-index c.below-children.result.now c.if-levels-eq0.false (c.below-children.ensures ∙ ap (λ ds. children ds c.args.parent) c.tree.ensures) c.loop-device-test.false)
