use Rattle.std.proofs.Common.{◌<◌, ◌∙◌, ap, ◌++◌, List, length, take, false, None}
use Rattle.run_rules.specs.declared.world.Dev.{Dev}
use Rattle.run_rules.specs.World.{children}
use Rattle.run_rules.specs.declared.event.DepthName.{DepthName}
use Rattle.run_rules.specs.Run.{depth_name}
use Rattle.run_rules.proofs.Levels.{no_level, lines_on}
use Rattle.told_names.proofs.WalkLaws.{told_among, among_more, among_whole, child_has}
use Rattle.told_names.proofs.listed_names.+push_names.Goals as goal

pub returns-then-levels-eq0 : goal.returns-then-levels-eq0
returns-then-levels-eq0 t c = no_level (depth_name c.args.going.now.setup) c.args.going.now.live c.args.levels c.args.depth c.args.parent c.args.names.now c.if-levels-eq0.true

-- what stands past the end
abbrev blank : Dev
blank = record { serial = 0; row = 0; unit = 0; parent = 0; spot = 0; asleep = false; condemned = None }

pub depth_name-requires : goal.depth_name-requires
depth_name-requires t c =
    child_has (λ d. d.row < length c.args.going.now.setup.tables.rows) c.args.going.now.live c.below-children.result.now c.args.parent c.loop-device.device-index blank c.stands.ensures.goes_on.kept.ranges.devices.rows (c.below-children.ensures ∙ ap (λ ds. children ds c.args.parent) c.tree.ensures) c.loop-device-test.true

pub loop-device-preserved : goal.loop-device-preserved
loop-device-preserved t c =
    let f = depth_name c.args.going.now.setup in
    let live = c.args.going.now.live in
    let kids = c.below-children.result.now in
    rw (among_more f live c.args.levels c.args.depth kids c.loop-device.device-index blank c.loop-device-test.true)
    (lines_on c.args.names.now c.loop-device.names c.push.new.self c.push_names.new.names _ _ (told_among f live c.args.levels c.args.depth (take c.loop-device.device-index kids))
    c.in_ok-push_names.ensures (rw (← c.in_ok-name.ensures) c.in_ok-push.ensures.ok) c.loop-device.invariant)

pub returns : goal.returns
returns t c =
    c.loop-device.invariant
    ∙ ap (λ (more : List DepthName). c.args.names.now ++ more)
    (among_whole (depth_name c.args.going.now.setup) c.args.going.now.live c.args.levels c.args.depth c.args.parent c.loop-device.device-index c.below-children.result.now c.if-levels-eq0.false (c.below-children.ensures ∙ ap (λ ds. children ds c.args.parent) c.tree.ensures) c.loop-device-test.false)
