use Rattle.std.proofs.Common.{arith}
use Rattle.plain_world.proofs.RulesLaws.{scripts_are}
use Rattle.every_order.proofs.Searching.{below_more, below_none, follows_all, follows_still, long_enough}
use Rattle.every_order.proofs.search.follow_all.Goals as goal

pub loop-caller-init : goal.loop-caller-init
loop-caller-init c = below_none c.args.seeker.now.rules.now c.args.known.now c.args.at c.requires.known

pub follow-requires : goal.follow-requires
follow-requires c =
    let s = c.args.seeker.now.rules.now in
    let so = c.loop-caller.invariant in
    record {
      known = so.further.known;
      at = long_enough s c.args.known.now c.loop-caller.known c.args.at c.loop-caller.caller c.requires.at so;
      few = omega (arith, so.further.few, c.requires.few, c.loop-caller-test.true, c.rules.invariant.may.few_scripts);
      follows = follows_still s c.args.seeker.now c.args.known.now c.loop-caller.known c.args.at c.loop-caller.caller c.requires.at so c.requires.follows;
    }

pub loop-caller-preserved : goal.loop-caller-preserved
loop-caller-preserved c =
    below_more c.args.seeker.now.rules.now c.args.known.now c.loop-caller.known c.follow.new.known c.args.at c.loop-caller.caller c.requires.at c.loop-caller.invariant c.in_ok-follow.ensures

pub returns : goal.returns
returns c =
    let s = c.args.seeker.now.rules.now in
    let are = scripts_are c.rules.inside s c.rules.view_is in
    follows_all s c.args.known.now c.loop-caller.known c.args.at c.loop-caller.caller (omega (arith, are, c.loop-caller-test.false)) (omega (arith, are)) c.loop-caller.invariant
