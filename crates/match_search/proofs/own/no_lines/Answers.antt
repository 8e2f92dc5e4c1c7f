use Rattle.std.proofs.Common.{◌≡◌, length, [], subst, arith}
use Rattle.run_rules.specs.MatchLines.{AreOwnLines, lines_in}
use Rattle.run_rules.proofs.MatchLines.{spot_more}
use Rattle.match_search.proofs.own.no_lines.Goals as goal

pub loop-spot-preserved : goal.loop-spot-preserved
loop-spot-preserved c = spot_more c.loop-spot._spot-index c.loop-spot.lists.items c.push.new.self.items _ c.in_ok-push.ensures.items c.new.ensures.items c.loop-spot.invariant

pub returns : goal.returns
returns c =
    let all : c.loop-spot._spot-index ≡ length c.args.spots.now = omega (arith, c.loop-spot-test.false, c.loop-spot.auto._spot-index-end) in
    subst (λ n. AreOwnLines n [] (lines_in c.loop-spot.lists.items)) all c.loop-spot.invariant
