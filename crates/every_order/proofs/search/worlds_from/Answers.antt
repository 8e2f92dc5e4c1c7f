use Rattle.std.proofs.Common.{◌<◌, ◌∙◌, length, refl, subst, arith}
use Rattle.plain_world.specs.declared.rules.Rules.{Rules}
use Rattle.plain_world.specs.Plain.{world_of}
use Rattle.every_order.specs.Search.{FollowsAll}
use Rattle.every_order.proofs.Places.{at_longer}
use Rattle.every_order.proofs.Whole.{has_more, search_done, search_first, search_more}
use Rattle.every_order.proofs.search.worlds_from.Goals as goal

pub worlds-init : goal.worlds-init
worlds-init c = record {
  rules = refl;
  search = search_first c.args.seeker.now.rules.now c.args.start c.in_ok-known.known c.requires.kept c.requires.low c.in_ok-known.ensures;
  low = omega arith;
}

pub returns-then-count-most-clause-worlds : goal.returns-then-count-most-clause-worlds
returns-then-count-most-clause-worlds c =
    let s = c.args.seeker.now.rules.now in
    let many = c.worlds.known.met.ok.0 in
    has_more s (world_of s c.args.start) c.worlds.known c.worlds.at c.args.most (omega (arith, many, c.len-count.ensures, c.if-count-most.true)) c.worlds.invariant.search

pub returns-then-at-count-clause-worlds : goal.returns-then-at-count-clause-worlds
returns-then-at-count-clause-worlds c =
    let s = c.args.seeker.now.rules.now in
    let many = c.worlds.known.met.ok.0 in
    (search_done s (world_of s c.args.start) c.worlds.known c.worlds.at (omega (arith, many, c.len-count.ensures, c.if-at-count.true)) c.worlds.invariant.search, omega (arith, many, c.len-count.ensures, c.if-count-most.false))

pub follow_from-requires-clause-at : goal.follow_from-requires-clause-at
follow_from-requires-clause-at c =
    let many = c.worlds.known.met.ok.0 in
    omega (arith, many, c.len-count.ensures, c.if-at-count.false, c.worlds.invariant.low)

pub overflow_add-at : goal.overflow_add-at
overflow_add-at c =
    let many = c.worlds.known.met.ok.0 in
    omega (arith, many, c.len-count.ensures, c.if-count-most.false, c.ranges.most, c.worlds.invariant.low)

pub worlds-smaller : goal.worlds-smaller
worlds-smaller c =
    let many = c.worlds.known.met.ok.0 in
    omega (arith, many, c.len-count.ensures, c.if-at-count.false, c.if-count-most.false, c.worlds.invariant.low)

pub worlds-preserved : goal.worlds-preserved
worlds-preserved c =
    let s = c.args.seeker.now.rules.now in
    let so = c.worlds.invariant in
    let many = c.worlds.known.met.ok.0 in
    let lt : c.worlds.at < length c.worlds.known.met.items = omega (arith, many, c.len-count.ensures, c.if-at-count.false, so.low) in
    let next : FollowsAll s c.worlds.known c.worlds.at c.follow_from.new.known = subst (λ (r : Rules). FollowsAll r c.worlds.known c.worlds.at c.follow_from.new.known) so.rules c.in_ok-follow_from.ensures.followed in
    let longer = at_longer c.worlds.known.met.items c.follow_from.new.known.met.items c.worlds.at next.further.stays lt in
    record {
      rules = c.in_ok-follow_from.ensures.rules ∙ so.rules;
      search = search_more s (world_of s c.args.start) c.worlds.known c.follow_from.new.known c.worlds.at lt so.search next;
      low = omega (arith, longer);
    }
