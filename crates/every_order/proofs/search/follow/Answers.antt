use Rattle.std.proofs.Common.{◌+◌, refl, sym, subst, arith}
use Rattle.plain_effect.proofs.CallerLaws.{ok_more}
use Rattle.every_order.specs.Search.{IsAt, IsLeft, IsMet}
use Rattle.every_order.proofs.Searching.{follows_none, follows_some}
use Rattle.every_order.proofs.search.follow.Goals as goal

pub turn-requires : goal.turn-requires
turn-requires c =
    let s = c.args.seeker.now.rules.now in
    let one = c.index-one.result.now in
    let here : IsAt c.args.known.now.met.items c.args.at one = (c.requires.at, sym c.index-one.ensures) in
    let met : IsMet s c.args.known.now.met.items c.args.at one = c.requires.known.met.each c.args.at one here in
    record { kept = met.kept; follows = c.requires.follows one here; next = omega (arith, met.low, c.requires.at, c.requires.few) }

pub returns-in-Some : goal.returns-in-Some
returns-in-Some c =
    let s = c.args.seeker.now.rules.now in
    let one = c.index-one.result.now in
    let here : IsAt c.args.known.now.met.items c.args.at one = (c.requires.at, sym c.index-one.ensures) in
    ok_more c.meet.result c.meet.ensures
    (follows_some s c.args.known.now c.meet.new.known c.args.at c.args.caller (one.depth + 1) one c.in-Some.plain c.stands.ensures c.requires.known here refl
    (subst (IsLeft s one.plain c.args.caller) c.in-Some.is c.in_ok-plain.ensures))

pub returns-in-None : goal.returns-in-None
returns-in-None c =
    let s = c.args.seeker.now.rules.now in
    let one = c.index-one.result.now in
    let here : IsAt c.args.known.now.met.items c.args.at one = (c.requires.at, sym c.index-one.ensures) in
    follows_none s c.args.known.now c.args.at c.args.caller one c.requires.known here
    (subst (IsLeft s one.plain c.args.caller) c.in-None.is c.in_ok-plain.ensures)
