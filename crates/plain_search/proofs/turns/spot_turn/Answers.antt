use Rattle.std.proofs.Common.{◌∙◌, ap, subst, sym}
use Rattle.run_rules.specs.declared.world.ParentRef.{ParentRef}
use Rattle.run_rules.specs.declared.world.Turn.{Turn}
use Rattle.run_rules.specs.Search.{is_before, winner}
use Rattle.plain_search.specs.Buses.{IsTurnAt}
use Rattle.plain_search.proofs.TurnLaws.{spot_none, spot_only, spot_passed, spot_shut}
use Rattle.plain_search.proofs.turns.spot_turn.Goals as goal

pub returns-then-not-is_open : goal.returns-then-not-is_open
returns-then-not-is_open c =
    spot_shut c.args.seeker.now.rules.now c.args.plain.now c.args.scan.now c.args.bus c.args.spot c.requires.indirect (sym c.is_open.ensures ∙ c.if-not-is_open.true)

pub returns-in_default : goal.returns-in_default
returns-in_default c =
    let k = c.args.seeker.now in
    let live = c.args.plain.now.live.devices in
    spot_none k.rules.now c.args.plain.now c.args.scan.now c.args.bus c.args.spot c.requires.indirect
    (ap (λ (q : ParentRef). winner k.rules.now live q c.args.bus.place c.args.spot) (sym c.requires.may.parent) ∙ c.winner.ensures live c.requires.may.follows ∙ c.in_default.is)

pub returns-then-is_before : goal.returns-then-is_before
returns-then-is_before c =
    let k = c.args.seeker.now in
    let live = c.args.plain.now.live.devices in
    spot_passed k.rules.now c.args.plain.now c.args.scan.now c.args.bus c.args.spot c.in-Some.row c.requires.indirect
    (ap (λ (q : ParentRef). winner k.rules.now live q c.args.bus.place c.args.spot) (sym c.requires.may.parent) ∙ c.winner.ensures live c.requires.may.follows ∙ c.in-Some.is)
    (sym (ap (λ (t : Turn). is_before t.at c.args.scan.now.from) c.turn_on-turn.ensures) ∙ sym c.is_before.ensures ∙ c.if-is_before.true)

pub returns : goal.returns
returns c =
    let k = c.args.seeker.now in
    let live = c.args.plain.now.live.devices in
    subst (IsTurnAt k.rules.now c.args.plain.now c.args.scan.now c.args.bus c.args.spot) (sym c.turn_on-turn.ensures)
    (spot_only k.rules.now c.args.plain.now c.args.scan.now c.args.bus c.args.spot c.in-Some.row c.requires.indirect
    (ap (λ (q : ParentRef). winner k.rules.now live q c.args.bus.place c.args.spot) (sym c.requires.may.parent) ∙ c.winner.ensures live c.requires.may.follows ∙ c.in-Some.is)
    (sym (ap (λ (t : Turn). is_before t.at c.args.scan.now.from) c.turn_on-turn.ensures) ∙ sym c.is_before.ensures ∙ c.if-is_before.false)
    (sym c.is_open.ensures ∙ c.if-not-is_open.false))
