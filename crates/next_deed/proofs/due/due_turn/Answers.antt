use Rattle.std.proofs.Common.{◌≡◌, ◌<◌, ◌∙◌, ap, length, subst, sym, None, Some}
use Rattle.std.specs.Prelude.{IfSome}
use Rattle.run_rules.proofs.Spans.{spans_hold}
use Rattle.run_rules.specs.World.{World}
use Rattle.scan_engine.specs.Turns.{first_from}
use Rattle.next_deed.proofs.DueLaws.{none_due, this_due, turns_by}
use Rattle.next_deed.proofs.PairLaws.{fewer_gone, gone_on}
use Rattle.next_deed.proofs.due.due_turn.Goals as goal

pub returns-in_err-turn-clause-due : goal.returns-in_err-turn-clause-due
returns-in_err-turn-clause-due c =
    let w = c.args.going.now in
    sym c.loop-turn.invariant
    ∙ none_due w.setup w.live w.absent w.hidden c.args.serial c.args.only c.args.filter.now c.loop-turn.position c.args.by.now c.requires
    (subst (λ (v : World). first_from (turns_by v.setup c.args.by.now c.args.only) c.loop-turn.position ≡ None) (c.held.view_is ∙ c.going.view_is) c.in_err-turn.ensures.next)
    ∙ sym c.from_residual.ensures

pub returns-then-is_due-clause-due : goal.returns-then-is_due-clause-due
returns-then-is_due-clause-due c =
    let w = c.args.going.now in
    sym c.loop-turn.invariant
    ∙ this_due w.setup w.live w.absent w.hidden c.args.serial c.args.only c.args.filter.now c.loop-turn.position c.args.by.now c.in_ok-turn.turn c.requires
    (subst (λ (v : World). first_from (turns_by v.setup c.args.by.now c.args.only) c.loop-turn.position ≡ Some c.in_ok-turn.turn) (c.held.view_is ∙ c.going.view_is) c.in_ok-turn.ensures.next)
    (c.is_due.ensures ∙ c.if-is_due.true)

pub loop-turn-smaller : goal.loop-turn-smaller
loop-turn-smaller c =
    fewer_gone c.args.going.now.setup c.args.by.now c.args.only c.loop-turn.position c.next_position-position.result c.in_ok-turn.turn
    (subst (λ (v : World). first_from (turns_by v.setup c.args.by.now c.args.only) c.loop-turn.position ≡ Some c.in_ok-turn.turn) (c.held.view_is ∙ c.going.view_is) c.in_ok-turn.ensures.next)
    c.next_position-position.ensures.behind

pub loop-turn-preserved : goal.loop-turn-preserved
loop-turn-preserved c =
    let w = c.args.going.now in
    gone_on w.setup w.live w.absent w.hidden c.args.serial c.args.only c.args.filter.now c.loop-turn.position c.next_position-position.result c.args.by.now c.in_ok-turn.turn c.requires
    (subst (λ (v : World). first_from (turns_by v.setup c.args.by.now c.args.only) c.loop-turn.position ≡ Some c.in_ok-turn.turn) (c.held.view_is ∙ c.going.view_is) c.in_ok-turn.ensures.next)
    (c.is_due.ensures ∙ c.if-is_due.false) c.next_position-position.ensures.behind c.next_position-position.ensures.bus c.next_position-position.ensures.idle
    ∙ c.loop-turn.invariant

pub next_turn-requires-clause-span : goal.next_turn-requires-clause-span
next_turn-requires-clause-span c =
    let site = c.held.inside.site in
    rw c.below.ensures (spans_hold site.setup.machine site.spans c.args.by.now.spot site.spanned)
