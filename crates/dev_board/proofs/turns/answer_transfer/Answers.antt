use Rattle.std.proofs.Common.{◌≡◌, ◌∙◌, ap, sym, Some, subst}
use Rattle.cf_types.specs.declared.machine.Ticket.{Ticket}
use Rattle.dev_board.specs.Stepping.{DoesNext, kept_ticket}
use Rattle.dev_board.proofs.NextLaws.{next_kept}
use Rattle.dev_board.proofs.TurnLaws.{did_plays}
use Rattle.dev_board.proofs.turns.answer_transfer.Goals as goal

pub unreachable-requires : goal.unreachable-requires
unreachable-requires c =
    let b = c.args.board.now in
    let is : c.make-done.result ≡ c.args.ticket = c.make-done.ensures in
    let stale = c.in-Stale.ensures.post in
    stale.2 (stale.1 ∙ ap (λ (t : Ticket). kept_ticket b.world t.caller) is ∙ next_kept b.world c.args.ticket.caller c.args.ticket c.requires.chosen ∙ ap Some (sym is))

pub returns-in-Did-clause-played : goal.returns-in-Did-clause-played
returns-in-Did-clause-played c =
    let did = c.in-Did.ensures.post in
    did_plays c.args.board.now c.post.new.self c.args.ticket.caller c.in-Did.field-0 c.in-Did.field-1
    (subst (λ (t : Ticket). DoesNext c.args.board.now t.caller c.in-Did.field-0 c.in-Did.field-1 c.post.new.self) c.make-done.ensures did.3)
