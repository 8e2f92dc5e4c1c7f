use Rattle.std.proofs.Common.{ℕ, ap, ◌∙◌, subst}
use Rattle.lease_table.specs.declared.view.View.{View}
use Rattle.lease_table.specs.Holding.{LookIs}
use Rattle.board_lock.proofs.shared.SharedBoard.look.Goals as goal

pub returns-clause-look : goal.returns-clause-look
returns-clause-look g c =
    let view = ap (λ z. z.leases) c.seat.view_is in
    let caller = c.seat.invariant.caller ∙ ap (λ z. z.caller) c.seat.view_is in
    subst (λ (t : View × ℕ). LookIs t.0 t.1 c.args.ticket.now.slot c.look-word.result c.look-word.new.self.view) (λ i. (view i, caller i)) c.look-word.ensures.look
