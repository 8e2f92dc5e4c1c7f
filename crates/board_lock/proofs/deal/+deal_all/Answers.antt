use Rattle.std.proofs.Common.{◌≡◌, ℕ, List, [], ◌∷◌, ◌++◌, length, sym, ap, ◌∙◌, append_assoc, rules}
use Rattle.board_lock.specs.Seats.{SeatShown, fresh_seat, seats_below}
use Rattle.board_lock.specs.Boards.{spots_of}
use Rattle.board_lock.proofs.Seated.{last_seat, length_last}
use Rattle.board_lock.proofs.deal.+deal_all.Goals as goal

pub returns : goal.returns
returns g t c =
    let n = spots_of g.N.Naming.opening in
    let old = c.args.seats.now in
    let rest = c.pop.new.self.items in
    let is : c.args.callers.now.items ≡ rest ++ c.in-Some.leases ∷ [] = search rules in
    let last = last_seat g.N.Naming.table n c.args.callers.now.items rest c.in-Some.leases c.requires.callers is in
    let caller = c.caller-caller.ensures.caller ∙ ap (λ z. z.caller) last.seat in
    let seat = c.deal-seat.ensures ∙ ap (fresh_seat n) caller in
    c.in_ok-push.ensures.ok ∙ (ap (λ (z : List SeatShown). z ++ c.deal-seat.result ∷ []) c.in_ok-deal_all.ensures ∙ (append_assoc old (seats_below n (length rest)) (c.deal-seat.result ∷ [])
    ∙ (ap (λ (z : SeatShown). old ++ (seats_below n (length rest) ++ z ∷ [])) seat ∙ ap (λ (z : ℕ). old ++ seats_below n z) (sym (length_last c.args.callers.now.items rest c.in-Some.leases is)))))
