use Rattle.std.proofs.Common.{◌++◌, List, length, sym, ap, ◌∙◌, arith}
use Rattle.board_lock.specs.Boards.{scripts_of, spots_of}
use Rattle.board_lock.specs.Seats.{SeatShown, seats_below}
use Rattle.board_lock.specs.Tallies.{unused}
use Rattle.lease_table.specs.Shown.{first_seats}
use Rattle.board_lock.proofs.Seated.{length_seats}
use Rattle.board_lock.proofs.deal.deal_seats.Goals as goal

pub deal_all-requires-clause-callers : goal.deal_all-requires-clause-callers
deal_all-requires-clause-callers g c =
    let z = g.N.Naming.table in
    let n = spots_of g.N.Naming.opening in
    let whole = c.into_vec-callers.ensures ∙ c.requires.callers in
    whole ∙ ap (first_seats z n) (sym (ap length whole ∙ length_seats z n (scripts_of g.N.Naming.opening)))

pub deal_all-requires-clause-range : goal.deal_all-requires-clause-range
deal_all-requires-clause-range g c =
    let count = ap length (c.into_vec-callers.ensures ∙ c.requires.callers) ∙ length_seats g.N.Naming.table (spots_of g.N.Naming.opening) (scripts_of g.N.Naming.opening) in
    omega arith

pub deal_all-requires-clause-shares : goal.deal_all-requires-clause-shares
deal_all-requires-clause-shares g c =
    let count = ap length (c.into_vec-callers.ensures ∙ c.requires.callers) ∙ length_seats g.N.Naming.table (spots_of g.N.Naming.opening) (scripts_of g.N.Naming.opening) in
    let is = c.requires.shares in
    let parts = ap (λ t. t.parts) is in
    (is ∙ ap unused (sym parts), omega arith)

pub returns : goal.returns
returns g c =
    let n = spots_of g.N.Naming.opening in
    let count = ap length (c.into_vec-callers.ensures ∙ c.requires.callers) ∙ length_seats g.N.Naming.table n (scripts_of g.N.Naming.opening) in
    c.in_ok-deal_all.ensures ∙ (ap (λ (z : List SeatShown). z ++ seats_below n (length c.into_vec-callers.result.items)) c.make-seats.ensures ∙ ap (seats_below n) count)
