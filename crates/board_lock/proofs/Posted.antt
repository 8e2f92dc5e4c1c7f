-- The end of a transfer.
use Rattle.std.proofs.Common.{◌≡◌, ◌&&◌, ◌==◌, ◌+◌, ℕ, Bool, true, false, cond, not, refl, sym, ap, ◌∙◌, arith}
use Rattle.std.specs.Prelude.{None}
use Rattle.cf_types.specs.declared.machine.Ticket.{Ticket}
use Rattle.run_rules.specs.declared.deed.Choice.TheVariants.{Does}
use Rattle.run_rules.specs.declared.deed.Deed.{Deed}
use Rattle.run_rules.specs.declared.deed.Deed.TheVariants.{Done}
use Rattle.run_rules.specs.declared.event.Event.{Event}
use Rattle.run_rules.specs.After.{after}
use Rattle.run_rules.specs.Counts.{closes_script}
use Rattle.run_rules.specs.Next.{next}
use Rattle.run_rules.specs.Run.{event_of, printed}
use Rattle.run_rules.specs.World.{World}
use Rattle.dev_board.specs.Shown.{Shown}
use Rattle.dev_board.specs.Stepping.{DoesNext}
use Rattle.dev_board.specs.Witness.{Witness, lease_step}
use Rattle.dev_board.specs.declared.answer.LeaseStep.TheVariants.{Keep}
use Rattle.dev_board.proofs.LeaseLaws.{lease_keeps}
use Rattle.board_lock.specs.Seats.{SeatShown}
use Rattle.board_lock.specs.Turning.{EndsTransfer, counted, posted}
use Rattle.board_lock.proofs.Books.{Booked}
use Rattle.board_lock.proofs.Carried.{same_deed}

-- the event that was counted is the end of the transfer
pub ends_transfer : (k : ℕ) (ticket : Ticket) (old new : Shown) (told : Witness) (e : Event) → Booked k old new told e → next old.world k ≡ Does (Done ticket) → EndsTransfer k ticket e
ends_transfer k ticket old new told e b chosen = record {
  world = old.world;
  chosen = chosen;
  event = b.is ∙ ap (λ (d : Deed). event_of old.world k d) (same_deed b.deed (Done ticket) (sym b.chosen ∙ chosen));
}

-- its caller keeps its leases
pub keeps_leases : (k p : ℕ) (ticket : Ticket) (old new : Shown) (told : Witness) → DoesNext old k p told new → next old.world k ≡ Does (Done ticket) → told.lease ≡ Keep
keeps_leases k p ticket old new told did chosen =
    let same : did.deed ≡ Done ticket = same_deed did.deed (Done ticket) (sym did.chosen ∙ chosen) in
    ap (λ (t : Witness). t.lease) did.told ∙ (ap (λ (x : World). lease_step old.world x k) (ap (λ (s : Shown). s.world) did.board ∙ ap (λ (d : Deed). after old.world k d) same)
    ∙ lease_keeps old.world k (Done ticket) refl refl)

-- and it is the end of no caller
and_false : (b : Bool) → (b && false) ≡ false
and_false true = refl
and_false false = refl

closes_none : (w : World) (k : ℕ) (ticket : Ticket) → closes_script (event_of w k (Done ticket)) ≡ false
unfolding closes_script event_of printed
closes_none w k ticket = and_false (not (k == 0))

no_more : (n : ℕ) → n + 0 ≡ n
no_more n = omega arith

pub posted_is : (k : ℕ) (ticket : Ticket) (s : SeatShown) (e : Event) → EndsTransfer k ticket e → counted s e ≡ posted s
posted_is k ticket s e ends =
    let none : closes_script e ≡ false = ap closes_script ends.event ∙ closes_none ends.world k ticket in
    ap (λ (n : ℕ). record { caller = s.caller; closings = n; dids = s.dids + 1; stops = s.stops; looked = None; leases = s.leases }) (ap (λ (b : Bool). s.closings + cond b 1 0) none ∙ no_more s.closings)
