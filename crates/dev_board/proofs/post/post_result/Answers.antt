use Rattle.std.proofs.Common.{◌≡◌, ◌≢◌, ◌∙◌, Bool, true, false, Option, Some, None, refl, sym, ap, arith}
use Rattle.std.specs.Option.{option_eq}
use Rattle.std.proofs.lemmas.Bool.Decides.{nat_tests}
use Rattle.cf_types.specs.contracts.machine.TicketPartialEq.TheImpl as block
use Rattle.cf_types.specs.declared.machine.Ticket.{Ticket}
use Rattle.run_rules.specs.World.{opening}
use Rattle.run_rules.specs.declared.world.Setup.{Setup}
use Rattle.dev_board.specs.Witness.{told_stale}
use Rattle.dev_board.proofs.post.post_result.Goals as goal

same : (a b : Ticket) → block.ghosts.eq a b ≡ true → a ≡ b
same a b h = grind (arith, nat_tests)

own : (a : Ticket) → block.ghosts.eq a a ≡ true
own a = grind (arith, nat_tests)

is_same : (o : Option Ticket) (t : Ticket) → option_eq block.ghosts.eq o (Some t) ≡ true → o ≡ Some t
is_same None t h = absurd cc
is_same (Some s) t h = ap Some (same s t h)

is_other : (o : Option Ticket) (t : Ticket) → option_eq block.ghosts.eq o (Some t) ≡ false → o ≢ Some t
is_other o t h e = clash (ap (λ (x : Option Ticket). option_eq block.ghosts.eq x (Some t)) e ∙ own t) h
  where
    clash : {b : Bool} → b ≡ true → b ≡ false → ⊥
    clash h k = cc

pub post_kept-requires-clause-held : goal.post_kept-requires-clause-held
post_kept-requires-clause-held c = c.kept_ticket-held.ensures ∙ is_same c.kept_ticket-held.result c.args.ticket (sym c.eq.ensures ∙ c.if-eq.true)

pub returns-else-eq-clause-post : goal.returns-else-eq-clause-post
returns-else-eq-clause-post c = (
  c.requires.goes_on,
  sym (c.kept_ticket-held.ensures),
  is_other c.kept_ticket-held.result c.args.ticket (sym c.eq.ensures ∙ c.if-eq.false),
  c.of_stale.ensures ∙ ap (λ (s : Setup). told_stale (opening s) c.args.ticket.caller c.kept_ticket-held.result) c.setup.ensures,
  refl,
)
