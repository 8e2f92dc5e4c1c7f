-- Whatever a board answers, the world that it began with stays.
use Rattle.std.proofs.Common.{◌≡◌, ◌∙◌, ℕ, ap}
use Rattle.cf_types.specs.declared.machine.Ticket.{Ticket}
use Rattle.run_rules.specs.World.{opening}
use Rattle.run_rules.proofs.Setups.{after_setup}
use Rattle.dev_board.specs.Posting.{PostIs}
use Rattle.dev_board.specs.Shown.{Shown, began}
use Rattle.dev_board.specs.Stepping.{DoesNext, StepIs}
use Rattle.dev_board.specs.Witness.{Witness}
use Rattle.dev_board.specs.declared.posted.Posted.{Posted}
use Rattle.dev_board.specs.declared.posted.Posted.TheVariants as posted
use Rattle.dev_board.specs.declared.stepped.Stepped.{Stepped}
use Rattle.dev_board.specs.declared.stepped.Stepped.TheVariants as stepped

did_begin : (old new : Shown) (k place : ℕ) (told : Witness) → DoesNext old k place told new → began new ≡ began old
did_begin old new k place told did = ap began did.board ∙ ap opening (after_setup old.world k did.deed)

pub step_began : (old new : Shown) (k : ℕ) (r : Stepped) → StepIs old k r new → began new ≡ began old
step_began old new k (stepped.Did place told) is = did_begin old new k place told is.2
step_began old new k (stepped.Waits why) is = ap began is.2
step_began old new k (stepped.Transfer ticket told) is = ap began is.4
step_began old new k (stepped.Stopped first told) is = ap began is.2
step_began old new k stepped.Closed is = ap began is.2
step_began old new k stepped.Memory is = ap began is.2

pub post_began : (old new : Shown) (t : Ticket) (r : Posted) → PostIs old t r new → began new ≡ began old
post_began old new t (posted.Did place told) is = did_begin old new t.caller place told is.3
post_began old new t (posted.Stale held told) is = ap began is.4
post_began old new t (posted.Stopped first told) is = ap began is.2
post_began old new t posted.Memory is = ap began is.2
