-- What the result of a transfer does to a board, by its answer.
use Rattle.std.specs.Prelude.{◌≡◌, ◌≢◌, Some, None}
use Rattle.cf_types.specs.declared.machine.Ticket.{Ticket}
use Rattle.run_rules.specs.declared.deed.Choice.TheVariants.{Does}
use Rattle.run_rules.specs.declared.deed.Deed.TheVariants.{Done}
use Rattle.run_rules.specs.Next.{next}
use Rattle.dev_board.specs.Shown.{Shown, began}
use Rattle.dev_board.specs.Stepping.{DoesNext, kept_ticket}
use Rattle.dev_board.specs.Witness.{told_stale, told_stop}
use Rattle.dev_board.specs.declared.posted.Posted.{Posted}
use Rattle.dev_board.specs.declared.posted.Posted.TheVariants as posted

-- a stop stands before every other answer; the result is stale exactly where its ticket is not the one that is kept for its caller; else the
-- transfer's end is what the caller does next, and it was done; at every other answer nothing changes
abbrev pub PostIs : Shown → Ticket → Posted → Shown → Type 0
PostIs old t (posted.Did place told) new =
    (old.stopped ≡ None) × (kept_ticket old.world t.caller ≡ Some t) × (next old.world t.caller ≡ Does (Done t)) × DoesNext old t.caller place told new
PostIs old t (posted.Stale held told) new =
    (old.stopped ≡ None) × (held ≡ kept_ticket old.world t.caller) × (held ≢ Some t) × (told ≡ told_stale (began old) t.caller held) × (new ≡ old)
PostIs old t (posted.Stopped first told) new = (old.stopped ≡ Some first) × (told ≡ told_stop (began old) t.caller first) × (new ≡ old)
PostIs old t posted.Memory new = (old.stopped ≡ None) × (kept_ticket old.world t.caller ≡ Some t) × (new ≡ old)
