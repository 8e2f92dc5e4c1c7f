use Rattle.std.proofs.Common.{◌≡◌}
use Rattle.run_rules.specs.Search as rule
use Rattle.run_rules.specs.Search.{turns_of}
use Rattle.scan_engine.specs.Turns.{turns_after}
use Rattle.next_deed.proofs.due.due_turn.Given as goal

abbrev pub invariant-loop-turn : goal.invariant-loop-turn
invariant-loop-turn l =
    rule.due l.going.setup l.going.live l.going.absent l.going.hidden l.serial l.only l.filter l.position
    ≡ rule.due l.going.setup l.going.live l.going.absent l.going.hidden l.serial l.only l.filter l.fn.from

abbrev pub decreases-loop-turn : goal.decreases-loop-turn
decreases-loop-turn l = turns_after (turns_of l.going.setup.tables l.going.setup.machine l.by.driver l.by.attach l.by.spot l.only) l.position
