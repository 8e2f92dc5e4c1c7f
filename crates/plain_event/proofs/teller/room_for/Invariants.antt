use Rattle.run_rules.specs.declared.world.Setup.{Setup}
use Rattle.plain_event.specs.KnownAct.{AreKept}
use Rattle.plain_event.proofs.teller.room_for.Given as goal

abbrev pub invariant-loop-place : goal.invariant-loop-place
invariant-loop-place l = (s : Setup) → AreKept s l.kept.items
