use Rattle.std.proofs.Common.{◌<◌, length, subst, sym}
use Rattle.run_rules.specs.declared.world.Setup.{Setup}
use Rattle.sample_machine.proofs.ready_board.Goals as goal

pub returns-in-Ok : goal.returns-in-Ok
returns-in-Ok c = record {
  booted = c.in-Ok.ensures.booted;
  some = subst (λ (s : Setup). 0 < length s.scripts) (sym c.in-Ok.ensures.setup) c.requires.some;
}
