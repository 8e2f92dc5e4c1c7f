use Rattle.std.proofs.Common.{refl}
use Rattle.run_rules.specs.World.{World}
use Rattle.dev_board.proofs.NextLaws.{ended_so, quiet_wait, wait_is}
use Rattle.dev_board.proofs.step.chosen_step.Goals as goal

pub choose-requires : goal.choose-requires
choose-requires g c = c.requires.may.caller

pub step_deed-requires : goal.step_deed-requires
step_deed-requires g c = record {
  may = c.requires.may;
  chosen = rw c.in-Ok-Does.field-0-is at c.in-Ok-Does.ensures;
}

pub returns-in-Err-clause-stepped : goal.returns-in-Err-clause-stepped
returns-in-Err-clause-stepped g c = record {
  step = (c.requires.may.goes_on, c.requires.lasts, refl);
  kept = c.requires.may.kept;
  agree = c.requires.may.agree;
  falls = λ did. absurd did;
}

pub returns-in-Err-clause-denials : goal.returns-in-Err-clause-denials
returns-in-Err-clause-denials g c = (refl, refl)

pub returns-in-Ok-Ended-clause-stepped : goal.returns-in-Ok-Ended-clause-stepped
returns-in-Ok-Ended-clause-stepped g c =
    let w : World = c.args.state.now.going in
    record {
      step = (c.requires.may.goes_on, ended_so w c.args.caller c.stands.ensures.goes_on.kept (rw c.in-Ok-Ended.field-0-is at c.in-Ok-Ended.ensures), refl);
      kept = c.requires.may.kept;
      agree = c.requires.may.agree;
      falls = λ did. absurd did;
    }

pub returns-in-Ok-Ended-clause-denials : goal.returns-in-Ok-Ended-clause-denials
returns-in-Ok-Ended-clause-denials g c = (refl, refl)

pub returns-in-Ok-Waits-clause-stepped : goal.returns-in-Ok-Waits-clause-stepped
returns-in-Ok-Waits-clause-stepped g c =
    let w : World = c.args.state.now.going in
    record {
      step = (c.requires.may.goes_on, wait_is w c.args.caller c.in-Ok-Waits.why c.stands.ensures.goes_on.kept (rw c.in-Ok-Waits.field-0-is at c.in-Ok-Waits.ensures), refl);
      kept = c.requires.may.kept;
      agree = c.requires.may.agree;
      falls = λ did. absurd did;
    }

pub returns-in-Ok-Waits-clause-denials : goal.returns-in-Ok-Waits-clause-denials
returns-in-Ok-Waits-clause-denials g c =
    let w : World = c.args.state.now.going in
    quiet_wait w c.args.caller c.in-Ok-Waits.why c.args.state.now.going.live (g.S.Slots.denials c.args.slots.now) (g.S.Slots.last_denial c.args.slots.now) c.stands.ensures.goes_on.kept
    (rw c.in-Ok-Waits.field-0-is at c.in-Ok-Waits.ensures)

pub returns-in-Ok-Does-clause-stepped : goal.returns-in-Ok-Does-clause-stepped
returns-in-Ok-Does-clause-stepped g c = c.step_deed.ensures.stepped

pub returns-in-Ok-Does-clause-denials : goal.returns-in-Ok-Does-clause-denials
returns-in-Ok-Does-clause-denials g c = c.step_deed.ensures.denials
