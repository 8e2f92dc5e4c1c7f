use Rattle.std.proofs.Common.{◌∙◌, ap, refl}
use Rattle.run_rules.specs.declared.deed.Deed.TheVariants.{Done}
use Rattle.run_rules.specs.World.{World, opening}
use Rattle.run_rules.specs.declared.world.Setup.{Setup}
use Rattle.run_sound.proofs.Reasons.{has_command_reason}
use Rattle.dev_board.specs.Witness.{told_transfer}
use Rattle.dev_board.proofs.step.step_deed.Goals as goal

pub returns-in-Done-clause-stepped : goal.returns-in-Done-clause-stepped
returns-in-Done-clause-stepped g c =
    let w : World = c.args.state.now.going in
    let t = c.in-Done.ticket in
    let chosen = rw c.in-Done.is at c.requires.chosen in
    record {
      step = (c.requires.may.goes_on, c.stands.ensures.goes_on.kept.ranges.callers.tickets c.args.caller t (has_command_reason w c.args.caller (Done t) chosen), chosen, c.of_transfer.ensures ∙ ap (λ (s : Setup). told_transfer (opening s) c.args.caller t) c.setup.ensures, refl);
      kept = c.requires.may.kept;
      agree = c.requires.may.agree;
      falls = λ did. absurd did;
    }

pub returns-in-Done-clause-denials : goal.returns-in-Done-clause-denials
returns-in-Done-clause-denials g c = (refl, refl)

pub step_by-requires : goal.step_by-requires
step_by-requires g c = record {
  may = c.requires.may;
  chosen = c.requires.chosen;
  other = c.in_default.not-Done;
}

pub returns-in_default-clause-stepped : goal.returns-in_default-clause-stepped
returns-in_default-clause-stepped g c = c.step_by.ensures.stepped

pub returns-in_default-clause-denials : goal.returns-in_default-clause-denials
returns-in_default-clause-denials g c = c.step_by.ensures.denials
